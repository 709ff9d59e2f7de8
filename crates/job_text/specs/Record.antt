-- The input of `check`: lines of profile texts, a line `record`, and then the record as `stream` writes it: the request line, the headers, an empty line, and
-- lines of hexadecimal. Each line moves the draft of the record on, or is bad.
use Rattle.std.specs.Prelude.{◌≡◌, ℕ, ◌==◌, Bool, ◌&&◌, ◌||◌, if◌then◌else◌, List, [], ◌∷◌, ◌++◌, length, codes, bytes_eq, string_bytes, Option, Some, None, option_map, Result, Ok, Err}
use Rattle.smithy_core.specs.TextPairs.{lower}
use Rattle.job_text.specs.EventHeader.{hex_bytes}
use Rattle.job_text.specs.Lines.{after_text, header_of_line, after_word_of, text_lines, word_of}
use Rattle.job_text.specs.Pieces.{after_pieces, taken_from}
use Rattle.job_text.specs.ProfileTexts.{ProfileTexts, no_texts, texts_line_step, texts_of}
use Rattle.job_text.specs.declared.fault.JobFault.{JobFault}
use Rattle.job_text.specs.declared.fault.JobFault.TheVariants.{BadLine, NoMemory}
use Rattle.job_text.specs.declared.record.RecordDraft.{RecordDraft}
use Rattle.job_text.specs.declared.record.Stage.{Stage}
use Rattle.job_text.specs.declared.record.Stage.TheVariants.{Texts, RequestLine, Headers, Chain}

-- what the lines so far gave, and what comes next: texts, the request line, headers or the chain
pub record RecordParts : Type 0 where
  pub stage : Stage
  pub texts : ProfileTexts
  pub method : List ℕ
  pub target : List ℕ
  pub headers : List (List ℕ × List ℕ)
  pub chain : List ℕ

-- nothing of a record yet
abbrev pub no_record : RecordParts
no_record = record { stage = Texts; texts = no_texts; method = []; target = []; headers = []; chain = [] }

-- the line `record`, whose rest is empty
abbrev pub is_record : List ℕ → Bool
is_record line = bytes_eq (word_of line) (codes "record") && length (after_word_of line) == 0

-- `METHOD target`: a method that isn't empty, a space, and the target
unfoldable pub request_line : List ℕ → Option (List ℕ × List ℕ)
request_line line = if length (word_of line) == 0 || length (word_of line) == length line then None else Some (word_of line, after_word_of line)

-- a line of profile texts, or the line `record`
unfoldable pub text_line_step : RecordParts → List ℕ → Option RecordParts
text_line_step parts line =
    if is_record line then Some (record parts { stage = RequestLine }) else option_map (λ texts. record parts { texts = texts }) (texts_line_step parts.texts line)

-- the request line
unfoldable pub request_line_step : RecordParts → List ℕ → Option RecordParts
request_line_step parts line = option_map (λ sent. record parts { stage = Headers; method = sent.0; target = sent.1 }) (request_line line)

-- a header, whose name goes in lower case, or the empty line that ends the head
unfoldable pub head_line_step : RecordParts → List ℕ → Option RecordParts
head_line_step parts line =
    if length line == 0 then Some (record parts { stage = Chain })
    else option_map (λ header. record parts { headers = parts.headers ++ (lower header.0, header.1) ∷ [] }) (header_of_line line)

-- an even number of hexadecimal digits in either case
unfoldable pub chain_line_step : RecordParts → List ℕ → Option RecordParts
chain_line_step parts line = option_map (λ bytes. record parts { chain = parts.chain ++ bytes }) (hex_bytes line)

-- what a line does
abbrev pub record_step : Stage → RecordParts → List ℕ → Option RecordParts
record_step Texts parts line = text_line_step parts line
record_step RequestLine parts line = request_line_step parts line
record_step Headers parts line = head_line_step parts line
record_step Chain parts line = chain_line_step parts line

-- what a line does after those before it
abbrev pub record_line_step : RecordParts → List ℕ → Option RecordParts
record_line_step parts line = record_step parts.stage parts line

-- the lines are over: the record, where its head is whole, or the place after the last line
abbrev pub record_of : ℕ → RecordParts → Stage → Result RecordParts ℕ
record_of place parts Chain = Ok parts
record_of place parts stage = Err place

-- the record of all lines
abbrev pub whole_record : ℕ → RecordParts → Result RecordParts ℕ
whole_record place parts = record_of place parts parts.stage

-- the record that the bytes spell, or the place of the first bad line
unfoldable pub spelled_record : List ℕ → Result RecordParts ℕ
spelled_record bytes = after_text (λ lines. after_pieces whole_record (taken_from record_line_step 1 no_record lines)) (text_lines bytes)

-- ## Answers

-- what contracts see of a draft
unfoldable pub record_parts : RecordDraft → RecordParts
record_parts draft = record {
  stage = draft.stage;
  texts = texts_of draft.texts;
  method = string_bytes draft.request.method;
  target = string_bytes draft.request.target;
  headers = draft.request.headers;
  chain = draft.chain.items;
}

-- the record is the one that is read; or the line at this place is bad; or memory ran out
abbrev pub ReadsRecord : Result RecordParts ℕ → Result RecordDraft JobFault → Type 0
ReadsRecord read (Ok draft) = read ≡ Ok (record_parts draft)
ReadsRecord read (Err (BadLine place)) = read ≡ Err place
ReadsRecord read (Err NoMemory) = Unit {0}
