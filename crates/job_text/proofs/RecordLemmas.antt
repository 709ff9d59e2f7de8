-- The lines of a record.
use Rattle.std.proofs.Common.{◌≡◌, ℕ, ◌+◌, ◌==◌, ◌<◌, Bool, true, false, List, [], ◌∷◌, ◌++◌, length, Option, Some, None, option_map, refl, subst}
use Rattle.std.specs.Prelude.{All, if◌then◌else◌, Result, Ok, Err}
use Rattle.std.specs.Result.{result_ok}
use Rattle.std.proofs.lemmas.List.Elements.{All-append, All-from_get_or, All-nil}
use Rattle.hex.specs.Hex.{decode_of}
use Rattle.hex.specs.declared.error.FromHexError.{FromHexError}
use Rattle.hex.proofs.HexLemmas.{decode_of-ok}
use Rattle.smithy_core.specs.TextPairs.{lower}
use Rattle.job_text.specs.EventHeader.{hex_bytes}
use Rattle.job_text.specs.Lines.{after_text, header_of_line, text_lines}
use Rattle.job_text.specs.Pieces.{after_pieces, taken_from, unless_bad}
use Rattle.job_text.specs.ProfileTexts.{ProfileTexts, texts_line_step}
use Rattle.job_text.specs.Record.{RecordParts, chain_line_step, head_line_step, is_record, no_record, record_line_step, record_of, record_step, request_line, request_line_step, spelled_record, text_line_step, whole_record}
use Rattle.job_text.specs.declared.record.Stage.{Stage}
use Rattle.job_text.specs.declared.record.Stage.TheVariants.{Texts, RequestLine, Headers, Chain}

-- ## The chain of a record is bytes

-- a byte
abbrev pub IsSmall : ℕ → Type 0
IsSmall b = b < 256

-- the chain after a line, where the line isn't bad
abbrev chain_in : Option RecordParts → List ℕ
chain_in None = []
chain_in (Some parts) = parts.chain

-- the chain after lines, where none is bad
abbrev chain_after : Result (RecordParts × ℕ) ℕ → List ℕ
chain_after (Ok taken) = taken.0.chain
chain_after (Err place) = []

-- the chain of what is read
abbrev chain_read : Result RecordParts ℕ → List ℕ
chain_read (Ok parts) = parts.chain
chain_read (Err place) = []

text_line_bytes : (parts : RecordParts) (line : List ℕ) → All IsSmall parts.chain → All IsSmall (chain_in (text_line_step parts line))
unfolding text_line_step
text_line_bytes parts line small = by_test (is_record line) (texts_line_step parts.texts line)
  where
    by_test : (test : Bool) (texts : Option ProfileTexts)
        → All IsSmall (chain_in (if test then Some (record parts { stage = RequestLine }) else option_map (λ texts. record parts { texts = texts }) texts))
    by_test true texts = small
    by_test false None = All-nil IsSmall
    by_test false (Some texts) = small

request_line_bytes : (parts : RecordParts) (line : List ℕ) → All IsSmall parts.chain → All IsSmall (chain_in (request_line_step parts line))
unfolding request_line_step
request_line_bytes parts line small = by_sent (request_line line)
  where
    by_sent : (sent : Option (List ℕ × List ℕ)) → All IsSmall (chain_in (option_map (λ sent. record parts { stage = Headers; method = sent.0; target = sent.1 }) sent))
    by_sent None = All-nil IsSmall
    by_sent (Some sent) = small

head_line_bytes : (parts : RecordParts) (line : List ℕ) → All IsSmall parts.chain → All IsSmall (chain_in (head_line_step parts line))
unfolding head_line_step
head_line_bytes parts line small = by_test (length line == 0) (header_of_line line)
  where
    by_test : (test : Bool) (header : Option (List ℕ × List ℕ))
        → All IsSmall (chain_in (if test then Some (record parts { stage = Chain }) else option_map (λ header. record parts { headers = parts.headers ++ (lower header.0, header.1) ∷ [] }) header))
    by_test true header = small
    by_test false None = All-nil IsSmall
    by_test false (Some header) = small

chain_line_bytes : (parts : RecordParts) (line : List ℕ) → All IsSmall parts.chain → All IsSmall (chain_in (chain_line_step parts line))
unfolding chain_line_step hex_bytes
chain_line_bytes parts line small = by_decoded (decode_of line) refl
  where
    by_decoded : (decoded : Result (List ℕ) FromHexError) → decode_of line ≡ decoded
        → All IsSmall (chain_in (option_map (λ bytes. record parts { chain = parts.chain ++ bytes }) (result_ok decoded)))
    by_decoded (Ok bytes) is =
        let fits = (decode_of-ok line bytes is).3 in
        All-append IsSmall parts.chain bytes small (All-from_get_or IsSmall bytes 0 (λ i inside. fits i))
    by_decoded (Err fault) is = All-nil IsSmall

line_bytes : (stage : Stage) (parts : RecordParts) (line : List ℕ) → All IsSmall parts.chain → All IsSmall (chain_in (record_step stage parts line))
line_bytes Texts parts line small = text_line_bytes parts line small
line_bytes RequestLine parts line small = request_line_bytes parts line small
line_bytes Headers parts line small = head_line_bytes parts line small
line_bytes Chain parts line small = chain_line_bytes parts line small

lines_bytes : (place : ℕ) (parts : RecordParts) (lines : List (List ℕ)) → All IsSmall parts.chain → All IsSmall (chain_after (taken_from record_line_step place parts lines))
lines_bytes place parts [] small = small
lines_bytes place parts (line ∷ lines) small = by_step (record_line_step parts line) (line_bytes parts.stage parts line small) (λ next. lines_bytes (place + 1) next lines)
  where
    by_step : (step : Option RecordParts) → All IsSmall (chain_in step) → ((next : RecordParts) → All IsSmall next.chain → All IsSmall (chain_after (taken_from record_line_step (place + 1) next lines)))
        → All IsSmall (chain_after (unless_bad place (λ next. taken_from record_line_step (place + 1) next lines) step))
    by_step None still others = All-nil IsSmall
    by_step (Some next) still others = others next still

whole_bytes : (taken : Result (RecordParts × ℕ) ℕ) → All IsSmall (chain_after taken) → All IsSmall (chain_read (after_pieces whole_record taken))
whole_bytes (Err place) small = All-nil IsSmall
whole_bytes (Ok taken) small = by_stage taken.0.stage
  where
    by_stage : (stage : Stage) → All IsSmall (chain_read (record_of taken.1 taken.0 stage))
    by_stage Texts = All-nil IsSmall
    by_stage RequestLine = All-nil IsSmall
    by_stage Headers = All-nil IsSmall
    by_stage Chain = small

record_bytes : (bytes : List ℕ) → All IsSmall (chain_read (spelled_record bytes))
unfolding spelled_record
record_bytes bytes = by_lines (text_lines bytes)
  where
    by_lines : (lines : Result (List (List ℕ)) ℕ) → All IsSmall (chain_read (after_text (λ lines. after_pieces whole_record (taken_from record_line_step 1 no_record lines)) lines))
    by_lines (Ok lines) = whole_bytes (taken_from record_line_step 1 no_record lines) (lines_bytes 1 no_record lines (All-nil IsSmall))
    by_lines (Err place) = All-nil IsSmall

pub spelled_bytes : (bytes : List ℕ) (parts : RecordParts) → spelled_record bytes ≡ Ok parts → All IsSmall parts.chain
spelled_bytes bytes parts is = subst (λ read. All IsSmall (chain_read read)) is (record_bytes bytes)
