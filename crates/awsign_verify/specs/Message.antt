-- A request as it goes over the wire: its head, an empty line, and its body (RFC 9112, section 2).
use Rattle.std.specs.Prelude.{◌≡◌, ℕ, Bool, true, ◌==◌, ◌-◌, not, ◌&&◌, ◌||◌, if◌then◌else◌, List, [], ◌∷◌, ◌++◌, length, take, reverse, codes, Option, Some, None, is_some, option_map, Result, Ok, Err, string_bytes}
use Rattle.std.specs.Borrow.{Bor}
use Rattle.std.specs.List.{after_first, before_first, starts_with}
use Rattle.std.specs.Option.{option_and_then}
use Rattle.smithy_core.specs.Text.{line_feed, space, tab}
use Rattle.smithy_core.specs.TextPairs.{lower}
use Rattle.smithy_core.specs.declared.request.HttpRequest.{HttpRequest}
use Rattle.job_text.specs.Lines.{after_text, after_word_of, colon, text_lines, word_of}
use Rattle.job_text.specs.Pieces.{after_pieces, taken_from}
use Rattle.job_text.specs.declared.fault.JobFault.{JobFault}
use Rattle.job_text.specs.declared.fault.JobFault.TheVariants.{BadLine, NoMemory}
use Rattle.awsign_text.specs.Head.{carriage_return}
use Rattle.awsign_words.specs.Words.{is_method}
use Rattle.awsign_verify.specs.declared.message.HeadDraft.{HeadDraft as HeldHead}

-- ## Head and body

-- what stands behind the first empty line; `blank` says that the present line had no byte but a CR so far
abbrev pub behind_blank : Bool → List ℕ → List ℕ
behind_blank blank [] = []
behind_blank blank (byte ∷ bytes) =
    if byte == line_feed then (if blank then bytes else behind_blank true bytes) else behind_blank (blank && byte == carriage_return) bytes

-- the body: what stands behind the first empty line
unfoldable pub message_body : List ℕ → List ℕ
message_body bytes = behind_blank true bytes

-- the head: what stands before the body
unfoldable pub message_head : List ℕ → List ℕ
message_head bytes = take (length bytes - length (message_body bytes)) bytes

-- ## The lines of a head

-- what the lines so far gave
pub record HeadDraft : Type 0 where
  pub method : Option (List ℕ)
  pub target : Option (List ℕ)
  pub headers : List (List ℕ × List ℕ)

-- no lines yet
abbrev pub no_head : HeadDraft
no_head = record { method = None; target = None; headers = [] }

-- a line without the CR at its end; a CR elsewhere is bad
unfoldable pub line_text : List ℕ → Option (List ℕ)
line_text line =
    if length (after_first (λ byte. byte == carriage_return) line) == 0 then Some (before_first (λ byte. byte == carriage_return) line) else None

-- the first line: a method, a target, and a version of HTTP, with a space between
unfoldable pub start_step : HeadDraft → List ℕ → Option HeadDraft
start_step draft text =
    let method = word_of text in let rest = after_word_of text in let target = word_of rest in
    if is_method method && not (length target == 0) && starts_with (λ a b. a == b) (after_word_of rest) (codes "HTTP/")
    then Some (record draft { method = Some method; target = Some target })
    else None

-- a space or a tab
abbrev pub is_wire_blank : ℕ → Bool
is_wire_blank byte = byte == space || byte == tab

-- a text from its first byte on that is neither a space nor a tab
abbrev pub skip_blanks : List ℕ → List ℕ
skip_blanks [] = []
skip_blanks (byte ∷ text) = if is_wire_blank byte then skip_blanks text else byte ∷ text

-- a text without the spaces and the tabs at its ends
abbrev pub without_blanks : List ℕ → List ℕ
without_blanks text = reverse (skip_blanks (reverse (skip_blanks text)))

-- the text behind the blank that it begins with, or it begins with none
abbrev pub CutsFrontBlank : List ℕ → Option (Bor (List ℕ)) → Type 0
CutsFrontBlank text None = skip_blanks text ≡ text
CutsFrontBlank text (Some rest) = (byte : ℕ) × (is_wire_blank byte ≡ true) × (text ≡ byte ∷ rest.now)

-- the text before the blank that it ends with, or it ends with none
abbrev pub CutsEndBlank : List ℕ → Option (Bor (List ℕ)) → Type 0
CutsEndBlank text None = reverse (skip_blanks (reverse text)) ≡ text
CutsEndBlank text (Some front) = (byte : ℕ) × (is_wire_blank byte ≡ true) × (text ≡ front.now ++ byte ∷ [])

-- the name of a field: what stands before its colon, or all
abbrev pub wire_name : List ℕ → List ℕ
wire_name text = before_first (λ byte. byte == colon) text

-- the value of a field, without the blanks around it
abbrev pub wire_value : List ℕ → List ℕ
wire_value text = without_blanks (after_first (λ byte. byte == colon) text)

-- a field: its name, a colon, and its value; the name goes in lower case
unfoldable pub field_step : HeadDraft → List ℕ → Option HeadDraft
field_step draft text =
    if length (wire_name text) == length text then None
    else Some (record draft { headers = draft.headers ++ (lower (wire_name text), wire_value text) ∷ [] })

-- a line without its CR: the first one, an empty one, which does nothing, or a field
unfoldable pub head_text_step : HeadDraft → List ℕ → Option HeadDraft
head_text_step draft text =
    if not (is_some draft.method) then start_step draft text
    else if length text == 0 then Some draft
    else field_step draft text

-- a line
abbrev pub head_step : HeadDraft → List ℕ → Option HeadDraft
head_step draft line = option_and_then (head_text_step draft) (line_text line)

-- ## The request

-- a request, without its body
pub record HeadParts : Type 0 where
  pub method : List ℕ
  pub target : List ℕ
  pub headers : List (List ℕ × List ℕ)

-- the lines are over: the request, or the place where its first line is missing
abbrev pub head_or_place : ℕ → HeadDraft → Option (List ℕ) → Option (List ℕ) → Result HeadParts ℕ
head_or_place place draft (Some method) (Some target) = Ok (record { method = method; target = target; headers = draft.headers })
head_or_place place draft (Some method) None = Err place
head_or_place place draft None target = Err place

-- the request of all lines of a head
abbrev pub whole_head : ℕ → HeadDraft → Result HeadParts ℕ
whole_head place draft = head_or_place place draft draft.method draft.target

-- the request that bytes spell, or the place of the first bad line of its head
unfoldable pub message_request : List ℕ → Result HeadParts ℕ
message_request bytes = after_text (λ lines. after_pieces whole_head (taken_from head_step 1 no_head lines)) (text_lines (message_head bytes))

-- ## Answers

-- what contracts see of the draft of a head
unfoldable pub head_drafted : HeldHead → HeadDraft
head_drafted draft = record { method = option_map string_bytes draft.method; target = option_map string_bytes draft.target; headers = draft.headers }

-- what contracts see of a request
abbrev pub head_parts : HttpRequest → HeadParts
head_parts request = record { method = string_bytes request.method; target = string_bytes request.target; headers = request.headers }

-- this is the request, or the line at this place is bad; or memory ran out
abbrev pub ReadsHead : Result HeadParts ℕ → Result HttpRequest JobFault → Type 0
ReadsHead read (Ok request) = read ≡ Ok (head_parts request)
ReadsHead read (Err (BadLine place)) = read ≡ Err place
ReadsHead read (Err NoMemory) = Unit {0}
