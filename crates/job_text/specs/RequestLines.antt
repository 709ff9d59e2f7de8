-- The lines of a job that make up its request, and those of profile texts that stand among them. Each line moves a draft on, or is bad.
use Rattle.std.specs.Prelude.{◌≡◌, ℕ, ◌==◌, Bool, ◌&&◌, ◌||◌, if◌then◌else◌, List, [], ◌∷◌, ◌++◌, length, codes, bytes_eq, string_bytes, Option, Some, None, is_some, option_map, unwrap_or, Result, Ok, Err}
use Rattle.std.specs.List.{list_any}
use Rattle.smithy_core.specs.Text.{space}
use Rattle.smithy_core.specs.TextPairs.{lower}
use Rattle.job_text.specs.EventHeader.{hex_bytes}
use Rattle.job_text.specs.Lines.{after_text, after_word_of, header_of_line, text_lines, word_of}
use Rattle.job_text.specs.Pieces.{after_pieces, taken_from}
use Rattle.job_text.specs.ProfileTexts.{ProfileTexts, no_texts, profile_step, texts_of}
use Rattle.job_text.specs.declared.fault.JobFault.{JobFault}
use Rattle.job_text.specs.declared.fault.JobFault.TheVariants.{BadLine, NoMemory}
use Rattle.job_text.specs.declared.request_lines.RequestDraft.{RequestDraft as HeldDraft}
use Rattle.job_text.specs.declared.request_lines.RequestJob.{RequestJob}

-- ## The draft

-- what these lines so far gave
pub record RequestDraft : Type 0 where
  pub method : Option (List ℕ)
  pub target : Option (List ℕ)
  pub headers : List (List ℕ × List ℕ)
  pub body : Option (List ℕ)
  pub texts : ProfileTexts

-- nothing of a request yet
abbrev pub no_request : RequestDraft
no_request = record { method = None; target = None; headers = []; body = None; texts = no_texts }

-- the method and the target stood
abbrev pub has_request : RequestDraft → Bool
has_request draft = is_some draft.method && is_some draft.target

-- `method M`: once; M isn't empty and has no space
unfoldable pub method_step : RequestDraft → List ℕ → Option RequestDraft
method_step draft rest =
    if is_some draft.method || length rest == 0 || list_any (λ b. b == space) rest then None else Some (record draft { method = Some rest })

-- `target T`: once
unfoldable pub target_step : RequestDraft → List ℕ → Option RequestDraft
target_step draft rest = if is_some draft.target then None else Some (record draft { target = Some rest })

-- `header NAME: VALUE`: the name goes in lower case
unfoldable pub header_step : RequestDraft → List ℕ → Option RequestDraft
header_step draft rest =
    option_map (λ header. record draft { headers = draft.headers ++ (lower header.0, header.1) ∷ [] }) (header_of_line rest)

-- `body HEX`: once, an even number of digits in either case
unfoldable pub body_step : RequestDraft → List ℕ → Option RequestDraft
body_step draft rest =
    if is_some draft.body then None
    else option_map (λ body. record draft { body = Some body }) (hex_bytes rest)

-- a line of a profile file's text
unfoldable pub text_step : RequestDraft → List ℕ → List ℕ → Option RequestDraft
text_step draft word rest = option_map (λ texts. record draft { texts = texts }) (profile_step draft.texts word rest)

-- what a line of this word and this rest does to a request
unfoldable pub request_step : RequestDraft → List ℕ → List ℕ → Option RequestDraft
request_step draft word rest =
    if bytes_eq word (codes "method") then method_step draft rest
    else if bytes_eq word (codes "target") then target_step draft rest
    else if bytes_eq word (codes "header") then header_step draft rest
    else if bytes_eq word (codes "body") then body_step draft rest
    else text_step draft word rest

-- ## A job without events

-- a request and the texts of profile files; without a line of its own the body is empty
pub record RequestParts : Type 0 where
  pub method : List ℕ
  pub target : List ℕ
  pub headers : List (List ℕ × List ℕ)
  pub body : List ℕ
  pub texts : ProfileTexts

-- the lines are over: the request, or the place where a line of it is missing
abbrev pub request_or_place : ℕ → RequestDraft → Option (List ℕ) → Option (List ℕ) → Result RequestParts ℕ
request_or_place place draft (Some method) (Some target) =
    Ok (record { method = method; target = target; headers = draft.headers; body = unwrap_or draft.body []; texts = draft.texts })
request_or_place place draft (Some method) None = Err place
request_or_place place draft None target = Err place

-- the request of all lines
abbrev pub whole_request : ℕ → RequestDraft → Result RequestParts ℕ
whole_request place draft = request_or_place place draft draft.method draft.target

-- what a line of a job without events does; an empty one does nothing
unfoldable pub request_job_step : RequestDraft → List ℕ → Option RequestDraft
request_job_step draft line = if length line == 0 then Some draft else request_step draft (word_of line) (after_word_of line)

-- the job without events that the bytes spell, or the place of the first bad line
unfoldable pub request_job : List ℕ → Result RequestParts ℕ
request_job bytes = after_text (λ lines. after_pieces whole_request (taken_from request_job_step 1 no_request lines)) (text_lines bytes)

-- ## Answers

-- the texts and lists of a draft
unfoldable pub request_drafted : HeldDraft → RequestDraft
request_drafted draft =
    record {
      method = option_map string_bytes draft.method;
      target = option_map string_bytes draft.target;
      headers = draft.headers;
      body = draft.body;
      texts = texts_of draft.texts;
    }

-- the texts and lists of a job without events
abbrev pub request_parts : RequestJob → RequestParts
request_parts job = record {
  method = string_bytes job.request.method;
  target = string_bytes job.request.target;
  headers = job.request.headers;
  body = job.request.body;
  texts = texts_of job.texts;
}

-- the job without events is the one that is read; or the line at this place is bad; or memory ran out
abbrev pub ReadsRequest : Result RequestParts ℕ → Result RequestJob JobFault → Type 0
ReadsRequest read (Ok job) = read ≡ Ok (request_parts job)
ReadsRequest read (Err (BadLine place)) = read ≡ Err place
ReadsRequest read (Err NoMemory) = Unit {0}
