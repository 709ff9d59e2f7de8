-- The job of an operation: the lines of a job without events, and then one or more lines `reply STATUS CODE` with an optional date. Each line moves a draft on,
-- or is bad.
use Rattle.std.specs.Prelude.{◌≡◌, ℕ, ◌==◌, nat_lt, if◌then◌else◌, List, [], ◌∷◌, ◌++◌, length, map, codes, bytes_eq, string_bytes, Option, Some, None, option_and_then, option_map, Result, Ok, Err}
use Rattle.job_text.specs.Lines.{after_text, after_word_of, text_lines, word_of}
use Rattle.job_text.specs.Numbers.{natural_below}
use Rattle.job_text.specs.Pieces.{after_pieces, taken_from}
use Rattle.job_text.specs.RequestLines.{RequestDraft, RequestParts, has_request, no_request, request_drafted, request_parts, request_step, whole_request}
use Rattle.job_text.specs.declared.fault.JobFault.{JobFault}
use Rattle.job_text.specs.declared.fault.JobFault.TheVariants.{BadLine, NoMemory}
use Rattle.job_text.specs.declared.fault.LineFault.{LineFault}
use Rattle.job_text.specs.declared.fault.LineFault.TheVariants.{Bad, NoMemory as LineNoMemory}
use Rattle.job_text.specs.declared.operation_job.OperationDraft.{OperationDraft as HeldOperation}
use Rattle.job_text.specs.declared.operation_job.OperationJob.{OperationJob}
use Rattle.job_text.specs.declared.operation_job.ReplyLine.{ReplyLine}

-- ## A reply

-- what a line tells of a reply: its status, the code of its error, where it is one, and its date, where there is one
pub record ReplyParts : Type 0 where
  pub status : ℕ
  pub code : Option (List ℕ)
  pub date : Option (List ℕ)

-- a number, where it has three digits
abbrev pub if_status : ℕ → Option ℕ
if_status number = if nat_lt number 100 then None else Some number

-- the status that a text spells: 100 to 999
unfoldable pub spelled_status : List ℕ → Option ℕ
spelled_status text = option_and_then if_status (natural_below 1000 text)

-- the code of a word: `-` is none
unfoldable pub spelled_code : List ℕ → Option (List ℕ)
spelled_code word = if bytes_eq word (codes "-") then None else Some word

-- what stands after the first space, where there is one
unfoldable pub spelled_date : List ℕ → Option (List ℕ)
spelled_date text = if length (word_of text) == length text then None else Some (after_word_of text)

-- with a status, the reply of `CODE` or `CODE DATE`; the code isn't empty
abbrev pub reply_with : List ℕ → ℕ → Option ReplyParts
reply_with text status =
    if length (word_of text) == 0 then None else Some (record { status = status; code = spelled_code (word_of text); date = spelled_date text })

-- the reply of `STATUS CODE` or `STATUS CODE DATE`
unfoldable pub spelled_reply : List ℕ → Option ReplyParts
spelled_reply text = option_and_then (reply_with (after_word_of text)) (spelled_status (word_of text))

-- ## The draft

-- what the lines so far gave: the request with the texts of profile files, and the replies
pub record OperationDraft : Type 0 where
  pub request : RequestDraft
  pub replies : List ReplyParts

abbrev pub no_operation : OperationDraft
no_operation = record { request = no_request; replies = [] }

-- `reply STATUS CODE DATE`: the method and the target stood before
unfoldable pub reply_step : OperationDraft → List ℕ → Option OperationDraft
reply_step draft rest =
    if has_request draft.request then option_map (λ reply. record draft { replies = draft.replies ++ reply ∷ [] }) (spelled_reply rest) else None

-- any other line: it stands before the first reply
unfoldable pub before_replies_step : OperationDraft → List ℕ → List ℕ → Option OperationDraft
before_replies_step draft word rest =
    if length draft.replies == 0 then option_map (λ request. record draft { request = request }) (request_step draft.request word rest) else None

-- what a line of this word and this rest does
unfoldable pub operation_word_step : OperationDraft → List ℕ → List ℕ → Option OperationDraft
operation_word_step draft word rest = if bytes_eq word (codes "reply") then reply_step draft rest else before_replies_step draft word rest

-- what a line does; an empty one does nothing
unfoldable pub operation_line_step : OperationDraft → List ℕ → Option OperationDraft
operation_line_step draft line = if length line == 0 then Some draft else operation_word_step draft (word_of line) (after_word_of line)

-- ## The job

-- a request with the texts of profile files, and its replies, one at least
pub record OperationInput : Type 0 where
  pub request : RequestParts
  pub replies : List ReplyParts

-- a request that is whole, with its replies
abbrev pub with_replies : List ReplyParts → Result RequestParts ℕ → Result OperationInput ℕ
with_replies replies (Ok request) = Ok (record { request = request; replies = replies })
with_replies replies (Err place) = Err place

-- the lines are over: the job, or the place after the last line, where there was no reply
abbrev pub whole_operation : ℕ → OperationDraft → Result OperationInput ℕ
whole_operation place draft = if length draft.replies == 0 then Err place else with_replies draft.replies (whole_request place draft.request)

-- the job of an operation that the bytes spell, or the place of the first bad line
unfoldable pub operation_job : List ℕ → Result OperationInput ℕ
operation_job bytes = after_text (λ lines. after_pieces whole_operation (taken_from operation_line_step 1 no_operation lines)) (text_lines bytes)

-- ## Answers

-- what contracts see of a reply
abbrev pub reply_parts : ReplyLine → ReplyParts
reply_parts reply = record { status = reply.status; code = option_map string_bytes reply.code; date = option_map string_bytes reply.date }

-- the reply is what the text spells, unless memory ran out
abbrev pub GivesReplyLine : Option ReplyParts → Result ReplyLine LineFault → Type 0
GivesReplyLine spelled (Ok reply) = spelled ≡ Some (reply_parts reply)
GivesReplyLine spelled (Err Bad) = spelled ≡ None
GivesReplyLine spelled (Err LineNoMemory) = Unit {0}

-- what they see of a draft
unfoldable pub operation_drafted : HeldOperation → OperationDraft
operation_drafted draft = record { request = request_drafted draft.request; replies = map reply_parts draft.replies.items }

-- and of a job
abbrev pub operation_input : OperationJob → OperationInput
operation_input job = record { request = request_parts job.request; replies = map reply_parts job.replies.items }

-- the job of an operation is the one that is read; or the line at this place is bad; or memory ran out
abbrev pub ReadsOperation : Result OperationInput ℕ → Result OperationJob JobFault → Type 0
ReadsOperation read (Ok job) = read ≡ Ok (operation_input job)
ReadsOperation read (Err (BadLine place)) = read ≡ Err place
ReadsOperation read (Err NoMemory) = Unit {0}
