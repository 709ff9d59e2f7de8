-- A transport in memory, which gives listed replies.
use Rattle.std.specs.Prelude.{◌≡◌, ℕ, ◌≤◌, List, [], ◌∷◌, ◌++◌, length, take, Result, Ok, Err}
use Rattle.smithy_core.specs.Calls.{one_more}
use Rattle.operation_run.specs.Reply.{ReplyTexts, RequestTexts, reply_texts}
use Rattle.operation_run.specs.declared.reply.Reply.{Reply}
use Rattle.operation_run.specs.declared.transport.SendFault.{SendFault}
use Rattle.operation_run.specs.declared.transport.SendFault.TheVariants.{Failed, NoMemory}

-- the replies that it is to give, the requests that went out, and how often it failed
pub record ScriptState : Type 0 where
  pub replies : List ReplyTexts
  pub sent : List RequestTexts
  pub faults : ℕ

-- the replies that were given, one for each request
abbrev pub replied_of : ScriptState → List ReplyTexts
replied_of script = take (length script.sent) script.replies

-- an answer whose reply is told by what it says
abbrev pub answer_texts : Result Reply SendFault → Result ReplyTexts SendFault
answer_texts (Ok reply) = Ok (reply_texts reply)
answer_texts (Err fault) = Err fault

-- the next of the replies is given, one for each request that was sent, and the request is kept; where all were given it fails, and where memory
-- runs out too nothing is sent
abbrev pub GivesNextReply : List ReplyTexts → List RequestTexts → RequestTexts → Result ReplyTexts SendFault → List RequestTexts → Type 0
GivesNextReply replies before request (Ok reply) now =
    (take (length now) replies ≡ take (length before) replies ++ reply ∷ []) × (now ≡ before ++ request ∷ [])
GivesNextReply replies before request (Err Failed) now = (length replies ≤ length before) × (now ≡ before)
GivesNextReply replies before request (Err NoMemory) now = now ≡ before

-- how many faults are counted after an answer: one more where it is the transport's
abbrev pub faults_after : ℕ → Result ReplyTexts SendFault → ℕ
faults_after faults (Err Failed) = one_more faults
faults_after faults answer = faults

-- the next reply is given and the request kept, or a fault is counted, or memory ran out; the replies stay
pub record GivesReply (before : ScriptState) (request : RequestTexts) (answer : Result ReplyTexts SendFault) (now : ScriptState) : Type 0 where
  pub gives : GivesNextReply before.replies before.sent request answer now.sent
  pub replies : now.replies ≡ before.replies
  pub faults : now.faults ≡ faults_after before.faults answer
  pub count : before.faults ≤ now.faults
