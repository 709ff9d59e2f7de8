use Rattle.std.proofs.Common.{◌≡◌, None}
use Rattle.event_io.specs.Receiver.{kept_message}
use Rattle.tool_signing_cases.proofs.receiving.drains.answers_of.Given as goal

-- no message is kept
abbrev pub invariant-words : goal.invariant-words
invariant-words l = kept_message l.receiver ≡ None
