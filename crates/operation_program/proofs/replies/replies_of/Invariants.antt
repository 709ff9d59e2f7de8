use Rattle.std.proofs.Common.{◌≡◌, map, take}
use Rattle.job_text.specs.OperationJob.{reply_parts}
use Rattle.operation_run.specs.Reply.{reply_texts}
use Rattle.operation_program.specs.Attempting.{listed_reply}
use Rattle.operation_program.proofs.replies.replies_of.Given as goal

abbrev pub invariant-loop-line : goal.invariant-loop-line
invariant-loop-line l = map reply_texts l.replies.items ≡ map listed_reply (map reply_parts (take l.line-index l.lines))
