use Rattle.std.proofs.Common.{◌≡◌, map, take}
use Rattle.operation_run.specs.Reply.{reply_texts}
use Rattle.operation_run.proofs.script.copied_replies.Given as goal

abbrev pub invariant-loop-reply : goal.invariant-loop-reply
invariant-loop-reply l = map reply_texts l.copies.items ≡ map reply_texts (take l.reply-index l.replies)
