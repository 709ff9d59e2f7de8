use Rattle.std.proofs.Common.{◌<◌, length, rules}
use Rattle.operation_run.specs.Reply.{reply_texts, request_texts}
use Rattle.operation_run.proofs.ScriptLemmas.{replied_next}
use Rattle.operation_run.proofs.script.give.Goals as goal

pub returns : goal.returns
returns c =
    let kept = c.in_ok-keep.ensures.ok in
    let within : length c.args.sent.now.items < length c.args.replies.now = search rules in
    let next = replied_next reply_texts request_texts c.args.replies.now c.args.sent.now.items c.keep.new.sent.items (request_texts c.args.request.now) c.index-replies-place.result within kept in
    (rw c.in_ok-reply.ensures (let place = c.index-replies-place.is in cc), kept)
