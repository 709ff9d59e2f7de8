use Rattle.std.proofs.Common.{◌∙◌, ◌∷◌, ◌++◌, [], List, ap, append-nil, sym}
use Rattle.std.proofs.lemmas.Result.{err_from_is_err_and}
use Rattle.smithy_core.specs.Message.{Parts}
use Rattle.event_io.specs.declared.received.Received.TheVariants as received
use Rattle.event_io.proofs.DrainLemmas.{receives_answer, receives_no_room, receives_told}
use Rattle.event_io.proofs.drain.receive_one.Goals as goal

pub returns-in_err-reserve-clause-receives : goal.returns-in_err-reserve-clause-receives
returns-in_err-reserve-clause-receives g c =
    let exit = err_from_is_err_and c.from_residual.result c.from_residual.ensures.1 in
    rw (exit.1, exit.2, c.reserve.ensures.items) (receives_no_room g.F.FrameSource _ _)

pub returns-in-Ok-Event-clause-receives : goal.returns-in-Ok-Event-clause-receives
returns-in-Ok-Event-clause-receives g c =
    receives_told g.F.FrameSource _ (λ by message answer says. says) c.in-Ok-Event.field-0 (received.Event c.in-Ok-Event.message) c.in-Ok-Event.field-0-is
    c.args.receiver.now c.recv.new.self c.args.out.now.items c.push_reserved.new.self.items
    (c.push_reserved.ensures.items ∙ ap (λ (items : List Parts). items ++ c.in-Ok-Event.message ∷ []) c.reserve.ensures.items)
    c.requires c.in-Ok-Event.ensures.receives c.in-Ok-Event.ensures.any_cut

pub returns-in-Ok-End-clause-receives : goal.returns-in-Ok-End-clause-receives
returns-in-Ok-End-clause-receives g c =
    receives_told g.F.FrameSource _ (λ by message answer says. says) c.in-Ok-End.field-0 received.End c.in-Ok-End.field-0-is
    c.args.receiver.now c.recv.new.self c.args.out.now.items c.reserve.new.self.items (c.reserve.ensures.items ∙ sym (append-nil c.args.out.now.items))
    c.requires c.in-Ok-End.ensures.receives c.in-Ok-End.ensures.any_cut

pub returns-in-Ok-NotYet-clause-receives : goal.returns-in-Ok-NotYet-clause-receives
returns-in-Ok-NotYet-clause-receives g c =
    receives_told g.F.FrameSource _ (λ by message answer says. says) c.in-Ok-NotYet.field-0 received.NotYet c.in-Ok-NotYet.field-0-is
    c.args.receiver.now c.recv.new.self c.args.out.now.items c.reserve.new.self.items (c.reserve.ensures.items ∙ sym (append-nil c.args.out.now.items))
    c.requires c.in-Ok-NotYet.ensures.receives c.in-Ok-NotYet.ensures.any_cut

pub returns-in-Ok-OutOfTurns-clause-receives : goal.returns-in-Ok-OutOfTurns-clause-receives
returns-in-Ok-OutOfTurns-clause-receives g c =
    receives_told g.F.FrameSource _ (λ by message answer says. says) c.in-Ok-OutOfTurns.field-0 received.OutOfTurns c.in-Ok-OutOfTurns.field-0-is
    c.args.receiver.now c.recv.new.self c.args.out.now.items c.reserve.new.self.items (c.reserve.ensures.items ∙ sym (append-nil c.args.out.now.items))
    c.requires c.in-Ok-OutOfTurns.ensures.receives c.in-Ok-OutOfTurns.ensures.any_cut

pub returns-in-Err-clause-receives : goal.returns-in-Err-clause-receives
returns-in-Err-clause-receives g c =
    receives_answer g.F.FrameSource _ (λ by message answer says. says) _ c.args.receiver.now c.recv.new.self c.args.out.now.items c.reserve.new.self.items
    (c.reserve.ensures.items ∙ sym (append-nil c.args.out.now.items)) c.requires c.in-Err.ensures.receives c.in-Err.ensures.any_cut c.in-Err.ensures.want
