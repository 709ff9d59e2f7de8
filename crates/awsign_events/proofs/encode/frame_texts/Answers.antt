use Rattle.std.proofs.Common.{refl, arith}
use Rattle.std.proofs.lemmas.Result.{err_from_is_err_and}
use Rattle.awsign_events.proofs.EncodeLemmas.{framed_more, frames_more, stops_at}
use Rattle.awsign_events.proofs.encode.frame_texts.Goals as goal

pub messages-init : goal.messages-init
messages-init c = record { written = c.new-text.ensures.items; framed = refl; placed = refl }

pub returns-in_err-frame : goal.returns-in_err-frame
returns-in_err-frame c =
    let exit = err_from_is_err_and c.from_residual.result c.from_residual.ensures.1 in
    rw (exit.1, exit.2)
    (stops_at c.args.is_hex c.args.messages.now c.messages.message-index c.message-item.result c.messages-test.true c.message-item.is c.messages.place c.in_err-frame.field-0.0
    c.messages.invariant.placed c.messages.invariant.framed c.in_err-frame.ensures)

pub messages-preserved : goal.messages-preserved
messages-preserved c = record {
  written =
      frames_more c.args.is_hex c.args.messages.now c.messages.message-index c.message-item.result c.messages-test.true c.message-item.is c.messages.text.items c.in_ok-frame.frame.items _
      c.messages.invariant.written c.in_ok-frame.ensures.1 (rw c.as_slice.ensures.value at c.in_ok-push_frame.ensures);
  framed =
      framed_more c.args.is_hex c.args.messages.now c.messages.message-index c.message-item.result c.messages-test.true c.message-item.is c.messages.invariant.framed c.in_ok-frame.ensures.0;
  placed = omega (arith, c.messages.invariant.placed);
}
