use Rattle.std.proofs.Common.{◌∙◌, refl, sym, arith}
use Rattle.event_io.proofs.DrainLemmas.{keeps_join, receives_last, receives_more, receives_none}
use Rattle.event_io.proofs.drain.receive_all.Goals as goal

pub messages-init : goal.messages-init
messages-init g c = record {
  taken = receives_none g.F.FrameSource c.args.receiver.now c.args.out.now.items;
  kept = c.requires;
  others = record { unmarshaller_stays = refl; waits = omega arith; faults = omega arith };
  within = omega arith;
}

-- one message more
pub messages-preserved : goal.messages-preserved
messages-preserved g c = record {
  taken =
      receives_more g.F.FrameSource c.messages.count c.args.receiver.now c.messages.receiver c.receive_one-answer.new.receiver c.args.out.now.items c.messages.out.items
      c.receive_one-answer.new.out.items c.receive_one-answer.result c.messages.invariant.taken c.receive_one-answer.ensures.receives c.messages.invariant.others
      (sym c.stops.ensures ∙ c.if-stops.false);
  kept = c.receive_one-answer.ensures.kept;
  others = keeps_join g.F.FrameSource c.args.receiver.now c.messages.receiver c.receive_one-answer.new.receiver c.messages.invariant.others c.receive_one-answer.ensures.others;
  within = omega (arith, c.messages-test.true);
}

-- no more
pub returns-then-stops : goal.returns-then-stops
returns-then-stops g c = record {
  receives =
      receives_last g.F.FrameSource c.messages.count c.args.most c.args.receiver.now c.messages.receiver c.receive_one-answer.new.receiver c.args.out.now.items c.messages.out.items
      c.receive_one-answer.new.out.items c.receive_one-answer.result c.messages.invariant.taken c.receive_one-answer.ensures.receives c.messages.invariant.others
      (sym c.stops.ensures ∙ c.if-stops.true) c.messages-test.true;
  kept = c.receive_one-answer.ensures.kept;
  others = keeps_join g.F.FrameSource c.args.receiver.now c.messages.receiver c.receive_one-answer.new.receiver c.messages.invariant.others c.receive_one-answer.ensures.others;
  want = c.receive_one-answer.ensures.want;
}
