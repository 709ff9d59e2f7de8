use Rattle.std.proofs.Common.{◌≡◌, ◌≤◌, ◌-◌, None, Ok}
use Rattle.event_io.specs.Drain.{ReceivesAll}
use Rattle.event_io.specs.Receiver.{KeepsOthers, kept_message}
use Rattle.event_io.specs.declared.drain.Drained.TheVariants.{Enough}
use Rattle.event_io.proofs.drain.receive_all.Given as goal

-- so many messages were taken
abbrev pub invariant-messages : goal.invariant-messages
invariant-messages g l = record {
  taken : ReceivesAll g.F.FrameSource l.count l.fn.receiver l.receiver l.fn.out.items l.out.items (Ok Enough);
  kept : kept_message l.receiver ≡ None;
  others : KeepsOthers g.F.FrameSource l.fn.receiver l.receiver;
  within : l.count ≤ l.most;
}

abbrev pub decreases-messages : goal.decreases-messages
decreases-messages g l = l.most - l.count
