use Rattle.std.proofs.Common.{◌≡◌, ◌<◌, ◌≤◌, ℕ, List, length}
use Rattle.smithy_core.specs.Outside.{IsCutOf}
use Rattle.eventstream.specs.Frame.{most_frame}
use Rattle.awsign_events.specs.Decode.{ShowsUpTo, WaitsUnfinished}
use Rattle.awsign_events.proofs.decode.Frames.read.Given as goal

-- what was read is shown up to the bytes that wait, which aren't a frame, and the output counted no fault
abbrev pub invariant-pieces : goal.invariant-pieces
invariant-pieces g l =
    let source = g.S.ByteSource in
    let sink = g.K.ByteSink in
    record {
      room : 0 < length l.piece;
      short : length l.piece ≤ 8192;
      taken : (taken : List ℕ) × IsCutOf (source.left l.fn.input) taken (source.left l.input) × ShowsUpTo l.form taken l.self (sink.held l.fn.out) (sink.held l.out);
      unfinished : WaitsUnfinished l.self;
      few : length l.self.waiting.bytes < most_frame;
      reads : source.faults l.fn.input ≤ source.faults l.input;
      steady : sink.faults l.out ≡ sink.faults l.fn.out;
    }
