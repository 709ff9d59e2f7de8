use Rattle.std.proofs.Common.{◌≡◌, ◌++◌, ℕ, List, Option, length}
use Rattle.awsign_events.specs.Decode.{ShowsUpTo}
use Rattle.awsign_events.proofs.decode.Frames.show.Given as goal

-- what was shown before the call is shown with the piece, up to the bytes that wait, and the output counted no fault
abbrev pub invariant-frames : goal.invariant-frames
invariant-frames g l =
    let sink = g.K.ByteSink in
    record {
      shows : (taken : List ℕ) (before : Option (List ℕ)) → ShowsUpTo l.form taken l.fn.self before (sink.held l.fn.out) → ShowsUpTo l.form (taken ++ l.piece) l.self before (sink.held l.out);
      steady : sink.faults l.out ≡ sink.faults l.fn.out;
    }

abbrev pub decreases-frames : goal.decreases-frames
decreases-frames g l = length l.self.waiting.bytes
