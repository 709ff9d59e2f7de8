use Rattle.std.proofs.Common.{◌≡◌, ◌-◌, ◌<◌, ◌≤◌, ℕ, List, length}
use Rattle.smithy_core.specs.Outside.{IsCutOf}
use Rattle.eventstream.specs.Key.{Signer}
use Rattle.awsign_events.specs.VerifyEvents.{IsNewVerifier, IsVerified}
use Rattle.awsign_events.proofs.verify.Verifier.read.Given as goal

-- what was read is verified
abbrev pub invariant-pieces : goal.invariant-pieces
invariant-pieces g l =
    let source = g.S.ByteSource in
    let sink = g.K.ByteSink in
    record {
      room : 0 < length l.piece;
      short : length l.piece ≤ 8192;
      taken : (signer : Signer) (seed : List ℕ) → IsNewVerifier signer seed l.fn.self
          → (taken : List ℕ) × IsCutOf (source.left l.fn.input) taken (source.left l.input) × IsVerified l.form signer seed taken l.self (sink.held l.fn.out) (sink.held l.out);
      reads : source.faults l.fn.input ≤ source.faults l.input;
      writes : sink.faults l.out ≡ sink.faults l.fn.out;
    }

abbrev pub decreases-pieces : goal.decreases-pieces
decreases-pieces g l = 18446744073709551616 - l.self.watch.fed
