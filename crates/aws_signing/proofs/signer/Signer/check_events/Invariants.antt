use Rattle.std.proofs.Common.{drop}
use Rattle.std.specs.List.{flat_map}
use Rattle.aws_signing.specs.Watched.{IsFedSoFar}
use Rattle.aws_signing.proofs.signer.Signer.check_events.Given as goal

-- the pieces before this one were taken as one
abbrev pub invariant-loop-piece : goal.invariant-loop-piece
invariant-loop-piece l =
    IsFedSoFar l.self.holder.kept.signer l.signature (flat_map (λ piece. piece) l.pieces) (flat_map (λ piece. piece) (drop l.piece-index l.pieces)) l.watch l.events.items
