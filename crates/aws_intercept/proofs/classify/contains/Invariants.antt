use Rattle.std.proofs.Common.{◌≡◌, drop, map}
use Rattle.aws_intercept.specs.Classify.{is_listed}
use Rattle.aws_intercept.proofs.classify.contains.Given as goal

abbrev pub invariant-loop-known : goal.invariant-loop-known
invariant-loop-known l =
    is_listed (map (λ known. known.now) (drop l.known-index l.listed)) l.code ≡ is_listed (map (λ known. known.now) l.listed) l.code
