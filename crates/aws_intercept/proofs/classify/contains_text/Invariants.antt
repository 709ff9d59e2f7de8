use Rattle.std.proofs.Common.{◌≡◌, drop, map, string_bytes}
use Rattle.aws_intercept.specs.Classify.{is_listed}
use Rattle.aws_intercept.proofs.classify.contains_text.Given as goal

abbrev pub invariant-loop-known : goal.invariant-loop-known
invariant-loop-known l =
    is_listed (map string_bytes (drop l.known-index l.listed)) l.code ≡ is_listed (map string_bytes l.listed) l.code
