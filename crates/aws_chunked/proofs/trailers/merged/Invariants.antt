use Rattle.std.proofs.Common.{◌≡◌}
use Rattle.aws_chunked.specs.Body.{merged, merged_after}
use Rattle.aws_chunked.proofs.trailers.merged.Given as goal

-- what is kept with the trailers to come is all
abbrev pub invariant-loop-name : goal.invariant-loop-name
invariant-loop-name l = merged_after l.before l.kept l.name-iterator ≡ merged l.fn.kept l.trailers
