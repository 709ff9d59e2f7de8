use Rattle.std.proofs.Common.{◌≡◌, ◌+◌, ◌-◌, ◌^◌, ◌≤◌}
use Rattle.aws_chunked.specs.Body.{lines_length}
use Rattle.aws_chunked.specs.Options.{counted}
use Rattle.aws_chunked.proofs.trailers.lines_length.Given as goal

-- what was counted and the lines to come are all of them
abbrev pub invariant-loop-name : goal.invariant-loop-name
invariant-loop-name l = (counted (l.sum + lines_length l.name-iterator) ≡ counted (lines_length l.trailers)) × (l.sum ≤ 2 ^ 64 - 1)
