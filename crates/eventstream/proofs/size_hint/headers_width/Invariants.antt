use Rattle.std.proofs.Common.{◌≡◌, ◌-◌, ◌^◌, min, take}
use Rattle.std.specs.Prelude.{sum_by}
use Rattle.eventstream.specs.SizeHint.{header_width}
use Rattle.eventstream.proofs.size_hint.headers_width.Given as goal

-- the bytes of the headers so far
abbrev pub invariant-loop-header : goal.invariant-loop-header
invariant-loop-header l = l.width ≡ min (sum_by header_width (take l.header-index l.headers)) (2 ^ 64 - 1)
