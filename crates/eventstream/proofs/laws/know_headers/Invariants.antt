use Rattle.std.specs.List.{AllWithin}
use Rattle.eventstream.specs.Laws.{IsProperHeader}
use Rattle.eventstream.proofs.laws.know_headers.Given as goal

-- the headers so far
abbrev pub invariant-loop-header : goal.invariant-loop-header
invariant-loop-header l = AllWithin IsProperHeader l.headers 0 l.header-index
