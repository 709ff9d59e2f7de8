use Rattle.std.proofs.Common.{◌≡◌, drop}
use Rattle.eventstream.specs.Frame.{first_unspelled}
use Rattle.eventstream.proofs.write.test_headers.Given as goal

-- the headers to come decide
abbrev pub invariant-loop-header : goal.invariant-loop-header
invariant-loop-header l = first_unspelled (drop l.header-index l.headers) ≡ first_unspelled l.headers
