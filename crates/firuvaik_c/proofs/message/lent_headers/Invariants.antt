use Rattle.std.proofs.Common.{◌≡◌, ◌++◌, drop, map}
use Rattle.firuvaik_c.specs.Messages.{first_unlent, lent_header_of}
use Rattle.firuvaik_c.proofs.message.lent_headers.Given as goal

-- the headers to come decide, and with those that were made they are all of them
abbrev pub invariant-loop-header : goal.invariant-loop-header
invariant-loop-header l = record {
  fault : first_unlent (drop l.header-index l.lent) ≡ first_unlent l.lent;
  made : l.headers.items ++ map lent_header_of (drop l.header-index l.lent) ≡ map lent_header_of l.lent;
}
