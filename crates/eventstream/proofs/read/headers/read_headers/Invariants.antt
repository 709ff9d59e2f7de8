use Rattle.std.proofs.Common.{◌≡◌, ◌-◌, ◌+◌, ◌≤◌, length}
use Rattle.eventstream.specs.Read.{headers_of, headers_within}
use Rattle.eventstream.proofs.HeadersLemmas.{before}
use Rattle.eventstream.proofs.read.headers.read_headers.Given as goal

-- the headers so far and those to come are all of them, and each takes a byte at least
abbrev pub invariant-loop-left : goal.invariant-loop-left
invariant-loop-left l = record {
  few : length l.headers.items + l.left ≤ l.len;
  told : before l.headers.items (headers_within (l.len - length l.headers.items) l.left l.rest) ≡ headers_of l.fn.len l.fn.rest;
}

abbrev pub decreases-loop-left : goal.decreases-loop-left
decreases-loop-left l = l.left
