use Rattle.std.proofs.Common.{◌≡◌, ◌↔◌}
use Rattle.http_header.specs.HeaderMap.{append_all, pairs}
use Rattle.smithy_http.specs.Merge.{IsFilled}
use Rattle.smithy_http.proofs.merge.append_merge_header_maps.Given as goal

-- the pairs to come do to the map so far what all of them do to the first map
abbrev pub invariant-loop-name : goal.invariant-loop-name
invariant-loop-name l = record {
  same : append_all l.merged l.name-iterator ≡ append_all l.fn.lhs (pairs l.fn.rhs);
  full : IsFilled l.fn.lhs (pairs l.fn.rhs) ↔ IsFilled l.merged l.name-iterator;
}
