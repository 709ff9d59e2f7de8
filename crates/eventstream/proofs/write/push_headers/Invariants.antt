use Rattle.std.proofs.Common.{◌≡◌, ◌++◌, ◌+◌, ◌≤◌, drop, length, None}
use Rattle.std.specs.Vec.{vec_capacity, vec_len}
use Rattle.eventstream.specs.Frame.{first_unspelled, block}
use Rattle.eventstream.proofs.write.push_headers.Given as goal

-- what was written and the headers to come are all of them, and there is room for those
abbrev pub invariant-loop-header : goal.invariant-loop-header
invariant-loop-header l = record {
  spelled : first_unspelled (drop l.header-index l.headers) ≡ None;
  whole : l.buffer.items ++ block (drop l.header-index l.headers) ≡ l.fn.buffer.items ++ block l.headers;
  len : vec_len l.buffer + length (block (drop l.header-index l.headers)) ≡ vec_len l.fn.buffer + length (block l.headers);
  capacity : vec_capacity l.fn.buffer ≤ vec_capacity l.buffer;
}
