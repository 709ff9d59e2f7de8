use Rattle.std.proofs.Common.{ℕ, ◌<◌, ◌≤◌, ◌-◌, length}
use Rattle.std.specs.Prelude.{IsTrue, slice_index}
use Rattle.http_header.specs.Token.{is_value_byte}
use Rattle.aws_chunked.proofs.decode.trailer_lines.value_length.Given as goal

abbrev pub invariant-loop-length : goal.invariant-loop-length
invariant-loop-length l = record {
  there : l.length ≤ length l.bytes;
  all : (k : ℕ) → k < l.length → IsTrue (is_value_byte (slice_index l.bytes k));
}

abbrev pub decreases-loop-length : goal.decreases-loop-length
decreases-loop-length l = length l.bytes - l.length
