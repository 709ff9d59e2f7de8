use Rattle.std.proofs.Common.{ℕ, ◌<◌, ◌≤◌, ◌-◌, length}
use Rattle.std.specs.Prelude.{IsTrue, slice_index}
use Rattle.aws_chunked.specs.TailRests.{is_name_byte}
use Rattle.aws_chunked.proofs.decode.trailer_lines.name_length.Given as goal

abbrev pub invariant-loop-length : goal.invariant-loop-length
invariant-loop-length l = record {
  most : l.length ≤ 65535;
  there : l.length ≤ length l.bytes;
  all : (k : ℕ) → k < l.length → IsTrue (is_name_byte (slice_index l.bytes k));
}

abbrev pub decreases-loop-length : goal.decreases-loop-length
decreases-loop-length l = 65535 - l.length
