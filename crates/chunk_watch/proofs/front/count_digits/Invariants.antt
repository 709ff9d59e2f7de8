use Rattle.std.proofs.Common.{◌≡◌, ◌+◌, drop}
use Rattle.std.specs.List.{prefix_len}
use Rattle.chunk_watch.specs.Front.{is_hex_digit}
use Rattle.chunk_watch.proofs.front.count_digits.Given as goal

abbrev pub invariant-loop-byte : goal.invariant-loop-byte
invariant-loop-byte l = (l.count ≡ l.byte-index) × (l.byte-index + prefix_len is_hex_digit (drop l.byte-index l.bytes) ≡ prefix_len is_hex_digit l.bytes)
