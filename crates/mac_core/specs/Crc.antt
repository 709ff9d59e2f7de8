-- CRC-32 (ISO 3309), bit by bit: the checksum of the event stream encoding.
use Rattle.std.specs.Prelude.{ℕ, zero, suc, ◌+◌, ◌-◌, ◌/◌, ◌%◌, ◌==◌, if◌then◌else◌, List, [], ◌∷◌, bit_xor}

-- x is the lowest bit of the byte xor the lowest bit of r; r is halved, rounded down, and where x is 1 xored with the polynomial
abbrev pub after_bit : ℕ → ℕ → ℕ
after_bit r byte = if (byte + r) % 2 == 1 then bit_xor (r / 2) 0xEDB88320 else r / 2

-- what the lowest k bits of a byte leave of r, the lowest bit first
unfoldable pub after_bits : ℕ → ℕ → ℕ → ℕ
after_bits zero r byte = r
after_bits (suc k) r byte = after_bits k (after_bit r byte) (byte / 2)

-- the register of the checksum after these bytes, in order
abbrev pub after_bytes : ℕ → List ℕ → ℕ
after_bytes r [] = r
after_bytes r (byte ∷ bytes) = after_bytes (after_bits 8 r byte) bytes

-- the register of the checksum before any byte
abbrev pub before_any : ℕ
before_any = 0xFFFFFFFF

-- the remainder of the bytes, complemented
unfoldable pub remainder : List ℕ → ℕ
remainder bytes = 0xFFFFFFFF - after_bytes before_any bytes
