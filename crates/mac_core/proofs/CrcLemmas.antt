use Rattle.std.proofs.Common.{◌≡◌, ℕ, zero, suc, ◌+◌, ◌-◌, ◌/◌, ◌<◌, ◌^◌, List, [], ◌∷◌, ◌++◌, refl, ap, inl, inr, arith}
use Rattle.std.proofs.lemmas.Nat.{xor_lt}
use Rattle.mac_core.specs.Crc.{after_bit, after_bits, after_bytes, before_any, remainder}
use Rattle.mac_core.proofs.LinearLemmas.{even_bit, odd_bit, parity}

-- two pieces leave what they leave as one
pub after_bytes-append : (r : ℕ) (xs ys : List ℕ) → after_bytes r (xs ++ ys) ≡ after_bytes (after_bytes r xs) ys
after_bytes-append r [] ys = refl
after_bytes-append r (x ∷ xs) ys = after_bytes-append (after_bits 8 r x) xs ys

-- the remainder of two pieces
pub remainder_pieces : (xs ys : List ℕ) → remainder (xs ++ ys) ≡ 0xFFFFFFFF - after_bytes (after_bytes before_any xs) ys
unfolding remainder
remainder_pieces xs ys = ap (λ (r : ℕ). 0xFFFFFFFF - r) (after_bytes-append before_any xs ys)

-- a checksum has 32 bits
pub remainder-below : (bytes : List ℕ) → remainder bytes < 2 ^ 32
unfolding remainder
remainder-below bytes = omega arith

pub bit_below : (r b : ℕ) → r < 2 ^ 32 → after_bit r b < 2 ^ 32
bit_below r b l = elim (parity (b + r)) [
  | inl i ↦ rw (even_bit r b i) (omega arith)
  | inr i ↦ rw (odd_bit r b i) (xor_lt 32 (r / 2) 0xEDB88320 (omega arith) (omega arith))
]

-- steps keep a register within its 32 bits
pub bits_below : (k r b : ℕ) → r < 2 ^ 32 → after_bits k r b < 2 ^ 32
unfolding after_bits
bits_below zero r b l = l
bits_below (suc k) r b l = bits_below k (after_bit r b) (b / 2) (bit_below r b l)

pub bytes_below : (r : ℕ) (bytes : List ℕ) → r < 2 ^ 32 → after_bytes r bytes < 2 ^ 32
bytes_below r [] l = l
bytes_below r (b ∷ bytes) l = bytes_below (after_bits 8 r b) bytes (bits_below 8 r b l)

pub ruleset joins = (after_bytes-append, remainder_pieces)
