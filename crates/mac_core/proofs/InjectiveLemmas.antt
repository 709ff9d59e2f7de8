-- What bytes leave of a register tells what it was before them.
use Rattle.std.proofs.Common.{◌≡◌, ℕ, zero, suc, ◌+◌, ◌/◌, ◌%◌, ◌<◌, ◌^◌, List, [], ◌∷◌, sym, ap, ◌∙◌, inl, inr, arith}
use Rattle.std.specs.Prelude.{bit_xor}
use Rattle.std.proofs.lemmas.Nat.{xor_comm, xor_lt}
use lib.Bits.{xor_assoc, xor_self, xor_zero_r}
use Rattle.mac_core.specs.Crc.{after_bit, after_bits, after_bytes}
use Rattle.mac_core.proofs.CrcLemmas.{bit_below, bits_below}
use Rattle.mac_core.proofs.LinearLemmas.{even_bit, odd_bit, parity}

abbrev polynomial : ℕ
polynomial = 0xEDB88320

twice : (a : ℕ) → bit_xor (bit_xor a polynomial) polynomial ≡ a
twice a = xor_assoc a polynomial polynomial ∙ ap (bit_xor a) (xor_self polynomial) ∙ xor_zero_r a

-- whether the polynomial was xored shows in the highest bit
mixed : (u v : ℕ) → u < 2 ^ 31 → v < 2 ^ 31 → u ≡ bit_xor v polynomial → ⊥
mixed u v lu lv e =
    let both : bit_xor u v ≡ polynomial =
    ap (λ (z : ℕ). bit_xor z v) e ∙ xor_comm (bit_xor v polynomial) v ∙ sym (xor_assoc v v polynomial)
    ∙ ap (λ (z : ℕ). bit_xor z polynomial) (xor_self v) ∙ xor_comm 0 polynomial ∙ xor_zero_r polynomial in
    let low : bit_xor u v < 2 ^ 31 = xor_lt 31 u v lu lv in
    omega (arith, both, low)

halves : (x y b bit : ℕ) → x / 2 ≡ y / 2 → (b + x) % 2 ≡ bit → (b + y) % 2 ≡ bit → x ≡ y
halves x y b bit e i j = omega arith

bit_once : (x y b : ℕ) → x < 2 ^ 32 → y < 2 ^ 32 → after_bit x b ≡ after_bit y b → x ≡ y
bit_once x y b lx ly e = elim (parity (b + x)) [
  | inl i ↦ elim (parity (b + y)) [
    | inl j ↦ halves x y b 0 (sym (even_bit x b i) ∙ e ∙ even_bit y b j) i j
    | inr j ↦ absurd (mixed (x / 2) (y / 2) (omega arith) (omega arith) (sym (even_bit x b i) ∙ e ∙ odd_bit y b j))
  ]
  | inr i ↦ elim (parity (b + y)) [
    | inl j ↦ absurd (mixed (y / 2) (x / 2) (omega arith) (omega arith) (sym (even_bit y b j) ∙ sym e ∙ odd_bit x b i))
    | inr j ↦ halves x y b 1 (sym (twice (x / 2)) ∙ ap (λ (z : ℕ). bit_xor z polynomial) (sym (odd_bit x b i) ∙ e ∙ odd_bit y b j) ∙ twice (y / 2)) i j
  ]
]

bits_once : (k x y b : ℕ) → x < 2 ^ 32 → y < 2 ^ 32 → after_bits k x b ≡ after_bits k y b → x ≡ y
unfolding after_bits
bits_once zero x y b lx ly e = e
bits_once (suc k) x y b lx ly e = bit_once x y b lx ly (bits_once k (after_bit x b) (after_bit y b) (b / 2) (bit_below x b lx) (bit_below y b ly) e)

-- one register alone is left as this one by the same bytes
pub bytes_once : (x y : ℕ) (bytes : List ℕ) → x < 2 ^ 32 → y < 2 ^ 32 → after_bytes x bytes ≡ after_bytes y bytes → x ≡ y
bytes_once x y [] lx ly e = e
bytes_once x y (b ∷ bytes) lx ly e =
    bits_once 8 x y b lx ly (bytes_once (after_bits 8 x b) (after_bits 8 y b) bytes (bits_below 8 x b lx) (bits_below 8 y b ly) e)
