-- Texts have no differences exactly where they are the same.
use Rattle.std.proofs.Common.{◌≡◌, ◌↔◌, ℕ, List, [], ◌∷◌, refl, ap, arith, bit_or, bit_xor}
use Rattle.std.specs.Int.Bits.{xor_add_and, xor_self}
use Rattle.std.proofs.lemmas.Nat.{and_le_l, and_le_r, le_or_l, le_or_r}

-- bytes without a difference are the same
same_bytes : (a b : ℕ) → bit_xor a b ≡ 0 → a ≡ b
same_bytes a b none = omega (arith, none, xor_add_and a b, and_le_l a b, and_le_r a b)

head_of : ℕ → List ℕ → ℕ
head_of d [] = d
head_of d (x ∷ xs) = x

tail_of : List ℕ → List ℕ
tail_of [] = []
tail_of (x ∷ xs) = xs

-- the next bytes are the same exactly where they add no difference
pub one_more : (d a b : ℕ) (xs ys first second : List ℕ) → (((d ≡ 0) × (a ∷ xs ≡ b ∷ ys)) ↔ (first ≡ second))
    → (((bit_or d (bit_xor a b) ≡ 0) × (xs ≡ ys)) ↔ (first ≡ second))
unfolding head_of tail_of
one_more d a b xs ys first second so_far = (forth, back)
  where
    forth : (bit_or d (bit_xor a b) ≡ 0) × (xs ≡ ys) → first ≡ second
    forth (none, rest) =
        let before : d ≡ 0 = omega (arith, none, le_or_l d (bit_xor a b)) in
        let here : bit_xor a b ≡ 0 = omega (arith, none, le_or_r d (bit_xor a b)) in
        let byte = same_bytes a b here in
        so_far.0 (before, λ i. byte i ∷ rest i)

    back : first ≡ second → (bit_or d (bit_xor a b) ≡ 0) × (xs ≡ ys)
    back same =
        let split = so_far.1 same in
        let byte : a ≡ b = ap (head_of 0) split.1 in
        (rw (split.0, byte, xor_self b) refl, ap tail_of split.1)
