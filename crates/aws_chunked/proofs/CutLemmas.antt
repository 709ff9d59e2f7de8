-- Data that is cut every so many bytes.
use Rattle.std.proofs.Common.{◌≡◌, ℕ, zero, suc, ◌<◌, ◌≤◌, List, [], ◌∷◌, length, length-drop, take, drop, refl, ap, arith}
use Rattle.aws_chunked.specs.Text.{pieces_of_size, cut_within}

-- nothing has no pieces
pub cut_none : (size : ℕ) → pieces_of_size size [] ≡ []
unfolding pieces_of_size cut_within
cut_none size = refl

-- a greater bound changes nothing
cut_enough : (k m size : ℕ) (bytes : List ℕ) → 0 < size → length bytes ≤ k → length bytes ≤ m → cut_within k size bytes ≡ cut_within m size bytes
unfolding cut_within
cut_enough k m size [] some low high = refl
cut_enough zero m size (byte ∷ bytes) some low high = absurd (omega (arith, low))
cut_enough (suc k) zero size (byte ∷ bytes) some low high = absurd (omega (arith, high))
cut_enough (suc k) (suc m) size (byte ∷ bytes) some low high =
    let rest = drop size (byte ∷ bytes) in
    let shorter : length rest ≤ length bytes = omega (arith, some, length-drop size (byte ∷ bytes)) in
    ap (λ pieces. take size (byte ∷ bytes) ∷ pieces) (cut_enough k m size rest some (omega (arith, low, shorter)) (omega (arith, high, shorter)))

-- the first piece, and the others
pub cut_first : (size : ℕ) (bytes : List ℕ) → 0 < size → 0 < length bytes → pieces_of_size size bytes ≡ take size bytes ∷ pieces_of_size size (drop size bytes)
unfolding pieces_of_size cut_within
cut_first size [] some full = absurd (omega (arith, full))
cut_first size (byte ∷ bytes) some full =
    let rest = drop size (byte ∷ bytes) in
    let shorter : length rest ≤ length bytes = omega (arith, some, length-drop size (byte ∷ bytes)) in
    ap (λ pieces. take size (byte ∷ bytes) ∷ pieces) (cut_enough (length bytes) (length rest) size rest some shorter (omega arith))
