-- How much data was handed out.
use Rattle.std.proofs.Common.{◌≡◌, ℕ, ◌+◌, ◌≤◌, List, [], ◌∷◌, ◌++◌, length, min, refl, sym, ap, arith, append-nil, length-append}
use Rattle.chunk_watch.specs.Watch.{count_after}

-- a count that stands still at the greatest number
pub counted_after : (taken : ℕ) (bytes : List ℕ) → taken ≤ 18446744073709551615 → min (taken + length bytes) 18446744073709551615 ≡ count_after taken bytes
counted_after taken [] fits = omega (arith, fits)
counted_after taken (byte ∷ bytes) fits = refl

-- data in two parts
pub counted_both : (taken : ℕ) (xs ys : List ℕ) → count_after (count_after taken xs) ys ≡ count_after taken (xs ++ ys)
counted_both taken [] ys = refl
counted_both taken (x ∷ xs) [] = ap (count_after taken) (sym (append-nil (x ∷ xs)))
counted_both taken (x ∷ xs) (y ∷ ys) = omega (arith, length-append xs (y ∷ ys))
