-- The text in pieces of which none is empty.
use Rattle.std.proofs.Common.{◌≡◌, ℕ, ◌<◌, List, [], ◌∷◌, ◌++◌, length, refl, ap, sym, ◌∙◌, arith}
use Rattle.aws_chunked.specs.Made.{AreFilled, joined}

pub append_nil : (bytes : List ℕ) → bytes ++ [] ≡ bytes
append_nil [] = refl
append_nil (byte ∷ bytes) = ap (λ rest. byte ∷ rest) (append_nil bytes)

pub append_assoc : (a b c : List ℕ) → (a ++ b) ++ c ≡ a ++ (b ++ c)
append_assoc [] b c = refl
append_assoc (byte ∷ a) b c = ap (λ rest. byte ∷ rest) (append_assoc a b c)

pub joined_more : (pieces : List (List ℕ)) (piece : List ℕ) → joined (pieces ++ piece ∷ []) ≡ joined pieces ++ piece
joined_more [] piece = append_nil piece
joined_more (first ∷ pieces) piece = ap (λ rest. first ++ rest) (joined_more pieces piece) ∙ sym (append_assoc first (joined pieces) piece)

pub filled_more : (pieces : List (List ℕ)) (piece : List ℕ) → AreFilled pieces → 0 < length piece → AreFilled (pieces ++ piece ∷ [])
filled_more [] piece filled some = (some, tt)
filled_more (first ∷ pieces) piece filled some = (filled.0, filled_more pieces piece filled.1 some)

pub empty_only : (pieces : List (List ℕ)) → AreFilled pieces → joined pieces ≡ [] → pieces ≡ []
empty_only [] filled nothing = refl
empty_only ([] ∷ pieces) filled nothing = absurd (omega (arith, filled.0))
empty_only ((byte ∷ bytes) ∷ pieces) filled nothing = absurd (omega (arith, ap length nothing))

pub empty_told : (pieces : List (List ℕ)) (count : ℕ) → length pieces ≡ count → AreFilled pieces
    → (count ≡ 0 → joined pieces ≡ []) × (joined pieces ≡ [] → count ≡ 0)
empty_told [] count told filled = (λ none. refl, λ nothing. sym told)
empty_told (piece ∷ pieces) count told filled =
    (λ none. absurd (omega (arith, told, none)), λ nothing. absurd (omega (arith, ap length (empty_only (piece ∷ pieces) filled nothing))))
