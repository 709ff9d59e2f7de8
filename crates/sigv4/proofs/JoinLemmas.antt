-- Texts that are cut at a byte, and joined with it.
use Rattle.std.proofs.Common.{◌≡◌, ℕ, ◌==◌, Bool, true, false, cond, List, [], ◌∷◌, ◌++◌, All, refl, sym, ap, ◌∙◌, append_assoc}
use Rattle.std.specs.List.{AllByRecursion, join_with_byte, onto_first, slice_split}
use Rattle.std.proofs.lemmas.Bool.{eq-eqb}
use Rattle.std.proofs.lemmas.List.Elements.{All-cons, All-nil}
use Rattle.std.proofs.lemmas.List.Splits.{slice_split_at, slice_split_none}

-- the byte isn't in the text
abbrev pub Lacks : ℕ → List ℕ → Type 0
Lacks c text = All (λ b. (b == c) ≡ false) text

-- and in none of the pieces
abbrev pub AllLack : ℕ → List (List ℕ) → Type 0
AllLack c pieces = AllByRecursion (Lacks c) pieces

-- there is no piece
abbrev pub is_none : List (List ℕ) → Bool
is_none [] = true
is_none (piece ∷ pieces) = false

-- one more piece, after the byte where it isn't the first
pub join_more : (c : ℕ) (pieces : List (List ℕ)) (piece : List ℕ) → join_with_byte c (pieces ++ piece ∷ []) ≡ join_with_byte c pieces ++ (cond (is_none pieces) [] (c ∷ []) ++ piece)
join_more c [] piece = refl
join_more c (first ∷ []) piece = refl
join_more c (first ∷ next ∷ pieces) piece =
    ap (λ (rest : List ℕ). first ++ (c ∷ rest)) (join_more c (next ∷ pieces) piece)
    ∙ sym (append_assoc first (c ∷ join_with_byte c (next ∷ pieces)) (c ∷ piece))

-- the pieces, joined, are cut into the pieces again
pub split_joined : (c : ℕ) (first : List ℕ) (pieces : List (List ℕ)) → AllLack c (first ∷ pieces) → slice_split (λ b. b == c) (join_with_byte c (first ∷ pieces)) ≡ first ∷ pieces
split_joined c first [] lack = slice_split_none (λ b. b == c) first lack.0
split_joined c first (next ∷ pieces) lack =
    slice_split_at (λ b. b == c) first c (join_with_byte c (next ∷ pieces)) lack.0 (eq-eqb c c refl)
    ∙ ap (λ (rest : List (List ℕ)). first ∷ rest) (split_joined c next pieces lack.1)

-- a byte that isn't the one goes to the first piece
onto_lacks : (c b : ℕ) (pieces : List (List ℕ)) → (b == c) ≡ false → AllLack c pieces → AllLack c (onto_first b pieces)
onto_lacks c b [] other lack = (All-cons (λ x. (x == c) ≡ false) b [] other (All-nil (λ x. (x == c) ≡ false)), tt)
onto_lacks c b (piece ∷ pieces) other lack = (All-cons (λ x. (x == c) ≡ false) b piece other lack.0, lack.1)

-- no piece of what is cut has the byte
pub split_lacks : (c : ℕ) (text : List ℕ) → AllLack c (slice_split (λ b. b == c) text)
split_lacks c [] = (All-nil (λ x. (x == c) ≡ false), tt)
split_lacks c (b ∷ text) = by (b == c) refl (split_lacks c text)
  where
    by : (same : Bool) → (b == c) ≡ same → AllLack c (slice_split (λ x. x == c) text) → AllLack c (cond same ([] ∷ slice_split (λ x. x == c) text) (onto_first b (slice_split (λ x. x == c) text)))
    by true is lack = (All-nil (λ x. (x == c) ≡ false), lack)
    by false is lack = onto_lacks c b (slice_split (λ x. x == c) text) is lack
