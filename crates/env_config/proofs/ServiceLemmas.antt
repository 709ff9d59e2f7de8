-- A text in which another one stands for each space.
use Rattle.std.proofs.Common.{◌≡◌, ◌≢◌, ℕ, suc, ◌<◌, Bool, cond, List, [], ◌∷◌, ◌++◌, length, get_or, refl, sym, ap, ◌∙◌, append_assoc, arith}
use Rattle.std.proofs.lemmas.Bool.{ne_eqb}
use Rattle.env_config.specs.Value.{with_spaces_as}

-- the first word ends at a space
pub spaces_first : (sign word rest : List ℕ) → ((i : ℕ) → i < length word → get_or word i 0 ≢ 32) → with_spaces_as sign (word ++ 32 ∷ rest) ≡ word ++ (sign ++ with_spaces_as sign rest)
spaces_first sign [] rest none = refl
spaces_first sign (b ∷ word) rest none =
    let more = with_spaces_as sign (word ++ 32 ∷ rest) in
    ap (λ (v : Bool). cond v (sign ++ more) (b ∷ more)) (ne_eqb b 32 (none 0 (omega arith)))
    ∙ ap (λ (xs : List ℕ). b ∷ xs) (spaces_first sign word rest (λ i within. none (suc i) (omega arith)))

-- a text without spaces stays
pub spaces_none : (sign word : List ℕ) → ((i : ℕ) → i < length word → get_or word i 0 ≢ 32) → with_spaces_as sign word ≡ word
spaces_none sign [] none = refl
spaces_none sign (b ∷ word) none =
    let more = with_spaces_as sign word in
    ap (λ (v : Bool). cond v (sign ++ more) (b ∷ more)) (ne_eqb b 32 (none 0 (omega arith)))
    ∙ ap (λ (xs : List ℕ). b ∷ xs) (spaces_none sign word (λ i within. none (suc i) (omega arith)))

-- a word and the sign more
pub spaces_more : (sign done word rest others first second all : List ℕ) → rest ≡ word ++ 32 ∷ others → ((i : ℕ) → i < length word → get_or word i 0 ≢ 32) → first ≡ done ++ word → second ≡ first ++ sign
    → done ++ with_spaces_as sign rest ≡ all → second ++ with_spaces_as sign others ≡ all
spaces_more sign done word rest others first second all cut none first_is second_is so_far =
    let more = with_spaces_as sign others in
    ap (λ (xs : List ℕ). xs ++ more) (second_is ∙ ap (λ (xs : List ℕ). xs ++ sign) first_is)
    ∙ append_assoc (done ++ word) sign more ∙ append_assoc done word (sign ++ more)
    ∙ ap (λ (xs : List ℕ). done ++ xs) (sym (ap (with_spaces_as sign) cut ∙ spaces_first sign word others none))
    ∙ so_far
