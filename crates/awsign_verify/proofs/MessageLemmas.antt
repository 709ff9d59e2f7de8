-- Spaces and tabs at the ends of a text.
use Rattle.std.proofs.Common.{◌≡◌, ◌≢◌, ℕ, List, [], ◌∷◌, ◌++◌, Option, Some, None, inl, inr, refl, sym, ap, ◌∙◌, reverse}
use Rattle.std.specs.Borrow.{Bor}
use Rattle.std.specs.Option.{MatchOption}
use Rattle.std.proofs.lemmas.Bool.{cases_eq, ne_eqb}
use Rattle.std.proofs.lemmas.List.{reverse-append, reverse-reverse}
use Rattle.awsign_verify.specs.Message.{CutsEndBlank, CutsFrontBlank, skip_blanks}

-- a text that begins with neither has nothing to skip
unskipped : (text : List ℕ) → ((rest : List ℕ) → text ≢ 32 ∷ rest) → ((rest : List ℕ) → text ≢ 9 ∷ rest) → skip_blanks text ≡ text
unskipped [] no_space no_tab = refl
unskipped (byte ∷ text) no_space no_tab =
    elim (cases_eq byte 32) [
      | inl is ↦ absurd (no_space text (rw is refl))
      | inr space ↦ elim (cases_eq byte 9) [
        | inl is ↦ absurd (no_tab text (rw is refl))
        | inr tab ↦ rw (ne_eqb byte 32 space, ne_eqb byte 9 tab) refl
      ]
    ]

-- what a text without a space before it begins with
pub cuts_front : (text : List ℕ) (r : Option (Bor (List ℕ))) → ((rest : List ℕ) → text ≢ 32 ∷ rest)
    → MatchOption r ((rest : List ℕ) → text ≢ 9 ∷ rest) (λ x. text ≡ 9 ∷ x.now) → CutsFrontBlank text r
cuts_front text None no_space no_tab = unskipped text no_space no_tab
cuts_front text (Some rest) no_space is = (9, refl, is)

-- a text that is read from its end
turned : (byte : ℕ) (text rest : List ℕ) → reverse text ≡ byte ∷ rest → text ≡ reverse rest ++ byte ∷ []
turned byte text rest is = sym (reverse-reverse text) ∙ (ap reverse is ∙ reverse-append (byte ∷ []) rest)

-- what a text without a space at its end ends with
pub cuts_end : (text : List ℕ) (r : Option (Bor (List ℕ))) → ((front : List ℕ) → text ≢ front ++ 32 ∷ [])
    → MatchOption r ((front : List ℕ) → text ≢ front ++ 9 ∷ []) (λ x. text ≡ x.now ++ 9 ∷ []) → CutsEndBlank text r
cuts_end text None no_space no_tab =
    ap reverse (unskipped (reverse text) (λ rest is. no_space (reverse rest) (turned 32 text rest is)) (λ rest is. no_tab (reverse rest) (turned 9 text rest is)))
    ∙ reverse-reverse text
cuts_end text (Some front) no_space is = (9, refl, is)
