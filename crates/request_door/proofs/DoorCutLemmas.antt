-- Texts that are cut at the first place of a mark, and at the last comma.
use Rattle.std.proofs.Common.{◌≡◌, ℕ, ◌≤◌, ◌==◌, Bool, true, false, ◌||◌, List, [], ◌∷◌, ◌++◌, length, take, drop, Option, Some, None, inl, inr, refl, sym, ap, ◌∙◌, arith, true≢false, append_assoc}
use Rattle.std.specs.Borrow.{Bor}
use Rattle.std.specs.List.{list_any}
use Rattle.std.specs.Option.{MatchOption}
use Rattle.std.specs.Str.Pattern.{FindsText, SplitsAroundMatch}
use Rattle.std.proofs.lemmas.Bool.{cases_lt, eqb-true}
use Rattle.std.proofs.lemmas.List.{length-append, take-append-drop}
use Rattle.std.proofs.lemmas.List.Folds.{list_any-append}
use Rattle.request_check.specs.Cuts.{CutsLast}
use Rattle.request_check.proofs.CutLemmas.{fits_before, heads, rest_behind, tails}
use Rattle.request_door.specs.DoorAuthorization.{CutsFirst, has_comma}

-- the clause of `split_once` at a text
pub cuts_first : (mark text : List ℕ) (r : Option (Bor (List ℕ) × Bor (List ℕ)))
    → MatchOption r (FindsText mark text None) (λ x. SplitsAroundMatch (FindsText mark) text x.0.now x.1.now) → CutsFirst mark text r
cuts_first mark text None lacks = λ front back same. lacks (length front) (fits_before front (mark ++ back) text same) back (rest_behind front (mark ++ back) text same)
cuts_first mark text (Some parts) (i, j, found, before, after, bound, at, past) = (
  sym (take-append-drop i text) ∙ ap (λ (back : List ℕ). take i text ++ back) found.1.split
      ∙ (ap (λ (front : List ℕ). front ++ (mark ++ drop j text)) (sym before) ∙ ap (λ (back : List ℕ). parts.0.now ++ (mark ++ back)) (sym after)),
  λ front back same. at_least front back same,
)
  where
    at_least : (front back : List ℕ) → text ≡ front ++ (mark ++ back) → length parts.0.now ≤ length front
    at_least front back same = elim (cases_lt (length front) i) [
      | inl earlier ↦ absurd (found.0 (length front) earlier back (rest_behind front (mark ++ back) text same))
      | inr not_earlier ↦ omega (arith, not_earlier, at)
    ]

-- ---- commas

comma_within : (front rest : List ℕ) → has_comma (front ++ 44 ∷ rest) ≡ true
unfolding has_comma
comma_within front rest =
    list_any-append (λ b. b == 44) front (44 ∷ rest) ∙ either (list_any (λ b. b == 44) front)
  where
    either : (b : Bool) → (b || true) ≡ true
    either true = refl
    either false = refl

-- of two places of a comma, the one that isn't before the other and after which there is no comma is the other
pub same_comma : (front back f b : List ℕ) → has_comma b ≡ false → length f ≤ length front → f ++ 44 ∷ b ≡ front ++ 44 ∷ back → (f ≡ front) × (b ≡ back)
same_comma [] back [] b none le e = (refl, tails e)
same_comma (x ∷ front) back [] b none le e = absurd (true≢false (sym (comma_within front back) ∙ (ap has_comma (sym (tails e)) ∙ none)))
same_comma [] back (x ∷ f) b none le e = absurd (omega (arith, le))
same_comma (y ∷ front) back (x ∷ f) b none le e =
    let more = same_comma front back f b none (omega (arith, le)) (tails e) in
    ((ap (λ z. z ∷ f) (heads e) ∙ ap (λ (zs : List ℕ). y ∷ zs) more.0), more.1)

-- two places of a comma, after both of which there is none, are one
pub one_comma : (front back f b : List ℕ) → has_comma back ≡ false → has_comma b ≡ false → f ++ 44 ∷ b ≡ front ++ 44 ∷ back → (f ≡ front) × (b ≡ back)
one_comma front back f b no_back no_b e = elim (cases_lt (length front) (length f)) [
  | inl less ↦ let same = same_comma f b front back no_back (omega (arith, less)) (sym e) in (sym same.0, sym same.1)
  | inr at_most ↦ same_comma front back f b no_b at_most e
]

-- a text that holds a comma is cut by it
comma_found : (text : List ℕ) → has_comma text ≡ true → (front : List ℕ) × (back : List ℕ) × (text ≡ front ++ 44 ∷ back)
unfolding has_comma
comma_found [] e = absurd (true≢false (sym e))
comma_found (b ∷ text) e = by_byte (b == 44) refl e (comma_found text)
  where
    by_byte : (is : Bool) → (b == 44) ≡ is → (is || list_any (λ b. b == 44) text) ≡ true
        → (list_any (λ b. b == 44) text ≡ true → (front : List ℕ) × (back : List ℕ) × (text ≡ front ++ 44 ∷ back))
        → (front : List ℕ) × (back : List ℕ) × (b ∷ text ≡ front ++ 44 ∷ back)
    by_byte true same here more = ([], text, ap (λ (z : ℕ). z ∷ text) (eqb-true b 44 same))
    by_byte false same here more = let rest = more here in (b ∷ rest.0, rest.1, ap (λ (zs : List ℕ). b ∷ zs) rest.2)

-- after the last comma there is none
pub last_comma : (text : List ℕ) (parts : Bor (List ℕ) × Bor (List ℕ)) → CutsLast (44 ∷ []) text (Some parts) → has_comma parts.1.now ≡ false
last_comma text parts cut = by (has_comma parts.1.now) refl
  where
    by : (is : Bool) → has_comma parts.1.now ≡ is → is ≡ false
    by false e = refl
    by true e =
        let at = comma_found parts.1.now e in
        let longer : length (parts.0.now ++ (44 ∷ at.0)) ≤ length parts.0.now =
        cut.1 (parts.0.now ++ (44 ∷ at.0)) at.1
        (cut.0 ∙ (ap (λ (back : List ℕ). parts.0.now ++ (44 ∷ back)) at.2 ∙ sym (append_assoc parts.0.now (44 ∷ at.0) (44 ∷ at.1)))) in
        absurd (omega (arith, longer, length-append parts.0.now (44 ∷ at.0)))
