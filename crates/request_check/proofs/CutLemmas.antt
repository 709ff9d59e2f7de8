-- Texts that are cut at the last place of a mark, and at their end.
use Rattle.std.proofs.Common.{◌≡◌, ℕ, ◌≤◌, ◌==◌, Bool, true, false, ◌||◌, List, [], ◌∷◌, ◌++◌, length, take, drop, Option, Some, None, inl, inr, refl, sym, ap, ◌∙◌, arith, true≢false}
use Rattle.std.specs.Borrow.{Bor}
use Rattle.std.specs.List.{list_any}
use Rattle.std.specs.Option.{MatchOption}
use Rattle.std.specs.Str.Pattern.{FindsTextSuffix, RFindsText, SplitsAroundMatch, StripsSuffix}
use Rattle.std.proofs.Math.Seq.{drop-append_seam}
use Rattle.std.proofs.lemmas.Bool.{cases_lt}
use Rattle.std.proofs.lemmas.List.{append_cancel_left, length-append, take-append-drop}
use Rattle.std.proofs.lemmas.List.Folds.{list_any-append}
use Rattle.request_check.specs.Cuts.{CutsEnd, CutsLast}
use Rattle.request_check.specs.SealTexts.{has_space}

pub rest_behind : (front back text : List ℕ) → text ≡ front ++ back → drop (length front) text ≡ back
rest_behind front back text same = ap (drop (length front)) same ∙ drop-append_seam front back

pub fits_before : (front back text : List ℕ) → text ≡ front ++ back → length front ≤ length text
fits_before front back text same = omega (arith, ap length same, length-append front back)

-- the clause of `rsplit_once` at a text
pub cuts_last : (mark text : List ℕ) (r : Option (Bor (List ℕ) × Bor (List ℕ)))
    → MatchOption r (RFindsText mark text None) (λ x. SplitsAroundMatch (RFindsText mark) text x.0.now x.1.now) → CutsLast mark text r
cuts_last mark text None lacks = λ front back same. lacks (length front) (fits_before front (mark ++ back) text same) back (rest_behind front (mark ++ back) text same)
cuts_last mark text (Some parts) (i, j, found, before, after, bound, at, past) = (
  sym (take-append-drop i text) ∙ ap (λ (back : List ℕ). take i text ++ back) found.1.split
      ∙ (ap (λ (front : List ℕ). front ++ (mark ++ drop j text)) (sym before) ∙ ap (λ (back : List ℕ). parts.0.now ++ (mark ++ back)) (sym after)),
  λ front back same. at_most front back same,
)
  where
    at_most : (front back : List ℕ) → text ≡ front ++ (mark ++ back) → length front ≤ length parts.0.now
    at_most front back same = elim (cases_lt i (length front)) [
      | inl later ↦ absurd (found.0 (length front) later (fits_before front (mark ++ back) text same) back (rest_behind front (mark ++ back) text same))
      | inr not_later ↦ omega (arith, not_later, at)
    ]

-- the clause of `strip_suffix` at a text
pub cuts_end : (end text : List ℕ) (r : Option (Bor (List ℕ))) → MatchOption r (FindsTextSuffix end text None) (λ x. StripsSuffix (FindsTextSuffix end) text x.now)
    → CutsEnd end text r
cuts_end end text None lacks = lacks
cuts_end end text (Some front) (n, found, is, fits) = found.1 ∙ ap (λ (before : List ℕ). before ++ end) (sym is)

-- ---- one reading

abbrev mark : List ℕ → List ℕ
mark tail = 44 ∷ 32 ∷ tail

-- a text with a space in it
space_within : (front rest : List ℕ) → has_space (front ++ mark rest) ≡ true
unfolding has_space
space_within front rest =
    list_any-append (λ b. b == 32) front (mark rest) ∙ either (list_any (λ b. b == 32) front)
  where
    either : (b : Bool) → (b || true) ≡ true
    either true = refl
    either false = refl

no_space_joined : (xs ys : List ℕ) → has_space xs ≡ false → has_space ys ≡ false → has_space (xs ++ ys) ≡ false
unfolding has_space
no_space_joined xs ys x y = list_any-append (λ b. b == 32) xs ys ∙ rw (x, y) refl

pub heads : {A : Type 0} {x y : A} {xs ys : List A} → x ∷ xs ≡ y ∷ ys → x ≡ y
heads {A} {x} e = ap (λ (l : List A). first x l) e
  where
    first : A → List A → A
    first other [] = other
    first other (z ∷ zs) = z

pub tails : {A : Type 0} {x y : A} {xs ys : List A} → x ∷ xs ≡ y ∷ ys → xs ≡ ys
tails e = ap (drop 1) e

-- of two places of a mark, the one that isn't before the other and after which there is no space is the other
pub same_cut : (tail front back f b : List ℕ) → has_space tail ≡ false → has_space b ≡ false → length f ≤ length front
    → f ++ (mark tail ++ b) ≡ front ++ (mark tail ++ back) → (f ≡ front) × (b ≡ back)
same_cut tail [] back [] b t none le e = (refl, append_cancel_left (mark tail) b back e)
same_cut tail (x ∷ []) back [] b t none le e = absurd (different (heads (tails e)))
  where
    different : ◌≡◌ {A = ℕ} 32 44 → ⊥
    different same = omega (arith, same)
same_cut tail (x ∷ y ∷ front) back [] b t none le e =
    absurd (true≢false (sym (ap has_space (tails (tails e)) ∙ space_within front (tail ++ back)) ∙ no_space_joined tail b t none))
same_cut tail [] back (x ∷ f) b t none le e = absurd (omega (arith, le))
same_cut tail (y ∷ front) back (x ∷ f) b t none le e =
    let more = same_cut tail front back f b t none (omega (arith, le)) (tails e) in
    ((ap (λ z. z ∷ f) (heads e) ∙ ap (λ (zs : List ℕ). y ∷ zs) more.0), more.1)

-- two places of a mark, after both of which there is no space, are one
pub one_cut : (tail front back f b : List ℕ) → has_space tail ≡ false → has_space back ≡ false → has_space b ≡ false
    → f ++ (mark tail ++ b) ≡ front ++ (mark tail ++ back) → (f ≡ front) × (b ≡ back)
one_cut tail front back f b t no_back no_b e = elim (cases_lt (length front) (length f)) [
  | inl less ↦ let same = same_cut tail f b front back t no_back (omega (arith, less)) (sym e) in (sym same.0, sym same.1)
  | inr at_most ↦ same_cut tail front back f b t no_b at_most e
]
