-- Digits whose zeros at the end are cut off, one by one.
use Rattle.std.proofs.Common.{◌≡◌, ◌≢◌, ℕ, ◌-◌, ◌==◌, Bool, true, false, cond, ◌&&◌, List, [], ◌∷◌, ◌++◌, length, take, drop, Some, None, refl, sym, ap, ◌∙◌, arith, eqb-true}
use Rattle.std.proofs.Math.Seq.{drop-length}
use Rattle.std.proofs.lemmas.List.{take-append-drop}
use Rattle.std.proofs.lemmas.Str.{encode_ascii, len_utf8_ascii}
use Rattle.std.proofs.lemmas.Str.Pattern.{drop_at_char}
use Rattle.std.specs.List.{list_all}
use Rattle.std.specs.Str.Pattern.{FindsCharSuffix, CutsSuffixes, IsFullyTrimmed, IsTrimEndMatches}
use Rattle.std.proofs.lemmas.Bool.{and_parts}
use Rattle.smithy_core.specs.Format.{without_last_zeros}

abbrev are_zeros : List ℕ → Bool
are_zeros digits = list_all (λ d. d == 48) digits

are_zeros-zero : (ds : List ℕ) → are_zeros (ds ++ 48 ∷ []) ≡ are_zeros ds
are_zeros-zero [] = refl
are_zeros-zero (d ∷ ds) = ap (λ (b : Bool). (d == 48) && b) (are_zeros-zero ds)

-- one zero more at the end
without-zero : (ds : List ℕ) → without_last_zeros (ds ++ 48 ∷ []) ≡ without_last_zeros ds
without-zero [] = refl
without-zero (d ∷ ds) = ap (λ (b : Bool). cond b [] (d ∷ without_last_zeros (ds ++ 48 ∷ []))) (are_zeros-zero (d ∷ ds)) ∙ ap (λ (rest : List ℕ). cond (are_zeros (d ∷ ds)) [] (d ∷ rest)) (without-zero ds)

-- zeros end with a zero
last_is : (d : ℕ) (ds : List ℕ) → are_zeros (d ∷ ds) ≡ true → (front : List ℕ) × (d ∷ ds ≡ front ++ 48 ∷ [])
last_is d [] is = ([], ap (λ (n : ℕ). n ∷ []) (eqb-true d 48 (and_parts (d == 48) true is).0))
last_is d (e ∷ ds) is = let rest = last_is e ds (and_parts (d == 48) (are_zeros (e ∷ ds)) is).1 in (d ∷ rest.0, ap (λ (xs : List ℕ). d ∷ xs) rest.1)

-- digits that don't end with a zero
without_none : (ds : List ℕ) → ((front : List ℕ) → ds ≢ front ++ 48 ∷ []) → without_last_zeros ds ≡ ds
without_none [] other = refl
without_none (d ∷ ds) other = by_test (are_zeros (d ∷ ds)) (λ is. let last = last_is d ds is in other last.0 last.1) (without_none ds (λ front e. other (d ∷ front) (ap (λ (xs : List ℕ). d ∷ xs) e)))
  where
    by_test : (b : Bool) → (b ≡ true → ⊥) → without_last_zeros ds ≡ ds → cond b [] (d ∷ without_last_zeros ds) ≡ d ∷ ds
    by_test true never same = absurd (never refl)
    by_test false never same = ap (λ (xs : List ℕ). d ∷ xs) same

cut : (s r : List ℕ) (n : ℕ) → FindsCharSuffix 48 s (Some n) → r ≡ take (length s - n) s → s ≡ r ++ 48 ∷ []
cut s r n found is =
    let last : drop (length s - n) s ≡ 48 ∷ [] = drop_at_char 48 s (length s - n) (length s) found.1 (omega arith) ∙ ap (λ (xs : List ℕ). 48 ∷ xs) (drop-length s) in
    sym (take-append-drop (length s - n) s) ∙ ap (λ (xs : List ℕ). take (length s - n) s ++ xs) last ∙ ap (λ (xs : List ℕ). xs ++ 48 ∷ []) (sym is)

cuts : (ns s r : List ℕ) → CutsSuffixes (FindsCharSuffix 48) s ns r → without_last_zeros r ≡ without_last_zeros s
cuts [] s r done = ap without_last_zeros done
cuts (n ∷ ns) s r (m, before, found, is) = sym (without-zero r) ∙ ap without_last_zeros (sym (cut m r n found is)) ∙ cuts ns s m before

whole : (r : List ℕ) → IsFullyTrimmed (FindsCharSuffix 48) r → without_last_zeros r ≡ r
whole r (None, never, end) = without_none r (λ front e. never front (e ∙ ap (λ (xs : List ℕ). front ++ xs) (sym (encode_ascii 48 (omega arith)))))
whole r (Some n, found, none) = absurd (let wide = len_utf8_ascii 48 (omega arith) in omega (arith, wide, found.0, none))

-- a cut of all zeros at the end
pub trimmed : (s r : List ℕ) → IsTrimEndMatches (FindsCharSuffix 48) s r → r ≡ without_last_zeros s
trimmed s r is = sym (whole r is.1) ∙ cuts is.0.0 s r is.0.1
