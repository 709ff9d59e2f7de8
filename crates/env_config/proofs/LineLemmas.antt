-- Lines, and what stands around one byte, as `split_once`, `strip_prefix` and `strip_suffix` cut them.
use Rattle.std.proofs.Common.{◌≡◌, ◌≢◌, ℕ, suc, ◌<◌, Bool, true, false, cond, eqb, ◌&&◌, List, [], ◌∷◌, ◌++◌, length, take, get_or, ◌-◌, slice_range, refl, sym, ap, ◌∙◌, arith}
use Rattle.std.specs.Prelude.{Option, Some, None, MatchOption, option_map, option_copied, unwrap_or}
use Rattle.std.specs.Borrow.{Bor}
use Rattle.std.proofs.lemmas.Bool.{eqb-true, eq-eqb, ne_eqb, false_from_ne_true}
use Rattle.env_config.specs.Line.{after_byte, before_last, onto_first_line, profile_lines, without_cr}

-- ## One byte

after_front : (c : ℕ) (rest : List ℕ) → after_byte c (c ∷ rest) ≡ Some rest
after_front c rest = ap (λ (v : Bool). cond v (Some rest) None) (eq-eqb c c refl)

pub after_is : (c : ℕ) (text : List ℕ) (r : Option (Bor (List ℕ))) → MatchOption r ((rest : List ℕ) → text ≢ c ∷ rest) (λ rest. text ≡ c ∷ rest.now) → option_copied r ≡ after_byte c text
after_is c text (Some rest) is = sym (ap (after_byte c) is ∙ after_front c rest.now)
after_is c [] None is = refl
after_is c (b ∷ text) None is =
    sym (ap (λ (v : Bool). cond v (Some text) None) (false_from_ne_true (eqb b c) (λ e. is text (ap (λ (x : ℕ). x ∷ text) (eqb-true b c e)))))

last_is : (c : ℕ) (front : List ℕ) → before_last c (front ++ c ∷ []) ≡ Some front
last_is c [] = ap (λ (v : Bool). cond v (Some []) None) (eq-eqb c c refl)
last_is c (b ∷ []) = ap (option_map (λ front. b ∷ front)) (last_is c [])
last_is c (b ∷ d ∷ front) = ap (option_map (λ front. b ∷ front)) (last_is c (d ∷ front))

no_last : (c : ℕ) (text : List ℕ) → ((front : List ℕ) → text ≢ front ++ c ∷ []) → before_last c text ≡ None
no_last c [] none = refl
no_last c (b ∷ []) none =
    ap (λ (v : Bool). cond v (Some []) None) (false_from_ne_true (eqb b c) (λ e. none [] (ap (λ (x : ℕ). x ∷ []) (eqb-true b c e))))
no_last c (b ∷ d ∷ text) none =
    ap (option_map (λ front. b ∷ front)) (no_last c (d ∷ text) (λ front e. none (b ∷ front) (ap (λ xs. b ∷ xs) e)))

pub before_is : (c : ℕ) (text : List ℕ) (r : Option (Bor (List ℕ))) → MatchOption r ((front : List ℕ) → text ≢ front ++ c ∷ []) (λ front. text ≡ front.now ++ c ∷ []) → option_copied r ≡ before_last c text
before_is c text (Some front) is = sym (ap (before_last c) is ∙ last_is c front.now)
before_is c text None is = sym (no_last c text is)

-- ## Lines

cr_first : (b d : ℕ) (line : List ℕ) → without_cr (b ∷ d ∷ line) ≡ b ∷ without_cr (d ∷ line)
cr_first b d line = onto (before_last 13 (d ∷ line))
  where
    onto : (front : Option (List ℕ)) → unwrap_or (option_map (λ front. b ∷ front) front) (b ∷ d ∷ line) ≡ b ∷ unwrap_or front (d ∷ line)
    onto None = refl
    onto (Some front) = refl

cr_only : (b : ℕ) (lines : List (List ℕ)) (v : Bool) → cond (v && true) ([] ∷ lines) ((b ∷ []) ∷ lines) ≡ unwrap_or (cond v (Some []) None) (b ∷ []) ∷ lines
cr_only b lines true = refl
cr_only b lines false = refl

pub and_no : {A : Type 0} (v : Bool) (x y : A) → cond (v && false) x y ≡ y
and_no true x y = refl
and_no false x y = refl

-- a line that ends at an LF
pub lines_first : (line rest : List ℕ) → ((i : ℕ) → i < length line → get_or line i 0 ≢ 10) → profile_lines (line ++ 10 ∷ rest) ≡ without_cr line ∷ profile_lines rest
unfolding profile_lines
lines_first [] rest none = refl
lines_first (b ∷ []) rest none =
    ap (λ (v : Bool). cond v ([] ∷ [] ∷ profile_lines rest) (cond (eqb b 13 && true) ([] ∷ profile_lines rest) ((b ∷ []) ∷ profile_lines rest))) (ne_eqb b 10 (none 0 (omega arith)))
    ∙ cr_only b (profile_lines rest) (eqb b 13)
lines_first (b ∷ d ∷ line) rest none =
    let more = profile_lines (d ∷ line ++ 10 ∷ rest) in
    let again : more ≡ without_cr (d ∷ line) ∷ profile_lines rest = lines_first (d ∷ line) rest (λ i within. none (suc i) (omega arith)) in
    ap (λ (v : Bool). cond v ([] ∷ more) (cond (eqb b 13 && eqb d 10) more (onto_first_line b more))) (ne_eqb b 10 (none 0 (omega arith)))
    ∙ ap (λ (v : Bool). cond (eqb b 13 && v) more (onto_first_line b more)) (ne_eqb d 10 (none 1 (omega arith)))
    ∙ and_no (eqb b 13) more (onto_first_line b more)
    ∙ ap (onto_first_line b) again
    ∙ ap (λ (xs : List ℕ). xs ∷ profile_lines rest) (sym (cr_first b d line))

-- the last line, which lacks it
pub lines_last : (line : List ℕ) → 0 < length line → ((i : ℕ) → i < length line → get_or line i 0 ≢ 10) → profile_lines line ≡ line ∷ profile_lines []
unfolding profile_lines
lines_last [] some none = absurd (omega arith)
lines_last (b ∷ []) some none =
    ap (λ (v : Bool). cond v ([] ∷ []) (cond (eqb b 13 && false) [] ((b ∷ []) ∷ []))) (ne_eqb b 10 (none 0 (omega arith)))
    ∙ and_no (eqb b 13) [] ((b ∷ []) ∷ [])
lines_last (b ∷ d ∷ line) some none =
    let more = profile_lines (d ∷ line) in
    ap (λ (v : Bool). cond v ([] ∷ more) (cond (eqb b 13 && eqb d 10) more (onto_first_line b more))) (ne_eqb b 10 (none 0 (omega arith)))
    ∙ ap (λ (v : Bool). cond (eqb b 13 && v) more (onto_first_line b more)) (ne_eqb d 10 (none 1 (omega arith)))
    ∙ and_no (eqb b 13) more (onto_first_line b more)
    ∙ ap (onto_first_line b) (lines_last (d ∷ line) (omega arith) (λ i within. none (suc i) (omega arith)))

-- no bytes are no lines
pub lines_over : (rest : List ℕ) → length rest ≡ 0 → profile_lines rest ≡ []
unfolding profile_lines
lines_over [] none = refl
lines_over (b ∷ rest) none = absurd (omega arith)

-- ## Slices

-- a slice from the start
pub front_range : (text : List ℕ) (n : ℕ) → slice_range text 0 n ≡ take n text
front_range text n = let same : n - 0 ≡ n = omega arith in ap (λ k. take k text) same
