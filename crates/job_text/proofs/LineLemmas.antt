-- Lines and words, as `split_once` cuts them.
use Rattle.std.proofs.Common.{◌≡◌, ◌≢◌, get_or, ℕ, ◌+◌, ◌<◌, ◌≤◌, Bool, true, false, ◌&&◌, cond, eqb, not, List, [], ◌∷◌, length, take, drop, zero, suc, refl, sym, ap, ◌∙◌, arith, add-one, option_map}
use Rattle.std.specs.Prelude.{Option, Some, None, Result, Ok, Err, MatchOption}
use Rattle.std.specs.Borrow.{Bor}
use Rattle.std.specs.List.{position_or_len, before_first, after_first, onto_first}
use Rattle.std.specs.Str.{IsUtf8}
use Rattle.std.specs.Str.Pattern.{FindsText}
use Rattle.std.specs.Str.Lossy.{utf8_valid_len}
use Rattle.std.proofs.lemmas.Bool.{and_parts, eq-eqb, eqb-true}
use Rattle.std.proofs.lemmas.Str.{utf8_valid_len-IsUtf8}
use Rattle.job_text.specs.Fault.{placed}
use Rattle.job_text.specs.Lines.{Moves, TakesLines, job_lines, header_of_line, text_lines, texts_of_pair}
use Rattle.job_text.specs.Pieces.{taken_from}
use Rattle.job_text.specs.declared.fault.LineFault.{LineFault}
use Rattle.job_text.specs.declared.fault.LineFault.TheVariants.{Bad, NoMemory}

abbrev is_lf : ℕ → Bool
is_lf b = eqb b 10

-- a byte before a cut joins the first line
onto_cut : (b : ℕ) (bytes : List ℕ) (n : ℕ) → (b ∷ take n bytes) ∷ job_lines (drop (n + 1) bytes) ≡ take (1 + n) (b ∷ bytes) ∷ job_lines (drop (1 + n + 1) (b ∷ bytes))
onto_cut b bytes n =
    let one : 1 + n ≡ suc n = omega arith in
    rw (one, add-one, add-one) refl

-- the first line ends at an LF
pub lines_first : (bytes : List ℕ) → position_or_len is_lf bytes < length bytes → job_lines bytes ≡ before_first is_lf bytes ∷ job_lines (after_first is_lf bytes)
unfolding job_lines
lines_first [] within = absurd (omega arith)
lines_first (b ∷ bytes) within = by_lf (lines_first bytes) (eqb b 10) within
  where
    by_lf : (position_or_len is_lf bytes < length bytes → job_lines bytes ≡ before_first is_lf bytes ∷ job_lines (after_first is_lf bytes)) → (v : Bool) → cond (not v) (1 + position_or_len is_lf bytes) 0 < length (b ∷ bytes)
        → cond v ([] ∷ job_lines bytes) (onto_first b (job_lines bytes)) ≡ take (cond (not v) (1 + position_or_len is_lf bytes) 0) (b ∷ bytes) ∷ job_lines (drop (cond (not v) (1 + position_or_len is_lf bytes) 0 + 1) (b ∷ bytes))
    by_lf again true h = refl
    by_lf again false h = ap (onto_first b) (again (omega arith)) ∙ onto_cut b bytes (position_or_len is_lf bytes)

-- the last line, which lacks it
pub lines_last : (bytes : List ℕ) → 0 < length bytes → position_or_len is_lf bytes ≡ length bytes → job_lines bytes ≡ bytes ∷ job_lines []
unfolding job_lines
lines_last [] some none = absurd (omega arith)
lines_last (b ∷ []) some none = by_lf (eqb b 10) none
  where
    by_lf : (v : Bool) → cond (not v) (1 + 0) 0 ≡ 1 → cond v ([] ∷ []) (onto_first b []) ≡ (b ∷ []) ∷ []
    by_lf true h = absurd (omega arith)
    by_lf false h = refl
lines_last (b ∷ c ∷ bytes) some none = by_lf (lines_last (c ∷ bytes) (omega arith)) (eqb b 10) none
  where
    by_lf : (position_or_len is_lf (c ∷ bytes) ≡ length (c ∷ bytes) → job_lines (c ∷ bytes) ≡ (c ∷ bytes) ∷ []) → (v : Bool) → cond (not v) (1 + position_or_len is_lf (c ∷ bytes)) 0 ≡ length (b ∷ c ∷ bytes)
        → cond v ([] ∷ job_lines (c ∷ bytes)) (onto_first b (job_lines (c ∷ bytes))) ≡ (b ∷ c ∷ bytes) ∷ []
    by_lf again true h = absurd (omega arith)
    by_lf again false h = ap (onto_first b) (again (omega arith))

-- no bytes are no lines
pub lines_end : (bytes : List ℕ) → length bytes ≡ 0 → job_lines bytes ≡ []
unfolding job_lines
lines_end [] none = refl
lines_end (b ∷ bytes) none = absurd (omega arith)

pub ruleset lines = (lines_first, lines_last)

-- where no bytes are left, the lines are over
pub lines_over : {D : Type 0} (step : D → List ℕ → Option D) (place : ℕ) (draft : D) (rest : List ℕ) → length rest ≡ 0 → taken_from step place draft (job_lines rest) ≡ Ok (draft, place)
lines_over step place draft rest none = rw (lines_end rest none) refl

-- a line that doesn't move the draft decides
pub faulty_line : {D : Type 0} (step : D → List ℕ → Option D) (place : ℕ) (draft : D) (line : List ℕ) (lines : List (List ℕ)) (taken : Result (D × ℕ) ℕ) (now : D) (fault : LineFault)
    → taken_from step place draft (line ∷ lines) ≡ taken → Moves (step draft line) now (Err fault) → TakesLines taken now (Err (placed place fault))
faulty_line step place draft line lines taken now Bad is moves = rw (← is, moves) refl
faulty_line step place draft line lines taken now NoMemory is moves = tt

-- a text has its lines
pub lines_of_text : (bytes : List ℕ) → IsUtf8 bytes → text_lines bytes ≡ Ok (job_lines bytes)
unfolding text_lines
lines_of_text bytes is =
    let all : eqb (utf8_valid_len bytes) (length bytes) ≡ true = eq-eqb (utf8_valid_len bytes) (length bytes) (utf8_valid_len-IsUtf8 bytes is) in
    rw all refl

-- ## Pairs

-- where the test says so, `: ` stands first
begins_pair : (b : ℕ) (bytes : List ℕ) → (eqb b 58 && eqb (get_or bytes 0 0) 32) ≡ true → (rest : List ℕ) × (b ∷ bytes ≡ 58 ∷ 32 ∷ rest)
begins_pair b [] is = let parts = and_parts (eqb b 58) false is in cc
begins_pair b (c ∷ bytes) is = let parts = and_parts (eqb b 58) (eqb c 32) is in (bytes, rw (eqb-true b 58 parts.0, eqb-true c 32 parts.1) refl)

-- where `: ` stands nowhere, there is no pair
pair_none : (bs : List ℕ) → ((i : ℕ) → i ≤ length bs → (rest : List ℕ) → drop i bs ≢ 58 ∷ 32 ∷ rest) → header_of_line bs ≡ None
unfolding header_of_line
pair_none [] lacks = refl
pair_none (b ∷ bytes) lacks = by_test (eqb b 58 && eqb (get_or bytes 0 0) 32) refl (pair_none bytes (λ i within rest. lacks (suc i) (omega arith) rest))
  where
    by_test : (v : Bool) → (eqb b 58 && eqb (get_or bytes 0 0) 32) ≡ v → header_of_line bytes ≡ None
        → cond {A = Option (List ℕ × List ℕ)} v (Some ([], drop 1 bytes)) (option_map (λ (pair : List ℕ × List ℕ). (b ∷ pair.0, pair.1)) (header_of_line bytes)) ≡ None
    by_test true is again = let first = begins_pair b bytes is in absurd (lacks 0 (omega arith) first.0 first.1)
    by_test false is again = rw again refl

-- where it stands first at a place, the pair is what stands before and what stands after
pair_some : (bs : List ℕ) (i : ℕ) (tail : List ℕ) → drop i bs ≡ 58 ∷ 32 ∷ tail → ((k : ℕ) → k < i → (rest : List ℕ) → drop k bs ≢ 58 ∷ 32 ∷ rest)
    → header_of_line bs ≡ Some (take i bs, tail)
unfolding header_of_line
pair_some [] zero tail here lacks = cc
pair_some [] (suc i) tail here lacks = cc
pair_some (b ∷ bytes) zero tail here lacks =
    let whole : b ∷ bytes ≡ 58 ∷ 32 ∷ tail = here in
    let first : b ≡ 58 = cc in
    let others : bytes ≡ 32 ∷ tail = cc in
    rw (first, others) refl
pair_some (b ∷ bytes) (suc i) tail here lacks =
    by_test (eqb b 58 && eqb (get_or bytes 0 0) 32) refl (pair_some bytes i tail here (λ k before rest. lacks (suc k) (omega arith) rest))
  where
    by_test : (v : Bool) → (eqb b 58 && eqb (get_or bytes 0 0) 32) ≡ v → header_of_line bytes ≡ Some (take i bytes, tail)
        → cond {A = Option (List ℕ × List ℕ)} v (Some ([], drop 1 bytes)) (option_map (λ (pair : List ℕ × List ℕ). (b ∷ pair.0, pair.1)) (header_of_line bytes)) ≡ Some (b ∷ take i bytes, tail)
    by_test true is again = let first = begins_pair b bytes is in absurd (lacks 0 (omega arith) first.0 first.1)
    by_test false is again = rw again refl

-- what `split_once` gives at `: `
pub pair_cut : (bs : List ℕ) (r : Option (Bor (List ℕ) × Bor (List ℕ))) → MatchOption r (FindsText (58 ∷ 32 ∷ []) bs None)
    (λ x. (i : ℕ) × (j : ℕ) × FindsText (58 ∷ 32 ∷ []) bs (Some (i, j)) × (x.0.now ≡ take i bs) × (x.1.now ≡ drop j bs) × (i ≤ j) × (length x.0.now ≡ i) × (length x.1.now + j ≡ length bs))
    → texts_of_pair r ≡ header_of_line bs
pair_cut bs None found = sym (pair_none bs (λ i within rest. found i within rest))
pair_cut bs (Some x) found =
    let place = found.2 in
    rw (found.3, found.4) (sym (pair_some bs found.0 (drop found.1 bs) place.1.split (λ k before rest. place.0 k before rest)))
