-- Runs of bytes that pass a test, and bytes of one length: what stands first is told by what follows.
use Rattle.std.proofs.Common.{◌≡◌, ℕ, ◌<◌, ◌≤◌, Bool, false, List, [], ◌∷◌, ◌++◌, length, All, IsTrue, inl, inr, slice_index, take, drop, drop-cons, get_or-take, length-take-le, refl, ap, sym, subst, ◌∙◌, arith}
use Rattle.std.proofs.lemmas.Bool.{cases_lt, false≢true}
use Rattle.std.proofs.lemmas.List.{drop_all}
use Rattle.std.proofs.lemmas.List.Elements.{All-from_get_or, All-head, All-tail}
use Rattle.std.proofs.lemmas.Option.{none-some, same_Some}
use Rattle.aws_chunked.specs.Rests.{begins_with, first_byte}
use Rattle.aws_chunked.specs.TailRests.{EndsRun}

pub same_first : (test : ℕ → Bool) (text rest : List ℕ) → first_byte text ≡ first_byte rest → EndsRun test rest → EndsRun test text
same_first test [] rest same ends = tt
same_first test (x ∷ text) [] same ends = absurd (none-some x (sym same))
same_first test (x ∷ text) (y ∷ rest) same ends = ap test (same_Some x y same) ∙ ends

pub same_begin : (byte : ℕ) (text rest : List ℕ) → first_byte text ≡ first_byte rest → begins_with byte text ≡ begins_with byte rest
same_begin byte [] [] same = refl
same_begin byte [] (y ∷ rest) same = absurd (none-some y same)
same_begin byte (x ∷ text) [] same = absurd (none-some x (sym same))
same_begin byte (x ∷ text) (y ∷ rest) same = ap (λ first. begins_with byte (first ∷ [])) (same_Some x y same)

-- two runs before bytes that end them
pub same_run : (test : ℕ → Bool) (xs ys rest more : List ℕ) → All (λ b. IsTrue (test b)) xs → All (λ b. IsTrue (test b)) ys → EndsRun test rest → EndsRun test more
    → xs ++ rest ≡ ys ++ more → (xs ≡ ys) × (rest ≡ more)
same_run test [] [] rest more all each ends stops same = (refl, same)
same_run test [] (y ∷ ys) [] more all each ends stops same = absurd (omega (arith, ap length same))
same_run test [] (y ∷ ys) (r ∷ rest) more all each ends stops same =
    let first : r ≡ y = cc in absurd (false≢true (sym ends ∙ ap test first ∙ All-head (λ b. IsTrue (test b)) y ys each))
same_run test (x ∷ xs) [] rest [] all each ends stops same = absurd (omega (arith, ap length same))
same_run test (x ∷ xs) [] rest (r ∷ more) all each ends stops same =
    let first : x ≡ r = cc in absurd (false≢true (sym stops ∙ ap test (sym first) ∙ All-head (λ b. IsTrue (test b)) x xs all))
same_run test (x ∷ xs) (y ∷ ys) rest more all each ends stops same =
    let first : x ≡ y = cc in
    let others : xs ++ rest ≡ ys ++ more = cc in
    let found = same_run test xs ys rest more (All-tail (λ b. IsTrue (test b)) x xs all) (All-tail (λ b. IsTrue (test b)) y ys each) ends stops others in
    (λ i. first i ∷ found.0 i, found.1)

-- two words of one length
pub same_word : {A : Type 0} (xs ys rest more : List A) → length xs ≡ length ys → xs ++ rest ≡ ys ++ more → (xs ≡ ys) × (rest ≡ more)
same_word [] [] rest more long same = (refl, same)
same_word [] (y ∷ ys) rest more long same = absurd (omega (arith, long))
same_word (x ∷ xs) [] rest more long same = absurd (omega (arith, long))
same_word (x ∷ xs) (y ∷ ys) rest more long same =
    let first : x ≡ y = cc in
    let others : xs ++ rest ≡ ys ++ more = cc in
    let found = same_word xs ys rest more (omega (arith, long)) others in
    (λ i. first i ∷ found.0 i, found.1)

-- a run goes no further than before a byte that ends it
pub run_within : (test : ℕ → Bool) (xs ys : List ℕ) (c : ℕ) (more text : List ℕ) → All (λ b. IsTrue (test b)) xs → test c ≡ false → xs ++ text ≡ ys ++ c ∷ more
    → (zs : List ℕ) × (ys ≡ xs ++ zs)
run_within test [] ys c more text all other same = (ys, refl)
run_within test (x ∷ xs) [] c more text all other same =
    let first : x ≡ c = cc in absurd (false≢true (sym other ∙ ap test (sym first) ∙ All-head (λ b. IsTrue (test b)) x xs all))
run_within test (x ∷ xs) (y ∷ ys) c more text all other same =
    let first : y ≡ x = cc in
    let others : xs ++ text ≡ ys ++ c ∷ more = cc in
    let found = run_within test xs ys c more text (All-tail (λ b. IsTrue (test b)) x xs all) other others in
    (found.0, λ i. first i ∷ found.1 i)

-- the first bytes of a list, of which each below a place passes the test, and the next fails it
pub run_taken : (test : ℕ → Bool) (bytes : List ℕ) (n : ℕ) → n ≤ length bytes → ((k : ℕ) → k < n → IsTrue (test (slice_index bytes k)))
    → All (λ b. IsTrue (test b)) (take n bytes)
run_taken test bytes n low passes =
    All-from_get_or (λ b. IsTrue (test b)) (take n bytes) 0
    (λ i short.
    let less : i < n = omega (arith, short, length-take-le n bytes low) in
    subst (λ (b : ℕ). IsTrue (test b)) (sym (get_or-take n bytes i 0 less)) (passes i less))

pub run_ended : (test : ℕ → Bool) (bytes : List ℕ) (n : ℕ) → n ≤ length bytes → (n < length bytes → test (slice_index bytes n) ≡ false) → EndsRun test (drop n bytes)
run_ended test bytes n low fails =
    elim (cases_lt n (length bytes)) [
      | inl short ↦ subst (EndsRun test) (sym (drop-cons bytes n 0 short)) (fails short)
      | inr long ↦ subst (EndsRun test) (sym (drop_all n bytes long)) tt
    ]
