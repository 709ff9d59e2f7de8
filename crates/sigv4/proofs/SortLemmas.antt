-- Pairs that std's sort puts in order are the sorted pairs.
use Rattle.std.proofs.Common.{◌≡◌, ℕ, zero, suc, ◌+◌, ◌<◌, Bool, true, false, cond, List, [], ◌∷◌, length, get_or, map, refl, ap, ◌∙◌, arith, add-one}
use Rattle.std.specs.Prelude.{sum_by}
use Rattle.std.specs.declared.alloc.Global.{Global}
use Rattle.std.specs.declared.cmp.Ordering.{Ordering}
use Rattle.std.specs.declared.cmp.Ordering.TheVariants.{Less, Equal, Greater}
use Rattle.std.specs.declared.string.String.{String}
use Rattle.std.specs.Cmp.{IsTotalOrder}
use Rattle.std.specs.Cmp.Lexicographic.{slice_cmp}
use Rattle.std.specs.List.Sorted.{IsPermutation, IsSorted}
use Rattle.std.specs.Ordering.{is_gt, is_lt, nat_cmp, ordering_reverse, ordering_then}
use Rattle.std.specs.String.{string_cmp}
use Rattle.std.proofs.lemmas.Cmp.{nat_list_cmp_total, on_total, then_total}
use Rattle.std.proofs.lemmas.List.{get_or-map, length-map}
use Rattle.std.proofs.lemmas.List.Sorted.{IsPermutation-cons, IsPermutation-map, IsPermutation-middle, IsPermutation-refl, IsPermutation-sym, IsPermutation-trans, ranks_by, sorted_far, sum_by-IsPermutation}
use Rattle.std.proofs.lemmas.List.Sums.{sum_by-cons}
use Rattle.std.proofs.lemmas.Map.Lookups.{exact_bytes, exact_pairs}
use Rattle.sigv4.specs.Query.{Pair, inserted_in_order, pair_cmp, sorted, string_pair}

total : IsTotalOrder pair_cmp
total = then_total (on_total (λ (p : Pair). p.0) nat_list_cmp_total) (on_total (λ (p : Pair). p.1) nat_list_cmp_total)

exact : (p q : Pair) → pair_cmp p q ≡ Equal → p ≡ q
exact = exact_pairs (slice_cmp nat_cmp) (slice_cmp nat_cmp) exact_bytes exact_bytes

abbrev lt : Pair → Pair → Bool
lt p q = is_lt (pair_cmp p q)

-- ---- two sorted lists with the same pairs are one

-- how many are less than p
abbrev less : Pair → Pair → ℕ
less p q = cond (lt q p) 1 0

none_less : (p : Pair) (ps : List Pair) → ((k : ℕ) (d : Pair) → k < length ps → lt (get_or ps k d) p ≡ false) → sum_by (less p) ps ≡ 0
none_less p [] all = refl
none_less p (q ∷ ps) all =
    let here : lt q p ≡ false = all 0 q (omega arith) in
    let rest = none_less p ps (λ k d h. all (suc k) d (omega arith)) in
    let one : less p q ≡ 0 = ap (λ (b : Bool). cond b 1 0) here in
    omega (arith, rest, one, sum_by-cons (less p) q ps)

not_less : (p q : Pair) → less p q ≡ 0 → lt q p ≡ false
not_less p q e = by (lt q p) e
  where
    by : (b : Bool) → cond {A = ℕ} b 1 0 ≡ 0 → b ≡ false
    by true f = absurd (omega arith)
    by false f = refl

same_head : (p q : Pair) → lt q p ≡ false → lt p q ≡ false → p ≡ q
same_head p q e f = exact p q (by (pair_cmp p q) (pair_cmp q p) (total.antisymm p q) f e)
  where
    by : (r s : Ordering) → r ≡ ordering_reverse s → is_lt r ≡ false → is_lt s ≡ false → r ≡ Equal
    by Less s e f g = cc
    by Equal s e f g = refl
    by Greater Less e f g = cc
    by Greater Equal e f g = cc
    by Greater Greater e f g = cc

tail_sorted : (p : Pair) (ps : List Pair) → IsSorted pair_cmp (p ∷ ps) → IsSorted pair_cmp ps
tail_sorted p ps up k d low high = rw add-one (let h = up (suc k) d (omega arith) (omega arith) in rw add-one at h)

same_sorted : (ps qs : List Pair) → IsSorted pair_cmp ps → IsSorted pair_cmp qs → ((f : Pair → ℕ) → sum_by f qs ≡ sum_by f ps) → ps ≡ qs
same_sorted [] [] up also same = refl
same_sorted [] (q ∷ qs) up also same = absurd (omega (arith, same (λ _. 1), sum_by-cons {X = Pair} (λ _. 1) q qs))
same_sorted (p ∷ ps) [] up also same = absurd (omega (arith, same (λ _. 1), sum_by-cons {X = Pair} (λ _. 1) p ps))
same_sorted (p ∷ ps) (q ∷ qs) up also same =
    let order = ranks_by total (λ (x : Pair). x) in
    let from_p = none_less p (p ∷ ps) (λ k d h. sorted_far lt order (p ∷ ps) up 0 k d (omega arith) h) in
    let from_q = none_less q (q ∷ qs) (λ k d h. sorted_far lt order (q ∷ qs) also 0 k d (omega arith) h) in
    let q_not : less p q ≡ 0 = omega (arith, same (less p), from_p, sum_by-cons (less p) q qs) in
    let p_not : less q p ≡ 0 = omega (arith, same (less q), from_q, sum_by-cons (less q) p ps) in
    let head : p ≡ q = same_head p q (not_less p q q_not) (not_less q p p_not) in
    let rest = same_sorted ps qs (tail_sorted p ps up) (tail_sorted q qs also) (λ f. omega (arith, same f, ap f head, sum_by-cons f p ps, sum_by-cons f q qs)) in
    ap (λ (x : Pair). x ∷ ps) head ∙ ap (λ (xs : List Pair). q ∷ xs) rest

-- ---- the sorted pairs are sorted

cons_sorted : (p : Pair) (ps : List Pair) → IsSorted pair_cmp ps → ((d : Pair) → 0 < length ps → lt (get_or ps 0 d) p ≡ false) → IsSorted pair_cmp (p ∷ ps)
cons_sorted p ps up first zero d low high = first d (omega arith)
cons_sorted p ps up first (suc k) d low high = rw add-one (let h = up k d (omega arith) (omega arith) in rw add-one at h)

not_below : (p q : Pair) → is_gt (pair_cmp p q) ≡ false → lt q p ≡ false
not_below p q e = by (pair_cmp q p) (pair_cmp p q) (total.antisymm q p) e
  where
    by : (r s : Ordering) → r ≡ ordering_reverse s → is_gt s ≡ false → is_lt r ≡ false
    by r Less f g = ap is_lt f
    by r Equal f g = ap is_lt f
    by r Greater f g = cc

above : (p q : Pair) → is_gt (pair_cmp p q) ≡ true → lt p q ≡ false
above p q e = by (pair_cmp p q) e
  where
    by : (r : Ordering) → is_gt r ≡ true → is_lt r ≡ false
    by Less f = cc
    by Equal f = refl
    by Greater f = refl

first_inserted : (q p : Pair) (qs : List Pair) (d : Pair) → lt p q ≡ false → IsSorted pair_cmp (q ∷ qs) → lt (get_or (inserted_in_order p qs) 0 d) q ≡ false
first_inserted q p [] d over up = over
first_inserted q p (r ∷ rs) d over up = by (is_gt (pair_cmp p r))
  where
    by : (b : Bool) → lt (get_or (cond b (r ∷ inserted_in_order p rs) (p ∷ r ∷ rs)) 0 d) q ≡ false
    by true = up 0 d (omega arith) (omega arith)
    by false = over

insert_sorted : (p : Pair) (qs : List Pair) → IsSorted pair_cmp qs → IsSorted pair_cmp (inserted_in_order p qs)
insert_sorted p [] up = λ k d low high. absurd (omega arith)
insert_sorted p (q ∷ qs) up = by (is_gt (pair_cmp p q)) refl (insert_sorted p qs (tail_sorted q qs up))
  where
    by : (b : Bool) → is_gt (pair_cmp p q) ≡ b → IsSorted pair_cmp (inserted_in_order p qs) → IsSorted pair_cmp (cond b (q ∷ inserted_in_order p qs) (p ∷ q ∷ qs))
    by true e rest = cons_sorted q (inserted_in_order p qs) rest (λ d h. first_inserted q p qs d (above p q e) up)
    by false e rest = cons_sorted p (q ∷ qs) up (λ d h. not_below p q e)

is_sorted : (ps : List Pair) → IsSorted pair_cmp (sorted ps)
is_sorted [] = λ k d low high. absurd (omega arith)
is_sorted (p ∷ ps) = insert_sorted p (sorted ps) (is_sorted ps)

insert_moves : (p : Pair) (qs : List Pair) → IsPermutation (p ∷ qs) (inserted_in_order p qs)
insert_moves p [] = IsPermutation-refl (p ∷ [])
insert_moves p (q ∷ qs) = by (is_gt (pair_cmp p q)) (insert_moves p qs)
  where
    by : (b : Bool) → IsPermutation (p ∷ qs) (inserted_in_order p qs) → IsPermutation (p ∷ q ∷ qs) (cond b (q ∷ inserted_in_order p qs) (p ∷ q ∷ qs))
    by true rest =
        IsPermutation-trans (p ∷ q ∷ qs) (q ∷ p ∷ qs) (q ∷ inserted_in_order p qs) (IsPermutation-middle (p ∷ []) q qs) (IsPermutation-cons q (p ∷ qs) (inserted_in_order p qs) rest)
    by false rest = IsPermutation-refl (p ∷ q ∷ qs)

sorted_moves : (ps : List Pair) → IsPermutation ps (sorted ps)
sorted_moves [] = IsPermutation-refl []
sorted_moves (p ∷ ps) =
    IsPermutation-trans (p ∷ ps) (p ∷ sorted ps) (inserted_in_order p (sorted ps)) (IsPermutation-cons p ps (sorted ps) (sorted_moves ps)) (insert_moves p (sorted ps))

-- ---- the pairs of the code

-- the order of the code
abbrev code_cmp : String Global × String Global → String Global × String Global → Ordering
code_cmp x y = ordering_then (string_cmp x.0 y.0) (string_cmp x.1 y.1)

map_sorted : (xs : List (String Global × String Global)) → IsSorted code_cmp xs → IsSorted pair_cmp (map string_pair xs)
map_sorted [] up = λ k d low high. absurd (omega arith)
map_sorted (x ∷ xs) up = λ k d low high.
    let within : k + 1 < length (x ∷ xs) = omega (arith, length-map (x ∷ xs) string_pair) in
    rw (get_or-map string_pair (x ∷ xs) (k + 1) x d within, get_or-map string_pair (x ∷ xs) k x d (omega arith)) (up k x low within)

pub sorted_pairs : (xs ys : List (String Global × String Global)) → IsPermutation xs ys → IsSorted code_cmp ys → map string_pair ys ≡ sorted (map string_pair xs)
sorted_pairs xs ys moved up =
    let before = map string_pair xs in
    let after = map string_pair ys in
    let both = IsPermutation-trans after before (sorted before) (IsPermutation-sym before after (IsPermutation-map string_pair xs ys moved)) (sorted_moves before) in
    same_sorted after (sorted before) (map_sorted ys up) (is_sorted before) (λ f. sum_by-IsPermutation f after (sorted before) both)
