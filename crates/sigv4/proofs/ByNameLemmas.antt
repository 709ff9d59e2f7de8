-- Pairs that std's stable sort puts in order are the pairs by name.
use Rattle.std.proofs.Common.{◌≡◌, ℕ, suc, ◌<◌, ◌≤◌, Bool, true, false, not, ◌&&◌, cond, List, [], ◌∷◌, length, get_or, map, refl, ap, sym, ◌∙◌, arith}
use Rattle.std.specs.Borrow.{Bor}
use Rattle.std.specs.Prelude.{bytes_eq}
use Rattle.std.specs.Cmp.{IsStrictWeakOrder, tied_itself}
use Rattle.std.specs.Cmp.Lexicographic.{slice_cmp}
use Rattle.std.specs.List.{filter}
use Rattle.std.specs.List.Sorted.{IsSortedBy, IsStableBy, ties}
use Rattle.std.specs.Ordering.{is_gt, is_lt, nat_cmp, ordering_reverse}
use Rattle.std.specs.declared.cmp.Ordering.{Ordering}
use Rattle.std.specs.declared.cmp.Ordering.TheVariants.{Less, Equal, Greater}
use Rattle.std.proofs.lemmas.Bool.{true≢false}
use Rattle.std.proofs.lemmas.Cmp.{nat_list_cmp_total}
use Rattle.std.proofs.lemmas.List.Sorted.{ranks_by, sorted_far}
use Rattle.smithy_core.specs.TextPairs.{named_values}
use Rattle.sigv4.specs.Chunk.{by_name, placed_by_name}
use Rattle.sigv4.specs.Query.{Pair}
use Rattle.sigv4.proofs.GatheredLemmas.{InOrder, NoneLess}
use Rattle.sigv4.proofs.InsertedLemmas.{same_name, values_if}

conflict : {P : Type 0} (b : Bool) → b ≡ true → b ≡ false → P
conflict b is lacks = absurd (true≢false (sym is ∙ lacks))

head_or : {X : Type 0} → X → List X → X
head_or d [] = d
head_or d (x ∷ xs) = x

tail_of : {X : Type 0} → List X → List X
tail_of [] = []
tail_of (x ∷ xs) = xs

no_cons : {P X : Type 0} (x : X) (xs : List X) → x ∷ xs ≡ [] → P
no_cons x xs e = absurd (omega (arith, ap length e))

-- ---- what a strict weak order and the elements that tie determine

module _ {X : Type 0} (lt : X → X → Bool) (o : IsStrictWeakOrder lt) where
  -- no element of the list is less than x
  abbrev Above : X → List X → Type 0
  Above x [] = Unit {0}
  Above x (y ∷ ys) = (lt y x ≡ false) × Above x ys

  abbrev Up : List X → Type 0
  Up [] = Unit {0}
  Up (x ∷ xs) = Above x xs × Up xs

  above_of : (x : X) (xs : List X) → ((k : ℕ) → k < length xs → lt (get_or xs k x) x ≡ false) → Above x xs
  above_of x [] h = tt
  above_of x (y ∷ ys) h = (h 0 (omega arith), above_of x ys (λ k p. h (suc k) (omega arith)))

  up_of : (xs : List X) → ((i j : ℕ) (d : X) → i ≤ j → j < length xs → lt (get_or xs j d) (get_or xs i d) ≡ false) → Up xs
  up_of [] h = tt
  up_of (x ∷ xs) h =
      (above_of x xs (λ k p. h 0 (suc k) x (omega arith) (omega arith)), up_of xs (λ i j d p q. h (suc i) (suc j) d (omega arith) (omega arith)))

  irreflexive : (x : X) → lt x x ≡ false
  irreflexive x = by (lt x x) refl
    where
      by : (b : Bool) → lt x x ≡ b → lt x x ≡ false
      by true e = o.one_way x x e
      by false e = e

  higher : (x y z : X) → lt x y ≡ true → lt z y ≡ false → lt x z ≡ true
  higher x y z low above = by (lt x z) refl
    where
      by : (b : Bool) → lt x z ≡ b → lt x z ≡ true
      by true e = e
      by false e = conflict (lt x y) low (o.chain x z y e above)

  no_tie : (x y : X) (zs : List X) → lt x y ≡ true → Above y zs → filter (ties lt x) zs ≡ []
  no_tie x y [] low above = refl
  no_tie x y (z ∷ zs) low above =
      ap (λ b. cond (not b && not (lt z x)) (z ∷ filter (ties lt x) zs) (filter (ties lt x) zs)) (higher x y z low above.0) ∙ no_tie x y zs low above.1

  -- nothing ties with what is less than all
  none_ties : (x y : X) (zs : List X) → lt x y ≡ true → Above y zs → filter (ties lt x) (y ∷ zs) ≡ []
  none_ties x y zs low above = no_tie x y (y ∷ zs) low (irreflexive y, above)

  kept_head : (x y : X) (ys : List X) → lt x y ≡ false → lt y x ≡ false → filter (ties lt x) (y ∷ ys) ≡ y ∷ filter (ties lt x) ys
  kept_head x y ys e f = λ i. cond (not (e i) && not (f i)) (y ∷ filter (ties lt x) ys) (filter (ties lt x) ys)

  kept_self : (x : X) (xs : List X) → filter (ties lt x) (x ∷ xs) ≡ x ∷ filter (ties lt x) xs
  kept_self x xs = kept_head x x xs (irreflexive x) (irreflexive x)

  tails : (t : X → Bool) (y z : X) (ys zs : List X) → y ≡ z → filter t (y ∷ ys) ≡ filter t (z ∷ zs) → filter t ys ≡ filter t zs
  unfolding tail_of
  tails t y z ys zs e h = by (t z) (ap (λ x. cond (t z) (x ∷ filter t ys) (filter t ys)) (sym e) ∙ ap (λ x. cond (t x) (y ∷ filter t ys) (filter t ys)) (sym e) ∙ h)
    where
      by : (b : Bool) → cond b (z ∷ filter t ys) (filter t ys) ≡ cond b (z ∷ filter t zs) (filter t zs) → filter t ys ≡ filter t zs
      by true k = ap tail_of k
      by false k = k

  same : (ys zs : List X) → Up ys → Up zs → ((x : X) → filter (ties lt x) ys ≡ filter (ties lt x) zs) → ys ≡ zs
  unfolding head_or
  same [] [] up also h = refl
  same [] (z ∷ zs) up also h = no_cons z (filter (ties lt z) zs) (sym (kept_self z zs) ∙ sym (h z))
  same (y ∷ ys) [] up also h = no_cons y (filter (ties lt y) ys) (sym (kept_self y ys) ∙ h y)
  same (y ∷ ys) (z ∷ zs) up also h = by (lt y z) (lt z y) refl refl (same ys zs up.1 also.1)
    where
      by : (b c : Bool) → lt y z ≡ b → lt z y ≡ c → (((x : X) → filter (ties lt x) ys ≡ filter (ties lt x) zs) → ys ≡ zs) → y ∷ ys ≡ z ∷ zs
      by true c e f others = no_cons y (filter (ties lt y) ys) (sym (kept_self y ys) ∙ h y ∙ none_ties y z zs e also.0)
      by false true e f others = no_cons z (filter (ties lt z) zs) (sym (kept_self z zs) ∙ sym (h z) ∙ none_ties z y ys f up.0)
      by false false e f others =
          let head : y ≡ z = ap (head_or y) (sym (kept_self y ys) ∙ h y ∙ kept_head y z zs e f) in
          let rest = others (λ x. tails (ties lt x) y z ys zs head (h x)) in
          λ i. head i ∷ rest i

  -- ---- the sort by insertion

  module _ (gt : X → X → Bool) (flips : (x y : X) → gt x y ≡ lt y x) where
    abbrev insert : X → List X → List X
    insert x [] = x ∷ []
    insert x (y ∷ ys) = cond (gt x y) (y ∷ insert x ys) (x ∷ y ∷ ys)

    abbrev sorted : List X → List X
    sorted [] = []
    sorted (x ∷ xs) = insert x (sorted xs)

    above_inserted : (w x : X) (ys : List X) → lt x w ≡ false → Above w ys → Above w (insert x ys)
    above_inserted w x [] e above = (e, tt)
    above_inserted w x (y ∷ ys) e above = by (gt x y) (above_inserted w x ys e above.1)
      where
        by : (b : Bool) → Above w (insert x ys) → Above w (cond b (y ∷ insert x ys) (x ∷ y ∷ ys))
        by true rest = (above.0, rest)
        by false rest = (e, above)

    above_lower : (x y : X) (zs : List X) → lt y x ≡ false → Above y zs → Above x zs
    above_lower x y [] e above = tt
    above_lower x y (z ∷ zs) e above = (o.chain z y x above.0 e, above_lower x y zs e above.1)

    up_inserted : (x : X) (ys : List X) → Up ys → Up (insert x ys)
    up_inserted x [] up = (tt, tt)
    up_inserted x (y ∷ ys) up = by (gt x y) (sym (flips x y)) (up_inserted x ys up.1)
      where
        by : (b : Bool) → lt y x ≡ b → Up (insert x ys) → Up (cond b (y ∷ insert x ys) (x ∷ y ∷ ys))
        by true e rest = (above_inserted y x ys (o.one_way y x e) up.0, rest)
        by false e rest = ((e, above_lower x y ys e up.0), up)

    up_sorted : (xs : List X) → Up (sorted xs)
    up_sorted [] = tt
    up_sorted (x ∷ xs) = up_inserted x (sorted xs) (up_sorted xs)

    -- two elements of which one is less don't tie with a third
    apart : (w x y : X) → lt y x ≡ true → ties lt w x ≡ true → ties lt w y ≡ true → ⊥
    apart w x y e f g = conflict (lt y x) e (o.chain y w x (second (lt w y) (lt y w) g) (first (lt w x) (lt x w) f))
      where
        first : (b c : Bool) → not b && not c ≡ true → b ≡ false
        first true c h = cc
        first false c h = refl

        second : (b c : Bool) → not b && not c ≡ true → c ≡ false
        second true c h = cc
        second false true h = cc
        second false false h = refl

    moved : (w x y : X) (ys : List X) → lt y x ≡ true
        → cond (ties lt w y) (y ∷ filter (ties lt w) (x ∷ ys)) (filter (ties lt w) (x ∷ ys)) ≡ filter (ties lt w) (x ∷ y ∷ ys)
    moved w x y ys e = by (ties lt w x) (ties lt w y) refl refl
      where
        rest : List X
        rest = filter (ties lt w) ys

        by : (b c : Bool) → ties lt w x ≡ b → ties lt w y ≡ c
            → cond c (y ∷ cond b (x ∷ filter (ties lt w) ys) (filter (ties lt w) ys)) (cond b (x ∷ filter (ties lt w) ys) (filter (ties lt w) ys))
            ≡ cond b (x ∷ cond c (y ∷ filter (ties lt w) ys) (filter (ties lt w) ys)) (cond c (y ∷ filter (ties lt w) ys) (filter (ties lt w) ys))
        by true true f g = absurd (apart w x y e f g)
        by true false f g = refl
        by false true f g = refl
        by false false f g = refl

    ties_inserted : (w x : X) (ys : List X) → filter (ties lt w) (insert x ys) ≡ filter (ties lt w) (x ∷ ys)
    ties_inserted w x [] = refl
    ties_inserted w x (y ∷ ys) = by (gt x y) (sym (flips x y)) (ties_inserted w x ys)
      where
        by : (b : Bool) → lt y x ≡ b → filter (ties lt w) (insert x ys) ≡ filter (ties lt w) (x ∷ ys)
            → filter (ties lt w) (cond b (y ∷ insert x ys) (x ∷ y ∷ ys)) ≡ filter (ties lt w) (x ∷ y ∷ ys)
        by true e rest = ap (λ l. cond (ties lt w y) (y ∷ l) l) rest ∙ moved w x y ys e
        by false e rest = refl

    ties_sorted : (w : X) (xs : List X) → filter (ties lt w) (sorted xs) ≡ filter (ties lt w) xs
    ties_sorted w [] = refl
    ties_sorted w (x ∷ xs) = ties_inserted w x (sorted xs) ∙ ap (λ l. cond (ties lt w x) (x ∷ l) l) (ties_sorted w xs)

    sorted_stably : (xs ys : List X) → IsSortedBy lt ys → IsStableBy lt xs ys → ys ≡ sorted xs
    sorted_stably xs ys up stable =
        same ys (sorted xs) (up_of ys (sorted_far lt o ys up)) (up_sorted xs) (λ w. stable w ∙ sym (ties_sorted w xs))

-- ---- pairs by name

module _ {V : Type 0} (text : V → List ℕ) where
  abbrev Named : Type 0
  Named = Bor (List ℕ) × V

  abbrev pair_of : Named → Pair
  pair_of x = (x.0.now, text x.1)

  abbrev name_cmp : Named → Named → Ordering
  name_cmp x y = slice_cmp nat_cmp x.0.now y.0.now

  abbrev below : Named → Named → Bool
  below x y = is_lt (name_cmp x y)

  abbrev after : Named → Named → Bool
  after x y = is_gt (name_cmp x y)

  after_flips : (x y : Named) → after x y ≡ below y x
  after_flips x y = by (name_cmp y x) (name_cmp x y) (nat_list_cmp_total.antisymm y.0.now x.0.now)
    where
      by : (r s : Ordering) → r ≡ ordering_reverse s → is_gt s ≡ is_lt r
      by r Less e = sym (ap is_lt e)
      by r Equal e = sym (ap is_lt e)
      by r Greater e = sym (ap is_lt e)

  below_orders : IsStrictWeakOrder below
  below_orders = ranks_by nat_list_cmp_total (λ (x : Named). x.0.now)

  placed : (x : Named) (ys : List Named) → map pair_of (insert below below_orders after after_flips x ys) ≡ placed_by_name (pair_of x) (map pair_of ys)
  placed x [] = refl
  placed x (y ∷ ys) = by (after x y) (placed x ys)
    where
      by : (b : Bool) → map pair_of (insert below below_orders after after_flips x ys) ≡ placed_by_name (pair_of x) (map pair_of ys)
          → map pair_of (cond b (y ∷ insert below below_orders after after_flips x ys) (x ∷ y ∷ ys))
          ≡ cond b (pair_of y ∷ placed_by_name (pair_of x) (map pair_of ys)) (pair_of x ∷ pair_of y ∷ map pair_of ys)
      by true rest = ap (λ l. pair_of y ∷ l) rest
      by false rest = refl

  all_placed : (xs : List Named) → map pair_of (sorted below below_orders after after_flips xs) ≡ by_name (map pair_of xs)
  all_placed [] = refl
  all_placed (x ∷ xs) = placed x (sorted below below_orders after after_flips xs) ∙ ap (placed_by_name (pair_of x)) (all_placed xs)

  pub sorted_by_name : (xs ys : List Named) → IsSortedBy below ys → IsStableBy below xs ys → map pair_of ys ≡ by_name (map pair_of xs)
  sorted_by_name xs ys up stable = ap (map pair_of) (sorted_stably below below_orders after after_flips xs ys up stable) ∙ all_placed xs

  none_less : (x : Named) (ys : List Named) → Above below below_orders x ys → NoneLess x.0.now (map pair_of ys)
  none_less x [] above = tt
  none_less x (y ∷ ys) above = (above.0, none_less x ys above.1)

  in_order : (ys : List Named) → Up below below_orders ys → InOrder (map pair_of ys)
  in_order [] up = tt
  in_order (y ∷ ys) up = (none_less y ys up.0, in_order ys up.1)

  -- sorted pairs are in order
  pub sorted_in_order : (ys : List Named) → IsSortedBy below ys → InOrder (map pair_of ys)
  sorted_in_order ys up = in_order ys (up_of below below_orders ys (sorted_far below below_orders ys up))

-- ---- the values of a name

placed_named : (pair : Pair) (pairs : List Pair) (q : List ℕ) → named_values (placed_by_name pair pairs) q ≡ named_values (pair ∷ pairs) q
placed_named pair [] q = refl
placed_named pair (other ∷ pairs) q = by (is_gt (slice_cmp nat_cmp pair.0 other.0)) refl (placed_named pair pairs q)
  where
    rest : List (List ℕ)
    rest = named_values pairs q

    apart : is_gt (slice_cmp nat_cmp pair.0 other.0) ≡ true → bytes_eq pair.0 q ≡ true → bytes_eq other.0 q ≡ true → ⊥
    apart e f g =
        let same : pair.0 ≡ other.0 = same_name pair.0 q f ∙ sym (same_name other.0 q g) in
        true≢false (sym e ∙ ap (λ n. is_gt (slice_cmp nat_cmp n other.0)) same ∙ ap is_gt (tied_itself nat_list_cmp_total other.0))

    swapped : (a b : Bool) → (a ≡ true → b ≡ true → ⊥)
        → values_if b other.1 (values_if a pair.1 rest) ≡ values_if a pair.1 (values_if b other.1 rest)
    swapped true true not_both = absurd (not_both refl refl)
    swapped true false not_both = refl
    swapped false b not_both = refl

    by : (b : Bool) → is_gt (slice_cmp nat_cmp pair.0 other.0) ≡ b → named_values (placed_by_name pair pairs) q ≡ named_values (pair ∷ pairs) q
        → named_values (cond b (other ∷ placed_by_name pair pairs) (pair ∷ other ∷ pairs)) q ≡ named_values (pair ∷ other ∷ pairs) q
    by true e again = ap (values_if (bytes_eq other.0 q) other.1) again ∙ swapped (bytes_eq pair.0 q) (bytes_eq other.0 q) (apart e)
    by false e again = refl

-- a name has its values in order among the pairs by name
pub by_name_named : (pairs : List Pair) (q : List ℕ) → named_values (by_name pairs) q ≡ named_values pairs q
by_name_named [] q = refl
by_name_named (pair ∷ pairs) q = placed_named pair (by_name pairs) q ∙ ap (values_if (bytes_eq pair.0 q) pair.1) (by_name_named pairs q)
