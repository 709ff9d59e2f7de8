-- Pairs in the order of their names, with the values of each name joined.
use Rattle.std.proofs.Common.{◌≡◌, ℕ, Bool, true, false, cond, ◌&&◌, List, [], ◌∷◌, ◌++◌, map, Option, Some, None, refl, sym, ap, ◌∙◌, append_assoc, append-nil, subst, T}
use Rattle.std.specs.Prelude.{bytes_eq, codes}
use Rattle.std.specs.FinMap.Entries.{below_all, find, is_sorted}
use Rattle.std.specs.List.{flat_map, join_with_byte}
use Rattle.std.specs.Ordering.{is_eq, is_lt, ordering_reverse}
use Rattle.std.specs.declared.cmp.Ordering.{Ordering}
use Rattle.std.specs.declared.cmp.Ordering.TheVariants.{Less, Equal, Greater}
use Rattle.std.proofs.lemmas.Cmp.{nat_list_cmp_total}
use Rattle.std.proofs.lemmas.Map.Text.{is_eq-slice_cmp}
use Rattle.smithy_core.specs.TextPairs.{named_values}
use Rattle.sigv4.specs.Canonical.{joined_names}
use Rattle.sigv4.specs.CanonicalHeaders.{after_values, before_value, gathered, next_name, pair_line, pairs_behind, value_behind}
use Rattle.sigv4.specs.Query.{Pair}
use Rattle.sigv4.proofs.InsertedLemmas.{same_name}
use Rattle.sigv4.proofs.SetLemmas.{bytes_eq-flipped, order}

-- ---- what the loops write

-- the names behind the last one
abbrev pub names_to_come : Option (List ℕ) → List Pair → List ℕ
names_to_come last [] = []
names_to_come last (pair ∷ pairs) = next_name last pair.0 ++ names_to_come (Some pair.0) pairs

-- the lines behind the last name's value
abbrev pub lines_to_come : Option (List ℕ) → List Pair → List ℕ
lines_to_come last [] = after_values last
lines_to_come last (pair ∷ pairs) = before_value last pair.0 ++ (pair.1 ++ lines_to_come (Some pair.0) pairs)

abbrev names_of : List Pair → List (List ℕ)
names_of pairs = map (λ (pair : Pair). pair.0) pairs

-- the names, each behind `;`
abbrev behind_marks : List (List ℕ) → List ℕ
behind_marks [] = []
behind_marks (name ∷ names) = codes ";" ++ (name ++ behind_marks names)

marked : (name : List ℕ) (names : List (List ℕ)) → joined_names (name ∷ names) ≡ name ++ behind_marks names
marked name [] = sym (append-nil name)
marked name (next ∷ names) = ap (λ rest. name ++ (59 ∷ rest)) (marked next names)

names_behind : (name : List ℕ) (pairs : List Pair) → names_to_come (Some name) pairs ≡ behind_marks (names_of (pairs_behind name (gathered pairs)))
names_behind name [] = refl
names_behind name (pair ∷ pairs) = by_test (bytes_eq name pair.0) (names_behind pair.0 pairs)
  where
    rest : List Pair
    rest = pairs_behind pair.0 (gathered pairs)

    by_test : (b : Bool) → names_to_come (Some pair.0) pairs ≡ behind_marks (names_of rest)
        → cond b [] (codes ";" ++ pair.0) ++ names_to_come (Some pair.0) pairs
        ≡ behind_marks (names_of (cond b rest ((pair.0, pair.1 ++ value_behind pair.0 (gathered pairs)) ∷ rest)))
    by_test true again = again
    by_test false again = ap (λ x. codes ";" ++ (pair.0 ++ x)) again

-- from the start they are the joined names
pub names_from_start : (pairs : List Pair) → names_to_come None pairs ≡ joined_names (names_of (gathered pairs))
names_from_start [] = refl
names_from_start (pair ∷ pairs) =
    ap (λ x. pair.0 ++ x) (names_behind pair.0 pairs) ∙ sym (marked pair.0 (names_of (pairs_behind pair.0 (gathered pairs))))

line_parts : (name value rest : List ℕ) → pair_line (name, value) ++ rest ≡ name ++ (codes ":" ++ (value ++ 10 ∷ rest))
line_parts name value rest =
    append_assoc (name ++ codes ":" ++ value) (10 ∷ []) rest ∙ append_assoc (name ++ codes ":") value (10 ∷ rest) ∙ append_assoc name (codes ":") (value ++ 10 ∷ rest)

lines_behind : (name : List ℕ) (pairs : List Pair)
    → lines_to_come (Some name) pairs ≡ value_behind name (gathered pairs) ++ 10 ∷ flat_map pair_line (pairs_behind name (gathered pairs))
lines_behind name [] = refl
lines_behind name (pair ∷ pairs) = by_test (bytes_eq name pair.0) (lines_behind pair.0 pairs)
  where
    value : List ℕ
    value = value_behind pair.0 (gathered pairs)

    rest : List Pair
    rest = pairs_behind pair.0 (gathered pairs)

    by_test : (b : Bool) → lines_to_come (Some pair.0) pairs ≡ value ++ 10 ∷ flat_map pair_line rest
        → cond b (codes ",") (10 ∷ pair.0 ++ codes ":") ++ (pair.1 ++ lines_to_come (Some pair.0) pairs)
        ≡ cond b (44 ∷ pair.1 ++ value) [] ++ 10 ∷ flat_map pair_line (cond b rest ((pair.0, pair.1 ++ value) ∷ rest))
    by_test true again =
        ap (λ x. 44 ∷ (pair.1 ++ x)) again ∙ ap (λ x. 44 ∷ x) (sym (append_assoc pair.1 value (10 ∷ flat_map pair_line rest)))
    by_test false again =
        ap (λ x. 10 ∷ x)
        (append_assoc pair.0 (codes ":") (pair.1 ++ lines_to_come (Some pair.0) pairs)
        ∙ ap (λ x. pair.0 ++ (codes ":" ++ (pair.1 ++ x))) again
        ∙ ap (λ x. pair.0 ++ (codes ":" ++ x)) (sym (append_assoc pair.1 value (10 ∷ flat_map pair_line rest)))
        ∙ sym (line_parts pair.0 (pair.1 ++ value) (flat_map pair_line rest)))

-- from the start they are the lines
pub lines_from_start : (pairs : List Pair) → lines_to_come None pairs ≡ flat_map pair_line (gathered pairs)
lines_from_start [] = refl
lines_from_start (pair ∷ pairs) =
    let value = value_behind pair.0 (gathered pairs) in
    let rest = pairs_behind pair.0 (gathered pairs) in
    append_assoc pair.0 (codes ":") (pair.1 ++ lines_to_come (Some pair.0) pairs)
    ∙ ap (λ x. pair.0 ++ (codes ":" ++ (pair.1 ++ x))) (lines_behind pair.0 pairs)
    ∙ ap (λ x. pair.0 ++ (codes ":" ++ x)) (sym (append_assoc pair.1 value (10 ∷ flat_map pair_line rest)))
    ∙ sym (line_parts pair.0 (pair.1 ++ value) (flat_map pair_line rest))

pub ruleset starts = (names_from_start, lines_from_start)

-- ---- pairs in order

-- no name is less than this one
abbrev pub NoneLess : List ℕ → List Pair → Type 0
NoneLess name [] = Unit {0}
NoneLess name (pair ∷ pairs) = (is_lt (order pair.0 name) ≡ false) × NoneLess name pairs

abbrev pub InOrder : List Pair → Type 0
InOrder [] = Unit {0}
InOrder (pair ∷ pairs) = NoneLess pair.0 pairs × InOrder pairs

both : (a b : Bool) → T a → T b → T (a && b)
both true b p q = q
both false b p q = p

first : (a b : Bool) → T (a && b) → T a
first true b p = tt
first false b p = p

second : (a b : Bool) → T (a && b) → T b
second true b p = p
second false b p = absurd p

equal : (a b : List ℕ) → bytes_eq a b ≡ false → is_eq (order a b) ≡ false
equal a b e = is_eq-slice_cmp a b ∙ e

-- a name that is neither greater nor the same is less
less : (a b : List ℕ) → is_lt (order b a) ≡ false → bytes_eq a b ≡ false → order a b ≡ Less
less a b above other = by_order (order a b) (order b a) (nat_list_cmp_total.antisymm b a) above (equal a b other)
  where
    by_order : (r s : Ordering) → s ≡ ordering_reverse r → is_lt s ≡ false → is_eq r ≡ false → r ≡ Less
    by_order Less s e f g = refl
    by_order Equal s e f g = absurd (subst T g tt)
    by_order Greater s e f g = absurd (subst T (sym (ap is_lt e) ∙ f) tt)

is_less : (r : Ordering) → T (is_lt r) → r ≡ Less
is_less Less p = refl
is_less Equal p = absurd p
is_less Greater p = absurd p

below_more : (a b : List ℕ) (pairs : List Pair) → order a b ≡ Less → T (below_all order b pairs) → T (below_all order a pairs)
below_more a b [] e below = tt
below_more a b (pair ∷ pairs) e below =
    both _ _ (subst (λ r. T (is_lt r)) (sym (nat_list_cmp_total.trans a b pair.0 e (is_less _ (first _ _ below)))) tt)
    (below_more a b pairs e (second _ _ below))

-- behind a name that no name is less than, all names are greater
behind_below : (name : List ℕ) (pairs : List Pair) → NoneLess name pairs → T (is_sorted order pairs) → T (below_all order name (pairs_behind name pairs))
behind_below name [] none up = tt
behind_below name (pair ∷ pairs) none up = by_test (bytes_eq name pair.0) refl
  where
    by_test : (b : Bool) → bytes_eq name pair.0 ≡ b → T (below_all order name (cond b pairs (pair ∷ pairs)))
    by_test true e = subst (λ n. T (below_all order n pairs)) (sym (same_name name pair.0 e)) (first _ _ up)
    by_test false e =
        let above = less name pair.0 none.0 e in
        both _ _ (subst (λ r. T (is_lt r)) (sym above) tt) (below_more name pair.0 pairs above (first _ _ up))

behind_sorted : (name : List ℕ) (pairs : List Pair) → T (is_sorted order pairs) → T (is_sorted order (pairs_behind name pairs))
behind_sorted name [] up = tt
behind_sorted name (pair ∷ pairs) up = by_test (bytes_eq name pair.0)
  where
    by_test : (b : Bool) → T (is_sorted order (cond b pairs (pair ∷ pairs)))
    by_test true = second _ _ up
    by_test false = up

none_behind : (least name : List ℕ) (pairs : List Pair) → NoneLess least pairs → NoneLess least (pairs_behind name pairs)
none_behind least name [] none = tt
none_behind least name (pair ∷ pairs) none = by_test (bytes_eq name pair.0)
  where
    by_test : (b : Bool) → NoneLess least (cond b pairs (pair ∷ pairs))
    by_test true = none.1
    by_test false = none

none_gathered : (least : List ℕ) (pairs : List Pair) → NoneLess least pairs → NoneLess least (gathered pairs)
none_gathered least [] none = tt
none_gathered least (pair ∷ pairs) none = (none.0, none_behind least pair.0 (gathered pairs) (none_gathered least pairs none.1))

-- gathered pairs that were in order strictly rise
pub gathered_sorted : (pairs : List Pair) → InOrder pairs → T (is_sorted order (gathered pairs))
gathered_sorted [] up = tt
gathered_sorted (pair ∷ pairs) up =
    let rest = gathered_sorted pairs up.1 in
    both _ _ (behind_below pair.0 (gathered pairs) (none_gathered pair.0 pairs up.0) rest) (behind_sorted pair.0 (gathered pairs) rest)

-- ---- the values of a name

-- the values with `,` between, where there are some
abbrev pub joined_some : List (List ℕ) → Option (List ℕ)
joined_some [] = None
joined_some (value ∷ values) = Some (join_with_byte 44 (value ∷ values))

find_none : (name : List ℕ) (pairs : List Pair) → T (below_all order name pairs) → find order name pairs ≡ None
find_none name [] below = refl
find_none name (pair ∷ pairs) below =
    ap (λ r. cond (is_eq r) (Some pair.1) (find order name pairs)) (is_less _ (first _ _ below)) ∙ find_none name pairs (second _ _ below)

found : (name : List ℕ) (pair : Pair) (pairs : List Pair) (b : Bool) → bytes_eq name pair.0 ≡ b
    → find order name (pair ∷ pairs) ≡ cond b (Some pair.1) (find order name pairs)
found name pair pairs b e = ap (λ is. cond is (Some pair.1) (find order name pairs)) (is_eq-slice_cmp name pair.0 ∙ e)

-- `,` and the value, where there is one
abbrev marked_value : Option (List ℕ) → List ℕ
marked_value None = []
marked_value (Some value) = 44 ∷ value

-- the first pair has the value of its name
behind_found : (name : List ℕ) (pairs : List Pair) → NoneLess name pairs → T (is_sorted order pairs) → value_behind name pairs ≡ marked_value (find order name pairs)
behind_found name [] none up = refl
behind_found name (pair ∷ pairs) none up = by_test (bytes_eq name pair.0) refl
  where
    by_test : (b : Bool) → bytes_eq name pair.0 ≡ b → cond b (44 ∷ pair.1) [] ≡ marked_value (find order name (pair ∷ pairs))
    by_test true e = ap marked_value (sym (found name pair pairs true e))
    by_test false e =
        let above = less name pair.0 none.0 e in
        let below = both _ _ (subst (λ r. T (is_lt r)) (sym above) tt) (below_more name pair.0 pairs above (first _ _ up)) in
        ap marked_value (sym (find_none name (pair ∷ pairs) below))

-- another name is found behind a name as before
other_found : (name q : List ℕ) (pairs : List Pair) → bytes_eq q name ≡ false → find order q (pairs_behind name pairs) ≡ find order q pairs
other_found name q [] other = refl
other_found name q (pair ∷ pairs) other = by_test (bytes_eq name pair.0) refl
  where
    by_test : (b : Bool) → bytes_eq name pair.0 ≡ b → find order q (cond b pairs (pair ∷ pairs)) ≡ find order q (pair ∷ pairs)
    by_test true e = sym (found q pair pairs false (ap (bytes_eq q) (sym (same_name name pair.0 e)) ∙ other))
    by_test false e = refl

joined_next : (value : List ℕ) (values : List (List ℕ)) → Some (value ++ marked_value (joined_some values)) ≡ joined_some (value ∷ values)
joined_next value [] = ap (λ x. Some x) (append-nil value)
joined_next value (next ∷ values) = refl

-- of gathered pairs that were in order each name has its values
pub gathered_found : (q : List ℕ) (pairs : List Pair) → InOrder pairs → find order q (gathered pairs) ≡ joined_some (named_values pairs q)
gathered_found q [] up = refl
gathered_found q (pair ∷ pairs) up = by_test (bytes_eq pair.0 q) refl (gathered_found q pairs up.1)
  where
    rest : List Pair
    rest = gathered pairs

    by_test : (b : Bool) → bytes_eq pair.0 q ≡ b → find order q rest ≡ joined_some (named_values pairs q)
        → find order q (gathered (pair ∷ pairs)) ≡ joined_some (cond b (pair.1 ∷ named_values pairs q) (named_values pairs q))
    by_test true e again =
        let same = same_name pair.0 q e in
        let sorted = gathered_sorted pairs up.1 in
        found q (pair.0, pair.1 ++ value_behind pair.0 rest) (pairs_behind pair.0 rest) true (bytes_eq-flipped q pair.0 ∙ e)
        ∙ ap (λ x. Some (pair.1 ++ x)) (behind_found pair.0 rest (none_gathered pair.0 pairs up.0) sorted ∙ ap (λ n. marked_value (find order n rest)) same ∙ ap marked_value again)
        ∙ joined_next pair.1 (named_values pairs q)
    by_test false e again =
        let other = bytes_eq-flipped q pair.0 ∙ e in
        found q (pair.0, pair.1 ++ value_behind pair.0 rest) (pairs_behind pair.0 rest) false other ∙ other_found pair.0 q rest other ∙ again
