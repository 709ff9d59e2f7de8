-- The members of an ordered set of texts.
use Rattle.std.proofs.Common.{◌≡◌, ℕ, Bool, true, false, ◌&&◌, ◌||◌, cond, List, [], ◌∷◌, ◌++◌, map, filter, Option, Some, None, is_some, refl, sym, ap, ◌∙◌, subst, T, true≢false}
use Rattle.std.specs.Prelude.{bytes_eq}
use Rattle.std.specs.Cmp.{tied_itself}
use Rattle.std.specs.Cmp.Lexicographic.{slice_cmp}
use Rattle.std.specs.FinMap.{FinMap, contains_key-keys, entries, from_entries, get, get-from_entries, same_map}
use Rattle.std.specs.FinMap.Entries.{is_some-find}
use Rattle.std.specs.List.{flat_map, list_all, list_any}
use Rattle.std.specs.Ordering.{eq_by_cmp, is_eq, nat_cmp}
use Rattle.std.specs.declared.cmp.Ordering.{Ordering}
use Rattle.std.specs.declared.cmp.Ordering.TheVariants.{Less, Equal, Greater}
use Rattle.std.proofs.lemmas.Bool.{and_parts, and_right, or_right}
use Rattle.std.proofs.lemmas.Cmp.{eq_by_cmp_equiv, nat_list_cmp_total}
use Rattle.std.proofs.lemmas.Map.Lookups.{exact_bytes}
use Rattle.std.proofs.lemmas.Map.Text.{is_eq-slice_cmp}
use Rattle.smithy_core.specs.TextPairs.{named_values}
use Rattle.sigv4.specs.Canonical.{ordered_set}
use Rattle.sigv4.specs.Query.{Pair}

abbrev pub order : List ℕ → List ℕ → Ordering
order = slice_cmp nat_cmp

-- the text is among these
abbrev pub is_among : List ℕ → List (List ℕ) → Bool
is_among text texts = list_any (eq_by_cmp order text) texts

map-units : (texts : List (List ℕ)) → map (λ (e : List ℕ × Unit {0}). e.0) (map (λ text. (text, tt {0})) texts) ≡ texts
map-units [] = refl
map-units (text ∷ texts) = ap (λ rest. text ∷ rest) (map-units texts)

-- the set of a list finds the texts of the list
pub set-contains : (text : List ℕ) (texts : List (List ℕ)) → is_some (get (from_entries {R = order} (map (λ t. (t, tt {0})) texts)) text) ≡ is_among text texts
set-contains text texts =
    let es = map (λ t. (t, tt {0})) texts in
    ap is_some (get-from_entries nat_list_cmp_total es text) ∙ is_some-find order text es ∙ ap (is_among text) (map-units texts)

-- and has them
pub among-set : (text : List ℕ) (texts : List (List ℕ)) → is_among text (ordered_set texts) ≡ is_among text texts
among-set text texts = sym (contains_key-keys (from_entries {R = order} (map (λ t. (t, tt {0})) texts)) text) ∙ set-contains text texts

-- lists with the same members have the same set
pub same_set : (xs ys : List (List ℕ)) → ((text : List ℕ) → is_among text xs ≡ is_among text ys) → ordered_set xs ≡ ordered_set ys
same_set xs ys same =
    let set : List (List ℕ) → FinMap order (Unit {0}) = λ texts. from_entries {R = order} (map (λ t. (t, tt {0})) texts) in
    ap (λ (m : FinMap order (Unit {0})). map (λ (e : List ℕ × Unit {0}). e.0) (entries m))
    (same_map nat_list_cmp_total exact_bytes (set xs) (set ys) (λ text. unit (get (set xs) text) (get (set ys) text) (set-contains text xs ∙ same text ∙ sym (set-contains text ys))))
  where
    unit : (a b : Option (Unit {0})) → is_some a ≡ is_some b → a ≡ b
    unit None None e = refl
    unit None (Some b) e = absurd (subst T (sym e) tt)
    unit (Some a) None e = absurd (subst T e tt)
    unit (Some a) (Some b) e = refl

-- ---- walks

-- a text is found among those that pass a test where it passes and is found among all
pub any-filtered : (test : List ℕ → Bool) (text : List ℕ) (texts : List (List ℕ)) → is_among text (filter test texts) ≡ (test text && is_among text texts)
any-filtered test text [] = sym (and_right (test text) false refl)
any-filtered test text (t ∷ texts) = by_order (order text t) refl (test t) refl (any-filtered test text texts)
  where
    passed : (b : Bool) → b ≡ true → true ≡ (b && true)
    passed true e = refl
    passed false e = sym e

    failed : (b rest found : Bool) → b ≡ false → found ≡ (b && rest) → found ≡ (b && true)
    failed true rest found e p = absurd (true≢false e)
    failed false rest found e p = p

    by_order : (o : Ordering) → order text t ≡ o → (b : Bool) → test t ≡ b → is_among text (filter test texts) ≡ (test text && is_among text texts)
        → is_among text (cond b (t ∷ filter test texts) (filter test texts)) ≡ (test text && (is_eq o || is_among text texts))
    by_order Less p true s again = ap (λ o. is_eq o || is_among text (filter test texts)) p ∙ again
    by_order Less p false s again = again
    by_order Equal p true s again = ap (λ o. is_eq o || is_among text (filter test texts)) p ∙ passed (test text) (ap test (exact_bytes text t p) ∙ s)
    by_order Equal p false s again = failed (test text) (is_among text texts) _ (ap test (exact_bytes text t p) ∙ s) again
    by_order Greater p true s again = ap (λ o. is_eq o || is_among text (filter test texts)) p ∙ again
    by_order Greater p false s again = again

-- what passes a test at each text that is among those of a list passes it at all
pub all-among : (test : List ℕ → Bool) (texts : List (List ℕ)) → ((text : List ℕ) → is_among text texts ≡ true → test text ≡ true) → list_all test texts ≡ true
all-among test [] passes = refl
all-among test (t ∷ texts) passes =
    let first = passes t (ap (λ o. is_eq o || is_among t texts) (tied_itself nat_list_cmp_total t)) in
    let rest = all-among test texts (λ text is. passes text (or_right (eq_by_cmp order text t) (is_among text texts) is)) in
    λ i. first i && rest i

-- a text that is among those of a list passes a test that they all pass
pub among-passes : (test : List ℕ → Bool) (text : List ℕ) (texts : List (List ℕ)) → list_all test texts ≡ true → is_among text texts ≡ true → test text ≡ true
among-passes test text [] all is = absurd (true≢false (sym is))
among-passes test text (t ∷ texts) all is =
    let parts = and_parts (test t) (list_all test texts) all in
    by_order (order text t) refl parts.0 (among-passes test text texts parts.1) is
  where
    by_order : (o : Ordering) → order text t ≡ o → test t ≡ true → (is_among text texts ≡ true → test text ≡ true)
        → (is_eq o || is_among text texts) ≡ true → test text ≡ true
    by_order Less p here again is = again is
    by_order Equal p here again is = ap test (exact_bytes text t p) ∙ here
    by_order Greater p here again is = again is

-- what agrees at each text of a list gives the same, one after another
pub flat_map-among : (f g : List ℕ → List ℕ) (texts : List (List ℕ)) → ((text : List ℕ) → is_among text texts ≡ true → f text ≡ g text) → flat_map f texts ≡ flat_map g texts
flat_map-among f g [] same = refl
flat_map-among f g (t ∷ texts) same =
    let first = same t (ap (λ o. is_eq o || is_among t texts) (tied_itself nat_list_cmp_total t)) in
    let rest = flat_map-among f g texts (λ text is. same text (or_right (eq_by_cmp order text t) (is_among text texts) is)) in
    λ i. first i ++ rest i

-- ---- names of pairs

abbrev pub is_here : List (List ℕ) → Bool
is_here [] = false
is_here (value ∷ values) = true

pub bytes_eq-flipped : (a b : List ℕ) → bytes_eq a b ≡ bytes_eq b a
bytes_eq-flipped a b = sym (is_eq-slice_cmp a b) ∙ (eq_by_cmp_equiv nat_list_cmp_total).symm a b ∙ is_eq-slice_cmp b a

-- a name is among those of the pairs where it has values
pub any-named : (name : List ℕ) (pairs : List Pair) → is_among name (map (λ pair. pair.0) pairs) ≡ is_here (named_values pairs name)
any-named name [] = refl
any-named name (pair ∷ pairs) =
    ap (λ b. b || is_among name (map (λ p. p.0) pairs)) (is_eq-slice_cmp name pair.0 ∙ bytes_eq-flipped name pair.0) ∙ by_test (bytes_eq pair.0 name) (any-named name pairs)
  where
    by_test : (b : Bool) → is_among name (map (λ p. p.0) pairs) ≡ is_here (named_values pairs name)
        → (b || is_among name (map (λ p. p.0) pairs)) ≡ is_here (cond b (pair.1 ∷ named_values pairs name) (named_values pairs name))
    by_test true again = refl
    by_test false again = again
