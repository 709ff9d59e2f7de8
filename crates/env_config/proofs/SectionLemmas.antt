-- Values that stand under their own keys.
use Rattle.std.proofs.Common.{◌≡◌, ◌∙◌, ℕ, Bool, true, cond, List, [], ◌∷◌, ◌++◌, map, append-nil, append_assoc, Ordering, Less, Equal, Greater, is_eq, String, string_bytes, string_cmp, Global, refl, sym, subst, ap}
use Rattle.std.specs.Cmp.Lexicographic.{nat_list_cmp_total}
use Rattle.std.specs.List.{AllByRecursion}
use Rattle.std.specs.List.Sorted.{IsStrictlySortedBy}
use Rattle.std.specs.Ordering.{match_ordering, ordering_reverse}
use Rattle.std.specs.BTreeMap.{insert_entry}
use Rattle.env_config.specs.declared.property.Property.{Property}
use Rattle.env_config.specs.Property.{property_pair}
use Rattle.env_config.specs.Section.{IsKeyed}
use Rattle.env_config.specs.SectionProperties.{contents_of, own, property_values}
use Rattle.env_config.specs.Sections.{is_identifier, put_identifiers}
use Rattle.env_config.specs.Texts.{pairs_of, put, text_cmp}
use Rattle.env_config.proofs.LowerLemmas.{tied_same}
use Rattle.env_config.proofs.TextsLemmas.{entries_put}

-- a property that is put under its own key
pub property_put : (es now : List (String Global × Property)) (key : String Global) (property : Property) (value : List ℕ) → now ≡ insert_entry string_cmp es key property → property_pair property ≡ (string_bytes key, value)
    → contents_of now ≡ put (contents_of es) (string_bytes key) (string_bytes key, value)
property_put es now key property value puts is =
    ap contents_of puts ∙ entries_put string_cmp text_cmp string_bytes property_pair (λ _ _. refl) es key property ∙ ap (put (contents_of es) (string_bytes key)) is

pub own_put : (pairs : List (List ℕ × List ℕ)) (key value : List ℕ) → map own (put pairs key value) ≡ put (map own pairs) key (key, value)
own_put [] key value = refl
own_put (e ∷ es) key value = by (text_cmp key e.0) refl (own_put es key value)
  where
    by : (o : Ordering) → text_cmp key e.0 ≡ o → map own (put es key value) ≡ put (map own es) key (key, value)
        → map own (match_ordering o ((key, value) ∷ e ∷ es) ((e.0, value) ∷ es) (e ∷ put es key value))
        ≡ match_ordering o ((key, (key, value)) ∷ own e ∷ map own es) ((e.0, (key, value)) ∷ map own es) (own e ∷ put (map own es) key (key, value))
    by Less is more = refl
    by Equal is more = ap (λ (k : List ℕ). (e.0, (k, value)) ∷ map own es) (sym (tied_same key e.0 (ap is_eq is)))
    by Greater is more = ap (λ (rest : List (List ℕ × (List ℕ × List ℕ))). own e ∷ rest) more

-- ## Sections that are read

-- the values of pairs that stand under their own keys
pub values_own : (pairs : List (List ℕ × List ℕ)) → property_values (map own pairs) ≡ pairs
values_own [] = refl
values_own (e ∷ es) = ap (λ (rest : List (List ℕ × List ℕ)). e ∷ rest) (values_own es)

pub keyed_own : (pairs : List (List ℕ × List ℕ)) → IsKeyed (map own pairs)
keyed_own [] = tt
keyed_own (e ∷ es) = (refl, keyed_own es)

-- the keys of pairs
abbrev keys : List (List ℕ × List ℕ) → List (List ℕ)
keys pairs = map (λ pair. pair.0) pairs

among : (P : List ℕ → Type 0) (front : List (List ℕ × List ℕ)) (e : List ℕ × List ℕ) (es : List (List ℕ × List ℕ)) → AllByRecursion P (keys (front ++ e ∷ es)) → P e.0
among P [] e es all = all.0
among P (a ∷ front) e es all = among P front e es all.1

-- a pair whose key is above all others is put behind them
pub put_above : (front : List (List ℕ × List ℕ)) (e : List ℕ × List ℕ) (es : List (List ℕ × List ℕ)) → IsStrictlySortedBy text_cmp (keys (front ++ e ∷ es)) → put front e.0 e.1 ≡ front ++ e ∷ []
unfolding IsStrictlySortedBy
put_above [] e es sorted = refl
put_above (a ∷ front) e es sorted =
    ap (λ (o : Ordering). match_ordering o (e ∷ a ∷ front) ((a.0, e.1) ∷ front) (a ∷ put front e.0 e.1))
    (nat_list_cmp_total.antisymm e.0 a.0 ∙ ap ordering_reverse (among (λ k. text_cmp a.0 k ≡ Less) front e es sorted.0))
    ∙ ap (λ (rest : List (List ℕ × List ℕ)). a ∷ rest) (put_above front e es sorted.1)

-- pairs in the order of their keys, all of which are identifiers
put_sorted : (front es : List (List ℕ × List ℕ)) → IsStrictlySortedBy text_cmp (keys (front ++ es)) → AllByRecursion (λ k. is_identifier k ≡ true) (keys es) → put_identifiers front es ≡ front ++ es
put_sorted front [] sorted all = sym (append-nil front)
put_sorted front (e ∷ es) sorted all =
    ap (λ (b : Bool). put_identifiers (cond b (put front e.0 e.1) front) es) all.0
    ∙ ap (λ (pairs : List (List ℕ × List ℕ)). put_identifiers pairs es) (put_above front e es sorted)
    ∙ put_sorted (front ++ e ∷ []) es (subst (λ (pairs : List (List ℕ × List ℕ)). IsStrictlySortedBy text_cmp (keys pairs)) (sym (append_assoc front (e ∷ []) es)) sorted) all.1
    ∙ append_assoc front (e ∷ []) es

pub bytes_sorted : (es : List (String Global × String Global)) → IsStrictlySortedBy string_cmp (map (λ e. e.0) es) → IsStrictlySortedBy text_cmp (keys (pairs_of es))
unfolding IsStrictlySortedBy
bytes_sorted [] sorted = tt
bytes_sorted (e ∷ es) sorted = (below es sorted.0, bytes_sorted es sorted.1)
  where
    below : (ds : List (String Global × String Global)) → AllByRecursion (λ k. string_cmp e.0 k ≡ Less) (map (λ d. d.0) ds) → AllByRecursion (λ k. text_cmp (string_bytes e.0) k ≡ Less) (keys (pairs_of ds))
    below [] all = tt
    below (d ∷ ds) all = (all.0, below ds all.1)

own_identified : (pairs : List (List ℕ × List ℕ)) → AllByRecursion (λ e. is_identifier e.0 ≡ true) (map own pairs) → AllByRecursion (λ k. is_identifier k ≡ true) (keys pairs)
own_identified [] all = tt
own_identified (e ∷ es) all = (all.0, own_identified es all.1)

-- pairs in the order of their keys, all of which are identifiers, are put as they are
pub put_identified : (pairs : List (List ℕ × List ℕ)) → IsStrictlySortedBy text_cmp (map (λ e. e.0) pairs) → AllByRecursion (λ e. is_identifier e.0 ≡ true) (map own pairs) → put_identifiers [] pairs ≡ pairs
put_identified pairs sorted all = put_sorted [] pairs sorted (own_identified pairs all)
