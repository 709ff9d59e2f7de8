-- Pairs in the order of their keys stay in order, and are put one behind another.
use Rattle.std.proofs.Common.{◌≡◌, ◌∙◌, ℕ, Bool, true, false, cond, length, List, [], ◌∷◌, ◌++◌, append_assoc, map, String, string_bytes, string_cmp, Global, sym, ap, subst}
use Rattle.std.specs.Prelude.{nat_lt, Result, Ok, Err, OnOk, OnErr}
use Rattle.std.specs.List.{AllByRecursion, after_first, before_first, position_or_len, remove}
use Rattle.std.specs.List.Sorted.{IsStrictlySortedBy}
use Rattle.std.specs.declared.cmp.Ordering.TheVariants.{Less}
use Rattle.env_config.specs.Latest.{without_places}
use Rattle.env_config.specs.LatestView.{placed_of}
use Rattle.env_config.specs.Line.{is_equals}
use Rattle.env_config.specs.Order.{IsRising}
use Rattle.env_config.specs.Texts.{one_pair, pairs_of, put, text_cmp}
use Rattle.env_config.proofs.NarrowLemmas.{put_rising}
use Rattle.env_config.proofs.SectionLemmas.{put_above}

-- the keys ascend
abbrev pub AreInOrder : {X : Type 0} → List (List ℕ × X) → Type 0
AreInOrder es = IsStrictlySortedBy text_cmp (map (λ e. e.0) es)

rising : {X : Type 0} (es : List (List ℕ × X)) → AreInOrder es → IsRising es
unfolding IsStrictlySortedBy
rising [] ordered = tt
rising {X} (e ∷ es) ordered = (each es ordered.0, rising es ordered.1)
  where
    each : (ds : List (List ℕ × X)) → AllByRecursion (λ k. text_cmp e.0 k ≡ Less) (map (λ d. d.0) ds) → AllByRecursion (λ d. text_cmp e.0 d.0 ≡ Less) ds
    each [] all = tt
    each (d ∷ ds) all = (all.0, each ds all.1)

ordered : {X : Type 0} (es : List (List ℕ × X)) → IsRising es → AreInOrder es
unfolding IsStrictlySortedBy
ordered [] is = tt
ordered {X} (e ∷ es) is = (each es is.0, ordered es is.1)
  where
    each : (ds : List (List ℕ × X)) → AllByRecursion (λ d. text_cmp e.0 d.0 ≡ Less) ds → AllByRecursion (λ k. text_cmp e.0 k ≡ Less) (map (λ d. d.0) ds)
    each [] all = tt
    each (d ∷ ds) all = (all.0, each ds all.1)

pub none_in_order : AreInOrder {X = List ℕ} []
unfolding IsStrictlySortedBy
none_in_order = tt

-- one pair or none is in order
pub one_in_order : (text : List ℕ) → AreInOrder (one_pair text)
unfolding IsStrictlySortedBy
one_in_order text = by (nat_lt (position_or_len is_equals text) (length text))
  where
    by : (b : Bool) → AreInOrder (cond b ((before_first is_equals text, after_first is_equals text) ∷ []) [])
    by true = (tt, tt)
    by false = tt

-- one that is put leaves them in order
pub put_in_order : {X : Type 0} (es : List (List ℕ × X)) (key : List ℕ) (value : X) → AreInOrder es → AreInOrder (put es key value)
put_in_order es key value is = ordered (put es key value) (put_rising es key value (rising es is))

-- those after the first one are in order
pub removed_in_order : (items : List (String Global × String Global)) → AreInOrder (pairs_of items) → AreInOrder (pairs_of (remove items 0))
unfolding IsStrictlySortedBy
removed_in_order [] is = is
removed_in_order (e ∷ es) is = is.1

-- what was put, or left as it was, is in order
pub now_in_order : {E : Type 0} (old now : List (List ℕ × List ℕ)) (key value : List ℕ) (result : Result (Unit {0}) E) → OnOk result (now ≡ put old key value) → OnErr result (now ≡ old) → AreInOrder old → AreInOrder now
now_in_order old now key value (Ok _) ok err is = subst AreInOrder (sym ok) (put_in_order old key value is)
now_in_order old now key value (Err e) ok err is = subst AreInOrder (sym err) is

-- a pair that is put behind all others
pub put_behind : (front all rest : List (List ℕ × List ℕ)) (e : List ℕ × List ℕ) → front ++ e ∷ rest ≡ all → AreInOrder all → put front e.0 e.1 ++ rest ≡ all
put_behind front all rest e is in_order =
    ap (λ (xs : List (List ℕ × List ℕ)). xs ++ rest) (put_above front e rest (subst AreInOrder (sym is) in_order)) ∙ append_assoc front (e ∷ []) rest ∙ is

-- the values of a map without their places are in order
pub placed_in_order : (es : List (String Global × (ℕ × String Global))) → IsStrictlySortedBy string_cmp (map (λ e. e.0) es) → AreInOrder (without_places (placed_of es))
unfolding IsStrictlySortedBy
placed_in_order [] is = tt
placed_in_order (e ∷ es) is = (below es is.0, placed_in_order es is.1)
  where
    below : (ds : List (String Global × (ℕ × String Global))) → AllByRecursion (λ k. string_cmp e.0 k ≡ Less) (map (λ d. d.0) ds) → AllByRecursion (λ k. text_cmp (string_bytes e.0) k ≡ Less) (map (λ d. d.0) (without_places (placed_of ds)))
    below [] all = tt
    below (d ∷ ds) all = (all.0, below ds all.1)
