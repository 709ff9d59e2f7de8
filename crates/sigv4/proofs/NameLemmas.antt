-- The order of the names that are signed.
use Rattle.std.proofs.Common.{◌≡◌, ℕ, Bool, true, false, not, ◌&&◌, ◌||◌, List, [], ◌∷◌, map, refl, ap, sym, ◌∙◌, T, inl, inr, arith}
use Rattle.std.specs.Cmp.Lexicographic.{slice_cmp}
use Rattle.std.specs.FinMap.{entries, entries_sorted, is_sorted}
use Rattle.std.specs.FinMap.Entries.{below_all}
use Rattle.std.specs.List.{AllByRecursion, list_any}
use Rattle.std.specs.List.Sorted.{IsStrictlySortedBy}
use Rattle.std.specs.Ordering.{nat_cmp, is_lt}
use Rattle.std.specs.Char.{is_ascii_uppercase, to_ascii_lowercase}
use Rattle.std.specs.Prelude.{◌↔◌, IsTrue, bytes_eq, nat_eq}
use Rattle.std.specs.declared.cmp.Ordering.{Ordering}
use Rattle.std.specs.declared.cmp.Ordering.TheVariants.{Less, Equal, Greater}
use Rattle.std.proofs.lemmas.Cmp.{nat_list_cmp_total}
use Rattle.std.proofs.lemmas.Map.Lookups.{exact_bytes}
use Rattle.std.specs.Cmp.{tied_itself}
use Rattle.std.proofs.lemmas.Bool.{cases_Bool, false≢true}
use Rattle.std.proofs.lemmas.Bool.Decides.{nat_tests}
use Rattle.std.proofs.lemmas.Slice.Eq.{bytes_eq-Decides}
use Rattle.smithy_core.specs.TextPairs.{lower}
use Rattle.smithy_core.proofs.LowerLemmas.{lower_lower}
use Rattle.sigv4.specs.Canonical.{names}
use Rattle.sigv4.specs.Request.{Case}
use Rattle.sigv4.proofs.RefusalLemmas.{decides-text}

abbrev order : List ℕ → List ℕ → Ordering
order = slice_cmp nat_cmp

abbrev Marked : Type 0
Marked = List ℕ × Unit {0}

below-Less : (name : List ℕ) (es : List Marked) → T (below_all order name es) → AllByRecursion (λ other. order name other ≡ Less) (map (λ e. e.0) es)
below-Less name [] h = tt
below-Less name (e ∷ es) h = by (order name e.0) refl h (below-Less name es)
  where
    by : (o : Ordering) → order name e.0 ≡ o → T (is_lt o && below_all order name es)
        → (T (below_all order name es) → AllByRecursion (λ other. order name other ≡ Less) (map (λ e. e.0) es))
        → (order name e.0 ≡ Less) × AllByRecursion (λ other. order name other ≡ Less) (map (λ e. e.0) es)
    by Less p rest more = (p, more rest)
    by Equal p rest more = absurd rest
    by Greater p rest more = absurd rest

sorted-Strictly : (es : List Marked) → T (is_sorted order es) → IsStrictlySortedBy order (map (λ e. e.0) es)
unfolding IsStrictlySortedBy
sorted-Strictly [] h = tt
sorted-Strictly (e ∷ es) h = by (below_all order e.0 es) (below-Less e.0 es) (sorted-Strictly es) h
  where
    by : (b : Bool) → (T b → AllByRecursion (λ other. order e.0 other ≡ Less) (map (λ e. e.0) es))
        → (T (is_sorted order es) → IsStrictlySortedBy order (map (λ e. e.0) es)) → T (b && is_sorted order es)
        → AllByRecursion (λ other. order e.0 other ≡ Less) (map (λ e. e.0) es) × IsStrictlySortedBy order (map (λ e. e.0) es)
    by true below more rest = (below tt, more rest)
    by false below more rest = absurd rest

-- the names ascend
pub names-ascend : (c : Case) → IsStrictlySortedBy (slice_cmp nat_cmp) (names c)
unfolding names
names-ascend c = sorted-Strictly (entries _) (entries_sorted _)

-- the order tells apart what differs
pub order-agrees : (a b : List ℕ) → (slice_cmp nat_cmp a b ≡ Equal) ↔ (a ≡ b)
order-agrees a b = (exact_bytes a b, λ e. ap (order a) (sym e) ∙ tied_itself nat_list_cmp_total a)

pub ruleset ordered = (names-ascend, order-agrees)

-- ---- names in lower case

-- a name in lower case is another one in lower case where it is the same but for the case
pub lower-of : (name other : List ℕ) (r : Bool) → bytes_eq (lower name) name ≡ true → (IsTrue r ↔ (lower name ≡ lower other)) → r ≡ bytes_eq name (lower other)
lower-of name other r is same =
    let plain : lower name ≡ name = (bytes_eq-Decides (lower name) name).0 is in
    decides-text name (lower other) r ((λ holds. sym plain ∙ same.0 holds), λ equal. same.1 (plain ∙ equal))

-- and no other name is
pub lower-of-none : (name other : List ℕ) → bytes_eq (lower name) name ≡ false → false ≡ bytes_eq name (lower other)
lower-of-none name other differ = sym (elim (cases_Bool (bytes_eq name (lower other))) [
  | inl equal ↦
      let is : name ≡ lower other = (bytes_eq-Decides name (lower other)).0 equal in
      let plain : lower name ≡ name = ap lower is ∙ lower_lower other ∙ sym is in
      absurd (false≢true (sym differ ∙ (bytes_eq-Decides (lower name) name).1 plain))
  | inr other ↦ other
])

-- a text is the same in lower case where it has no letter in upper case
pub lower_text : (text : List ℕ) → not (list_any is_ascii_uppercase text) ≡ bytes_eq (lower text) text
lower_text [] = refl
lower_text (byte ∷ bytes) = by (is_ascii_uppercase byte) refl (lower_text bytes)
  where
    by : (upper : Bool) → is_ascii_uppercase byte ≡ upper → not (list_any is_ascii_uppercase bytes) ≡ bytes_eq (lower bytes) bytes
        → not (upper || list_any is_ascii_uppercase bytes) ≡ (nat_eq (to_ascii_lowercase byte) byte && bytes_eq (lower bytes) bytes)
    by true is again =
        let differ : nat_eq (to_ascii_lowercase byte) byte ≡ false = grind (arith, nat_tests) in
        ap (λ b. b && bytes_eq (lower bytes) bytes) (sym differ)
    by false is again =
        let same : nat_eq (to_ascii_lowercase byte) byte ≡ true = grind (arith, nat_tests) in
        again ∙ ap (λ b. b && bytes_eq (lower bytes) bytes) (sym same)
