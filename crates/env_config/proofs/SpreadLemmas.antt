-- List (A × List (B × X)) of entries, spread out: what a value that is put in a group, and a look-up in one, are among all entries.
use Rattle.std.proofs.Common.{◌≡◌, ◌∙◌, ℕ, Bool, true, false, cond, List, [], ◌∷◌, ◌++◌, map, Ordering, Less, Equal, Greater, is_eq, refl, sym, ap, ap₂}
use Rattle.std.specs.Prelude.{Option, Some, None, option_map, unwrap_or, is_some}
use Rattle.std.specs.Ordering.{match_ordering, ordering_then}
use Rattle.std.specs.BTreeMap.{insert_entry, is_at}
use Rattle.std.specs.Cmp.{IsTotalOrder, tied_itself}
use Rattle.std.specs.Cmp.Lexicographic.{nat_list_cmp_total}
use Rattle.std.specs.List.{AllByRecursion}
use Rattle.std.specs.List.Sorted.{IsStrictlySortedBy}
use Rattle.std.specs.Map.{lookup, set_value}
use Rattle.std.proofs.lemmas.Bool.{false≢true}
use Rattle.std.proofs.lemmas.Map.Steps.{set_value_same}
use Rattle.env_config.specs.Properties.{spread}
use Rattle.env_config.specs.Texts.{Named, put_named, text_cmp}
use Rattle.env_config.proofs.TextsLemmas.{entries_at, named_of, named_twice}

abbrev heads : {K X : Type 0} → List (K × X) → List K
heads es = map (λ e. e.0) es

-- ## Maps

module _ {K X : Type 0} (R : K → K → Ordering) (total : IsTotalOrder R) where
  -- all keys are above
  abbrev Above : K → List (K × X) → Type 0
  Above key es = AllByRecursion (λ k. R key k ≡ Less) (heads es)

  above_more : (key first : K) (es : List (K × X)) → R key first ≡ Less → Above first es → Above key es
  above_more key first [] below all = tt
  above_more key first (e ∷ es) below all = (total.trans key first e.0 below all.0, above_more key first es below all.1)

  above_none : (key : K) (es : List (K × X)) → Above key es → lookup (is_at (R key)) es ≡ None
  above_none key [] all = refl
  above_none key (e ∷ es) all = ap (λ (o : Ordering). cond (is_eq o) (Some e.1) (lookup (is_at (R key)) es)) all.0 ∙ above_none key es all.1

  -- a value that is written in place of one is put there
  pub written : (es : List (K × X)) (key : K) (value : X) → IsStrictlySortedBy R (heads es) → is_some (lookup (is_at (R key)) es) ≡ true → set_value (is_at (R key)) es value ≡ insert_entry R es key value
  unfolding IsStrictlySortedBy
  written [] key value sorted found = absurd (false≢true found)
  written (e ∷ es) key value sorted found = by (R key e.0) refl (written es key value sorted.1)
    where
      by : (o : Ordering) → R key e.0 ≡ o → (is_some (lookup (is_at (R key)) es) ≡ true → set_value (is_at (R key)) es value ≡ insert_entry R es key value)
          → cond (is_eq (R key e.0)) ((e.0, value) ∷ es) (e ∷ set_value (is_at (R key)) es value) ≡ match_ordering (R key e.0) ((key, value) ∷ e ∷ es) ((e.0, value) ∷ es) (e ∷ insert_entry R es key value)
      by Less is again =
          let none : lookup (is_at (R key)) (e ∷ es) ≡ None = above_none key (e ∷ es) (is, above_more key e.0 es is sorted.0) in
          absurd (false≢true (sym (ap is_some none) ∙ found))
      by Equal is again = ap (λ (o : Ordering). cond (is_eq o) ((e.0, value) ∷ es) (e ∷ set_value (is_at (R key)) es value)) is ∙ sym (ap (λ (o : Ordering). match_ordering o ((key, value) ∷ e ∷ es) ((e.0, value) ∷ es) (e ∷ insert_entry R es key value)) is)
      by Greater is again =
          let more : is_some (lookup (is_at (R key)) es) ≡ true = sym (ap (λ (o : Ordering). is_some (cond (is_eq o) (Some e.1) (lookup (is_at (R key)) es))) is) ∙ found in
          ap (λ (o : Ordering). cond (is_eq o) ((e.0, value) ∷ es) (e ∷ set_value (is_at (R key)) es value)) is
          ∙ ap (λ (rest : List (K × X)). e ∷ rest) (again more)
          ∙ sym (ap (λ (o : Ordering). match_ordering o ((key, value) ∷ e ∷ es) ((e.0, value) ∷ es) (e ∷ insert_entry R es key value)) is)

-- ## List (A × List (B × X))

-- the value of a part, in a group where there is one
abbrev pub in_group : {B X : Type 0} → (B → B → Ordering) → B → Option (List (B × X)) → Option X
in_group S b None = None
in_group S b (Some es) = lookup (is_at (S b)) es

module _ {A B K X : Type 0} (R : A → A → Ordering) (S : B → B → Ordering) (T : K → K → Ordering) (make : A → B → K) (total : IsTotalOrder R) (same : (a c : A) → is_eq (R a c) ≡ true → a ≡ c)
    (parts : (a c : A) (b d : B) → T (make a b) (make c d) ≡ ordering_then (R a c) (S b d)) where
  -- a group's entries under its key
  abbrev under : A → List (B × X) → List (K × X)
  under a es = map (λ e. (make a e.0, e.1)) es

  abbrev put_group : List (A × List (B × X)) → A → List (B × X) → List (A × List (B × X))
  put_group gs a es = insert_entry R gs a es

  abbrev put_all : List (K × X) → A → B → X → List (K × X)
  put_all es a b x = insert_entry T es (make a b) x

  -- one step over an entry
  step : (a : A) (b : B) (x : X) (e : K × X) (es : List (K × X)) (o : Ordering) → T (make a b) e.0 ≡ o → put_all (e ∷ es) a b x ≡ match_ordering o ((make a b, x) ∷ e ∷ es) ((e.0, x) ∷ es) (e ∷ put_all es a b x)
  step a b x e es o is = ap (λ (o : Ordering). match_ordering o ((make a b, x) ∷ e ∷ es) ((e.0, x) ∷ es) (e ∷ put_all es a b x)) is

  -- what is put stands before all groups above
  first : (a : A) (b : B) (x : X) (gs : List (A × List (B × X))) → AllByRecursion (λ k. R a k ≡ Less) (heads gs) → put_all (spread make gs) a b x ≡ (make a b, x) ∷ spread make gs
  first a b x [] above = refl
  first a b x (g ∷ gs) above = by g.1 (first a b x gs above.1)
    where
      by : (es : List (B × X)) → put_all (spread make gs) a b x ≡ (make a b, x) ∷ spread make gs → put_all (under g.0 es ++ spread make gs) a b x ≡ (make a b, x) ∷ (under g.0 es ++ spread make gs)
      by [] again = again
      by (e ∷ es) again = step a b x (make g.0 e.0, e.1) (under g.0 es ++ spread make gs) Less (parts a g.0 b e.0 ∙ ap (λ (o : Ordering). ordering_then o (S b e.0)) above.0)

  -- what is put in a group stands among its entries
  within : (a : A) (b : B) (x : X) (es : List (B × X)) (gs : List (A × List (B × X))) → AllByRecursion (λ k. R a k ≡ Less) (heads gs)
      → put_all (under a es ++ spread make gs) a b x ≡ under a (insert_entry S es b x) ++ spread make gs
  within a b x [] gs above = first a b x gs above
  within a b x (e ∷ es) gs above = by (S b e.0) refl (within a b x es gs above)
    where
      rest : List (K × X)
      rest = under a es ++ spread make gs

      tied : T (make a b) (make a e.0) ≡ S b e.0
      tied = parts a a b e.0 ∙ ap (λ (o : Ordering). ordering_then o (S b e.0)) (tied_itself total a)

      by : (o : Ordering) → S b e.0 ≡ o → put_all rest a b x ≡ under a (insert_entry S es b x) ++ spread make gs
          → put_all ((make a e.0, e.1) ∷ rest) a b x ≡ under a (match_ordering (S b e.0) ((b, x) ∷ e ∷ es) ((e.0, x) ∷ es) (e ∷ insert_entry S es b x)) ++ spread make gs
      by Less is more =
          step a b x (make a e.0, e.1) rest Less (tied ∙ is)
          ∙ sym (ap (λ (o : Ordering). under a (match_ordering o ((b, x) ∷ e ∷ es) ((e.0, x) ∷ es) (e ∷ insert_entry S es b x)) ++ spread make gs) is)
      by Equal is more =
          step a b x (make a e.0, e.1) rest Equal (tied ∙ is)
          ∙ sym (ap (λ (o : Ordering). under a (match_ordering o ((b, x) ∷ e ∷ es) ((e.0, x) ∷ es) (e ∷ insert_entry S es b x)) ++ spread make gs) is)
      by Greater is more =
          step a b x (make a e.0, e.1) rest Greater (tied ∙ is)
          ∙ ap (λ (more : List (K × X)). (make a e.0, e.1) ∷ more) more
          ∙ sym (ap (λ (o : Ordering). under a (match_ordering o ((b, x) ∷ e ∷ es) ((e.0, x) ∷ es) (e ∷ insert_entry S es b x)) ++ spread make gs) is)

  -- what is put stands behind a group below
  behind : (a : A) (b : B) (x : X) (c : A) (es : List (B × X)) (rest : List (K × X)) → R a c ≡ Greater → put_all (under c es ++ rest) a b x ≡ under c es ++ put_all rest a b x
  behind a b x c [] rest above = refl
  behind a b x c (e ∷ es) rest above =
      step a b x (make c e.0, e.1) (under c es ++ rest) Greater (parts a c b e.0 ∙ ap (λ (o : Ordering). ordering_then o (S b e.0)) above)
      ∙ ap (λ (more : List (K × X)). (make c e.0, e.1) ∷ more) (behind a b x c es rest above)

  -- what is put in a group is put among all
  pub group_put : (gs : List (A × List (B × X))) (a : A) (es : List (B × X)) (b : B) (x : X) → IsStrictlySortedBy R (heads gs) → spread make (put_group gs a (insert_entry S es b x)) ≡ put_all (spread make (put_group gs a es)) a b x
  unfolding IsStrictlySortedBy
  group_put [] a es b x sorted = sym (within a b x es [] tt)
  group_put (g ∷ gs) a es b x sorted = by (R a g.0) refl (group_put gs a es b x sorted.1)
    where
      new : List (B × X)
      new = insert_entry S es b x

      by : (o : Ordering) → R a g.0 ≡ o → spread make (put_group gs a new) ≡ put_all (spread make (put_group gs a es)) a b x
          → spread make (match_ordering (R a g.0) ((a, new) ∷ g ∷ gs) ((g.0, new) ∷ gs) (g ∷ put_group gs a new))
          ≡ put_all (spread make (match_ordering (R a g.0) ((a, es) ∷ g ∷ gs) ((g.0, es) ∷ gs) (g ∷ put_group gs a es))) a b x
      by Less is more =
          ap (λ (o : Ordering). spread make (match_ordering o ((a, new) ∷ g ∷ gs) ((g.0, new) ∷ gs) (g ∷ put_group gs a new))) is
          ∙ sym (within a b x es (g ∷ gs) (is, above_more R total a g.0 gs is sorted.0))
          ∙ sym (ap (λ (o : Ordering). put_all (spread make (match_ordering o ((a, es) ∷ g ∷ gs) ((g.0, es) ∷ gs) (g ∷ put_group gs a es))) a b x) is)
      by Equal is more =
          let one : a ≡ g.0 = same a g.0 (ap is_eq is) in
          ap (λ (o : Ordering). spread make (match_ordering o ((a, new) ∷ g ∷ gs) ((g.0, new) ∷ gs) (g ∷ put_group gs a new))) is
          ∙ sym (within g.0 b x es gs sorted.0)
          ∙ ap (λ (c : A). insert_entry T (under g.0 es ++ spread make gs) (make c b) x) (sym one)
          ∙ sym (ap (λ (o : Ordering). put_all (spread make (match_ordering o ((a, es) ∷ g ∷ gs) ((g.0, es) ∷ gs) (g ∷ put_group gs a es))) a b x) is)
      by Greater is more =
          ap (λ (o : Ordering). spread make (match_ordering o ((a, new) ∷ g ∷ gs) ((g.0, new) ∷ gs) (g ∷ put_group gs a new))) is
          ∙ ap (λ (rest : List (K × X)). under g.0 g.1 ++ rest) more
          ∙ sym (behind a b x g.0 g.1 (spread make (put_group gs a es)) is)
          ∙ sym (ap (λ (o : Ordering). put_all (spread make (match_ordering o ((a, es) ∷ g ∷ gs) ((g.0, es) ∷ gs) (g ∷ put_group gs a es))) a b x) is)

  -- a group that is put back changes nothing
  pub group_back : (gs : List (A × List (B × X))) (a : A) → IsStrictlySortedBy R (heads gs) → spread make (put_group gs a (unwrap_or (lookup (is_at (R a)) gs) [])) ≡ spread make gs
  unfolding IsStrictlySortedBy
  group_back [] a sorted = refl
  group_back (g ∷ gs) a sorted = by (R a g.0) refl (group_back gs a sorted.1)
    where
      found : List (B × X)
      found = unwrap_or (lookup (is_at (R a)) (g ∷ gs)) []

      by : (o : Ordering) → R a g.0 ≡ o → spread make (put_group gs a (unwrap_or (lookup (is_at (R a)) gs) [])) ≡ spread make gs
          → spread make (match_ordering (R a g.0) ((a, found) ∷ g ∷ gs) ((g.0, found) ∷ gs) (g ∷ put_group gs a found)) ≡ spread make (g ∷ gs)
      by Less is more =
          let none : lookup (is_at (R a)) (g ∷ gs) ≡ None = above_none R total a (g ∷ gs) (is, above_more R total a g.0 gs is sorted.0) in
          ap (λ (o : Ordering). spread make (match_ordering o ((a, found) ∷ g ∷ gs) ((g.0, found) ∷ gs) (g ∷ put_group gs a found))) is
          ∙ ap (λ (found : Option (List (B × X))). spread make ((a, unwrap_or found []) ∷ g ∷ gs)) none
      by Equal is more =
          ap (λ (o : Ordering). spread make (match_ordering o ((a, found) ∷ g ∷ gs) ((g.0, found) ∷ gs) (g ∷ put_group gs a found))) is
          ∙ ap (λ (o : Ordering). spread make ((g.0, unwrap_or (cond (is_eq o) (Some g.1) (lookup (is_at (R a)) gs)) []) ∷ gs)) is
      by Greater is more =
          ap (λ (o : Ordering). spread make (match_ordering o ((a, found) ∷ g ∷ gs) ((g.0, found) ∷ gs) (g ∷ put_group gs a found))) is
          ∙ ap (λ (o : Ordering). under g.0 g.1 ++ spread make (put_group gs a (unwrap_or (cond (is_eq o) (Some g.1) (lookup (is_at (R a)) gs)) []))) is
          ∙ ap (λ (rest : List (K × X)). under g.0 g.1 ++ rest) more

  -- ## Look-ups

  abbrev find_all : List (K × X) → A → B → Option X
  find_all es a b = lookup (is_at (T (make a b))) es

  -- no entry of a group of another key is it
  passed : (a : A) (b : B) (c : A) (es : List (B × X)) (rest : List (K × X)) → is_eq (R a c) ≡ false → find_all (under c es ++ rest) a b ≡ find_all rest a b
  passed a b c [] rest apart = refl
  passed a b c (e ∷ es) rest apart =
      ap (λ (found : Bool). cond found (Some e.1) (find_all (under c es ++ rest) a b)) (ap is_eq (parts a c b e.0) ∙ by (R a c) apart)
      ∙ passed a b c es rest apart
    where
      by : (o : Ordering) → is_eq o ≡ false → is_eq (ordering_then o (S b e.0)) ≡ false
      by Less is = refl
      by Equal is = absurd (false≢true (sym is))
      by Greater is = refl

  all_passed : (a : A) (b : B) (gs : List (A × List (B × X))) → AllByRecursion (λ k. R a k ≡ Less) (heads gs) → find_all (spread make gs) a b ≡ None
  all_passed a b [] above = refl
  all_passed a b (g ∷ gs) above = passed a b g.0 g.1 (spread make gs) (ap is_eq above.0) ∙ all_passed a b gs above.1

  found_within : (a : A) (b : B) (es : List (B × X)) (rest : List (K × X)) → find_all rest a b ≡ None → find_all (under a es ++ rest) a b ≡ lookup (is_at (S b)) es
  found_within a b [] rest none = none
  found_within a b (e ∷ es) rest none =
      ap (λ (o : Ordering). cond (is_eq o) (Some e.1) (find_all (under a es ++ rest) a b)) (parts a a b e.0 ∙ ap (λ (o : Ordering). ordering_then o (S b e.0)) (tied_itself total a))
      ∙ ap (λ (found : Option X). cond (is_eq (S b e.0)) (Some e.1) found) (found_within a b es rest none)

  -- a look-up among all is one in the group
  pub group_at : (gs : List (A × List (B × X))) (a : A) (b : B) → IsStrictlySortedBy R (heads gs) → find_all (spread make gs) a b ≡ in_group S b (lookup (is_at (R a)) gs)
  unfolding IsStrictlySortedBy
  group_at [] a b sorted = refl
  group_at (g ∷ gs) a b sorted = by (R a g.0) refl (group_at gs a b sorted.1)
    where
      by : (o : Ordering) → R a g.0 ≡ o → find_all (spread make gs) a b ≡ in_group S b (lookup (is_at (R a)) gs)
          → find_all (under g.0 g.1 ++ spread make gs) a b ≡ in_group S b (cond (is_eq (R a g.0)) (Some g.1) (lookup (is_at (R a)) gs))
      by Less is more =
          passed a b g.0 g.1 (spread make gs) (ap is_eq is) ∙ more ∙ sym (ap (λ (o : Ordering). in_group S b (cond (is_eq o) (Some g.1) (lookup (is_at (R a)) gs))) is)
      by Equal is more =
          let one : a ≡ g.0 = same a g.0 (ap is_eq is) in
          ap (λ (c : A). lookup (is_at (T (make c b))) (under g.0 g.1 ++ spread make gs)) one
          ∙ found_within g.0 b g.1 (spread make gs) (all_passed g.0 b gs sorted.0)
          ∙ sym (ap (λ (o : Ordering). in_group S b (cond (is_eq o) (Some g.1) (lookup (is_at (R a)) gs))) is)
      by Greater is more =
          passed a b g.0 g.1 (spread make gs) (ap is_eq is) ∙ more ∙ sym (ap (λ (o : Ordering). in_group S b (cond (is_eq o) (Some g.1) (lookup (is_at (R a)) gs))) is)

-- ## Values that are written

module _ {K J X Y : Type 0} (own : K → K → Ordering) (R : J → J → Ordering) (total : IsTotalOrder R) (query : K → Ordering) (g : K → J) (f : X → Y) (key : J) (alike : (a b : K) → own a b ≡ R (g a) (g b))
    (asks : (k : K) → query k ≡ R key (g k)) where
  abbrev seen_all : List (K × X) → List (J × Y)
  seen_all es = map (λ e. (g e.0, f e.1)) es

  set_seen : (es : List (K × X)) (w : X) → seen_all (set_value (is_at query) es w) ≡ set_value (is_at (R key)) (seen_all es) (f w)
  set_seen [] w = refl
  set_seen (e ∷ es) w =
      ap (λ (o : Ordering). seen_all (cond (is_eq o) ((e.0, w) ∷ es) (e ∷ set_value (is_at query) es w))) (asks e.0)
      ∙ elim (is_eq (R key (g e.0))) as (λ (b : Bool). seen_all (cond b ((e.0, w) ∷ es) (e ∷ set_value (is_at query) es w)) ≡ cond b ((g e.0, f w) ∷ seen_all es) ((g e.0, f e.1) ∷ set_value (is_at (R key)) (seen_all es) (f w))) [
        | true ↦ refl
        | false ↦ ap (λ (rest : List (J × Y)). (g e.0, f e.1) ∷ rest) (set_seen es w)
      ]

  -- keys in order stay in order, as they are seen
  pub sorted_seen : (es : List (K × X)) → IsStrictlySortedBy own (heads es) → IsStrictlySortedBy R (heads (seen_all es))
  unfolding IsStrictlySortedBy
  sorted_seen [] sorted = tt
  sorted_seen (e ∷ es) sorted = (below es sorted.0, sorted_seen es sorted.1)
    where
      below : (ds : List (K × X)) → AllByRecursion (λ k. own e.0 k ≡ Less) (heads ds) → AllByRecursion (λ k. R (g e.0) k ≡ Less) (heads (seen_all ds))
      below [] all = tt
      below (d ∷ ds) all = (sym (alike e.0 d.0) ∙ all.0, below ds all.1)

  -- what is found, as it is seen
  pub found_seen : (es : List (K × X)) (found : Option X) → found ≡ lookup (is_at query) es → lookup (is_at (R key)) (seen_all es) ≡ option_map f found
  found_seen es found is = sym (ap (option_map f) is ∙ entries_at query R g f key asks es)

  -- a value that is written in place of one is put there
  pub through : (es now : List (K × X)) (old w : X) → now ≡ set_value (is_at query) es w → IsStrictlySortedBy own (heads es) → Some old ≡ lookup (is_at query) es → seen_all now ≡ insert_entry R (seen_all es) key (f w)
  through es now old w is sorted found =
      ap seen_all is ∙ set_seen es w ∙ written R total (seen_all es) key (f w) (sorted_seen es sorted) (ap is_some (found_seen es (Some old) found))

  -- a value that is seen as before leaves all as they were
  pub through_same : (es now : List (K × X)) (old w : X) → now ≡ set_value (is_at query) es w → Some old ≡ lookup (is_at query) es → f w ≡ f old → seen_all now ≡ seen_all es
  through_same es now old w is found same =
      ap seen_all is ∙ set_seen es w ∙ ap (set_value (is_at (R key)) (seen_all es)) same ∙ set_value_same (is_at (R key)) (seen_all es) (f old) (found_seen es (Some old) found)

-- a value that is written under a name doesn't count once a later one is put there
pub written_later : {K X : Type 0} (own : K → K → Ordering) (text : K → List ℕ) (alike : (a b : K) → own a b ≡ text_cmp (text a) (text b)) (names : List K) (es now : List (K × X)) (name : List ℕ) (old left : X)
    → now ≡ set_value (is_at (λ k. text_cmp name (text k))) es left → IsStrictlySortedBy own (heads es) → Some old ≡ lookup (is_at (λ k. text_cmp name (text k))) es
    → (value : X) → put_named (named_of text names now) name value ≡ put_named (named_of text names es) name value
written_later {K} {X} own text alike names es now name old left is sorted found value =
    let asked : K → Ordering = λ k. text_cmp name (text k) in
    let make : List (List ℕ) → List (List ℕ × X) → Named X = λ ns values. record { names = ns; values = values } in
    let ns = map text names in
    let known = found_seen own text_cmp nat_list_cmp_total asked text (λ (x : X). x) name alike (λ _. refl) es (Some old) found in
    let values = through own text_cmp nat_list_cmp_total asked text (λ (x : X). x) name alike (λ _. refl) es now old left is sorted found in
    let put_is : named_of text names now ≡ put_named (named_of text names es) name left = ap₂ make (sym (ap (λ (o : Option X). cond (is_some o) ns (ns ++ name ∷ [])) known)) values in
    ap (λ (n : Named X). put_named n name value) put_is ∙ named_twice (named_of text names es) name left value
