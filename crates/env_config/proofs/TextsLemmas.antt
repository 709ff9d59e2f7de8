-- A map of strings as a map of texts, and what it has after a value was put.
use Rattle.std.proofs.Common.{◌≡◌, ℕ, Bool, true, false, cond, List, [], ◌∷◌, ◌++◌, map, String, string_bytes, bytes_eq, refl, sym, ap, ap₂, ◌∙◌, Ordering, Bor, Less, Equal, Greater, is_eq}
use Rattle.std.specs.Prelude.{Option, Some, None, option_map, is_some}
use Rattle.std.specs.Ordering.{match_ordering}
use Rattle.std.specs.BTreeMap.{insert_entry, is_at}
use Rattle.std.specs.Cmp.{tied_itself}
use Rattle.std.specs.Cmp.Lexicographic.{nat_list_cmp_total, nat_list_eq_equiv}
use Rattle.std.specs.Map.{lookup}
use Rattle.std.proofs.lemmas.List.{map-append}
use Rattle.std.proofs.lemmas.Map.Text.{is_eq-slice_cmp}
use Rattle.env_config.specs.Texts.{Named, named_as, put, put_named, text_cmp, value_under, words_of}
use Rattle.env_config.specs.SectionProperties.{property_values}

module _ {K J X Y : Type 0} (test : K → K → Ordering) (R : J → J → Ordering) (g : K → J) (f : X → Y) (same : (a b : K) → test a b ≡ R (g a) (g b)) where
  -- an entry as g and f see it
  abbrev pub seen : K × X → J × Y
  seen e = (g e.0, f e.1)

  pub entries_put : (es : List (K × X)) (key : K) (value : X) → map seen (insert_entry test es key value) ≡ insert_entry R (map seen es) (g key) (f value)
  entries_put [] key value = refl
  entries_put (e ∷ es) key value =
      ap (λ (o : Ordering). map seen (match_ordering o ((key, value) ∷ e ∷ es) ((e.0, value) ∷ es) (e ∷ insert_entry test es key value))) (same key e.0)
      ∙ elim (R (g key) (g e.0)) as (λ (o : Ordering).
      map seen (match_ordering o ((key, value) ∷ e ∷ es) ((e.0, value) ∷ es) (e ∷ insert_entry test es key value))
      ≡ match_ordering o ((g key, f value) ∷ seen e ∷ map seen es) ((g e.0, f value) ∷ map seen es) (seen e ∷ insert_entry R (map seen es) (g key) (f value))) [
        | Less ↦ refl
        | Equal ↦ refl
        | Greater ↦ ap (λ xs. seen e ∷ xs) (entries_put es key value)
      ]

module _ {K J X Y : Type 0} (query : K → Ordering) (R : J → J → Ordering) (g : K → J) (f : X → Y) (key : J) (same : (k : K) → query k ≡ R key (g k)) where
  pub entries_at : (es : List (K × X)) → option_map f (lookup (is_at query) es) ≡ lookup (is_at (R key)) (map (λ e. (g e.0, f e.1)) es)
  entries_at [] = refl
  entries_at (e ∷ es) =
      ap (λ (o : Ordering). option_map f (cond (is_eq o) (Some e.1) (lookup (is_at query) es))) (same e.0)
      ∙ elim (is_eq (R key (g e.0))) as (λ (b : Bool).
      option_map f (cond b (Some e.1) (lookup (is_at query) es)) ≡ cond b (Some (f e.1)) (lookup (is_at (R key)) (map (λ e. (g e.0, f e.1)) es))) [
        | true ↦ refl
        | false ↦ entries_at es
      ]

-- a text is tied with itself
pub itself : (key : List ℕ) → text_cmp key key ≡ Equal
itself key = tied_itself nat_list_cmp_total key

module _ {X : Type 0} where
  -- the value that was put
  pub value_put : (es : List (List ℕ × X)) (key : List ℕ) (value : X) → value_under (put es key value) key ≡ Some value
  value_put [] key value = ap (λ (o : Ordering). cond (is_eq o) (Some value) None) (itself key)
  value_put (e ∷ es) key value = by (value_put es key value) (text_cmp key e.0) refl
    where
      by : value_under (put es key value) key ≡ Some value → (o : Ordering) → text_cmp key e.0 ≡ o → value_under (match_ordering o ((key, value) ∷ e ∷ es) ((e.0, value) ∷ es) (e ∷ put es key value)) key ≡ Some value
      by again Less is = ap (λ (o : Ordering). cond (is_eq o) (Some value) (value_under (e ∷ es) key)) (itself key)
      by again Equal is = ap (λ (o : Ordering). cond (is_eq o) (Some value) (value_under es key)) is
      by again Greater is = ap (λ (o : Ordering). cond (is_eq o) (Some e.1) (value_under (put es key value) key)) is ∙ again

  -- the later value stands alone
  pub put_twice : (es : List (List ℕ × X)) (key : List ℕ) (value later : X) → put (put es key value) key later ≡ put es key later
  put_twice [] key value later = ap (λ (o : Ordering). match_ordering o ((key, later) ∷ (key, value) ∷ []) ((key, later) ∷ []) ((key, value) ∷ (key, later) ∷ [])) (itself key)
  put_twice (e ∷ es) key value later = by (put_twice es key value later) (text_cmp key e.0) refl
    where
      by : put (put es key value) key later ≡ put es key later → (o : Ordering) → text_cmp key e.0 ≡ o → put (match_ordering o ((key, value) ∷ e ∷ es) ((e.0, value) ∷ es) (e ∷ put es key value)) key later
          ≡ match_ordering o ((key, later) ∷ e ∷ es) ((e.0, later) ∷ es) (e ∷ put es key later)
      by again Less is = ap (λ (o : Ordering). match_ordering o ((key, later) ∷ (key, value) ∷ e ∷ es) ((key, later) ∷ e ∷ es) ((key, value) ∷ put (e ∷ es) key later)) (itself key)
      by again Equal is = ap (λ (o : Ordering). match_ordering o ((key, later) ∷ (e.0, value) ∷ es) ((e.0, later) ∷ es) ((e.0, value) ∷ put es key later)) is
      by again Greater is = ap (λ (o : Ordering). match_ordering o ((key, later) ∷ e ∷ put es key value) ((e.0, later) ∷ put es key value) (e ∷ put (put es key value) key later)) is ∙ ap (λ xs. e ∷ xs) again

  -- of two values under one name the later one stays
  pub named_twice : (named : Named X) (name : List ℕ) (value later : X) → put_named (put_named named name value) name later ≡ put_named named name later
  named_twice named name value later =
      let make : List (List ℕ) → List (List ℕ × X) → Named X = λ names values. record { names = names; values = values } in
      let names = cond (is_some (value_under named.values name)) named.names (named.names ++ name ∷ []) in
      ap₂ make (ap (λ (o : Option X). cond (is_some o) names (names ++ name ∷ [])) (value_put named.values name value)) (put_twice named.values name value later)

-- values by their names, as the code keeps them
abbrev pub named_of : {K X : Type 0} → (K → List ℕ) → List K → List (K × X) → Named X
named_of text names es = record { names = map text names; values = map (λ e. (text e.0, e.1)) es }

module _ {K X : Type 0} (cmp : K → K → Ordering) (text : K → List ℕ) (alike : (a b : K) → cmp a b ≡ text_cmp (text a) (text b)) (names : List K) (es now : List (K × X)) (key : K) (name : List ℕ) (value : X) (before : Option X)
    (is : text key ≡ name) (puts : now ≡ insert_entry cmp es key value) (had : before ≡ lookup (is_at (cmp key)) es) where
  -- the value before
  pub value_before : before ≡ value_under (named_of text names es).values name
  value_before = sym (same before) ∙ ap (option_map (λ (x : X). x)) had ∙ entries_at (cmp key) text_cmp text (λ (x : X). x) (text key) (alike key) es ∙ ap (value_under (named_of text names es).values) is
    where
      same : (o : Option X) → option_map (λ (x : X). x) o ≡ o
      same None = refl
      same (Some x) = refl

  values_now : (named_of text names now).values ≡ put (named_of text names es).values name value
  values_now = ap (map (λ (e : K × X). (text e.0, e.1))) puts ∙ entries_put cmp text_cmp text (λ (x : X). x) alike es key value ∙ ap (λ (k : List ℕ). put (named_of text names es).values k value) is

  with_names : (kept : List (List ℕ)) → (known : Bool) → is_some before ≡ known → kept ≡ cond known (map text names) (map text names ++ name ∷ [])
      → record { names = kept; values = (named_of text names now).values } ≡ put_named (named_of text names es) name value
  with_names kept known known_is kept_is =
      let make : List (List ℕ) → List (List ℕ × X) → Named X = λ names values. record { names = names; values = values } in
      ap₂ make (kept_is ∙ ap (λ (b : Bool). cond b (map text names) (map text names ++ name ∷ [])) (sym known_is ∙ ap is_some value_before)) values_now

  -- a name that was there stays where it is
  pub named_known : is_some before ≡ true → named_of text names now ≡ put_named (named_of text names es) name value
  named_known known = with_names (map text names) true known refl

  -- a new name comes last
  pub named_new : (new : K) → text new ≡ name → is_some before ≡ false → named_of text (names ++ new ∷ []) now ≡ put_named (named_of text names es) name value
  named_new new new_is known =
      with_names (map text (names ++ new ∷ [])) false known (map-append text names (new ∷ []) ∙ ap (λ (n : List ℕ). map text names ++ n ∷ []) new_is)

option_same : {X : Type 0} (o : Option X) → option_map (λ (x : X). x) o ≡ o
option_same None = refl
option_same (Some x) = refl

-- a look-up by a text among strings
pub text_found : {Z X : Type 0} (es : List (String Z × X)) (key : List ℕ) → lookup (is_at (λ k. text_cmp key (string_bytes k))) es ≡ value_under (map (λ e. (string_bytes e.0, e.1)) es) key
text_found {Z} {X} es key =
    sym (option_same (lookup (is_at (λ k. text_cmp key (string_bytes k))) es))
    ∙ entries_at (λ k. text_cmp key (string_bytes k)) text_cmp string_bytes (λ (x : X). x) key (λ _. refl) es

-- ## Borrowed names

abbrev pub word_of : Bor (List ℕ) → List ℕ
word_of word = word.now

abbrev pub word_cmp : Bor (List ℕ) → Bor (List ℕ) → Ordering
word_cmp a b = text_cmp a.now b.now

pub word_found : {X : Type 0} (es : List (Bor (List ℕ) × X)) (name : List ℕ) → lookup (is_at (λ (k : Bor (List ℕ)). text_cmp name k.now)) es ≡ value_under (words_of es) name
word_found {X} es name =
    sym (option_same (lookup (is_at (λ (k : Bor (List ℕ)). text_cmp name k.now)) es))
    ∙ entries_at (λ (k : Bor (List ℕ)). text_cmp name k.now) text_cmp word_of (λ (x : X). x) name (λ _. refl) es

pub words_put : {X : Type 0} (es now : List (Bor (List ℕ) × X)) (name : Bor (List ℕ)) (value : X) → now ≡ insert_entry word_cmp es name value → words_of now ≡ put (words_of es) name.now value
words_put {X} es now name value puts = ap words_of puts ∙ entries_put word_cmp text_cmp word_of (λ (x : X). x) (λ _ _. refl) es name value

-- ## Values as a function sees them

module _ {X Y : Type 0} (f : X → Y) where
  pub seen_at : (named : Named X) (name : List ℕ) → option_map f (value_under named.values name) ≡ value_under (named_as f named).values name
  seen_at named name = entries_at (text_cmp name) text_cmp (λ (k : List ℕ). k) f name (λ _. refl) named.values

  some_seen : (o : Option X) → is_some o ≡ is_some (option_map f o)
  some_seen None = refl
  some_seen (Some x) = refl

  pub seen_put : (named : Named X) (name : List ℕ) (value : X) → named_as f (put_named named name value) ≡ put_named (named_as f named) name (f value)
  seen_put named name value =
      let make : List (List ℕ) → List (List ℕ × Y) → Named Y = λ names values. record { names = names; values = values } in
      ap₂ make (ap (λ (b : Bool). cond b named.names (named.names ++ name ∷ [])) (some_seen (value_under named.values name) ∙ ap is_some (seen_at named name)))
      (entries_put text_cmp text_cmp (λ (k : List ℕ). k) f (λ _ _. refl) named.values name value)

-- one step of a look-up by a text in lower case
pub lower_step : (s t : List (List ℕ × (List ℕ × List ℕ))) (e : List ℕ × (List ℕ × List ℕ)) (q : List ℕ) (found : Bool) → s ≡ e ∷ t → found ≡ bytes_eq e.0 q
    → value_under (property_values s) q ≡ cond found (Some e.1.1) (value_under (property_values t) q)
lower_step s t e q found is found_is =
    ap (λ (es : List (List ℕ × (List ℕ × List ℕ))). value_under (property_values es) q) is
    ∙ ap (λ (b : Bool). cond b (Some e.1.1) (value_under (property_values t) q)) (is_eq-slice_cmp q e.0 ∙ nat_list_eq_equiv.symm q e.0 ∙ sym found_is)
