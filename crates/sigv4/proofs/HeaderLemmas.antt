-- The headers that are signed, as lists of texts.
use Rattle.std.proofs.Common.{◌≡◌, ℕ, Bool, true, false, cond, not, ◌&&◌, ◌||◌, List, [], ◌∷◌, ◌++◌, map, filter, Bor, Option, Some, None, is_some, refl, sym, ap, ◌∙◌, append-nil, subst, T}
use Rattle.std.specs.Prelude.{String, string_bytes, bytes_eq, codes, if◌then◌else◌}
use Rattle.std.specs.declared.alloc.Global.{Global}
use Rattle.std.specs.declared.cmp.Ordering.{Ordering}
use Rattle.std.specs.declared.cmp.Ordering.TheVariants.{Less, Equal, Greater}
use Rattle.std.specs.Ordering.{is_lt, is_eq, eq_by_cmp}
use Rattle.std.proofs.lemmas.Cmp.{nat_list_cmp_total}
use Rattle.std.specs.List.{flat_map, join_with_byte, list_any}
use Rattle.std.specs.List.Sorted.{IsSortedBy, IsStableBy}
use Rattle.std.specs.FinMap.{entries, entries_sorted, from_entries, get-entries, find, is_sorted}
use Rattle.std.specs.FinMap.Entries.{below_all, same_entries}
use Rattle.std.proofs.lemmas.List.{map-append}
use Rattle.std.proofs.lemmas.List.Folds.{list_any-append}
use Rattle.std.proofs.lemmas.Map.Lookups.{exact_bytes}
use Rattle.smithy_core.specs.TextPairs.{inserted, named_values, without}
use Rattle.sigv4.specs.Canonical.{header_line, is_signed, joined_values, signed_names, token_header, with_optional, with_signing_headers}
use Rattle.sigv4.specs.CanonicalHeaders.{HoldsHeaders, gathered, header_pair, header_pairs, header_texts, pair_line, ordered_headers, signed_values, signed_value_text}
use Rattle.sigv4.specs.Query.{Pair}
use Rattle.sigv4.specs.Settings.{Settings, is_query}
use Rattle.sigv4.specs.declared.canonical_headers.SignedValue.{SignedValue}
use Rattle.sigv4.specs.declared.settings.SignatureLocation.{SignatureLocation}
use Rattle.sigv4.specs.declared.settings.SignatureLocation.TheVariants.{Headers}
use Rattle.sigv4.proofs.ByNameLemmas.{by_name_named, sorted_by_name, sorted_in_order}
use Rattle.sigv4.proofs.GatheredLemmas.{InOrder, gathered_found, gathered_sorted, joined_some}
use Rattle.sigv4.proofs.InsertedLemmas.{named-inserted_other, named-inserted_same, named-without_other, named-without_same, same_name, values_if}
use Rattle.sigv4.proofs.SetLemmas.{any-filtered, any-named, is_here, order, set-contains}

-- ---- a list of names with a value at each

module _ (f : List ℕ → List ℕ) where
  abbrev with_value : List (List ℕ × Unit {0}) → List Pair
  with_value es = map (λ e. (e.0, f e.0)) es

  below-with_value : (name : List ℕ) (es : List (List ℕ × Unit {0})) → below_all order name (with_value es) ≡ below_all order name es
  below-with_value name [] = refl
  below-with_value name (e ∷ es) = ap (λ b. is_lt (order name e.0) && b) (below-with_value name es)

  sorted-with_value : (es : List (List ℕ × Unit {0})) → is_sorted order (with_value es) ≡ is_sorted order es
  sorted-with_value [] = refl
  sorted-with_value (e ∷ es) = λ i. below-with_value e.0 es i && sorted-with_value es i

  find-with_value : (name : List ℕ) (es : List (List ℕ × Unit {0})) → find order name (with_value es) ≡ cond (is_some (find order name es)) (Some (f name)) None
  find-with_value name [] = refl
  find-with_value name (e ∷ es) = by_order (order name e.0) refl (find-with_value name es)
    where
      by_order : (o : Ordering) → order name e.0 ≡ o → find order name (with_value es) ≡ cond (is_some (find order name es)) (Some (f name)) None
          → cond (is_eq o) (Some (f e.0)) (find order name (with_value es)) ≡ cond (is_some (cond (is_eq o) (Some e.1) (find order name es))) (Some (f name)) None
      by_order Less p again = again
      by_order Equal p again = ap (λ n. Some (f n)) (sym (exact_bytes name e.0 p))
      by_order Greater p again = again

  with_value-names : (es : List (List ℕ × Unit {0})) → map (λ n. (n, f n)) (map (λ e. e.0) es) ≡ with_value es
  with_value-names [] = refl
  with_value-names (e ∷ es) = ap (λ (rest : List Pair). (e.0, f e.0) ∷ rest) (with_value-names es)

-- ---- headers in order

-- what a name has, where it is signed and has values
value-signed : (settings : Settings) (pairs : List Pair) (name : List ℕ)
    → joined_some (signed_values settings pairs name)
    ≡ cond (list_any (eq_by_cmp order name) (filter (is_signed settings) (map (λ head. head.0) pairs))) (Some (joined_values pairs name)) None
value-signed settings pairs name =
    by_test (is_signed settings name) (named_values pairs name)
    ∙ ap (λ b. cond b (Some (joined_values pairs name)) None)
    (ap (λ b. is_signed settings name && b) (sym (any-named name pairs)) ∙ sym (any-filtered (is_signed settings) name (map (λ head. head.0) pairs)))
  where
    by_test : (b : Bool) (values : List (List ℕ)) → joined_some (cond b values []) ≡ cond (b && is_here values) (Some (join_with_byte 44 values)) None
    by_test true [] = refl
    by_test true (value ∷ values) = refl
    by_test false values = refl

-- pairs in order that have the values of each name that is signed are these names in order, each with its values joined
texts-held : (settings : Settings) (pairs held : List Pair) → InOrder held → ((name : List ℕ) → named_values held name ≡ signed_values settings pairs name)
    → gathered held ≡ ordered_headers settings pairs
texts-held settings pairs held up holds =
    let names = filter (is_signed settings) (map (λ head. head.0) pairs) in
    let set = from_entries {R = order} (map (λ n. (n, tt {0})) names) in
    let es = entries set in
    let f : List ℕ → List ℕ = joined_values pairs in
    let same : (name : List ℕ) → find order name (gathered held) ≡ find order name (with_value f es) =
    λ name. gathered_found name held up ∙ ap joined_some (holds name) ∙ value-signed settings pairs name
    ∙ ap (λ b. cond b (Some (f name)) None) (sym (set-contains name names) ∙ ap is_some (get-entries set name)) ∙ sym (find-with_value f name es) in
    same_entries order nat_list_cmp_total exact_bytes (gathered held) (with_value f es)
    (gathered_sorted held up) (subst T (sym (sorted-with_value f es)) (entries_sorted set)) same
    ∙ sym (with_value-names f es)

-- headers that are sorted by name
pub sorted-held : (settings : Settings) (pairs : List Pair) (before after : List (Bor (List ℕ) × SignedValue))
    → IsSortedBy (λ x y. is_lt (order x.0.now y.0.now)) after → IsStableBy (λ x y. is_lt (order x.0.now y.0.now)) before after
    → HoldsHeaders settings pairs before → header_texts after ≡ ordered_headers settings pairs
sorted-held settings pairs before after up stable holds =
    texts-held settings pairs (header_pairs after) (sorted_in_order signed_value_text after up)
    (λ name. ap (λ held. named_values held name) (sorted_by_name signed_value_text before after up stable) ∙ by_name_named (header_pairs before) name ∙ holds name)

-- ---- one header after another

-- of the one header that is signed, the value is there at its name alone
pub signed-one : (settings : Settings) (head : Pair) (name : List ℕ) → is_signed settings head.0 ≡ true
    → named_values (head ∷ []) name ≡ signed_values settings (head ∷ []) name
signed-one settings head name is = by_test (bytes_eq head.0 name) refl (is_signed settings name) refl
  where
    by_test : (here : Bool) → bytes_eq head.0 name ≡ here → (signed : Bool) → is_signed settings name ≡ signed
        → cond here (head.1 ∷ []) [] ≡ cond signed (cond here (head.1 ∷ []) []) []
    by_test here e true s = refl
    by_test true e false s = absurd (subst T (sym is ∙ ap (is_signed settings) (same_name head.0 name e) ∙ s) tt)
    by_test false e false s = refl

named-append : (xs ys : List Pair) (name : List ℕ) → named_values (xs ++ ys) name ≡ named_values xs name ++ named_values ys name
named-append [] ys name = refl
named-append (x ∷ xs) ys name = by_test (bytes_eq x.0 name) (named-append xs ys name)
  where
    by_test : (b : Bool) → named_values (xs ++ ys) name ≡ named_values xs name ++ named_values ys name
        → values_if b x.1 (named_values (xs ++ ys) name) ≡ values_if b x.1 (named_values xs name) ++ named_values ys name
    by_test true again = ap (λ rest. x.1 ∷ rest) again
    by_test false again = again

-- the values with one header more
pub named-pushed : (headers : List (Bor (List ℕ) × SignedValue)) (header : Bor (List ℕ) × SignedValue) (name : List ℕ)
    → named_values (header_pairs (headers ++ header ∷ [])) name ≡ named_values (header_pairs headers) name ++ named_values (header_pair header ∷ []) name
named-pushed headers header name =
    ap (λ pairs. named_values pairs name) (map-append header_pair headers (header ∷ [])) ∙ named-append (header_pairs headers) (header_pair header ∷ []) name

-- the values with a header in place of those of its name
pub named-put : (before left : List Pair) (name value q : List ℕ) → left ≡ without before name
    → named_values left q ++ named_values ((name, value) ∷ []) q ≡ (if bytes_eq name q then value ∷ [] else named_values before q)
named-put before left name value q e = ap (λ pairs. named_values pairs q ++ named_values ((name, value) ∷ []) q) e ∙ by_test (bytes_eq name q) refl
  where
    by_test : (b : Bool) → bytes_eq name q ≡ b → named_values (without before name) q ++ cond b (value ∷ []) [] ≡ cond b (value ∷ []) (named_values before q)
    by_test true f = ap (λ values. values ++ value ∷ []) (ap (named_values (without before name)) (sym (same_name name q f)) ∙ named-without_same name before)
    by_test false f = append-nil (named_values (without before name) q) ∙ named-without_other name q f before

-- texts of the headers that don't have a name
pub texts-without : (headers : List (Bor (List ℕ) × SignedValue)) (name : List ℕ)
    → header_pairs (filter (λ header. not (bytes_eq header.0.now name)) headers) ≡ without (header_pairs headers) name
texts-without [] name = refl
texts-without (header ∷ headers) name = by_test (bytes_eq header.0.now name) (texts-without headers name)
  where
    by_test : (b : Bool) → header_pairs (filter (λ header. not (bytes_eq header.0.now name)) headers) ≡ without (header_pairs headers) name
        → header_pairs (cond (not b) (header ∷ filter (λ header. not (bytes_eq header.0.now name)) headers) (filter (λ header. not (bytes_eq header.0.now name)) headers))
        ≡ cond (not b) (header_pair header ∷ without (header_pairs headers) name) (without (header_pairs headers) name)
    by_test true again = again
    by_test false again = ap (λ rest. header_pair header ∷ rest) again

-- a header that is signed is inserted
pub held-inserted : (settings : Settings) (pairs : List Pair) (headers now : List (Bor (List ℕ) × SignedValue)) (name value : List ℕ) → is_signed settings name ≡ true
    → ((q : List ℕ) → named_values (header_pairs now) q ≡ (if bytes_eq name q then value ∷ [] else named_values (header_pairs headers) q))
    → HoldsHeaders settings pairs headers → HoldsHeaders settings (inserted pairs name value) now
held-inserted settings pairs headers now name value is puts holds q = puts q ∙ by_test (bytes_eq name q) refl
  where
    signed : (b : Bool) → b ≡ true → value ∷ [] ≡ cond b (value ∷ []) []
    signed true e = refl
    signed false e = absurd (subst T (sym e) tt)

    by_test : (b : Bool) → bytes_eq name q ≡ b → cond b (value ∷ []) (named_values (header_pairs headers) q) ≡ signed_values settings (inserted pairs name value) q
    by_test true e =
        let same = same_name name q e in
        signed (is_signed settings q) (ap (is_signed settings) (sym same) ∙ is)
        ∙ ap (λ values. cond (is_signed settings q) values []) (sym (ap (λ n. named_values (inserted pairs name value) n) (sym same) ∙ named-inserted_same pairs name value))
    by_test false e = holds q ∙ ap (λ values. cond (is_signed settings q) values []) (sym (named-inserted_other name value q e pairs))

-- a header that isn't signed stays out
pub held-unsigned : (settings : Settings) (pairs : List Pair) (headers : List (Bor (List ℕ) × SignedValue)) (name value : List ℕ) → is_signed settings name ≡ false
    → HoldsHeaders settings pairs headers → HoldsHeaders settings (inserted pairs name value) headers
held-unsigned settings pairs headers name value is holds q = holds q ∙ by_test (bytes_eq name q) refl
  where
    unsigned : (b : Bool) (some other : List (List ℕ)) → b ≡ false → cond b some [] ≡ cond b other []
    unsigned true some other e = absurd (subst T e tt)
    unsigned false some other e = refl

    by_test : (b : Bool) → bytes_eq name q ≡ b → signed_values settings pairs q ≡ signed_values settings (inserted pairs name value) q
    by_test true e = unsigned (is_signed settings q) _ _ (ap (is_signed settings) (sym (same_name name q e)) ∙ is)
    by_test false e = ap (λ values. cond (is_signed settings q) values []) (sym (named-inserted_other name value q e pairs))

-- ---- names as texts

-- a name is found among texts where it is found among strings
pub any-texts : (name : List ℕ) (names : List (String Global)) → list_any (bytes_eq name) (map string_bytes names) ≡ list_any (λ other. bytes_eq name (string_bytes other)) names
any-texts name [] = refl
any-texts name (other ∷ names) = ap (λ b. bytes_eq name (string_bytes other) || b) (any-texts name names)

pub ruleset finds = (any-texts, list_any-append)

-- ---- the names and the lines of the signed headers

map-first : (f : List ℕ → List ℕ) (names : List (List ℕ)) → map (λ (head : Pair). head.0) (map (λ n. (n, f n)) names) ≡ names
map-first f [] = refl
map-first f (name ∷ names) = ap (λ rest. name ∷ rest) (map-first f names)

flat_map-lines : (pairs : List Pair) (names : List (List ℕ)) → flat_map pair_line (map (λ n. (n, joined_values pairs n)) names) ≡ flat_map (header_line pairs) names
flat_map-lines pairs [] = refl
flat_map-lines pairs (name ∷ names) = ap (λ rest. header_line pairs name ++ rest) (flat_map-lines pairs names)

pub names-held : (settings : Settings) (pairs texts : List Pair) → texts ≡ ordered_headers settings pairs
    → map (λ (head : Pair). head.0) texts ≡ signed_names settings pairs
names-held settings pairs texts held = ap (map (λ (head : Pair). head.0)) held ∙ map-first (joined_values pairs) (signed_names settings pairs)

pub lines-held : (settings : Settings) (pairs texts : List Pair) → texts ≡ ordered_headers settings pairs
    → flat_map pair_line texts ≡ flat_map (header_line pairs) (signed_names settings pairs)
lines-held settings pairs texts held = ap (flat_map pair_line) held ∙ flat_map-lines pairs (signed_names settings pairs)

-- ---- the headers that a signature adds

-- headers hold the same headers under other words
pub held-same : {settings settings' : Settings} {pairs pairs' : List Pair} (headers : List (Bor (List ℕ) × SignedValue)) → settings ≡ settings' → pairs ≡ pairs'
    → HoldsHeaders settings pairs headers → HoldsHeaders settings' pairs' headers
held-same headers e f holds name = holds name ∙ (λ i. signed_values (e i) (f i) name)

-- the headers that the signature adds in header form, under other words
pub header-form : (settings : Settings) (date : List ℕ) (token payload : Option (List ℕ)) (pairs : List Pair) {name : List ℕ} {told : Option (List ℕ)}
    → settings.signature_location ≡ Headers → name ≡ token_header settings → told ≡ payload
    → with_optional (codes "x-amz-content-sha256") told (with_optional name token (inserted pairs (codes "x-amz-date") date))
    ≡ with_signing_headers settings date token payload pairs
header-form settings date token payload pairs form named told =
    let all = with_optional (codes "x-amz-content-sha256") payload (with_optional (token_header settings) token (inserted pairs (codes "x-amz-date") date)) in
    (λ i. with_optional (codes "x-amz-content-sha256") (told i) (with_optional (named i) token (inserted pairs (codes "x-amz-date") date)))
    ∙ ap (λ (location : SignatureLocation). cond (is_query location) pairs all) (sym form)
