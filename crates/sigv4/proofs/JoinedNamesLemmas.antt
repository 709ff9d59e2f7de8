-- The names of the signed headers, joined, are a header's value.
use Rattle.std.proofs.Common.{◌≡◌, ℕ, Bool, true, false, ◌&&◌, cond, List, [], ◌∷◌, map, filter, Option, Some, None, refl, sym, ap, subst, ◌∙◌, arith}
use Rattle.std.specs.Prelude.{codes}
use Rattle.std.specs.Char.{to_ascii_lowercase}
use Rattle.std.specs.List.{AllByRecursion, list_all}
use Rattle.std.proofs.lemmas.Bool.{and_parts}
use Rattle.std.proofs.lemmas.Bool.Decides.{nat_tests}
use Rattle.std.proofs.lemmas.List.Folds.{list_all-append}
use Rattle.http_header.specs.Token.{is_token_byte, is_value_byte, token_test}
use Rattle.http_header.proofs.TokenLemmas.{is_token_byte-to_ascii_lowercase, token_byte_range}
use Rattle.smithy_core.specs.Civil.{stamp}
use Rattle.smithy_core.specs.TextPairs.{inserted, lower}
use Rattle.sigv4.specs.Canonical.{added_host, canonical_headers, given_headers, header_payload, hosted_headers, is_signed, joined_names, names, ordered_set, token_header, with_optional}
use Rattle.sigv4.specs.Query.{Pair}
use Rattle.sigv4.specs.Refusal.{is_name, is_value, unfit_headers, unfit_token_name}
use Rattle.sigv4.specs.Request.{Case}
use Rattle.sigv4.specs.Settings.{is_query_form}
use Rattle.sigv4.proofs.FitLemmas.{AreFit, all-inserted, fit-from_none, own_name}
use Rattle.sigv4.proofs.SetLemmas.{all-among, among-passes, among-set, any-filtered}

lower_byte-value : (byte : ℕ) → token_test byte ≡ true → is_value_byte (to_ascii_lowercase byte) ≡ true
unfolding is_token_byte
lower_byte-value byte is = let range = token_byte_range (to_ascii_lowercase byte) (is_token_byte-to_ascii_lowercase byte is) in grind (arith, nat_tests)

lower_bytes-value : (bytes : List ℕ) → list_all token_test bytes ≡ true → is_value (lower bytes) ≡ true
lower_bytes-value [] all = refl
lower_bytes-value (byte ∷ bytes) all =
    let parts = and_parts (token_test byte) (list_all token_test bytes) all in
    λ i. lower_byte-value byte parts.0 i && lower_bytes-value bytes parts.1 i

-- a header's name in lower case may be a header's value
lower_name-value : (name : List ℕ) → is_name name ≡ true → is_value (lower name) ≡ true
lower_name-value name is = lower_bytes-value name (and_parts _ _ (and_parts _ _ is).0).1

-- the name of a header may be a header's value
abbrev HasValueName : Pair → Type 0
HasValueName header = is_value header.0 ≡ true

abbrev HaveValueNames : List Pair → Type 0
HaveValueNames headers = AllByRecursion HasValueName headers

given-named : (headers : List Pair) → AreFit headers → HaveValueNames (given_headers headers)
given-named [] fit = tt
given-named (header ∷ headers) fit = (lower_name-value header.0 fit.0.0, given-named headers fit.1)

optional-named : (name : List ℕ) (value : Option (List ℕ)) (headers : List Pair) → is_value name ≡ true → HaveValueNames headers
    → HaveValueNames (with_optional name value headers)
optional-named name None headers is all = all
optional-named name (Some value) headers is all = all-inserted HasValueName headers name value is all

-- the headers that are signed in header form
canonical-named : (c : Case) → is_query_form c.settings ≡ false → AreFit c.headers → is_value (token_header c.settings) ≡ true
    → HaveValueNames (canonical_headers c)
unfolding canonical_headers
canonical-named c form fit named =
    let hosted = optional-named (codes "host") (added_host c.target c.headers) (given_headers c.headers) refl (given-named c.headers fit) in
    let dated = all-inserted HasValueName (hosted_headers c.target c.headers) (codes "x-amz-date") (stamp c.at) refl hosted in
    let held = optional-named (token_header c.settings) c.token (inserted (hosted_headers c.target c.headers) (codes "x-amz-date") (stamp c.at)) named dated in
    let all = optional-named (codes "x-amz-content-sha256") (header_payload c.settings.payload_checksum_kind c.payload) _ refl held in
    subst (λ b. HaveValueNames (cond b (hosted_headers c.target c.headers)
    (with_optional (codes "x-amz-content-sha256") (header_payload c.settings.payload_checksum_kind c.payload)
    (with_optional (token_header c.settings) c.token (inserted (hosted_headers c.target c.headers) (codes "x-amz-date") (stamp c.at)))))) (sym form) all

names-of : (headers : List Pair) → HaveValueNames headers → list_all (λ name. is_value name) (map (λ header. header.0) headers) ≡ true
names-of [] all = refl
names-of (header ∷ headers) all = λ i. all.0 i && names-of headers all.1 i

-- of texts that may be a header's value those that pass a test, as a set
set-value : (test : List ℕ → Bool) (texts : List (List ℕ)) → list_all (λ text. is_value text) texts ≡ true
    → list_all (λ text. is_value text) (ordered_set (filter test texts)) ≡ true
set-value test texts all =
    all-among (λ text. is_value text) (ordered_set (filter test texts))
    (λ text is. among-passes (λ text. is_value text) text texts all
    (and_parts (test text) _ (sym (any-filtered test text texts) ∙ sym (among-set text (filter test texts)) ∙ is)).1)

joined-value : (names : List (List ℕ)) → list_all (λ name. is_value name) names ≡ true → is_value (joined_names names) ≡ true
joined-value [] all = refl
joined-value (name ∷ []) all = (and_parts (is_value name) _ all).0
joined-value (name ∷ other ∷ names) all =
    let parts = and_parts (is_value name) (list_all (λ name. is_value name) (other ∷ names)) all in
    list_all-append is_value_byte name (59 ∷ joined_names (other ∷ names)) ∙ (λ i. parts.0 i && joined-value (other ∷ names) parts.1 i)

-- in header form no header is refused and the token has a name of its own: then the joined names may be a header's value
pub names-value : (c : Case) → is_query_form c.settings ≡ false → unfit_headers 1 c.headers ≡ None → unfit_token_name c.settings ≡ None
    → is_value (joined_names (names c)) ≡ true
unfolding names
names-value c form headers token =
    let own = own_name c.settings c.settings.session_token_name_override form token in
    let named = ap is_value (sym own.is_lower) ∙ lower_name-value (token_header c.settings) own.is_fit in
    joined-value (names c)
    (set-value (is_signed c.settings) (map (λ header. header.0) (canonical_headers c))
    (names-of (canonical_headers c) (canonical-named c form (fit-from_none 1 c.headers headers) named)))
