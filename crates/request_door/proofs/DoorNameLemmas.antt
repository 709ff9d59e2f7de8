-- The names of a request that was signed pass each test of a service's door.
use Rattle.std.proofs.Common.{◌≡◌, ℕ, ◌<◌, ◌≤◌, ◌==◌, Bool, true, false, ◌&&◌, ◌||◌, cond, not, List, [], ◌∷◌, ◌++◌, length, map, Option, Some, inl, inr, refl, sym, ap, ◌∙◌, T, is_some, arith, true≢false, unwrap_or}
use Rattle.std.specs.Prelude.{bytes_eq, codes, filter}
use Rattle.std.specs.FinMap.{FinMap, entries, entries_sorted, from_entries}
use Rattle.std.specs.FinMap.Entries.{below_all, is_sorted}
use Rattle.std.specs.List.{AllByRecursion, list_all, list_any, starts_with}
use Rattle.std.specs.Ordering.{is_lt}
use Rattle.std.specs.declared.cmp.Ordering.{Ordering}
use Rattle.std.specs.declared.cmp.Ordering.TheVariants.{Less, Equal, Greater}
use Rattle.std.proofs.lemmas.Bool.{and_parts, or_parts, false≢true}
use Rattle.std.proofs.lemmas.List.Folds.{list_any-append}
use Rattle.std.proofs.lemmas.Map.Text.{is_eq-slice_cmp}
use Rattle.smithy_core.specs.TextPairs.{AreLower, first_value, lower, named_values}
use Rattle.smithy_http.specs.Target.{Target}
use Rattle.sigv4.specs.Canonical.{added_host, canonical_headers, excluded_token, given_headers, is_signed, names, unsigned_in_query_form, unsigned_token, with_optional}
use Rattle.sigv4.specs.Query.{Pair}
use Rattle.sigv4.specs.Refusal.{is_name}
use Rattle.sigv4.specs.Request.{Case}
use Rattle.sigv4.specs.Settings.{Settings, default_exclusions, is_query, is_query_form}
use Rattle.sigv4.specs.Signed.{signed_headers}
use Rattle.sigv4.specs.Trim.{trim_all}
use Rattle.sigv4.specs.declared.settings.SessionTokenMode.{SessionTokenMode}
use Rattle.sigv4.specs.declared.settings.SignatureLocation.{SignatureLocation}
use Rattle.sigv4.specs.declared.settings.SignatureLocation.TheVariants.{Headers, QueryParams}
use Rattle.sigv4.proofs.InsertedLemmas.{itself, same_name}
use Rattle.sigv4.proofs.SetLemmas.{is_among, is_here, order, bytes_eq-flipped}
use Rattle.sigv4.proofs.AgainLemmas.{first-here}
use Rattle.request_check.proofs.CaseLemmas.{among_from, among_parts}
use Rattle.request_check.proofs.NamesLemmas.{all_among}
use Rattle.request_check.proofs.SentLemmas.{kept_values, layer, layered}
use Rattle.request_check.proofs.ShownNamesLemmas.{ShowsNames}
use Rattle.request_door.specs.DoorAdmission.{GoesByUsualName}
use Rattle.request_door.specs.DoorNames.{MeetsName, are_ordered_after, is_before, is_owed, is_signed_as_owed, is_text_before, is_there, name_tests, unsigned_by_right}
use Rattle.request_door.specs.DoorOrder.{NoneMet}
use Rattle.request_door.specs.declared.limits.Limits.{Limits}
use Rattle.request_door.proofs.DoorLemmas.{unfailed}

-- ---- lists

is_true : (b : Bool) → T b → b ≡ true
is_true true h = refl
is_true false h = absurd h

all_pass : {X : Type 0} (test : X → Bool) (xs : List X) → AllByRecursion (λ x. test x ≡ true) xs → list_all test xs ≡ true
all_pass test [] all = refl
all_pass test (x ∷ xs) all = λ i. all.0 i && all_pass test xs all.1 i

among_bytes : (name : List ℕ) (names : List (List ℕ)) → is_among name names ≡ list_any (bytes_eq name) names
among_bytes name [] = refl
among_bytes name (other ∷ names) = λ i. is_eq-slice_cmp name other i || among_bytes name names i

-- ---- names in order

before_of : (o : Ordering) → is_lt o ≡ true → is_before o ≡ true
before_of Less e = refl
before_of Equal e = absurd (false≢true e)
before_of Greater e = absurd (false≢true e)

abbrev IsPlain : List ℕ → Type 0
IsPlain name = lower name ≡ name

plain_itself : (name : List ℕ) → IsPlain name → bytes_eq name (lower name) ≡ true
plain_itself name plain = ap (bytes_eq name) plain ∙ itself name

ordered_behind : (last : List ℕ) (es : List (List ℕ × Unit {0})) → below_all order last es ≡ true → is_sorted order es ≡ true
    → AllByRecursion IsPlain (map (λ (e : List ℕ × Unit {0}). e.0) es) → are_ordered_after last (map (λ (e : List ℕ × Unit {0}). e.0) es) ≡ true
ordered_behind last [] below sorted plain = refl
ordered_behind last (e ∷ es) below sorted plain =
    let next = and_parts (is_lt (order last e.0)) (below_all order last es) below in
    let rest = and_parts (below_all order e.0 es) (is_sorted order es) sorted in
    λ i. before_of (order last e.0) next.0 i && (plain_itself e.0 plain.0 i && ordered_behind e.0 es rest.0 rest.1 plain.1 i)

ordered_all : (es : List (List ℕ × Unit {0})) → is_sorted order es ≡ true → AllByRecursion IsPlain (map (λ (e : List ℕ × Unit {0}). e.0) es)
    → AllByRecursion (λ name. is_name name ≡ true) (map (λ (e : List ℕ × Unit {0}). e.0) es) → are_ordered_after [] (map (λ (e : List ℕ × Unit {0}). e.0) es) ≡ true
ordered_all [] sorted plain named = refl
ordered_all (e ∷ es) sorted plain named =
    let rest = and_parts (below_all order e.0 es) (is_sorted order es) sorted in
    λ i. first e.0 named.0 i && (plain_itself e.0 plain.0 i && ordered_behind e.0 es rest.0 rest.1 plain.1 i)
  where
    first : (name : List ℕ) → is_name name ≡ true → is_text_before [] name ≡ true
    first [] named = absurd (false≢true named)
    first (b ∷ name) named = refl

-- ---- headers that are there

given_here : (headers : List Pair) (name : List ℕ) → AreLower headers → is_here (named_values (given_headers headers) name) ≡ is_here (named_values headers name)
given_here [] name low = refl
given_here (header ∷ headers) name low =
    ap (λ (n : List ℕ). is_here (cond (bytes_eq n name) (trim_all header.1 ∷ named_values (given_headers headers) name) (named_values (given_headers headers) name))) low.0
    ∙ by (bytes_eq header.0 name) (given_here headers name low.1)
  where
    by : (b : Bool) → is_here (named_values (given_headers headers) name) ≡ is_here (named_values headers name)
        → is_here (cond b (trim_all header.1 ∷ named_values (given_headers headers) name) (named_values (given_headers headers) name))
        ≡ is_here (cond b (header.1 ∷ named_values headers name) (named_values headers name))
    by true rest = refl
    by false rest = rest

-- behind the host's header the values of another name are the headers' own
hosted_here : (host : Option (List ℕ)) (headers : List Pair) (name : List ℕ) → AreLower headers → bytes_eq (codes "host") name ≡ false
    → is_here (named_values (with_optional (codes "host") host (given_headers headers)) name) ≡ is_here (named_values headers name)
hosted_here host headers name low other =
    ap is_here (layered (codes "host") host (given_headers headers) name
    ∙ (ap (λ (b : Bool). layer b host (named_values (given_headers headers) name)) other ∙ kept_values host))
    ∙ given_here headers name low

there : (host : Option (List ℕ)) (headers : List Pair) (name : List ℕ) → AreLower headers → IsPlain name
    → is_here (named_values (with_optional (codes "host") host (given_headers headers)) name) ≡ true → is_there headers name ≡ true
there host headers name low plain here = by (bytes_eq (codes "host") name) refl
  where
    either : (a b : Bool) → b ≡ true → (a || b) ≡ true
    either true b e = refl
    either false b e = e

    by : (b : Bool) → bytes_eq (codes "host") name ≡ b → (bytes_eq name (codes "host") || is_some (first_value headers (lower name))) ≡ true
    by true e = ap (λ (b : Bool). b || is_some (first_value headers (lower name))) (bytes_eq-flipped name (codes "host") ∙ e)
    by false e =
        either (bytes_eq name (codes "host")) (is_some (first_value headers (lower name)))
        (ap (λ (n : List ℕ). is_some (first_value headers n)) plain ∙ (first-here headers name ∙ (sym (hosted_here host headers name low e) ∙ here)))

-- each header is among the headers
each_here : (some all : List Pair) → ((name : List ℕ) → is_here (named_values some name) ≡ true → is_here (named_values all name) ≡ true)
    → AllByRecursion (λ header. is_here (named_values all header.0) ≡ true) some
each_here [] all more = tt
each_here (header ∷ some) all more = (
  more header.0 (ap (λ (b : Bool). is_here (cond b (header.1 ∷ named_values some header.0) (named_values some header.0))) (itself header.0)),
  each_here some all (λ name here. more name (later (bytes_eq header.0 name) name here)),
)
  where
    later : (b : Bool) (name : List ℕ) → is_here (named_values some name) ≡ true → is_here (cond b (header.1 ∷ named_values some name) (named_values some name)) ≡ true
    later true name here = refl
    later false name here = here

each_of : (P Q : Pair → Type 0) (headers : List Pair) → ((header : Pair) → P header → Q header) → AllByRecursion P headers → AllByRecursion Q headers
each_of P Q [] gives all = tt
each_of P Q (header ∷ headers) gives all = (gives header all.0, each_of P Q headers gives all.1)

-- ---- headers that have to be signed

abbrev begins_so : List ℕ → Bool
begins_so name = starts_with (λ a b. a == b) name (codes "x-amz-")

differs : (name key : List ℕ) → begins_so name ≡ true → begins_so key ≡ false → bytes_eq name key ≡ false
differs name key begins other = by (bytes_eq name key) refl
  where
    by : (b : Bool) → bytes_eq name key ≡ b → b ≡ false
    by true e = absurd (true≢false (sym begins ∙ (ap begins_so (same_name name key e) ∙ other)))
    by false e = refl

none_excluded : (name : List ℕ) → begins_so name ≡ true → list_any (bytes_eq name) default_exclusions ≡ false
none_excluded name begins =
    λ i. differs name (codes "authorization") begins refl i || (differs name (codes "user-agent") begins refl i
    || (differs name (codes "x-amzn-trace-id") begins refl i || (differs name (codes "transfer-encoding") begins refl i || false)))

-- the token that isn't signed goes by its usual name
usual_token : (settings : Settings) → GoesByUsualName settings
    → excluded_token settings.session_token_mode (unsigned_token settings) ≡ excluded_token settings.session_token_mode (codes "x-amz-security-token")
usual_token settings (inl include) =
    ap (λ (mode : SessionTokenMode). excluded_token mode (unsigned_token settings)) include
    ∙ sym (ap (λ (mode : SessionTokenMode). excluded_token mode (codes "x-amz-security-token")) include)
usual_token settings (inr usual) = ap (excluded_token settings.session_token_mode)
    (ap (λ (given : Option (List ℕ)). cond (is_query_form settings) (lower (unwrap_or given (codes "X-Amz-Security-Token"))) (unwrap_or given (codes "x-amz-security-token"))) usual
    ∙ either (is_query_form settings))
  where
    either : (b : Bool) → cond b (codes "x-amz-security-token") (codes "x-amz-security-token") ≡ codes "x-amz-security-token"
    either true = refl
    either false = refl

-- a name that has to be signed is none of those that aren't
none_unsigned : (place : SignatureLocation) (mode : SessionTokenMode) (name : List ℕ) → is_owed place mode name ≡ true
    → list_any (bytes_eq name) (default_exclusions ++ excluded_token mode (codes "x-amz-security-token")
    ++ cond (is_query place) (codes "x-amz-user-agent" ∷ codes "x-amz-checksum-mode" ∷ []) []) ≡ false
none_unsigned place mode name owed = by place (and_parts (begins_so name) (not (list_any (bytes_eq name) (unsigned_by_right place mode))) owed)
  where
    is_none : (b : Bool) → not b ≡ true → b ≡ false
    is_none true e = absurd (false≢true e)
    is_none false e = refl

    joined : (more : List (List ℕ)) → begins_so name ≡ true → list_any (bytes_eq name) (excluded_token mode (codes "x-amz-security-token")) ≡ false → list_any (bytes_eq name) more ≡ false
        → list_any (bytes_eq name) (default_exclusions ++ excluded_token mode (codes "x-amz-security-token") ++ more) ≡ false
    joined more begins none no_more =
        list_any-append (bytes_eq name) (default_exclusions ++ excluded_token mode (codes "x-amz-security-token")) more
        ∙ (ap (λ (b : Bool). b || list_any (bytes_eq name) more) (list_any-append (bytes_eq name) default_exclusions (excluded_token mode (codes "x-amz-security-token")))
        ∙ (λ i. (none_excluded name begins i || none i) || no_more i))

    by : (place : SignatureLocation) → (begins_so name ≡ true) × (not (list_any (bytes_eq name) (unsigned_by_right place mode)) ≡ true)
        → list_any (bytes_eq name) (default_exclusions ++ excluded_token mode (codes "x-amz-security-token") ++ cond (is_query place) (codes "x-amz-user-agent" ∷ codes "x-amz-checksum-mode" ∷ []) []) ≡ false
    by Headers (begins, unlisted) = joined [] begins (is_none (list_any (bytes_eq name) (excluded_token mode (codes "x-amz-security-token"))) unlisted) refl
    by QueryParams (begins, unlisted) =
        let first = or_parts (bytes_eq name (codes "x-amz-user-agent")) _ (is_none (list_any (bytes_eq name) (unsigned_by_right QueryParams mode)) unlisted) in
        let second = or_parts (bytes_eq name (codes "x-amz-checksum-mode")) _ first.1 in
        joined (codes "x-amz-user-agent" ∷ codes "x-amz-checksum-mode" ∷ []) begins second.1 (λ i. first.0 i || (second.0 i || false))

owed_signed : (settings : Settings) (name : List ℕ) → settings.excluded_headers ≡ Some default_exclusions → GoesByUsualName settings
    → is_owed settings.signature_location settings.session_token_mode name ≡ true → is_signed settings name ≡ true
unfolding is_signed
owed_signed settings name usual token owed =
    (λ i. not (list_any (bytes_eq name) (unwrap_or (usual i) [] ++ usual_token settings token i ++ unsigned_in_query_form settings)))
    ∙ ap not (none_unsigned settings.signature_location settings.session_token_mode name owed)

-- ---- the case

module _ (c : Case) (target : Target) (shows : ShowsNames c target) where
  names_ordered : are_ordered_after [] (names c) ≡ true
  unfolding names
  names_ordered =
      let set : FinMap order (Unit {0}) = from_entries {R = order} (map (λ text. (text, tt {0})) (filter (is_signed c.settings) (map (λ (header : Pair). header.0) (canonical_headers c)))) in
      ordered_all (entries set) (is_true (is_sorted order (entries set)) (entries_sorted set)) (all_among IsPlain (names c) shows.lower_names)
      (all_among (λ name. is_name name ≡ true) (names c) shows.named)

  names_there : list_all (is_there (signed_headers c)) (names c) ≡ true
  names_there = all_pass (is_there (signed_headers c)) (names c) (all_among (λ name. is_there (signed_headers c) name ≡ true) (names c)
      (λ name among. there (added_host target (signed_headers c)) (signed_headers c) name shows.lower_headers (shows.lower_names name among)
      (ap is_here (shows.values name (shows.others name among)) ∙ (among_parts c name among).1)))

  host_there : list_any (bytes_eq (codes "host")) (names c) ≡ true
  host_there = sym (among_bytes (codes "host") (names c)) ∙ shows.host

  owed_there : c.settings.excluded_headers ≡ Some default_exclusions → GoesByUsualName c.settings
      → list_all (is_signed_as_owed c.settings.signature_location c.settings.session_token_mode (names c)) (signed_headers c) ≡ true
  owed_there usual token =
      all_pass (is_signed_as_owed c.settings.signature_location c.settings.session_token_mode (names c)) (signed_headers c)
      (each_of (λ header. is_here (named_values (signed_headers c) header.0) ≡ true)
      (λ header. is_signed_as_owed c.settings.signature_location c.settings.session_token_mode (names c) header ≡ true) (signed_headers c)
      (λ header here. by_test (is_owed c.settings.signature_location c.settings.session_token_mode header.0) header refl here)
      (each_here (signed_headers c) (signed_headers c) (λ name here. here)))
    where
      by_test : (b : Bool) (header : Pair) → is_owed c.settings.signature_location c.settings.session_token_mode header.0 ≡ b
          → is_here (named_values (signed_headers c) header.0) ≡ true
          → (not (is_owed c.settings.signature_location c.settings.session_token_mode header.0) || list_any (bytes_eq header.0) (names c)) ≡ true
      by_test false header e here = ap (λ (b : Bool). not b || list_any (bytes_eq header.0) (names c)) e
      by_test true header e here =
          let begins = (and_parts (begins_so header.0) _ e).0 in
          let not_host = bytes_eq-flipped (codes "host") header.0 ∙ differs header.0 (codes "host") begins refl in
          let not_own = bytes_eq-flipped (codes "authorization") header.0 ∙ differs header.0 (codes "authorization") begins refl in
          ap (λ (b : Bool). not b || list_any (bytes_eq header.0) (names c)) e
          ∙ (sym (among_bytes header.0 (names c))
          ∙ among_from c header.0 (owed_signed c.settings header.0 usual token e)
          (ap is_here (sym (shows.values header.0 not_own)) ∙ (hosted_here (added_host target (signed_headers c)) (signed_headers c) header.0 shows.lower_headers not_host ∙ here)))

  pub names_pass : (limits : Limits) → c.settings.excluded_headers ≡ Some default_exclusions → GoesByUsualName c.settings → length (names c) ≤ limits.names
      → NoneMet (MeetsName c.settings.signature_location c.settings.session_token_mode limits (signed_headers c) (names c)) name_tests
  names_pass limits usual token few = (
    λ many. too_many many,
    (
      unfailed (are_ordered_after [] (names c)) names_ordered,
      (
        unfailed (list_all (is_there (signed_headers c)) (names c)) names_there,
        (
          unfailed (list_any (bytes_eq (codes "host")) (names c)) host_there,
          (
            unfailed (list_all (is_signed_as_owed c.settings.signature_location c.settings.session_token_mode (names c)) (signed_headers c)) (owed_there usual token),
            tt,
          ),
        ),
      ),
    ),
  )
    where
      too_many : limits.names < length (names c) → ⊥
      too_many many = omega arith
