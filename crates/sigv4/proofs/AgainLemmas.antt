-- Signing a signed request again.
use Rattle.std.proofs.Common.{◌≡◌, ℕ, Bool, true, false, ◌&&◌, cond, not, List, [], ◌∷◌, ◌++◌, map, filter, Option, Some, None, is_some, refl, sym, ap, ◌∙◌, true≢false, unwrap_or}
use Rattle.std.specs.Prelude.{bytes_eq, codes}
use Rattle.std.specs.List.{flat_map, join_with_byte, list_any}
use Rattle.std.specs.Option.{option_or}
use Rattle.std.proofs.lemmas.Bool.{and_parts}
use Rattle.smithy_core.specs.Civil.{stamp}
use Rattle.smithy_core.specs.TextPairs.{first_value, inserted, lower, named_values, without}
use Rattle.smithy_core.specs.Text.{line}
use Rattle.smithy_http.specs.Target.{Target}
use Rattle.sigv4.specs.Again.{HasSameTarget, SignsAgain, again}
use Rattle.sigv4.specs.Canonical.{added_host, canonical, canonical_headers, canonical_lines, credential, excluded_token, given_headers, has_host, header_line, hosted_headers, is_signed, joined_names, names, pairs, path_of, signed_names, header_payload, token_header, unsigned_in_query_form, unsigned_token, with_optional}
use Rattle.sigv4.specs.Host.{host_text}
use Rattle.sigv4.specs.Instructions.{with_instructions}
use Rattle.sigv4.specs.Parameters.{target_text_with}
use Rattle.sigv4.specs.Query.{Pair, decoded, query}
use Rattle.sigv4.specs.Refusal.{is_name, is_value, unfit, unfit_expiry, unfit_headers, unfit_host, unfit_host_text, unfit_optional, unfit_target, unfit_texts, unfit_token_name, unfit_value}
use Rattle.sigv4.specs.Request.{Case}
use Rattle.sigv4.specs.Settings.{Settings, default_exclusions, is_query_form}
use Rattle.sigv4.specs.Signature.{signature}
use Rattle.sigv4.specs.Signed.{authorization, authorization_text, instructions, instructions_for, parameters, signature_of, signed_headers, signed_target}
use Rattle.sigv4.specs.Trim.{trim_all}
use Rattle.sigv4.specs.declared.error.ValuePlace.TheVariants.{Authorization, PayloadHash, Token}
use Rattle.sigv4.proofs.FitLemmas.{HasOwnName, both_none, fit-from_none, fit-instructions, fit-with, none-from_fit, own_name, passed, stamp-value}
use Rattle.sigv4.proofs.InsertedLemmas.{named-inserted_other, named-inserted_same, same_name, values_if}
use Rattle.sigv4.proofs.SetLemmas.{among-set, any-filtered, any-named, flat_map-among, is_among, is_here, same_set}

-- ---- the given headers after an insertion

-- the values of a name among the given headers
abbrev given_values : List Pair → List ℕ → List (List ℕ)
given_values headers name = named_values (given_headers headers) name

given-without : (name other : List ℕ) → bytes_eq (lower name) other ≡ false → (headers : List Pair) → given_values (without headers name) other ≡ given_values headers other
given-without name other differ [] = refl
given-without name other differ (header ∷ headers) = by_test (bytes_eq header.0 name) refl (given-without name other differ headers)
  where
    by_test : (b : Bool) → bytes_eq header.0 name ≡ b → given_values (without headers name) other ≡ given_values headers other
        → given_values (cond (not b) (header ∷ without headers name) (without headers name)) other ≡ values_if (bytes_eq (lower header.0) other) (trim_all header.1) (given_values headers other)
    by_test true e more = more ∙ ap (λ b. values_if b (trim_all header.1) (given_values headers other)) (sym (ap (λ n. bytes_eq (lower n) other) (same_name header.0 name e) ∙ differ))
    by_test false e more = ap (values_if (bytes_eq (lower header.0) other) (trim_all header.1)) more

given-inserted : (name value other : List ℕ) → bytes_eq (lower name) other ≡ false → (headers : List Pair) → given_values (inserted headers name value) other ≡ given_values headers other
given-inserted name value other differ [] = ap (λ b. values_if b (trim_all value) []) differ
given-inserted name value other differ (header ∷ headers) = by_test (bytes_eq header.0 name) refl (given-inserted name value other differ headers)
  where
    by_test : (b : Bool) → bytes_eq header.0 name ≡ b → given_values (inserted headers name value) other ≡ given_values headers other
        → given_values (cond b ((name, value) ∷ without headers name) (header ∷ inserted headers name value)) other
        ≡ values_if (bytes_eq (lower header.0) other) (trim_all header.1) (given_values headers other)
    by_test true e more =
        ap (λ b. values_if b (trim_all value) (given_values (without headers name) other)) differ ∙ given-without name other differ headers
        ∙ ap (λ b. values_if b (trim_all header.1) (given_values headers other)) (sym (ap (λ n. bytes_eq (lower n) other) (same_name header.0 name e) ∙ differ))
    by_test false e more = ap (values_if (bytes_eq (lower header.0) other) (trim_all header.1)) more

-- a name is another than that of a header, where there is such a header
abbrev Lacks : List ℕ → Option (List ℕ) → List ℕ → Type 0
Lacks header None name = Unit {0}
Lacks header (Some value) name = bytes_eq header name ≡ false

-- the date and the authorization leave the values of other names
given-front : (headers : List Pair) (date authorization_text name : List ℕ) → bytes_eq (codes "x-amz-date") name ≡ false → bytes_eq (codes "authorization") name ≡ false
    → given_values (inserted (inserted headers (codes "x-amz-date") date) (codes "authorization") authorization_text) name ≡ given_values headers name
given-front headers date authorization_text name d a =
    given-inserted (codes "authorization") authorization_text name a (inserted headers (codes "x-amz-date") date) ∙ given-inserted (codes "x-amz-date") date name d headers

-- and so do all of the signature's own headers
given-signed : (headers : List Pair) (settings : Settings) (date authorization_text name : List ℕ) (payload token : Option (List ℕ))
    → bytes_eq (codes "x-amz-date") name ≡ false → bytes_eq (codes "authorization") name ≡ false → Lacks (codes "x-amz-content-sha256") payload name
    → Lacks (lower (lower (token_header settings))) token name
    → given_values (with_instructions headers (instructions_for settings date authorization_text payload token)) name ≡ given_values headers name
given-signed headers settings date authorization_text name None None d a p t = given-front headers date authorization_text name d a
given-signed headers settings date authorization_text name (Some payload) None d a p t =
    given-inserted (codes "x-amz-content-sha256") payload name p _ ∙ given-front headers date authorization_text name d a
given-signed headers settings date authorization_text name None (Some token) d a p t =
    given-inserted (lower (token_header settings)) token name t _ ∙ given-front headers date authorization_text name d a
given-signed headers settings date authorization_text name (Some payload) (Some token) d a p t =
    given-inserted (lower (token_header settings)) token name t _
    ∙ given-inserted (codes "x-amz-content-sha256") payload name p _ ∙ given-front headers date authorization_text name d a

-- ---- the headers that can be signed

-- headers with the same values of a name have the same after one more is put in place of all of its name
alike-optional : (header : List ℕ) (value : Option (List ℕ)) (name : List ℕ) (xs ys : List Pair)
    → (Lacks header value name → named_values xs name ≡ named_values ys name)
    → named_values (with_optional header value xs) name ≡ named_values (with_optional header value ys) name
alike-optional header None name xs ys same = same tt
alike-optional header (Some value) name xs ys same = by_test (bytes_eq header name) refl
  where
    by_test : (b : Bool) → bytes_eq header name ≡ b → named_values (inserted xs header value) name ≡ named_values (inserted ys header value) name
    by_test true e =
        ap (named_values (inserted xs header value)) (sym (same_name header name e)) ∙ named-inserted_same xs header value
        ∙ sym (named-inserted_same ys header value) ∙ ap (named_values (inserted ys header value)) (same_name header name e)
    by_test false e = named-inserted_other header value name e xs ∙ same e ∙ sym (named-inserted_other header value name e ys)

-- the headers with those that a signature in headers adds
abbrev added : Settings → List ℕ → Option (List ℕ) → Option (List ℕ) → List Pair → List Pair
added settings date token payload headers =
    with_optional (codes "x-amz-content-sha256") payload (with_optional (token_header settings) token (inserted headers (codes "x-amz-date") date))

alike-signing : (settings : Settings) (date : List ℕ) (token payload : Option (List ℕ)) (name : List ℕ) (xs ys : List Pair)
    → (Lacks (codes "x-amz-content-sha256") payload name → Lacks (token_header settings) token name → bytes_eq (codes "x-amz-date") name ≡ false
    → named_values xs name ≡ named_values ys name)
    → named_values (added settings date token payload xs) name ≡ named_values (added settings date token payload ys) name
alike-signing settings date token payload name xs ys same =
    alike-optional (codes "x-amz-content-sha256") payload name _ _ (λ p. alike-optional (token_header settings) token name _ _ (λ t.
    alike-optional (codes "x-amz-date") (Some date) name xs ys (λ d. same p t d)))

-- a first value is there where there are values
pub first-here : (pairs : List Pair) (name : List ℕ) → is_some (first_value pairs name) ≡ is_here (named_values pairs name)
first-here [] name = refl
first-here (pair ∷ pairs) name = by_test (bytes_eq pair.0 name) (first-here pairs name)
  where
    by_test : (b : Bool) → is_some (first_value pairs name) ≡ is_here (named_values pairs name)
        → is_some (option_or (cond b (Some pair.1) None) (first_value pairs name)) ≡ is_here (values_if b pair.1 (named_values pairs name))
    by_test true more = refl
    by_test false more = more

-- headers with the same values of `host` have the same host added
alike-has_host : (xs ys : List Pair) → given_values xs (codes "host") ≡ given_values ys (codes "host") → has_host xs ≡ has_host ys
alike-has_host xs ys same = first-here (given_headers xs) (codes "host") ∙ ap is_here same ∙ sym (first-here (given_headers ys) (codes "host"))

alike-host : (target : Target) (xs ys : List Pair) → given_values xs (codes "host") ≡ given_values ys (codes "host") → added_host target xs ≡ added_host target ys
alike-host target xs ys same = ap (λ b. cond {A = Option (List ℕ)} b None (host_text target)) (alike-has_host xs ys same)

alike-hosted : (target : Target) (xs ys : List Pair) (name : List ℕ) → given_values xs (codes "host") ≡ given_values ys (codes "host") → given_values xs name ≡ given_values ys name
    → named_values (hosted_headers target xs) name ≡ named_values (hosted_headers target ys) name
alike-hosted target xs ys name host same =
    ap (λ added. named_values (with_optional (codes "host") added (given_headers xs)) name) (alike-host target xs ys host)
    ∙ alike-optional (codes "host") (added_host target ys) name (given_headers xs) (given_headers ys) (λ _. same)

-- ---- headers with the same values of each name that is signed

module _ (settings : Settings) (xs ys : List Pair) (same : (name : List ℕ) → is_signed settings name ≡ true → named_values xs name ≡ named_values ys name) where
  abbrev passing : List Pair → List (List ℕ)
  passing headers = filter (is_signed settings) (map (λ header. header.0) headers)

  -- a name of headers passes where it is signed and has values
  passes : (headers : List Pair) (name : List ℕ) → is_among name (passing headers) ≡ (is_signed settings name && is_here (named_values headers name))
  passes headers name = any-filtered (is_signed settings) name (map (λ header. header.0) headers) ∙ ap (λ b. is_signed settings name && b) (any-named name headers)

  same_members : (name : List ℕ) → is_among name (passing xs) ≡ is_among name (passing ys)
  same_members name = passes xs name ∙ by_test (is_signed settings name) (same name) ∙ sym (passes ys name)
    where
      by_test : (b : Bool) → (b ≡ true → named_values xs name ≡ named_values ys name) → (b && is_here (named_values xs name)) ≡ (b && is_here (named_values ys name))
      by_test true alike = ap is_here (alike refl)
      by_test false alike = refl

  pub alike-names : signed_names settings xs ≡ signed_names settings ys
  alike-names = same_set (passing xs) (passing ys) same_members

  -- a name that is among the signed ones is signed
  among-signed : (name : List ℕ) → is_among name (signed_names settings xs) ≡ true → is_signed settings name ≡ true
  among-signed name is = (and_parts _ _ (sym (among-set name (passing xs) ∙ passes xs name) ∙ is)).0

  pub alike-lines : flat_map (header_line xs) (signed_names settings xs) ≡ flat_map (header_line ys) (signed_names settings ys)
  alike-lines =
      flat_map-among (header_line xs) (header_line ys) (signed_names settings xs)
      (λ name is. ap (λ values. line (name ++ codes ":" ++ join_with_byte 44 values)) (same name (among-signed name is)))
      ∙ ap (flat_map (header_line ys)) alike-names

-- ---- a case in header form

pub otherwise : {A : Type 0} (b : Bool) (x y : A) → b ≡ false → cond b x y ≡ y
otherwise true x y e = absurd (true≢false e)
otherwise false x y e = refl

-- what isn't refused of a case in header form
record HasFitParts (c : Case) : Type 0 where
  headers : unfit_headers 1 c.headers ≡ None
  token_name : unfit_token_name c.settings ≡ None
  token : unfit_optional Token c.token ≡ None
  payload : unfit_optional PayloadHash (header_payload c.settings.payload_checksum_kind c.payload) ≡ None
  authorization : is_value (authorization c) ≡ true

fit_parts : (c : Case) → is_query_form c.settings ≡ false → unfit c ≡ None → HasFitParts c
unfolding unfit
fit_parts c form e =
    let after_target = (both_none (unfit_target c.settings c.target) _ e).1 in
    let headers = both_none (unfit_headers 1 c.headers) _ after_target in
    let after_host = (both_none (unfit_host c.target c.headers) _ headers.1).1 in
    let name = both_none (unfit_token_name c.settings) (unfit_texts c) after_host in
    let token = both_none (unfit_optional Token c.token) _ (sym (otherwise (is_query_form c.settings) _ _ form) ∙ name.1) in
    let payload = both_none (unfit_optional PayloadHash (header_payload c.settings.payload_checksum_kind c.payload)) (unfit_value Authorization (authorization c)) token.1 in
    record { headers = headers.0; token_name = name.0; token = token.0; payload = payload.0; authorization = passed (is_value (authorization c)) _ payload.1 }

module _ (c : Case) (form : is_query_form c.settings ≡ false) where
  abbrev told : Option (List ℕ)
  told = header_payload c.settings.payload_checksum_kind c.payload

  instructions_are : instructions c ≡ instructions_for c.settings (stamp c.at) (authorization c) told c.token
  unfolding instructions
  instructions_are = otherwise (is_query_form c.settings) _ _ form

  headers_are : (headers : List Pair)
      → canonical_headers (record c { headers = headers }) ≡ added c.settings (stamp c.at) c.token told (hosted_headers c.target headers)
  unfolding canonical_headers
  headers_are headers = otherwise (is_query_form c.settings) _ _ form

  pairs_are : (headers : List Pair) → pairs (record c { headers = headers }) ≡ decoded c.target
  unfolding pairs
  pairs_are headers = otherwise (is_query_form c.settings) _ _ form

  -- the signed request has the values of each name that is signed
  module _ (usual : c.settings.excluded_headers ≡ Some default_exclusions) (fits : HasOwnName (token_header c.settings)) where
    unsigned : is_signed c.settings (codes "authorization") ≡ false
    unfolding is_signed
    unsigned =
        ap (λ (names : Option (List (List ℕ))). not (list_any (bytes_eq (codes "authorization"))
        (unwrap_or names [] ++ excluded_token c.settings.session_token_mode (unsigned_token c.settings) ++ unsigned_in_query_form c.settings))) usual

    other_name : (name : List ℕ) → is_signed c.settings name ≡ true → bytes_eq (codes "authorization") name ≡ false
    other_name name is = by_test (bytes_eq (codes "authorization") name) refl
      where
        by_test : (b : Bool) → bytes_eq (codes "authorization") name ≡ b → b ≡ false
        by_test true e = absurd (true≢false (sym is ∙ ap (is_signed c.settings) (sym (same_name _ name e)) ∙ unsigned))
        by_test false e = refl

    is_lacked : (token : Option (List ℕ)) (name : List ℕ) → Lacks (token_header c.settings) token name → Lacks (lower (lower (token_header c.settings))) token name
    is_lacked None name lacks = tt
    is_lacked (Some token) name lacks = ap (λ n. bytes_eq n name) (ap lower fits.is_lower ∙ fits.is_lower) ∙ lacks

    isnt_host : (token : Option (List ℕ)) → Lacks (token_header c.settings) token (codes "host")
    isnt_host None = tt
    isnt_host (Some token) = fits.not_host

    payload_isnt_host : (payload : Option (List ℕ)) → Lacks (codes "x-amz-content-sha256") payload (codes "host")
    payload_isnt_host None = tt
    payload_isnt_host (Some payload) = refl

    given-again : (name : List ℕ) → bytes_eq (codes "x-amz-date") name ≡ false → bytes_eq (codes "authorization") name ≡ false
        → Lacks (codes "x-amz-content-sha256") told name → Lacks (token_header c.settings) c.token name
        → given_values (signed_headers c) name ≡ given_values c.headers name
    unfolding signed_headers
    given-again name d a p t =
        ap (λ all. given_values (with_instructions c.headers all) name) instructions_are
        ∙ given-signed c.headers c.settings (stamp c.at) (authorization c) name told c.token d a p (is_lacked c.token name t)

    given_host : given_values (signed_headers c) (codes "host") ≡ given_values c.headers (codes "host")
    given_host = given-again (codes "host") refl refl (payload_isnt_host told) (isnt_host c.token)

    host-again : has_host (signed_headers c) ≡ has_host c.headers
    host-again = alike-has_host (signed_headers c) c.headers given_host

    values-again : (name : List ℕ) → is_signed c.settings name ≡ true → named_values (canonical_headers (again c)) name ≡ named_values (canonical_headers c) name
    values-again name is =
        ap (λ headers. named_values headers name) (headers_are (signed_headers c))
        ∙ alike-signing c.settings (stamp c.at) c.token told name (hosted_headers c.target (signed_headers c)) (hosted_headers c.target c.headers) (λ p t d.
        alike-hosted c.target (signed_headers c) c.headers name given_host (given-again name d (other_name name is) p t))
        ∙ sym (ap (λ headers. named_values headers name) (headers_are c.headers))

    names-again : names (again c) ≡ names c
    unfolding names
    names-again = alike-names c.settings (canonical_headers (again c)) (canonical_headers c) values-again

    canonical-again : canonical (again c) ≡ canonical c
    unfolding canonical names
    canonical-again =
        let same_pairs = pairs_are (signed_headers c) ∙ sym (pairs_are c.headers) in
        let same_lines = alike-lines c.settings (canonical_headers (again c)) (canonical_headers c) values-again in
        λ i. canonical_lines c.method (path_of c) (query (same_pairs i)) (same_lines i) (joined_names (names-again i)) c.payload

    signature-again : signature_of (again c) ≡ signature_of c
    unfolding signature_of
    signature-again = ap (signature c.signer c.at) canonical-again

    authorization-again : authorization (again c) ≡ authorization c
    unfolding authorization credential
    authorization-again = λ i. authorization_text (credential c) (joined_names (names-again i)) (signature-again i)

    -- and is refused no more than the request
    unfit-again : HasFitParts c → unfit (again c) ≡ unfit c
    unfolding unfit signed_headers
    unfit-again parts =
        let own = fit-instructions c.settings (stamp c.at) (authorization c) told c.token (stamp-value c.at) parts.authorization parts.payload parts.token (ap is_name fits.is_lower ∙ fits.is_fit) in
        let fit = fit-with (instructions_for c.settings (stamp c.at) (authorization c) told c.token) c.headers own (fit-from_none 1 c.headers parts.headers) in
        let same_headers = ap (λ all. unfit_headers 1 (with_instructions c.headers all)) instructions_are ∙ none-from_fit 1 _ fit ∙ sym parts.headers in
        let same_host = ap (λ b. cond b None (unfit_host_text (host_text c.target))) host-again in
        let same_texts = ap (λ text. cond (is_query_form c.settings) (unfit_expiry c.settings.expires_in)
        (option_or (unfit_optional Token c.token) (option_or (unfit_optional PayloadHash told) (unfit_value Authorization text)))) authorization-again in
        λ i. option_or (unfit_target c.settings c.target) (option_or (same_headers i) (option_or (same_host i) (option_or (unfit_token_name c.settings) (same_texts i))))

-- the signed request of a case isn't refused, and has the case's signature
pub same_signature : (c : Case) → SignsAgain c
same_signature c form usual fine =
    let parts = fit_parts c form fine in
    let fits = own_name c.settings c.settings.session_token_name_override form parts.token_name in
    record { unrefused = unfit-again c form usual fits parts ∙ fine; signature = signature-again c form usual fits }

-- and its target is the request's
pub same_target : (c : Case) → HasSameTarget c
unfolding signed_target parameters
same_target c text form = ap (λ more. target_text_with more c.target text) (otherwise (is_query_form c.settings) _ [] form)
