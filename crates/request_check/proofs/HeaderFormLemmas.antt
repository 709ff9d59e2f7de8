-- The signed request of a case in header form has the case's signature by its own seal.
use Rattle.std.proofs.Common.{◌≡◌, ℕ, Bool, true, false, ◌||◌, cond, not, List, [], ◌∷◌, ◌++◌, Option, Some, None, is_some, refl, sym, ap, ◌∙◌, subst, true≢false, unwrap_or}
use Rattle.std.specs.Prelude.{bytes_eq, codes}
use Rattle.std.specs.List.{flat_map, join_with_byte, list_any}
use Rattle.std.specs.Option.{option_or}
use Rattle.std.proofs.lemmas.Bool.{and_parts, or_parts}
use Rattle.smithy_core.specs.Civil.{IsInYears, civil_of, date, stamp}
use Rattle.smithy_core.specs.Moment.{floor_secs}
use Rattle.smithy_core.specs.TextPairs.{AreLower, first_value, inserted, lower, named_values}
use Rattle.smithy_core.specs.Text.{line}
use Rattle.eventstream.specs.Key.{scope, signing_key}
use Rattle.sigv4.specs.Canonical.{added_host, canonical, canonical_headers, canonical_lines, credential, excluded_token, given_headers, has_host, header_line, hosted_headers, is_signed, joined_names, names, pairs, path_of, header_payload, token_header, unsigned_in_query_form, unsigned_token, with_optional}
use Rattle.sigv4.specs.Host.{host_text}
use Rattle.sigv4.specs.Instructions.{with_instructions}
use Rattle.sigv4.specs.Query.{Pair, decoded, query}
use Rattle.sigv4.specs.Refusal.{is_lower_name, is_name, is_reserved, is_token_name, unfit, unfit_headers, unfit_host, unfit_override, unfit_target, unfit_texts, unfit_token_name}
use Rattle.sigv4.specs.Request.{Case}
use Rattle.sigv4.specs.Settings.{Settings, default_exclusions, is_query, is_query_form}
use Rattle.sigv4.specs.Signature.{signature, string_to_sign}
use Rattle.sigv4.specs.Signed.{authorization, authorization_text, instructions, instructions_for, signature_of, signed_headers}
use Rattle.sigv4.specs.Trim.{trim_all}
use Rattle.sigv4.specs.declared.error.SigningError.TheVariants.{InvalidTokenName}
use Rattle.sigv4.specs.declared.settings.SessionTokenMode.{SessionTokenMode}
use Rattle.sigv4.specs.declared.settings.SessionTokenMode.TheVariants.{Include, Exclude}
use Rattle.sigv4.specs.declared.settings.SignatureLocation.TheVariants.{Headers}
use Rattle.sigv4.proofs.AgainLemmas.{same_signature, otherwise, first-here}
use Rattle.sigv4.proofs.FitLemmas.{both_none, fit-from_none, passed}
use Rattle.sigv4.proofs.InsertedLemmas.{same_name}
use Rattle.sigv4.proofs.SetLemmas.{flat_map-among, is_among, is_here, bytes_eq-flipped}
use Rattle.request_check.specs.Authorization.{IsAuthorization}
use Rattle.request_check.specs.Recomputation.{HasFormApart, IsSignedAsSent, IsTrimmed}
use Rattle.request_check.specs.Recomputed.{recomputed, sent_pairs, sent_text, unfit_sent}
use Rattle.request_check.specs.Sealed.{SealParts, SealsHeaders, sealed_credential}
use Rattle.request_check.proofs.CaseLemmas.{among_from, among_parts, names_carried, names_whole, not_authorization}
use Rattle.request_check.proofs.HostLemmas.{host_by}
use Rattle.request_check.proofs.NamesLemmas.{signature_digits, stamp_trimmed}
use Rattle.request_check.proofs.SentLemmas.{AreNamed, first_inserted_other, first_inserted_same, first_optional_other, given_inserted, given_lower, given_optional, kept_values, layer, layered, lower_inserted, lower_optional, named_given, named_optional, swapped, two_names}

-- ---- the token's name

-- the token's header has a name of its own, in lower case
record IsOwnName (name : List ℕ) : Type 0 where
  is_lower : lower name ≡ name
  is_fit : is_name name ≡ true
  not_host : bytes_eq name (codes "host") ≡ false
  not_authorization : bytes_eq name (codes "authorization") ≡ false
  not_date : bytes_eq name (codes "x-amz-date") ≡ false
  not_payload : bytes_eq name (codes "x-amz-content-sha256") ≡ false

own_name : (settings : Settings) (given : Option (List ℕ)) → is_query_form settings ≡ false → unfit_override settings given ≡ None
    → IsOwnName (unwrap_or given (codes "x-amz-security-token"))
own_name settings None form e = record { is_lower = refl; is_fit = refl; not_host = refl; not_authorization = refl; not_date = refl; not_payload = refl }
own_name settings (Some name) form e =
    let parts = and_parts (not (is_reserved name)) _ (passed (is_token_name settings name) InvalidTokenName e) in
    let header = and_parts (is_name name) _ (ap (λ b. cond b true (is_lower_name name)) (sym form) ∙ parts.1) in
    let plain : lower name ≡ name = same_name _ _ header.1 in
    let first = or_parts _ _ (unreserved (is_reserved name) parts.0) in
    let second = or_parts _ _ first.1 in
    let third = or_parts _ _ second.1 in
    let fourth = or_parts _ _ third.1 in
    record {
      is_lower = plain;
      is_fit = header.0;
      not_host = ap (λ n. bytes_eq n (codes "host")) (sym plain) ∙ first.0;
      not_authorization = ap (λ n. bytes_eq n (codes "authorization")) (sym plain) ∙ second.0;
      not_date = ap (λ n. bytes_eq n (codes "x-amz-date")) (sym plain) ∙ third.0;
      not_payload = ap (λ n. bytes_eq n (codes "x-amz-content-sha256")) (sym plain) ∙ fourth.0;
    }
  where
    unreserved : (b : Bool) → not b ≡ true → b ≡ false
    unreserved true e = absurd (true≢false (sym e))
    unreserved false e = refl

-- ---- the case

-- a case in header form that is signed
pub record SignsHeaders (c : Case) : Type 0 where
  pub form : is_query_form c.settings ≡ false
  pub usual : c.settings.excluded_headers ≡ Some default_exclusions
  pub lower : AreLower c.headers
  pub in_years : IsInYears c.at
  pub fit : unfit c ≡ None
  pub token : IsTrimmed c.token
  pub payload : IsTrimmed (header_payload c.settings.payload_checksum_kind c.payload)

pub signs_headers : (c : Case) → IsSignedAsSent c → c.settings.signature_location ≡ Headers → HasFormApart Headers c → SignsHeaders c
signs_headers c is here apart = record {
  form = ap is_query here;
  usual = is.usual;
  lower = is.lower;
  in_years = is.in_years;
  fit = is.fit;
  token = apart.0;
  payload = apart.1;
}

-- the signature's own headers, inserted
inserted_all : (settings : Settings) (date text : List ℕ) (payload token : Option (List ℕ)) (headers : List Pair)
    → with_instructions headers (instructions_for settings date text payload token)
    ≡ with_optional (lower (token_header settings)) token (with_optional (codes "x-amz-content-sha256") payload
    (inserted (inserted headers (codes "x-amz-date") date) (codes "authorization") text))
inserted_all settings date text None None headers = refl
inserted_all settings date text None (Some token) headers = refl
inserted_all settings date text (Some payload) None headers = refl
inserted_all settings date text (Some payload) (Some token) headers = refl

module _ (c : Case) (is : SignsHeaders c) where
  abbrev digits : Option (List ℕ)
  digits = header_payload c.settings.payload_checksum_kind c.payload

  abbrev token_name : List ℕ
  token_name = token_header c.settings

  after_headers : (unfit_headers 1 c.headers ≡ None) × (option_or (unfit_host c.target c.headers) (option_or (unfit_token_name c.settings) (unfit_texts c)) ≡ None)
  unfolding unfit
  after_headers = both_none (unfit_headers 1 c.headers) _ (both_none (unfit_target c.settings c.target) _ is.fit).1

  own : IsOwnName token_name
  own = own_name c.settings c.settings.session_token_name_override is.form
      (both_none (unfit_token_name c.settings) (unfit_texts c) (both_none (unfit_host c.target c.headers) _ after_headers.1).1).0

  -- the headers of the signed request
  abbrev dated : List Pair
  dated = inserted (inserted c.headers (codes "x-amz-date") (stamp c.at)) (codes "authorization") (authorization c)

  sent_are : signed_headers c ≡ with_optional token_name c.token (with_optional (codes "x-amz-content-sha256") digits dated)
  unfolding signed_headers instructions
  sent_are =
      ap (with_instructions c.headers) (otherwise (is_query_form c.settings) [] _ is.form)
      ∙ inserted_all c.settings (stamp c.at) (authorization c) digits c.token c.headers
      ∙ ap (λ (name : List ℕ). with_optional name c.token (with_optional (codes "x-amz-content-sha256") digits dated)) own.is_lower

  dated_lower : AreLower dated
  dated_lower = lower_inserted (codes "authorization") (authorization c) (inserted c.headers (codes "x-amz-date") (stamp c.at)) refl
      (lower_inserted (codes "x-amz-date") (stamp c.at) c.headers refl is.lower)

  -- the same, with names in lower case and values trimmed
  abbrev dated_given : List Pair
  dated_given = inserted (inserted (given_headers c.headers) (codes "x-amz-date") (stamp c.at)) (codes "authorization") (trim_all (authorization c))

  dated_given_are : given_headers dated ≡ dated_given
  dated_given_are =
      given_inserted (codes "authorization") (authorization c) (inserted c.headers (codes "x-amz-date") (stamp c.at)) refl
      (lower_inserted (codes "x-amz-date") (stamp c.at) c.headers refl is.lower)
      ∙ ap (λ (headers : List Pair). inserted headers (codes "authorization") (trim_all (authorization c)))
      (given_inserted (codes "x-amz-date") (stamp c.at) c.headers refl is.lower
      ∙ ap (inserted (given_headers c.headers) (codes "x-amz-date")) (stamp_trimmed c.at))

  given_are : given_headers (signed_headers c) ≡ with_optional token_name c.token (with_optional (codes "x-amz-content-sha256") digits dated_given)
  given_are =
      ap given_headers sent_are
      ∙ given_optional token_name c.token (with_optional (codes "x-amz-content-sha256") digits dated) own.is_lower
      (lower_optional (codes "x-amz-content-sha256") digits dated refl dated_lower) is.token
      ∙ ap (with_optional token_name c.token)
      (given_optional (codes "x-amz-content-sha256") digits dated refl dated_lower is.payload ∙ ap (with_optional (codes "x-amz-content-sha256") digits) dated_given_are)

  canonical_are : canonical_headers c
      ≡ with_optional (codes "x-amz-content-sha256") digits (with_optional token_name c.token (inserted (hosted_headers c.target c.headers) (codes "x-amz-date") (stamp c.at)))
  unfolding canonical_headers
  canonical_are = otherwise (is_query_form c.settings) _ _ is.form

  -- ---- the host

  host_first : first_value (given_headers (signed_headers c)) (codes "host") ≡ first_value (given_headers c.headers) (codes "host")
  host_first =
      ap (λ (headers : List Pair). first_value headers (codes "host")) given_are
      ∙ first_optional_other token_name c.token (codes "host") own.not_host (with_optional (codes "x-amz-content-sha256") digits dated_given)
      ∙ first_optional_other (codes "x-amz-content-sha256") digits (codes "host") refl dated_given
      ∙ first_inserted_other (codes "authorization") (trim_all (authorization c)) (codes "host") refl (inserted (given_headers c.headers) (codes "x-amz-date") (stamp c.at))
      ∙ first_inserted_other (codes "x-amz-date") (stamp c.at) (codes "host") refl (given_headers c.headers)

  host_same : added_host c.target (signed_headers c) ≡ added_host c.target c.headers
  host_same = ap (λ (first : Option (List ℕ)). cond {A = Option (List ℕ)} (is_some first) None (host_text c.target)) host_first

  -- ---- values of names

  pub values_same : (name : List ℕ) → bytes_eq (codes "authorization") name ≡ false
      → named_values (hosted_headers c.target (signed_headers c)) name ≡ named_values (canonical_headers c) name
  values_same name other =
      let h = bytes_eq (codes "host") name in
      let t = bytes_eq token_name name in
      let p = bytes_eq (codes "x-amz-content-sha256") name in
      let d = bytes_eq (codes "x-amz-date") name in
      let host = added_host c.target c.headers in
      let base = named_values (given_headers c.headers) name in
      layered (codes "host") (added_host c.target (signed_headers c)) (given_headers (signed_headers c)) name
      ∙ ap (λ (value : Option (List ℕ)). layer h value (named_values (given_headers (signed_headers c)) name)) host_same
      ∙ ap (layer h host) (
      ap (λ (headers : List Pair). named_values headers name) given_are
      ∙ layered token_name c.token (with_optional (codes "x-amz-content-sha256") digits dated_given) name
      ∙ ap (layer t c.token) (layered (codes "x-amz-content-sha256") digits dated_given name
      ∙ ap (layer p digits) (layered (codes "authorization") (Some (trim_all (authorization c))) (inserted (given_headers c.headers) (codes "x-amz-date") (stamp c.at)) name
      ∙ ap (λ (b : Bool). layer b (Some (trim_all (authorization c))) (named_values (inserted (given_headers c.headers) (codes "x-amz-date") (stamp c.at)) name)) other
      ∙ layered (codes "x-amz-date") (Some (stamp c.at)) (given_headers c.headers) name)))
      ∙ swapped h t host c.token (layer p digits (layer d (Some (stamp c.at)) base)) (two_names (codes "host") token_name name (bytes_eq-flipped (codes "host") token_name ∙ own.not_host))
      ∙ ap (layer t c.token) (swapped h p host digits (layer d (Some (stamp c.at)) base) (two_names (codes "host") (codes "x-amz-content-sha256") name refl))
      ∙ ap (λ (values : List (List ℕ)). layer t c.token (layer p digits values)) (swapped h d host (Some (stamp c.at)) base (two_names (codes "host") (codes "x-amz-date") name refl))
      ∙ swapped t p c.token digits (layer d (Some (stamp c.at)) (layer h host base)) (two_names token_name (codes "x-amz-content-sha256") name own.not_payload)
      ∙ sym (
      ap (λ (headers : List Pair). named_values headers name) canonical_are
      ∙ layered (codes "x-amz-content-sha256") digits (with_optional token_name c.token (inserted (hosted_headers c.target c.headers) (codes "x-amz-date") (stamp c.at))) name
      ∙ ap (layer p digits) (layered token_name c.token (inserted (hosted_headers c.target c.headers) (codes "x-amz-date") (stamp c.at)) name
      ∙ ap (layer t c.token) (layered (codes "x-amz-date") (Some (stamp c.at)) (hosted_headers c.target c.headers) name
      ∙ ap (layer d (Some (stamp c.at))) (layered (codes "host") host (given_headers c.headers) name))))

  -- ---- the names

  lines_same : flat_map (header_line (hosted_headers c.target (signed_headers c))) (names c) ≡ flat_map (header_line (canonical_headers c)) (names c)
  lines_same = flat_map-among (header_line (hosted_headers c.target (signed_headers c))) (header_line (canonical_headers c)) (names c)
      (λ name here. ap (λ values. line (name ++ codes ":" ++ join_with_byte 44 values)) (values_same name (not_authorization c.settings name is.usual (among_parts c name here).0)))

  pub all_named : AreNamed (canonical_headers c)
  all_named = subst AreNamed (sym canonical_are)
      (named_optional (codes "x-amz-content-sha256") digits (with_optional token_name c.token (inserted (hosted_headers c.target c.headers) (codes "x-amz-date") (stamp c.at))) refl
      (named_optional token_name c.token (inserted (hosted_headers c.target c.headers) (codes "x-amz-date") (stamp c.at)) own.is_fit
      (named_optional (codes "x-amz-date") (Some (stamp c.at)) (hosted_headers c.target c.headers) refl
      (named_optional (codes "host") (added_host c.target c.headers) (given_headers c.headers) refl
      (named_given c.headers is.lower (fit-from_none 1 c.headers after_headers.0))))))

  -- the date is signed
  date_signed : is_signed c.settings (codes "x-amz-date") ≡ true
  unfolding is_signed
  date_signed =
      ap (λ (excluded : Option (List (List ℕ))). not (list_any (bytes_eq (codes "x-amz-date"))
      (unwrap_or excluded [] ++ excluded_token c.settings.session_token_mode (unsigned_token c.settings) ++ unsigned_in_query_form c.settings))) is.usual
      ∙ ap (λ (b : Bool). not (list_any (bytes_eq (codes "x-amz-date"))
      (default_exclusions ++ excluded_token c.settings.session_token_mode (cond b (lower (unwrap_or c.settings.session_token_name_override (codes "X-Amz-Security-Token"))) token_name)
      ++ cond b (codes "x-amz-user-agent" ∷ codes "x-amz-checksum-mode" ∷ []) []))) is.form
      ∙ by_mode c.settings.session_token_mode
    where
      by_mode : (mode : SessionTokenMode) → not (list_any (bytes_eq (codes "x-amz-date")) (default_exclusions ++ excluded_token mode token_name ++ [])) ≡ true
      by_mode Include = refl
      by_mode Exclude = ap (λ (b : Bool). not (b || false)) (bytes_eq-flipped (codes "x-amz-date") token_name ∙ own.not_date)

  date_among : is_among (codes "x-amz-date") (names c) ≡ true
  date_among =
      among_from c (codes "x-amz-date") date_signed
      (ap is_here (ap (λ (headers : List Pair). named_values headers (codes "x-amz-date")) canonical_are
      ∙ layered (codes "x-amz-content-sha256") digits (with_optional token_name c.token (inserted (hosted_headers c.target c.headers) (codes "x-amz-date") (stamp c.at))) (codes "x-amz-date")
      ∙ kept_values digits
      ∙ layered token_name c.token (inserted (hosted_headers c.target c.headers) (codes "x-amz-date") (stamp c.at)) (codes "x-amz-date")
      ∙ ap (λ b. layer b c.token (named_values (inserted (hosted_headers c.target c.headers) (codes "x-amz-date") (stamp c.at)) (codes "x-amz-date"))) own.not_date
      ∙ kept_values c.token
      ∙ layered (codes "x-amz-date") (Some (stamp c.at)) (hosted_headers c.target c.headers) (codes "x-amz-date")))

  -- and so is the host
  host_signed : is_signed c.settings (codes "host") ≡ true
  unfolding is_signed
  host_signed =
      ap (λ (excluded : Option (List (List ℕ))). not (list_any (bytes_eq (codes "host"))
      (unwrap_or excluded [] ++ excluded_token c.settings.session_token_mode (unsigned_token c.settings) ++ unsigned_in_query_form c.settings))) is.usual
      ∙ ap (λ (b : Bool). not (list_any (bytes_eq (codes "host"))
      (default_exclusions ++ excluded_token c.settings.session_token_mode (cond b (lower (unwrap_or c.settings.session_token_name_override (codes "X-Amz-Security-Token"))) token_name)
      ++ cond b (codes "x-amz-user-agent" ∷ codes "x-amz-checksum-mode" ∷ []) []))) is.form
      ∙ by_mode c.settings.session_token_mode
    where
      by_mode : (mode : SessionTokenMode) → not (list_any (bytes_eq (codes "host")) (default_exclusions ++ excluded_token mode token_name ++ [])) ≡ true
      by_mode Include = refl
      by_mode Exclude = ap (λ (b : Bool). not (b || false)) (bytes_eq-flipped (codes "host") token_name ∙ own.not_host)

  pub host_among : is_among (codes "host") (names c) ≡ true
  host_among =
      among_from c (codes "host") host_signed
      (ap is_here (ap (λ (headers : List Pair). named_values headers (codes "host")) canonical_are
      ∙ layered (codes "x-amz-content-sha256") digits (with_optional token_name c.token (inserted (hosted_headers c.target c.headers) (codes "x-amz-date") (stamp c.at))) (codes "host")
      ∙ kept_values digits
      ∙ layered token_name c.token (inserted (hosted_headers c.target c.headers) (codes "x-amz-date") (stamp c.at)) (codes "host")
      ∙ ap (λ b. layer b c.token (named_values (inserted (hosted_headers c.target c.headers) (codes "x-amz-date") (stamp c.at)) (codes "host"))) own.not_host
      ∙ kept_values c.token
      ∙ layered (codes "x-amz-date") (Some (stamp c.at)) (hosted_headers c.target c.headers) (codes "host")
      ∙ layered (codes "host") (added_host c.target c.headers) (given_headers c.headers) (codes "host"))
      ∙ host_by (has_host c.headers) (host_text c.target) (named_values (given_headers c.headers) (codes "host")) (first-here (given_headers c.headers) (codes "host"))
      (both_none (unfit_host c.target c.headers) _ after_headers.1).0)

  -- the headers have their names in lower case, before and after signing
  pub canonical_lower : AreLower (canonical_headers c)
  canonical_lower = subst AreLower (sym canonical_are)
      (lower_optional (codes "x-amz-content-sha256") digits (with_optional token_name c.token (inserted (hosted_headers c.target c.headers) (codes "x-amz-date") (stamp c.at))) refl
      (lower_optional token_name c.token (inserted (hosted_headers c.target c.headers) (codes "x-amz-date") (stamp c.at)) own.is_lower
      (lower_inserted (codes "x-amz-date") (stamp c.at) (hosted_headers c.target c.headers) refl
      (lower_optional (codes "host") (added_host c.target c.headers) (given_headers c.headers) refl (given_lower c.headers is.lower)))))

  pub sent_lower : AreLower (signed_headers c)
  sent_lower = subst AreLower (sym sent_are)
      (lower_optional token_name c.token (with_optional (codes "x-amz-content-sha256") digits dated) own.is_lower
      (lower_optional (codes "x-amz-content-sha256") digits dated refl dated_lower))

  -- the two headers of the signature are there once
  pub authorization_once : named_values (signed_headers c) (codes "authorization") ≡ authorization c ∷ []
  authorization_once =
      ap (λ (headers : List Pair). named_values headers (codes "authorization")) sent_are
      ∙ layered token_name c.token (with_optional (codes "x-amz-content-sha256") digits dated) (codes "authorization")
      ∙ ap (λ b. layer b c.token (named_values (with_optional (codes "x-amz-content-sha256") digits dated) (codes "authorization"))) own.not_authorization
      ∙ kept_values c.token
      ∙ layered (codes "x-amz-content-sha256") digits dated (codes "authorization")
      ∙ kept_values digits
      ∙ layered (codes "authorization") (Some (authorization c)) (inserted c.headers (codes "x-amz-date") (stamp c.at)) (codes "authorization")

  pub date_once : named_values (signed_headers c) (codes "x-amz-date") ≡ stamp c.at ∷ []
  date_once =
      ap (λ (headers : List Pair). named_values headers (codes "x-amz-date")) sent_are
      ∙ layered token_name c.token (with_optional (codes "x-amz-content-sha256") digits dated) (codes "x-amz-date")
      ∙ ap (λ b. layer b c.token (named_values (with_optional (codes "x-amz-content-sha256") digits dated) (codes "x-amz-date"))) own.not_date
      ∙ kept_values c.token
      ∙ layered (codes "x-amz-content-sha256") digits dated (codes "x-amz-date")
      ∙ kept_values digits
      ∙ layered (codes "authorization") (Some (authorization c)) (inserted c.headers (codes "x-amz-date") (stamp c.at)) (codes "x-amz-date")
      ∙ layered (codes "x-amz-date") (Some (stamp c.at)) c.headers (codes "x-amz-date")

  -- ---- the seal

  abbrev pub own_seal : SealParts
  own_seal = record { place = Headers; key_id = c.key_id; at = floor_secs c.at; names = joined_names (names c); signature = signature_of c; expires = None }

  pub credential_same : credential c ≡ sealed_credential c.signer.region c.signer.name own_seal
  unfolding credential scope date civil_of
  credential_same = refl

  pub authorization_is : first_value (signed_headers c) (codes "authorization") ≡ Some (authorization c)
  authorization_is =
      ap (λ (headers : List Pair). first_value headers (codes "authorization")) sent_are
      ∙ first_optional_other token_name c.token (codes "authorization") own.not_authorization (with_optional (codes "x-amz-content-sha256") digits dated)
      ∙ first_optional_other (codes "x-amz-content-sha256") digits (codes "authorization") refl dated
      ∙ first_inserted_same (codes "authorization") (authorization c) (inserted c.headers (codes "x-amz-date") (stamp c.at))

  date_is : first_value (signed_headers c) (codes "x-amz-date") ≡ Some (stamp c.at)
  date_is =
      ap (λ (headers : List Pair). first_value headers (codes "x-amz-date")) sent_are
      ∙ first_optional_other token_name c.token (codes "x-amz-date") own.not_date (with_optional (codes "x-amz-content-sha256") digits dated)
      ∙ first_optional_other (codes "x-amz-content-sha256") digits (codes "x-amz-date") refl dated
      ∙ first_inserted_other (codes "authorization") (authorization c) (codes "x-amz-date") refl (inserted c.headers (codes "x-amz-date") (stamp c.at))
      ∙ first_inserted_same (codes "x-amz-date") (stamp c.at) c.headers

  pub authorization_read : IsAuthorization (authorization c) (sealed_credential c.signer.region c.signer.name own_seal) (joined_names (names c)) (signature_of c)
  unfolding authorization
  authorization_read = record {
    digits = signature_digits c;
    one_reading = names_whole c all_named;
    parts = ap (λ (text : List ℕ). authorization_text text (joined_names (names c)) (signature_of c)) credential_same;
  }

  pub sealed_by : SealsHeaders (signed_headers c) c.signer.region c.signer.name own_seal
  unfolding stamp civil_of
  sealed_by = record {
    moment = record { in_years = is.in_years; whole = refl };
    date = date_is;
    authorization = authorization c;
    first = authorization_is;
    read = authorization_read;
    no_expiry = refl;
  }

  pairs_are : pairs c ≡ decoded c.target
  unfolding pairs
  pairs_are = otherwise (is_query_form c.settings) _ _ is.form

  -- the canonical text of the signed request by that seal is that of the case
  pub text_same : sent_text c.method c.target (signed_headers c) c.settings c.payload own_seal ≡ canonical c
  unfolding sent_text canonical
  text_same =
      let same_query = kept_pairs (decoded c.target) ∙ sym pairs_are in
      let same_lines = ap (flat_map (header_line (hosted_headers c.target (signed_headers c)))) (names_carried c all_named (codes "x-amz-date") date_among) ∙ lines_same in
      λ i. canonical_lines c.method (path_of c) (query (same_query i)) (same_lines i) (joined_names (names c)) c.payload
    where
      kept_pairs : (all : List Pair) → sent_pairs Headers c.settings all ≡ all
      kept_pairs [] = refl
      kept_pairs (pair ∷ all) = ap (λ (rest : List Pair). pair ∷ rest) (kept_pairs all)

  pub signature_same : recomputed c.method c.target (signed_headers c) c.settings c.payload c.signer own_seal ≡ signature_of c
  unfolding recomputed signature_of signature string_to_sign signing_key stamp scope date civil_of
  signature_same = ap (signature c.signer (floor_secs c.at)) text_same

  -- and the request can be signed
  pub fit_again : unfit_sent c.target (signed_headers c) ≡ None
  unfolding unfit
  fit_again =
      let whole = (same_signature c is.form is.usual is.fit).unrefused in
      let headers = both_none (unfit_headers 1 (signed_headers c)) _ (both_none (unfit_target c.settings c.target) _ whole).1 in
      let host = both_none (unfit_host c.target (signed_headers c)) _ headers.1 in
      λ i. option_or (headers.0 i) (host.0 i)
