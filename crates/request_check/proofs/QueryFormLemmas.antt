-- The signed request of a case in query form has the case's signature by its own seal.
use Rattle.std.proofs.Common.{◌≡◌, ℕ, ◌^◌, ◌<◌, Bool, true, false, ◌||◌, cond, not, IsUtf8, IfSome, List, [], ◌∷◌, ◌++◌, map, Option, Some, None, unwrap_or, refl, sym, ap, ◌∙◌, subst, true≢false, append_assoc}
use Rattle.std.specs.Prelude.{bytes_eq, codes, filter, option_and_then, option_map}
use Rattle.std.specs.List.{AllByRecursion, flat_map, join_with_byte, list_any}
use Rattle.std.specs.Fmt.{decimal}
use Rattle.std.specs.Option.{option_or}
use Rattle.std.proofs.lemmas.Bool.{and_parts, or_parts, false≢true}
use Rattle.std.proofs.lemmas.Fmt.{IsAscii-decimal}
use Rattle.std.proofs.lemmas.List.Elements.{filter-append}
use Rattle.std.proofs.lemmas.Str.{IsUtf8-append, IsUtf8-from_ascii, IsUtf8-nil}
use lib.Utf8.{encode}
use Rattle.smithy_core.specs.Civil.{IsInYears, civil_of, date, stamp}
use Rattle.smithy_core.specs.Moment.{floor_secs}
use Rattle.smithy_core.specs.TextPairs.{AreLower, first_value, lower, named_values}
use Rattle.smithy_core.proofs.CivilTextLemmas.{stamp_utf8}
use Rattle.smithy_http.specs.QueryWriter.{before_pair, escaped_pair}
use Rattle.smithy_http.specs.Query.{pair_text}
use Rattle.smithy_http.specs.Target.{Target}
use Rattle.smithy_http.proofs.QueryLemmas.{pairs_joined}
use Rattle.eventstream.specs.Key.{scope, signing_key}
use Rattle.sigv4.specs.Canonical.{added_host, canonical, canonical_headers, canonical_lines, credential, excluded_token, expires_text, given_headers, has_host, header_line, hosted_headers, is_signed, joined_names, names, pairs, parameters_for, signed_token, signing_parameters, token_header, token_pairs, token_parameter, unsigned_in_query_form, unsigned_token, with_optional}
use Rattle.sigv4.specs.Host.{host_of, host_text}
use Rattle.sigv4.specs.Instructions.{with_instructions}
use Rattle.sigv4.specs.Parameters.{with_params}
use Rattle.sigv4.specs.Path.{canonical_path}
use Rattle.sigv4.specs.Query.{Pair, decoded, query}
use Rattle.sigv4.specs.Refusal.{is_reserved, is_token_name, unfit, unfit_headers, unfit_host, unfit_host_text, unfit_override, unfit_target, unfit_texts, unfit_token_name}
use Rattle.sigv4.specs.Request.{Case}
use Rattle.sigv4.specs.Settings.{Settings, default_exclusions, is_query, is_query_form}
use Rattle.sigv4.specs.Signature.{signature, string_to_sign}
use Rattle.sigv4.specs.Signed.{instructions, parameters, signature_of, signed_headers}
use Rattle.sigv4.specs.declared.error.SigningError.{SigningError}
use Rattle.sigv4.specs.declared.error.SigningError.TheVariants.{InvalidTokenName}
use Rattle.sigv4.specs.declared.settings.SessionTokenMode.{SessionTokenMode}
use Rattle.sigv4.specs.declared.settings.SessionTokenMode.TheVariants.{Include, Exclude}
use Rattle.sigv4.specs.declared.settings.SignatureLocation.TheVariants.{QueryParams}
use Rattle.sigv4.proofs.FitLemmas.{both_none, fit-from_none, passed}
use Rattle.sigv4.proofs.InsertedLemmas.{itself, same_name}
use Rattle.sigv4.proofs.ScopeLemmas.{scope_utf8}
use Rattle.sigv4.proofs.SetLemmas.{is_among, is_here, bytes_eq-flipped}
use Rattle.sigv4.proofs.AgainLemmas.{first-here}
use Rattle.request_check.specs.Recomputation.{HasFormApart, HaveNone, IsOfStrings, IsSignedAsSent, parameter_keys}
use Rattle.request_check.specs.Recomputed.{recomputed, sent_pairs, sent_text, unfit_sent}
use Rattle.request_check.specs.Sealed.{IsUnsealed, SealParts, SealsParameters, sealed_credential, spelled_seconds}
use Rattle.request_check.proofs.CaseLemmas.{among_from, names_carried, names_utf8}
use Rattle.request_check.proofs.DecimalLemmas.{expiry_back}
use Rattle.request_check.proofs.EscapedLemmas.{AreTexts, decoded_with}
use Rattle.request_check.proofs.HostLemmas.{host_by}
use Rattle.request_check.proofs.NamesLemmas.{signature_digits, signature_utf8}
use Rattle.request_check.proofs.SealLemmas.{unsealed_bare}
use Rattle.request_check.proofs.SentLemmas.{AreNamed, layered, named_given, named_optional}

chosen : {A : Type 0} (b : Bool) (x y : A) → b ≡ true → cond b x y ≡ x
chosen true x y e = refl
chosen false x y e = absurd (false≢true e)

-- ---- the token's name

-- a name that isn't reserved is none of the signature's keys
pub record IsFreeName (name : List ℕ) : Type 0 where
  pub not_host : bytes_eq (lower name) (codes "host") ≡ false
  pub not_algorithm : bytes_eq (codes "X-Amz-Algorithm") name ≡ false
  pub not_credential : bytes_eq (codes "X-Amz-Credential") name ≡ false
  pub not_date : bytes_eq (codes "X-Amz-Date") name ≡ false
  pub not_expires : bytes_eq (codes "X-Amz-Expires") name ≡ false
  pub not_names : bytes_eq (codes "X-Amz-SignedHeaders") name ≡ false
  pub not_signature : bytes_eq (codes "X-Amz-Signature") name ≡ false

-- texts that differ in lower case differ
other_key : (key name : List ℕ) → bytes_eq (lower name) (lower key) ≡ false → bytes_eq key name ≡ false
other_key key name differ = by (bytes_eq key name) refl
  where
    by : (b : Bool) → bytes_eq key name ≡ b → b ≡ false
    by true e = absurd (true≢false (sym (itself (lower name)) ∙ (ap (λ (k : List ℕ). bytes_eq (lower name) (lower k)) (sym (same_name key name e)) ∙ differ)))
    by false e = refl

free_name : (settings : Settings) (given : Option (List ℕ)) → unfit_override settings given ≡ None → IsFreeName (unwrap_or given (codes "X-Amz-Security-Token"))
free_name settings None e = record {
  not_host = refl;
  not_algorithm = refl;
  not_credential = refl;
  not_date = refl;
  not_expires = refl;
  not_names = refl;
  not_signature = refl;
}
free_name settings (Some name) e =
    let parts = and_parts (not (is_reserved name)) _ (passed (is_token_name settings name) InvalidTokenName e) in
    let host = or_parts _ _ (unreserved (is_reserved name) parts.0) in
    let authorization = or_parts _ _ host.1 in
    let date = or_parts _ _ authorization.1 in
    let payload = or_parts _ _ date.1 in
    let algorithm = or_parts _ _ payload.1 in
    let credential = or_parts _ _ algorithm.1 in
    let expires = or_parts _ _ credential.1 in
    let listed = or_parts _ _ expires.1 in
    let signature = or_parts _ _ listed.1 in
    record {
      not_host = host.0;
      not_algorithm = other_key (codes "X-Amz-Algorithm") name algorithm.0;
      not_credential = other_key (codes "X-Amz-Credential") name credential.0;
      not_date = other_key (codes "X-Amz-Date") name date.0;
      not_expires = other_key (codes "X-Amz-Expires") name expires.0;
      not_names = other_key (codes "X-Amz-SignedHeaders") name listed.0;
      not_signature = other_key (codes "X-Amz-Signature") name signature.0;
    }
  where
    unreserved : (b : Bool) → not b ≡ true → b ≡ false
    unreserved true e = absurd (true≢false (sym e))
    unreserved false e = refl

-- ---- the pairs that are signed

-- a pair that is signed again
abbrev is_kept : SessionTokenMode → List ℕ → Pair → Bool
is_kept mode token pair = not (list_any (bytes_eq pair.0) (codes "X-Amz-Signature" ∷ excluded_token mode token))

other_kept : (mode : SessionTokenMode) (token : List ℕ) (pair : Pair) → bytes_eq pair.0 (codes "X-Amz-Signature") ≡ false → bytes_eq pair.0 token ≡ false → is_kept mode token pair ≡ true
other_kept Include token pair signature other = ap (λ (b : Bool). not (b || false)) signature
other_kept Exclude token pair signature other = λ i. not (signature i || (other i || false))

one_kept : {X : Type 0} (keeps : X → Bool) (x : X) (xs ys : List X) → keeps x ≡ true → filter keeps xs ≡ ys → filter keeps (x ∷ xs) ≡ x ∷ ys
one_kept keeps x xs ys kept rest = λ i. cond (kept i) (x ∷ rest i) (rest i)

-- a pair's key is neither one of the signature's nor the token's
pub record IsFreeKey (key token_name : List ℕ) : Type 0 where
  pub algorithm : bytes_eq key (codes "X-Amz-Algorithm") ≡ false
  pub credential : bytes_eq key (codes "X-Amz-Credential") ≡ false
  pub date : bytes_eq key (codes "X-Amz-Date") ≡ false
  pub expires : bytes_eq key (codes "X-Amz-Expires") ≡ false
  pub names : bytes_eq key (codes "X-Amz-SignedHeaders") ≡ false
  pub signature : bytes_eq key (codes "X-Amz-Signature") ≡ false
  pub token : bytes_eq key token_name ≡ false

free_key : (settings : Settings) (key : List ℕ) → list_any (bytes_eq key) (parameter_keys settings) ≡ false → IsFreeKey key (token_parameter settings)
free_key settings key none =
    let algorithm = or_parts _ _ none in
    let credential = or_parts _ _ algorithm.1 in
    let date = or_parts _ _ credential.1 in
    let expires = or_parts _ _ date.1 in
    let listed = or_parts _ _ expires.1 in
    let signature = or_parts _ _ listed.1 in
    let token = or_parts _ _ signature.1 in
    record {
      algorithm = algorithm.0;
      credential = credential.0;
      date = date.0;
      expires = expires.0;
      names = listed.0;
      signature = signature.0;
      token = token.0;
    }

given_kept : (settings : Settings) (given : List Pair) → HaveNone (parameter_keys settings) given
    → filter (is_kept settings.session_token_mode (token_parameter settings)) given ≡ given
given_kept settings [] none = refl
given_kept settings (pair ∷ given) none =
    let key = free_key settings pair.0 none.0 in
    one_kept (is_kept settings.session_token_mode (token_parameter settings)) pair given given
    (other_kept settings.session_token_mode (token_parameter settings) pair key.signature key.token) (given_kept settings given none.1)

token_kept : (mode : SessionTokenMode) (name : List ℕ) (token : Option (List ℕ)) → bytes_eq (codes "X-Amz-Signature") name ≡ false
    → filter (is_kept mode name) (token_pairs name token) ≡ token_pairs name (signed_token mode token)
token_kept Include name None differs = refl
token_kept Exclude name None differs = refl
token_kept Include name (Some token) differs =
    ap (λ (b : Bool). cond (not (b || false)) ((name, token) ∷ []) []) (bytes_eq-flipped name (codes "X-Amz-Signature") ∙ differs)
token_kept Exclude name (Some token) differs =
    λ i. cond (not ((bytes_eq-flipped name (codes "X-Amz-Signature") ∙ differs) i || (itself name i || false))) ((name, token) ∷ []) []

five_kept : {X : Type 0} (keeps : X → Bool) (a b c d e : X) (xs ys : List X) → keeps a ≡ true → keeps b ≡ true → keeps c ≡ true → keeps d ≡ true → keeps e ≡ true
    → filter keeps xs ≡ ys → filter keeps (a ∷ b ∷ c ∷ d ∷ e ∷ xs) ≡ a ∷ b ∷ c ∷ d ∷ e ∷ ys
five_kept keeps a b c d e xs ys p q r s t rest =
    one_kept keeps a (b ∷ c ∷ d ∷ e ∷ xs) (b ∷ c ∷ d ∷ e ∷ ys) p
    (one_kept keeps b (c ∷ d ∷ e ∷ xs) (c ∷ d ∷ e ∷ ys) q
    (one_kept keeps c (d ∷ e ∷ xs) (d ∷ e ∷ ys) r
    (one_kept keeps d (e ∷ xs) (e ∷ ys) s
    (one_kept keeps e xs ys t rest))))

-- of the parameters all are kept but the signature, and the token where it isn't signed
added_kept : (mode : SessionTokenMode) (name credential_text date_text names_text signature_text : List ℕ) (expires_in : Option ℕ) (token : Option (List ℕ)) → IsFreeName name
    → filter (is_kept mode name) (parameters_for credential_text date_text expires_in names_text ++ (codes "X-Amz-Signature", signature_text) ∷ token_pairs name token)
    ≡ parameters_for credential_text date_text expires_in names_text ++ token_pairs name (signed_token mode token)
added_kept mode name credential_text date_text names_text signature_text expires_in token free =
    let algorithm : Pair = (codes "X-Amz-Algorithm", codes "AWS4-HMAC-SHA256") in
    let own : Pair = (codes "X-Amz-Credential", credential_text) in
    let dated : Pair = (codes "X-Amz-Date", date_text) in
    let expires : Pair = (codes "X-Amz-Expires", expires_text expires_in) in
    let listed : Pair = (codes "X-Amz-SignedHeaders", names_text) in
    five_kept (is_kept mode name) algorithm own dated expires listed ((codes "X-Amz-Signature", signature_text) ∷ token_pairs name token) (token_pairs name (signed_token mode token))
    (other_kept mode name algorithm refl free.not_algorithm)
    (other_kept mode name own refl free.not_credential)
    (other_kept mode name dated refl free.not_date)
    (other_kept mode name expires refl free.not_expires)
    (other_kept mode name listed refl free.not_names)
    (token_kept mode name token free.not_signature)

-- ---- the first of a key

-- pairs that lack a key leave it to those after them
abbrev pub AllOther : List ℕ → List Pair → Type 0
AllOther key given = AllByRecursion (λ pair. bytes_eq pair.0 key ≡ false) given

first_behind : (key : List ℕ) (given added : List Pair) → AllOther key given → first_value (given ++ added) key ≡ first_value added key
first_behind key [] added others = refl
first_behind key (pair ∷ given) added others =
    λ i. option_or (cond (others.0 i) (Some pair.1) None) (first_behind key given added others.1 i)

pub others_by : (settings : Settings) (key : List ℕ) → ((other : List ℕ) → IsFreeKey other (token_parameter settings) → bytes_eq other key ≡ false)
    → (given : List Pair) → HaveNone (parameter_keys settings) given → AllOther key given
others_by settings key differs [] none = tt
others_by settings key differs (pair ∷ given) none = (differs pair.0 (free_key settings pair.0 none.0), others_by settings key differs given none.1)

-- ---- the parameters are UTF-8

expires_utf8 : (expires_in : Option ℕ) → IfSome expires_in (λ seconds. seconds < 2 ^ 64) → IsUtf8 (expires_text expires_in)
expires_utf8 None fits = IsUtf8-nil
expires_utf8 (Some seconds) fits = IsUtf8-from_ascii (decimal seconds) (IsAscii-decimal seconds fits)

name_utf8 : (given : Option (List ℕ)) → IfSome given IsUtf8 → IsUtf8 (unwrap_or given (codes "X-Amz-Security-Token"))
unfolding encode
name_utf8 None utf8 = (codes "X-Amz-Security-Token", (refl, refl))
name_utf8 (Some name) utf8 = utf8

token_texts : (name : List ℕ) (token : Option (List ℕ)) → IsUtf8 name → IfSome token IsUtf8 → AreTexts (token_pairs name token)
token_texts name None is utf8 = tt
token_texts name (Some token) is utf8 = ((is, utf8), tt)

parameter_texts : (credential_text date_text names_text signature_text : List ℕ) (expires_in : Option ℕ) (more : List Pair)
    → IsUtf8 credential_text → IsUtf8 date_text → IsUtf8 (expires_text expires_in) → IsUtf8 names_text → IsUtf8 signature_text → AreTexts more
    → AreTexts (parameters_for credential_text date_text expires_in names_text ++ (codes "X-Amz-Signature", signature_text) ∷ more)
unfolding encode
parameter_texts credential_text date_text names_text signature_text expires_in more is_credential is_date is_expiry is_names is_signature is_more = (
  ((codes "X-Amz-Algorithm", (refl, refl)), (codes "AWS4-HMAC-SHA256", (refl, refl))),
  (
    ((codes "X-Amz-Credential", (refl, refl)), is_credential),
    (
      ((codes "X-Amz-Date", (refl, refl)), is_date),
      (
        ((codes "X-Amz-Expires", (refl, refl)), is_expiry),
        (
          ((codes "X-Amz-SignedHeaders", (refl, refl)), is_names),
          (((codes "X-Amz-Signature", (refl, refl)), is_signature), is_more),
        ),
      ),
    ),
  ),
)

slash_utf8 : IsUtf8 (codes "/")
unfolding encode
slash_utf8 = (codes "/", (refl, refl))

-- ---- the case

-- a case in query form that is signed
pub record SignsQuery (c : Case) : Type 0 where
  pub strings : IsOfStrings c
  pub form : is_query_form c.settings ≡ true
  pub usual : c.settings.excluded_headers ≡ Some default_exclusions
  pub lower : AreLower c.headers
  pub in_years : IsInYears c.at
  pub fit : unfit c ≡ None
  pub unauthorized : first_value c.headers (codes "authorization") ≡ None
  pub none : HaveNone (parameter_keys c.settings) (decoded c.target)

pub signs_query : (c : Case) → IsSignedAsSent c → c.settings.signature_location ≡ QueryParams → HasFormApart QueryParams c → SignsQuery c
signs_query c is here apart = record {
  strings = is.strings;
  form = ap is_query here;
  usual = is.usual;
  lower = is.lower;
  in_years = is.in_years;
  fit = is.fit;
  unauthorized = apart.0;
  none = apart.1;
}

module _ (c : Case) (is : SignsQuery c) where
  abbrev pub token_name : List ℕ
  token_name = token_parameter c.settings

  after_headers : (unfit_headers 1 c.headers ≡ None) × (option_or (unfit_host c.target c.headers) (option_or (unfit_token_name c.settings) (unfit_texts c)) ≡ None)
  unfolding unfit
  after_headers = both_none (unfit_headers 1 c.headers) _ (both_none (unfit_target c.settings c.target) _ is.fit).1

  fit_host : unfit_host c.target c.headers ≡ None
  fit_host = (both_none (unfit_host c.target c.headers) _ after_headers.1).0

  pub free : IsFreeName token_name
  free = free_name c.settings c.settings.session_token_name_override
      (both_none (unfit_token_name c.settings) (unfit_texts c) (both_none (unfit_host c.target c.headers) _ after_headers.1).1).0

  pub headers_are : signed_headers c ≡ c.headers
  unfolding signed_headers instructions
  headers_are = ap (with_instructions c.headers) (chosen (is_query_form c.settings) [] _ is.form)

  pub canonical_are : canonical_headers c ≡ hosted_headers c.target c.headers
  unfolding canonical_headers
  canonical_are = chosen (is_query_form c.settings) _ _ is.form

  -- ---- the target with its parameters

  abbrev pub first_added : Pair
  first_added = (codes "X-Amz-Algorithm", codes "AWS4-HMAC-SHA256")

  abbrev pub more_added : List Pair
  more_added =
      (codes "X-Amz-Credential", credential c) ∷ (codes "X-Amz-Date", stamp c.at) ∷ (codes "X-Amz-Expires", expires_text c.settings.expires_in)
      ∷ (codes "X-Amz-SignedHeaders", joined_names (names c)) ∷ (codes "X-Amz-Signature", signature_of c) ∷ token_pairs token_name c.token

  pub parameters_are : parameters c ≡ first_added ∷ more_added
  unfolding parameters signing_parameters
  parameters_are = chosen (is_query_form c.settings) _ _ is.form

  abbrev pub sent_target : Target
  sent_target = with_params c.target (first_added ∷ more_added)

  abbrev sent_query : List ℕ
  sent_query = before_pair c.target.query ++ join_with_byte 38 (map pair_text (map escaped_pair (first_added ∷ more_added)))

  sent_target_is : sent_target ≡ record c.target { query = Some sent_query }
  sent_target_is = pairs_joined c.target (escaped_pair first_added) (map escaped_pair more_added)

  -- ---- the names

  pub all_named : AreNamed (canonical_headers c)
  all_named = subst AreNamed (sym canonical_are)
      (named_optional (codes "host") (added_host c.target c.headers) (given_headers c.headers) refl
      (named_given c.headers is.lower (fit-from_none 1 c.headers after_headers.0)))

  host_signed : is_signed c.settings (codes "host") ≡ true
  unfolding is_signed
  host_signed =
      ap (λ (excluded : Option (List (List ℕ))). not (list_any (bytes_eq (codes "host"))
      (unwrap_or excluded [] ++ excluded_token c.settings.session_token_mode (unsigned_token c.settings) ++ unsigned_in_query_form c.settings))) is.usual
      ∙ (ap (λ (b : Bool). not (list_any (bytes_eq (codes "host"))
      (default_exclusions ++ excluded_token c.settings.session_token_mode (cond b (lower token_name) (token_header c.settings))
      ++ cond b (codes "x-amz-user-agent" ∷ codes "x-amz-checksum-mode" ∷ []) []))) is.form
      ∙ by_mode c.settings.session_token_mode)
    where
      by_mode : (mode : SessionTokenMode) → not (list_any (bytes_eq (codes "host")) (default_exclusions ++ excluded_token mode (lower token_name)
          ++ codes "x-amz-user-agent" ∷ codes "x-amz-checksum-mode" ∷ [])) ≡ true
      by_mode Include = refl
      by_mode Exclude = ap (λ (b : Bool). not (b || false)) (bytes_eq-flipped (codes "host") (lower token_name) ∙ free.not_host)

  pub host_among : is_among (codes "host") (names c) ≡ true
  host_among =
      among_from c (codes "host") host_signed
      (ap is_here (ap (λ (headers : List Pair). named_values headers (codes "host")) canonical_are
      ∙ layered (codes "host") (added_host c.target c.headers) (given_headers c.headers) (codes "host"))
      ∙ host_by (has_host c.headers) (host_text c.target) (named_values (given_headers c.headers) (codes "host")) (first-here (given_headers c.headers) (codes "host")) fit_host)

  -- ---- the pairs

  texts : AreTexts (first_added ∷ more_added)
  unfolding credential stamp
  texts =
      parameter_texts (credential c) (stamp c.at) (joined_names (names c)) (signature_of c) c.settings.expires_in (token_pairs token_name c.token)
      (IsUtf8-append (c.key_id ++ codes "/") (scope c.at c.signer.region c.signer.name) (IsUtf8-append c.key_id (codes "/") is.strings.key_id slash_utf8)
      (scope_utf8 c.at c.signer.region c.signer.name is.strings.region is.strings.name))
      (stamp_utf8 (civil_of c.at))
      (expires_utf8 c.settings.expires_in is.strings.expiry)
      (names_utf8 c all_named)
      (signature_utf8 c)
      (token_texts token_name c.token (name_utf8 c.settings.session_token_name_override is.strings.token_name) is.strings.token)

  pub decoded_are : decoded sent_target ≡ decoded c.target ++ first_added ∷ more_added
  decoded_are = decoded_with c.target first_added more_added texts

  abbrev signed_first : List Pair
  signed_first = parameters_for (credential c) (stamp c.at) c.settings.expires_in (joined_names (names c))

  abbrev signed_last : List Pair
  signed_last = token_pairs token_name (signed_token c.settings.session_token_mode c.token)

  pairs_are : pairs c ≡ decoded c.target ++ (signed_first ++ signed_last)
  unfolding pairs signing_parameters
  pairs_are = chosen (is_query_form c.settings) _ _ is.form ∙ append_assoc (decoded c.target) signed_first signed_last

  pairs_same : sent_pairs QueryParams c.settings (decoded sent_target) ≡ pairs c
  pairs_same =
      ap (sent_pairs QueryParams c.settings) decoded_are
      ∙ (filter-append (is_kept c.settings.session_token_mode token_name) (decoded c.target) (first_added ∷ more_added)
      ∙ ((λ i. given_kept c.settings (decoded c.target) is.none i
      ++ added_kept c.settings.session_token_mode token_name (credential c) (stamp c.at) (joined_names (names c)) (signature_of c) c.settings.expires_in c.token free i)
      ∙ sym pairs_are))

  -- ---- the seal

  abbrev pub own_seal : SealParts
  own_seal = record { place = QueryParams; key_id = c.key_id; at = floor_secs c.at; names = joined_names (names c); signature = signature_of c; expires = c.settings.expires_in }

  pub credential_same : credential c ≡ sealed_credential c.signer.region c.signer.name own_seal
  unfolding credential scope date civil_of
  credential_same = refl

  first_added_is : (key : List ℕ) → ((other : List ℕ) → IsFreeKey other token_name → bytes_eq other key ≡ false)
      → first_value (decoded sent_target) key ≡ first_value (first_added ∷ more_added) key
  first_added_is key differs =
      ap (λ (all : List Pair). first_value all key) decoded_are
      ∙ first_behind key (decoded c.target) (first_added ∷ more_added) (others_by c.settings key differs (decoded c.target) is.none)

  pub sealed_by : SealsParameters (decoded sent_target) c.signer.region c.signer.name own_seal
  unfolding stamp civil_of
  sealed_by = record {
    moment = record { in_years = is.in_years; whole = refl };
    digits = signature_digits c;
    date = first_added_is (codes "X-Amz-Date") (λ other key. key.date);
    credential = first_added_is (codes "X-Amz-Credential") (λ other key. key.credential) ∙ ap (λ (text : List ℕ). Some text) credential_same;
    names = first_added_is (codes "X-Amz-SignedHeaders") (λ other key. key.names);
    signature = first_added_is (codes "X-Amz-Signature") (λ other key. key.signature);
    expires = ap (option_and_then spelled_seconds) (first_added_is (codes "X-Amz-Expires") (λ other key. key.expires)) ∙ expiry_back c.settings.expires_in is.strings.expiry;
  }

  pub unsealed : IsUnsealed (signed_headers c) c.signer.region c.signer.name
  unsealed = subst (λ (headers : List Pair). IsUnsealed headers c.signer.region c.signer.name) (sym headers_are) (unsealed_bare c.headers c.signer.region c.signer.name is.unauthorized)

  -- ---- the canonical text

  host_same : host_text sent_target ≡ host_text c.target
  unfolding host_text
  host_same = ap (λ (t : Target). option_map (host_of t.scheme) t.authority) sent_target_is

  pub hosted_same : hosted_headers sent_target (signed_headers c) ≡ canonical_headers c
  hosted_same =
      ap (hosted_headers sent_target) headers_are
      ∙ (ap (λ (host : Option (List ℕ)). with_optional (codes "host") (cond {A = Option (List ℕ)} (has_host c.headers) None host) (given_headers c.headers)) host_same
      ∙ sym canonical_are)

  path_same : sent_target.path ≡ c.target.path
  path_same = ap (λ (t : Target). t.path) sent_target_is

  text_same : sent_text c.method sent_target (signed_headers c) c.settings c.payload own_seal ≡ canonical c
  unfolding sent_text canonical
  text_same =
      let carried = names_carried c all_named (codes "host") host_among in
      λ i. canonical_lines c.method (canonical_path c.settings.uri_path_normalization_mode c.settings.percent_encoding_mode (path_same i)) (query (pairs_same i))
      (flat_map (header_line (hosted_same i)) (carried i)) (joined_names (names c)) c.payload

  pub signature_same : recomputed c.method sent_target (signed_headers c) c.settings c.payload c.signer own_seal ≡ signature_of c
  unfolding recomputed signature_of signature string_to_sign signing_key stamp scope date civil_of
  signature_same = ap (signature c.signer (floor_secs c.at)) text_same

  -- and the request can be signed
  pub fit_again : unfit_sent sent_target (signed_headers c) ≡ None
  fit_again =
      ap (unfit_sent sent_target) headers_are
      ∙ ((λ i. option_or (after_headers.0 i) (cond {A = Option SigningError} (has_host c.headers) None (unfit_host_text (host_same i)))) ∙ fit_host)
