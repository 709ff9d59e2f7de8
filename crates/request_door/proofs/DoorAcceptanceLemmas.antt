-- A request that was signed carries its own signature.
use Rattle.std.proofs.Common.{◌≡◌, ℕ, false, List, Option, Some, None, refl, sym, ap, ◌∙◌, subst, true≢false}
use Rattle.std.specs.Prelude.{codes, is_some, option_and_then, string_bytes}
use Rattle.http_uri.specs.declared.uri.Uri.{Uri}
use Rattle.smithy_core.specs.TextPairs.{first_value}
use Rattle.smithy_core.specs.declared.request.HttpRequest.{HttpRequest}
use Rattle.smithy_http.specs.QueryWriter.{SpellsTarget}
use Rattle.smithy_http.specs.Target.{Target, target_of}
use Rattle.sigv4.specs.Canonical.{joined_names, names}
use Rattle.sigv4.specs.Parameters.{with_params}
use Rattle.sigv4.specs.Query.{Pair, decoded}
use Rattle.sigv4.specs.Request.{Case}
use Rattle.sigv4.specs.Signed.{authorization, signature_of}
use Rattle.sigv4.specs.declared.settings.SignatureLocation.{SignatureLocation}
use Rattle.sigv4.specs.declared.settings.SignatureLocation.TheVariants.{Headers, QueryParams}
use Rattle.request_check.specs.Authorization.{IsAuthorization}
use Rattle.request_check.specs.Recomputation.{HasFormApart, IsSentOf, IsSignedAsSent}
use Rattle.request_check.specs.Recomputed.{recomputed}
use Rattle.request_check.specs.Sealed.{IsSealed, IsSealedAt, IsUnsealed, SealParts, SealsHeaders, SealsParameters, sealed_credential, spelled_seconds}
use Rattle.request_check.proofs.AlikeLemmas.{sent_parts, no_parameters}
use Rattle.request_check.proofs.HeaderFormLemmas as header
use Rattle.request_check.proofs.QueryFormLemmas as query
use Rattle.request_check.proofs.SealLemmas.{absent, one_seal, unsealed_bare}
use Rattle.presign_check.proofs.ParameterLemmas.{first_of_one}
use Rattle.request_door.specs.DoorAcceptance.{IsOwnSignature}
use Rattle.request_door.specs.DoorAuthorization.{IsDoorAuthorization}
use Rattle.request_door.specs.DoorCarried.{CarriesAt, DoorTexts, IsInForm}
use Rattle.request_door.specs.DoorTerms.{DoorTerms, TextsState, door_seal, seal_expiry, stated_seconds}
use Rattle.request_door.specs.Doors.{DoorInput}
use Rattle.request_door.proofs.DoorReadingLemmas.{read_strictly}

-- the first `authorization` of these headers has one space after each comma, where the door takes it
abbrev ReadsStrictly : List Pair → Type 0
ReadsStrictly headers =
    (text credential names signature : List ℕ) → first_value headers (codes "authorization") ≡ Some text → IsDoorAuthorization text credential names signature
    → IsAuthorization text credential names signature

none_there : (o : Option (List ℕ)) → is_some o ≡ false → o ≡ None
none_there None e = refl
none_there (Some x) e = absurd (true≢false e)

-- ---- the seal of what was read

some_text : {a b : List ℕ} → a ≡ b → ◌≡◌ {A = Option (List ℕ)} (Some a) (Some b)
some_text e = ap (λ (t : List ℕ). Some t) e

module _ (request : HttpRequest) (region name : List ℕ) (uri : Uri) (texts : DoorTexts) (terms : DoorTerms) where
  sealed_at : (place : SignatureLocation) → texts.place ≡ place → SpellsTarget (string_bytes request.target) uri → IsInForm request.headers (decoded (target_of uri)) place
      → CarriesAt place request.headers (decoded (target_of uri)) texts → ReadsStrictly request.headers → TextsState region name texts terms
      → IsSealedAt place request.headers (string_bytes request.target) region name (door_seal texts terms)
  sealed_at Headers here spelled in_form carried strictly stated = record {
    moment = stated.moment;
    date = first_of_one request.headers (codes "x-amz-date") texts.date carried.date ∙ some_text (sym stated.date);
    authorization = carried.authorization;
    first = first_of_one request.headers (codes "authorization") carried.authorization carried.once;
    read = subst (λ (t : List ℕ). IsAuthorization carried.authorization t texts.names texts.signature) stated.credential
        (strictly carried.authorization texts.credential texts.names texts.signature
        (first_of_one request.headers (codes "authorization") carried.authorization carried.once) carried.read);
    no_expiry = ap (λ (p : SignatureLocation). seal_expiry p terms) here;
  }
  sealed_at QueryParams here spelled in_form carried strictly stated =
      let pairs = decoded (target_of uri) in (
        unsealed_bare request.headers region name (none_there (first_value request.headers (codes "authorization")) in_form.0),
        (
          uri,
          spelled.0,
          record {
            moment = stated.moment;
            digits = carried.digits;
            date = first_of_one pairs (codes "X-Amz-Date") texts.date carried.date ∙ some_text (sym stated.date);
            credential = first_of_one pairs (codes "X-Amz-Credential") texts.credential carried.credential ∙ some_text stated.credential;
            names = first_of_one pairs (codes "X-Amz-SignedHeaders") texts.names carried.names;
            signature = first_of_one pairs (codes "X-Amz-Signature") texts.signature carried.signature;
            expires =
                ap (option_and_then spelled_seconds) (first_of_one pairs (codes "X-Amz-Expires") texts.expires carried.expires)
                ∙ (sym (ap (λ (p : SignatureLocation). stated_seconds p texts.expires) here) ∙ (stated.expires ∙ sym (ap (λ (p : SignatureLocation). seal_expiry p terms) here)));
          },
        ),
      )

-- the seal of a signed request, whose signature is its own
record OwnSeal (c : Case) (sent : HttpRequest) (uri : Uri) : Type 0 where
  seal : SealParts
  key_id : seal.key_id ≡ c.key_id
  sealed : IsSealed sent c.signer.region c.signer.name seal
  strictly : ReadsStrictly sent.headers
  same : seal.signature ≡ recomputed (string_bytes sent.method) (target_of uri) sent.headers c.settings c.payload c.signer seal

some_same : (a b : List ℕ) → ◌≡◌ {A = Option (List ℕ)} (Some a) (Some b) → a ≡ b
some_same a b e = cc

strict_in_headers : (c : Case) (sent : HttpRequest) → header.SignsHeaders c → IsSentOf c sent → ReadsStrictly sent.headers
strict_in_headers c sent is of = λ text credential listed digits here read.
    let same : authorization c ≡ text = some_same (authorization c) text
    (sym (header.authorization_is c is) ∙ (ap (λ (headers : List Pair). first_value headers (codes "authorization")) (sym of.headers) ∙ here)) in
    read_strictly text _ _ _ credential listed digits
    (subst (λ (t : List ℕ). IsAuthorization t (sealed_credential c.signer.region c.signer.name (header.own_seal c is)) (joined_names (names c)) (signature_of c)) same
    (header.authorization_read c is)) read

strict_in_parameters : (c : Case) (sent : HttpRequest) → query.SignsQuery c → IsSentOf c sent → ReadsStrictly sent.headers
strict_in_parameters c sent is of = λ text credential names signature here read.
    absurd (absent (sym is.unauthorized ∙ (ap (λ (headers : List Pair). first_value headers (codes "authorization"))
    (sym (of.headers ∙ query.headers_are c is)) ∙ here)))

own_in_headers : (c : Case) (sent : HttpRequest) (uri : Uri) → header.SignsHeaders c → IsSentOf c sent → SpellsTarget (string_bytes sent.target) uri → OwnSeal c sent uri
own_in_headers c sent uri is of spelled =
    let target : target_of uri ≡ c.target = sent_parts c sent of uri spelled.0 ∙ ap (with_params c.target) (no_parameters c is.form) in
    record {
      seal = header.own_seal c is;
      key_id = refl;
      sealed = subst (λ (headers : List Pair). SealsHeaders headers c.signer.region c.signer.name (header.own_seal c is)) (sym of.headers) (header.sealed_by c is);
      strictly = strict_in_headers c sent is of;
      same = sym ((λ i. recomputed (of.method i) (target i) (of.headers i) c.settings c.payload c.signer (header.own_seal c is)) ∙ header.signature_same c is);
    }

own_in_parameters : (c : Case) (sent : HttpRequest) (uri : Uri) → query.SignsQuery c → IsSentOf c sent → SpellsTarget (string_bytes sent.target) uri → OwnSeal c sent uri
own_in_parameters c sent uri is of spelled =
    let target : target_of uri ≡ query.sent_target c is = sent_parts c sent of uri spelled.0 ∙ ap (with_params c.target) (query.parameters_are c is) in
    record {
      seal = query.own_seal c is;
      key_id = refl;
      sealed = (
        subst (λ (headers : List Pair). IsUnsealed headers c.signer.region c.signer.name) (sym of.headers) (query.unsealed c is),
        (
          uri,
          spelled.0,
          subst (λ (t : Target). SealsParameters (decoded t) c.signer.region c.signer.name (query.own_seal c is)) (sym target) (query.sealed_by c is),
        ),
      );
      strictly = strict_in_parameters c sent is of;
      same = sym ((λ i. recomputed (of.method i) (target i) (of.headers i) c.settings c.payload c.signer (query.own_seal c is)) ∙ query.signature_same c is);
    }

own_seal : (c : Case) (sent : HttpRequest) (uri : Uri) → IsSignedAsSent c → IsSentOf c sent → SpellsTarget (string_bytes sent.target) uri → OwnSeal c sent uri
own_seal c sent uri is of spelled = by c.settings.signature_location refl is.apart
  where
    by : (place : SignatureLocation) → c.settings.signature_location ≡ place → HasFormApart place c → OwnSeal c sent uri
    by Headers here apart = own_in_headers c sent uri (header.signs_headers c is here apart) of spelled
    by QueryParams here apart = own_in_parameters c sent uri (query.signs_query c is here apart) of spelled

pub own_signature : (asked : DoorInput) → IsOwnSignature asked
own_signature asked = λ c is reading has differs.
    let stated = has.payload.timely.names.stated in
    let carried = stated.texts in
    let target = carried.form.target in
    let own = own_seal c asked.request reading.uri is.signed is.sent target.spelled in
    let mine : IsSealed asked.request asked.region asked.name (door_seal reading.texts reading.terms) =
    sealed_at asked.request asked.region asked.name reading.uri reading.texts reading.terms reading.texts.place refl target.spelled carried.form.in_form carried.carried own.strictly stated.stated in
    let theirs : IsSealed asked.request asked.region asked.name own.seal =
    subst (λ (region : List ℕ). IsSealed asked.request region asked.name own.seal) is.region
    (subst (λ (name : List ℕ). IsSealed asked.request c.signer.region name own.seal) is.name own.sealed) in
    let seal = one_seal asked.request asked.region asked.name (door_seal reading.texts reading.terms) own.seal mine theirs in
    let secret : c.signer.secret ≡ reading.secret = some_same c.signer.secret reading.secret
    (sym is.known ∙ (ap asked.secrets (sym (ap (λ (s : SealParts). s.key_id) seal ∙ own.key_id)) ∙ has.known)) in
    let payload = is.payload reading has in
    differs (ap (λ (s : SealParts). s.signature) seal ∙ (own.same ∙ (λ i. recomputed (string_bytes asked.request.method) (target_of reading.uri) asked.request.headers
    (is.settings i) (payload i) (record { secret = secret i; region = is.region i; name = is.name i }) (sym seal i))))
