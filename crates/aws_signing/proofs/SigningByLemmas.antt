-- A request that is signed by a signer, for what its target spells.
use Rattle.std.proofs.Common.{◌≡◌, ℕ, true, false, inl, inr, List, [], ◌∷◌, Option, Some, None, refl, ap, ◌∙◌, subst}
use Rattle.std.specs.Prelude.{Ok, Err, string_bytes, if◌then◌else◌}
use Rattle.http_uri.specs.declared.uri.Uri.{Uri}
use Rattle.smithy_core.specs.Civil.{is_in_years}
use Rattle.smithy_core.specs.Identity.{IsSameIdentity}
use Rattle.smithy_core.specs.Moment.{Instant}
use Rattle.smithy_core.specs.declared.identity.Identity.{Identity}
use Rattle.smithy_core.specs.declared.identity.Identity.TheVariants.{Credentials, Token}
use Rattle.smithy_core.specs.declared.request.HttpRequest.{HttpRequest}
use Rattle.smithy_http.specs.QueryWriter.{SpellsTarget}
use Rattle.smithy_http.specs.Target.{Target, target_of}
use Rattle.sigv4.specs.Body.{payload_text}
use Rattle.sigv4.specs.ChunkTold.{unsigned_chunk_at}
use Rattle.sigv4.specs.Instructions.{Instructions, with_instructions}
use Rattle.sigv4.specs.Parameters.{AppliesTo}
use Rattle.sigv4.specs.KeptKey.{Kept, kept_at}
use Rattle.sigv4.specs.Params.{signer_of, v4_identity, v4_settings, v4_time}
use Rattle.sigv4.specs.Query.{Pair}
use Rattle.sigv4.specs.Refusal.{unfit}
use Rattle.sigv4.specs.Request.{Case, key_id_of, request_case, token_of}
use Rattle.sigv4.specs.Settings.{settings_of}
use Rattle.sigv4.specs.Signed.{instructions, parameters, signature_of, signed_headers, signed_target}
use Rattle.sigv4.specs.declared.error.SigningError.{SigningError}
use Rattle.sigv4.specs.declared.instructions.SigningInstructions.{SigningInstructions}
use Rattle.sigv4.specs.declared.output.SigningOutput.{SigningOutput}
use Rattle.sigv4.specs.declared.params.SigningParams.{SigningParams as V4Params}
use Rattle.sigv4.specs.declared.request.SignableRequest.{SignableRequest}
use Rattle.sigv4.specs.declared.settings.SigningSettings.{SigningSettings}
use Rattle.sigv4.specs.declared.signing_params.SigningParams.{SigningParams}
use Rattle.sigv4.specs.declared.signing_params.SigningParams.TheVariants.{V4}
use Rattle.sigv4.proofs.KeptKeyLemmas.{kept_signer}
use Rattle.sigv4.proofs.RefusalLemmas.{not_taken, taken}
use Rattle.aws_auth.specs.Steps.{RefusesTarget, SignsParts}
use Rattle.aws_signing.specs.KeyHolder.{HeldKey, IsHeldBy, key_kept}
use Rattle.aws_signing.specs.declared.fault.AwsSigningError.{AwsSigningError}
use Rattle.aws_signing.specs.SigningBy.{IsSignedRequestBy, unless_filled, RefusesBy, SigningState, given_payload, in_form, signer_case, text_case}

-- the case that is signed is that of the request
pub text_case_made : (request : HttpRequest) (payload : Option (List ℕ)) (params : SigningParams) (signable : SignableRequest)
    → signable.method.now ≡ string_bytes request.method → signable.headers.now ≡ request.headers → payload_text signable.body ≡ given_payload payload request.body
    → request_case signable params ≡ text_case request payload params (target_of signable.uri)
text_case_made request payload (V4 params) signable method headers body = rw (method, headers, body) refl

module _ (case : Target → Case) (aimed : (target : Target) → (case target).target ≡ target) where
  -- a target that takes no more parameters is refused
  pub not_put_in : (text new : List ℕ) (uri : Uri) (made : List Pair) (error : SigningError) → SpellsTarget text uri → unfit (case (target_of uri)) ≡ None
      → made ≡ parameters (case (target_of uri)) → AppliesTo made (target_of uri) text new (Err error) → RefusesTarget text case error
  not_put_in text new uri made error spells fit is (inl over) =
      let refusal = not_taken (case (target_of uri)) (target_of uri) made (aimed (target_of uri)) is over.0 in
      inl (Some (target_of uri), (uri, spells, refl), rw (fit, refusal, over.1) refl)
  not_put_in text new uri made error spells fit is (inr memory) = inr memory

  -- what a signature adds is put into the request
  pub put_in : (at : Instant) (old new : HttpRequest) (uri : Uri) (made : Instructions) (signature : List ℕ) → unsigned_chunk_at at ≡ None
      → (case (target_of uri)).headers ≡ old.headers → SpellsTarget (string_bytes old.target) uri → unfit (case (target_of uri)) ≡ None
      → made.headers ≡ instructions (case (target_of uri)) → made.params ≡ parameters (case (target_of uri)) → signature ≡ signature_of (case (target_of uri))
      → new.headers ≡ with_instructions old.headers made.headers
      → AppliesTo made.params (target_of uri) (string_bytes old.target) (string_bytes new.target) (Ok tt)
      → IsSignedRequestBy case at (string_bytes old.target) new signature
  unfolding signed_headers signed_target
  put_in at old new uri made signature years headed spells fit headers_are params_are signature_is headers applies =
      let passed = taken (case (target_of uri)) (target_of uri) made.params (aimed (target_of uri)) params_are applies.0 in record {
        target = target_of uri;
        spelled = (uri, spells, refl);
        in_years = years;
        passed = rw (fit, passed) refl;
        headers = rw (headers, headers_are, headed) refl;
        text_is = rw (applies.1, params_are, aimed (target_of uri)) refl;
        signature_is = signature_is;
      }

-- ## By a signer

-- a copy of credentials is credentials with the same secret
pub same_holder : (identity copy : Identity) (region region' name name' : List ℕ) (kept kept' : Kept) → IsHeldBy identity region name kept.signer
    → IsSameIdentity identity copy → region' ≡ region → name' ≡ name → kept' ≡ kept → IsHeldBy copy region' name' kept'.signer
same_holder (Credentials credentials) (Credentials copy) region region' name name' kept kept' held same regions names keeps =
    record { credentials = tt; signs = rw (keeps, regions, names, same.secret) held.signs }
same_holder (Credentials credentials) (Token token) region region' name name' kept kept' held same regions names keeps = absurd same
same_holder (Token token) copy region region' name name' kept kept' held same regions names keeps = absurd held.credentials

-- what a signer keeps for a moment is still of who signs
pub holder_stays : (held : HeldKey) (at : Instant)
    → ((key_kept held at).key_id ≡ held.key_id) × ((key_kept held at).token ≡ held.token) × ((key_kept held at).kept.signer ≡ held.kept.signer)
holder_stays held at =
    elim (is_in_years at) as (λ b. let kept = if b then record held { kept = kept_at held.kept at } else held in
    (kept.key_id ≡ held.key_id) × (kept.token ≡ held.token) × (kept.kept.signer ≡ held.kept.signer))
    [ true ↦ (refl, refl, kept_signer held.kept at) | false ↦ (refl, refl, refl) ]

-- the case by the parameters of a signer is the signer's own
pub case_by : (by : SigningState) (request : HttpRequest) (payload : Option (List ℕ)) (seconds : Option ℕ) (at : Instant) (params : V4Params SigningSettings)
    → key_id_of (v4_identity params) ≡ by.holder.key_id → token_of (v4_identity params) ≡ by.holder.token → signer_of params ≡ by.holder.kept.signer
    → v4_time params ≡ at → settings_of (v4_settings params) ≡ in_form by.settings seconds
    → text_case request payload (V4 params) ≡ signer_case by (string_bytes request.method) request.headers (given_payload payload request.body) seconds at
case_by by request payload seconds at params key_id token signer time settings = λ i target. record {
  method = string_bytes request.method;
  target = target;
  headers = request.headers;
  payload = given_payload payload request.body;
  settings = settings i;
  key_id = key_id i;
  token = token i;
  signer = signer i;
  at = time i;
}

-- a text that isn't empty
pub filled : (text : List ℕ) (fault : AwsSigningError) → (text ≡ [] → ⊥) → unless_filled text fault ≡ None
filled [] fault some = absurd (some refl)
filled (byte ∷ bytes) fault some = refl

-- the case of a signer is the same once it keeps the key of the moment
case_stays : (by : SigningState) (holder : HeldKey) (method : List ℕ) (headers : List Pair) (payload : List ℕ) (seconds : Option ℕ) (at : Instant)
    → holder ≡ key_kept by.holder at
    → signer_case (record by { holder = holder }) method headers payload seconds at ≡ signer_case by method headers payload seconds at
case_stays by holder method headers payload seconds at kept =
    let stays = holder_stays by.holder at in
    let key_id : holder.key_id ≡ by.holder.key_id = ap (λ (held : HeldKey). held.key_id) kept ∙ stays.0 in
    let token : holder.token ≡ by.holder.token = ap (λ (held : HeldKey). held.token) kept ∙ stays.1 in
    let signer : holder.kept.signer ≡ by.holder.kept.signer = ap (λ (held : HeldKey). held.kept.signer) kept ∙ stays.2 in
    λ i target. record {
      method = method;
      target = target;
      headers = headers;
      payload = payload;
      settings = in_form by.settings seconds;
      key_id = key_id i;
      token = token i;
      signer = signer i;
      at = at;
    }

-- a signer that keeps the key of the moment refuses what the signer does
pub refused_by : (by : SigningState) (holder : HeldKey) (request : HttpRequest) (payload : Option (List ℕ)) (seconds : Option ℕ) (at : Instant)
    → holder ≡ key_kept by.holder at → unsigned_chunk_at at ≡ None → (error : SigningError)
    → SignsParts (string_bytes request.target)
    (signer_case (record by { holder = holder }) (string_bytes request.method) request.headers (given_payload payload request.body) seconds at) (Err error)
    → RefusesBy (signer_case by (string_bytes request.method) request.headers (given_payload payload request.body) seconds at) at (string_bytes request.target) error
refused_by by holder request payload seconds at kept years error signs =
    let P : (Target → Case) → Type 0 = λ case. SignsParts (string_bytes request.target) case (Err error) in
    let same = case_stays by holder (string_bytes request.method) request.headers (given_payload payload request.body) seconds at kept in
    inr (years, subst P same signs)

-- what a signer's signature adds isn't put into a request
pub not_put_in_by : (by : SigningState) (holder : HeldKey) (request : HttpRequest) (payload : Option (List ℕ)) (seconds : Option ℕ) (at : Instant)
    → holder ≡ key_kept by.holder at → unsigned_chunk_at at ≡ None → (output : SigningOutput SigningInstructions) (uri : Uri)
    → SignsParts (string_bytes request.target)
    (signer_case (record by { holder = holder }) (string_bytes request.method) request.headers (given_payload payload request.body) seconds at) (Ok (output, uri))
    → (new : List ℕ) (error : SigningError) → AppliesTo output.output.params (target_of uri) (string_bytes request.target) new (Err error)
    → RefusesBy (signer_case by (string_bytes request.method) request.headers (given_payload payload request.body) seconds at) at (string_bytes request.target) error
not_put_in_by by holder request payload seconds at kept years output uri signs new error applies =
    let own = signer_case by (string_bytes request.method) request.headers (given_payload payload request.body) seconds at in
    let same = case_stays by holder (string_bytes request.method) request.headers (given_payload payload request.body) seconds at kept in
    let P : (Target → Case) → Type 0 = λ case. SignsParts (string_bytes request.target) case (Ok (output, uri)) in
    let signed = subst P same signs in
    inr (years, not_put_in own (λ target. refl) (string_bytes request.target) new uri output.output.params error signed.0 signed.1 signed.2.params applies)

-- what a signer's signature adds is put into a request
pub put_in_by : (by : SigningState) (holder : HeldKey) (request new : HttpRequest) (payload : Option (List ℕ)) (seconds : Option ℕ) (at : Instant)
    → holder ≡ key_kept by.holder at → unsigned_chunk_at at ≡ None → (output : SigningOutput SigningInstructions) (uri : Uri)
    → SignsParts (string_bytes request.target)
    (signer_case (record by { holder = holder }) (string_bytes request.method) request.headers (given_payload payload request.body) seconds at) (Ok (output, uri))
    → new.headers ≡ with_instructions request.headers output.output.headers
    → AppliesTo output.output.params (target_of uri) (string_bytes request.target) (string_bytes new.target) (Ok tt)
    → IsSignedRequestBy (signer_case by (string_bytes request.method) request.headers (given_payload payload request.body) seconds at) at (string_bytes request.target) new
    (string_bytes output.signature)
put_in_by by holder request new payload seconds at kept years output uri signs headers applies =
    let own = signer_case by (string_bytes request.method) request.headers (given_payload payload request.body) seconds at in
    let same = case_stays by holder (string_bytes request.method) request.headers (given_payload payload request.body) seconds at kept in
    let P : (Target → Case) → Type 0 = λ case. SignsParts (string_bytes request.target) case (Ok (output, uri)) in
    let signed = subst P same signs in
    put_in own (λ target. refl) at request new uri output.output (string_bytes output.signature) years refl signed.0 signed.1 signed.2.headers signed.2.params
    signed.2.signature headers applies
