-- A request that is signed by parameters, for what its target spells.
use Rattle.std.proofs.Common.{◌≡◌, ℕ, ◌⊎◌, inl, inr, List, Option, Some, None, refl, sym, ap, ◌∙◌}
use Rattle.std.specs.Prelude.{Ok, Err, String, string_bytes}
use Rattle.std.specs.declared.alloc.Global.{Global}
use Rattle.http_uri.specs.declared.uri.Uri.{Uri}
use Rattle.smithy_core.specs.Identity.{IsSameIdentity}
use Rattle.smithy_core.specs.declared.identity.Identity.{Identity}
use Rattle.smithy_core.specs.declared.identity.Identity.TheVariants.{Credentials, Token}
use Rattle.smithy_core.specs.declared.request.HttpRequest.{HttpRequest}
use Rattle.smithy_http.specs.QueryWriter.{SpellsNoTarget, SpellsTarget}
use Rattle.smithy_http.specs.Target.{Target, target_of}
use Rattle.sigv4.specs.Body.{payload_text}
use Rattle.sigv4.specs.EventStream.{unsignable}
use Rattle.sigv4.specs.Instructions.{Instructions, with_instructions}
use Rattle.sigv4.specs.Parameters.{AppliesTo, target_text_with}
use Rattle.sigv4.specs.Params.{v4_identity, v4_name, v4_region, v4_settings, v4_time}
use Rattle.sigv4.specs.Query.{Pair}
use Rattle.sigv4.specs.Refusal.{request_refusal, unfit}
use Rattle.sigv4.specs.Request.{Case, identity_of, request_case}
use Rattle.sigv4.specs.RequestSigning.{SignsCase}
use Rattle.sigv4.specs.Signed.{instructions, parameters, signature_of, signed_headers, signed_target}
use Rattle.sigv4.specs.declared.error.SigningError.{SigningError}
use Rattle.sigv4.specs.declared.error.SigningError.TheVariants.{InvalidUri, NoMemory}
use Rattle.sigv4.specs.declared.instructions.SigningInstructions.{SigningInstructions}
use Rattle.sigv4.specs.declared.output.SigningOutput.{SigningOutput}
use Rattle.sigv4.specs.declared.request.SignableRequest.{SignableRequest}
use Rattle.sigv4.specs.declared.signing_params.SigningParams.{SigningParams}
use Rattle.sigv4.specs.declared.signing_params.SigningParams.TheVariants.{V4}
use Rattle.sigv4.proofs.RefusalLemmas.{not_taken, taken}
use Rattle.aws_auth.specs.Inputs.{chosen_text}
use Rattle.aws_auth.specs.MessageSigner.{signer_from}
use Rattle.aws_auth.specs.Signer.{AnswersAlone, IsSignedCase}
use Rattle.aws_auth.specs.Steps.{IsSignedWith, RefusesTarget, SignsParts, SignsTarget, params_case}
use Rattle.aws_auth.specs.declared.payload.PayloadSigningOverride.{PayloadSigningOverride}
use Rattle.aws_auth.specs.declared.signer.Signed.{Signed}

-- the case that is signed is that of the request
pub case_made : (request : HttpRequest) (payload : Option PayloadSigningOverride) (params : SigningParams) (signable : SignableRequest)
    → signable.method.now ≡ string_bytes request.method → signable.headers.now ≡ request.headers → payload_text signable.body ≡ chosen_text payload request.body
    → request_case signable params ≡ params_case request payload params (target_of signable.uri)
case_made request payload (V4 params) signable method headers body = rw (method, headers, body) refl

-- a target that isn't read is refused
pub unread : (text : List ℕ) (case : Target → Case) (error : SigningError) → (SpellsNoTarget text × (error ≡ InvalidUri)) ⊎ (error ≡ NoMemory) → RefusesTarget text case error
unread text case error (inl none) = inl (None, none.0, ap Some (sym none.1))
unread text case error (inr is) = inr is

-- what signing a case refuses for who signs, when and the request
pub refused : (text : List ℕ) (case : Target → Case) (identity : Identity) (c : Case) (uri : Uri) (error : SigningError) → SpellsTarget text uri
    → c ≡ case (target_of uri) → unsignable identity c.at ≡ None → (request_refusal identity c ≡ Some error) ⊎ (error ≡ NoMemory) → RefusesTarget text case error
refused text case identity c uri error spells same able (inl is) =
    let refusal : unfit c ≡ Some error = rw able at is in
    let unfit_case : unfit (case (target_of uri)) ≡ Some error = rw (← same) refusal in
    inl (Some (target_of uri), (uri, spells, refl), rw unfit_case refl)
refused text case identity c uri error spells same able (inr is) = inr is

-- the parts of a case that is signed
pub signed : (text : List ℕ) (case : Target → Case) (identity : Identity) (c : Case) (uri : Uri) (output : SigningOutput SigningInstructions) → SpellsTarget text uri
    → c ≡ case (target_of uri) → unsignable identity c.at ≡ None → SignsCase identity c (Ok output) → SignsParts text case (Ok (output, uri))
signed text case identity c uri output spells same able signs =
    let fit : unfit c ≡ None = rw able at signs.0 in (spells, rw (← same) fit, rw (← same) signs.1)

case_target : (request : HttpRequest) (payload : Option PayloadSigningOverride) (params : SigningParams) (target : Target)
    → (params_case request payload params target).target ≡ target
case_target request payload (V4 params) target = refl

-- a target that takes no more parameters is refused
pub retargeted : (request : HttpRequest) (payload : Option PayloadSigningOverride) (params : SigningParams) (uri : Uri) (made : List Pair) (new : List ℕ)
    (error : SigningError) → let case = params_case request payload params in let c = case (target_of uri) in
    SpellsTarget (string_bytes request.target) uri → unfit c ≡ None → made ≡ parameters c
    → AppliesTo made (target_of uri) (string_bytes request.target) new (Err error) → RefusesTarget (string_bytes request.target) case error
retargeted request payload params uri made new error spells fit is (inl over) =
    let target = target_of uri in
    let refusal = not_taken (params_case request payload params target) target made (case_target request payload params target) is over.0 in
    inl (Some (target_of uri), (uri, spells, refl), rw (fit, refusal, over.1) refl)
retargeted request payload params uri made new error spells fit is (inr memory) = inr memory

-- the request of a case, and the signers that go on from its signature
made_case : (request new : HttpRequest) (payload : Option PayloadSigningOverride) (params : SigningParams) (target : Target) (made : Instructions) (signature : List ℕ)
    (answer : Signed) → let c = params_case request payload params target in
    made.headers ≡ instructions c → made.params ≡ parameters c → signature ≡ signature_of c → IsSignedWith params signature answer
    → new.headers ≡ with_instructions request.headers made.headers
    → string_bytes new.target ≡ target_text_with made.params target (string_bytes request.target)
    → IsSignedCase (identity_of params) c request new answer
unfolding signed_headers signed_target
made_case request new payload (V4 params) target made signature answer headers_are params_are signature_is with headers text = record {
  headers = rw (headers, headers_are) refl;
  target = rw (text, params_are) refl;
  signature = with.0 ∙ signature_is;
  message_signer = rw signature_is at with.1;
  chunk_signer = rw signature_is at with.2;
  chunk_settings = with.3;
}

-- what a signature adds is put into the request
pub applied : (request new : HttpRequest) (payload : Option PayloadSigningOverride) (params : SigningParams) (uri : Uri) (made : Instructions) (signature : List ℕ)
    (answer : Signed) → let case = params_case request payload params in let c = case (target_of uri) in
    SpellsTarget (string_bytes request.target) uri → unfit c ≡ None → made.headers ≡ instructions c → made.params ≡ parameters c → signature ≡ signature_of c
    → IsSignedWith params signature answer → new.headers ≡ with_instructions request.headers made.headers
    → AppliesTo made.params (target_of uri) (string_bytes request.target) (string_bytes new.target) (Ok tt)
    → SignsTarget (identity_of params) case request new (Ok answer)
applied request new payload params uri made signature answer spells fit headers_are params_are signature_is with headers applies =
    let target = target_of uri in
    let passed = taken (params_case request payload params target) target made.params (case_target request payload params target) params_are applies.0 in (
      target,
      (uri, spells, refl),
      rw (fit, passed) refl,
      made_case request new payload params target made signature answer headers_are params_are signature_is with headers applies.1,
    )

same_identity : (identity : Identity) → IsSameIdentity identity identity
same_identity (Credentials credentials) = record { key_id = refl; secret = refl; token = refl; expiry = refl }
same_identity (Token token) = refl

-- the signers that go on from a signature, where nobody asks for them
abbrev unasked : SigningParams → String Global → Signed
unasked (V4 params) signature = record {
  signature = signature;
  message_signer = signer_from signature (v4_identity params) (v4_region params) (v4_name params) (v4_time params) tt;
  chunk_signer = signer_from signature (v4_identity params) (v4_region params) (v4_name params) (v4_time params) (v4_settings params);
}

signature_unasked : (params : SigningParams) (signature : String Global) → (unasked params signature).signature ≡ signature
signature_unasked (V4 params) signature = refl

unasked_is : (params : SigningParams) (signature : String Global) → IsSignedWith params (string_bytes signature) (unasked params signature)
unasked_is (V4 params) signature =
    let same = same_identity (v4_identity params) in (
      refl,
      record { signature = refl; identity = same; region = refl; name = refl; time = refl; kept = refl },
      record { signature = refl; identity = same; region = refl; name = refl; time = refl; kept = refl },
      refl,
    )

-- what a signature adds is put into the request, and the signature is answered alone
pub applied_alone : (request new : HttpRequest) (payload : Option PayloadSigningOverride) (params : SigningParams) (uri : Uri) (made : Instructions) (signature : String Global)
    → let case = params_case request payload params in let c = case (target_of uri) in
    SpellsTarget (string_bytes request.target) uri → unfit c ≡ None → made.headers ≡ instructions c → made.params ≡ parameters c → string_bytes signature ≡ signature_of c
    → new.headers ≡ with_instructions request.headers made.headers
    → AppliesTo made.params (target_of uri) (string_bytes request.target) (string_bytes new.target) (Ok tt)
    → AnswersAlone (SignsTarget (identity_of params) case request new) (Ok signature)
applied_alone request new payload params uri made signature spells fit headers_are params_are signature_is headers applies = (
  unasked params signature,
  signature_unasked params signature,
  applied request new payload params uri made (string_bytes signature) (unasked params signature) spells fit headers_are params_are signature_is (unasked_is params signature) headers applies,
)
