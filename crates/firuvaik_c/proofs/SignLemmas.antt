-- A request of pieces is signed as it was asked for.
use Rattle.std.proofs.Common.{◌≡◌, ◌&&◌, ◌⊎◌, ℕ, ℤ, Bool, true, false, ◌*◌, nat_lt, map, List, length, Some, None, refl, ap, ◌∙◌, inl, inr, if◌then◌else◌}
use Rattle.std.specs.Prelude.{Ok, Err}
use Rattle.std.specs.Borrow.{Bor}
use Rattle.std.specs.List.{list_all}
use Rattle.std.specs.Option.{option_or}
use Rattle.hex.proofs.HexLemmas.{length-encode_with}
use Rattle.hex.specs.Hex.{lower_digits}
use Rattle.http_uri.specs.declared.uri.Uri.{Uri}
use Rattle.smithy_core.specs.Civil.{is_in_years}
use Rattle.smithy_core.specs.Identity.{IsCredentials, secret_of}
use Rattle.smithy_core.specs.Moment.{Instant}
use Rattle.smithy_http.specs.QueryWriter.{SpellsNoTarget, SpellsTarget}
use Rattle.smithy_http.specs.Target.{Target, target_of}
use Rattle.eventstream.proofs.LinkLemmas.{length-mac}
use Rattle.sigv4.specs.Body.{payload_text}
use Rattle.sigv4.specs.EventStream.{unsignable}
use Rattle.sigv4.specs.Instructions.{Instructions}
use Rattle.sigv4.specs.Parameters.{AppliesTo, takes_no_more}
use Rattle.sigv4.specs.Params.{params_of}
use Rattle.sigv4.specs.Query.{Pair}
use Rattle.sigv4.specs.Refusal.{request_refusal, unfit}
use Rattle.sigv4.specs.Request.{Case, key_id_of, request_case, token_of}
use Rattle.sigv4.specs.RequestSigning.{SignsCase}
use Rattle.sigv4.specs.Signature.{signature}
use Rattle.sigv4.specs.Settings.{settings_of}
use Rattle.sigv4.specs.Signed.{instructions, parameters, signature_of, signed_target}
use Rattle.sigv4.specs.declared.error.SigningError.{SigningError}
use Rattle.sigv4.specs.declared.error.SigningError.TheVariants.{InvalidUri, MomentOutOfRange, NoMemory}
use Rattle.smithy_core.specs.declared.identity.Identity.{Identity}
use Rattle.smithy_core.specs.declared.identity.Identity.TheVariants.{Credentials, Token}
use Rattle.sigv4.specs.declared.instructions.SigningInstructions.{SigningInstructions}
use Rattle.sigv4.specs.declared.output.SigningOutput.{SigningOutput}
use Rattle.sigv4.specs.declared.request.SignableRequest.{SignableRequest}
use Rattle.sigv4.specs.declared.params.SigningParams.{SigningParams as V4Params}
use Rattle.sigv4.specs.declared.settings.SigningSettings.{SigningSettings}
use Rattle.sigv4.specs.declared.signing_params.SigningParams.{SigningParams}
use Rattle.sigv4.specs.declared.signing_params.SigningParams.TheVariants.{V4}
use Rattle.sigv4.proofs.RefusalLemmas.{not_taken, taken}
use Rattle.firuvaik_c.specs.Faults.{beyond_years, unknown_flags}
use Rattle.firuvaik_c.specs.Asked.{are_plain_texts, lent_case, lent_payload, lent_settings, given_text, is_text_field, is_text_keys, is_text_payload, is_text_settings, lent_header, moment_at, unless_utf8, unreadable}
use Rattle.firuvaik_c.specs.Signing.{RefusesSpelled, SignsPieces, SignsSpelled, http_lines, is_query_params, pieces_case}
use Rattle.firuvaik_c.specs.declared.answer.Made.{Made}
use Rattle.firuvaik_c.specs.declared.lent.Request.{Request}
use Rattle.firuvaik_c.specs.declared.lent.Settings.{Settings}
use Rattle.firuvaik_c.specs.declared.lent.Signer.{Signer as LentSigner}
use Rattle.firuvaik_c.specs.declared.sign.PlainTexts.{PlainTexts}

-- a signature has 64 digits
pub length-signature_of : (c : Case) → length (signature_of c) ≡ 64
unfolding signature_of signature
length-signature_of c = length-encode_with lower_digits _ ∙ ap (λ n. 2 * n) (length-mac _ _)

-- the case that is signed is that of the pieces
pub case_made : (texts : PlainTexts) (headers : List Pair) (payload : List ℕ) (params : SigningParams) (signable : SignableRequest)
    → signable.method.now ≡ texts.method.now → signable.headers.now ≡ headers → payload_text signable.body ≡ payload
    → request_case signable params ≡ pieces_case texts headers payload params (target_of signable.uri)
case_made texts headers payload (V4 params) signable method same body = rw (method, same, body) refl

-- a target that isn't read is refused
pub unread : (text : List ℕ) (case : Target → Case) (error : SigningError) → (SpellsNoTarget text × (error ≡ InvalidUri)) ⊎ (error ≡ NoMemory)
    → SignsPieces text case (Err error)
unread text case error (inl none) = inl none
unread text case error (inr is) = inr (inr is)

-- what signing a case refuses for the request
pub refused : (text : List ℕ) (case : Target → Case) (identity : Identity) (c : Case) (uri : Uri) (error : SigningError) → SpellsTarget text uri
    → c ≡ case (target_of uri) → unsignable identity c.at ≡ None → (request_refusal identity c ≡ Some error) ⊎ (error ≡ NoMemory) → SignsPieces text case (Err error)
refused text case identity c uri error spells same able (inl is) =
    let refusal : unfit c ≡ Some error = rw able at is in
    let unfit_case : unfit (case (target_of uri)) ≡ Some error = rw (← same) refusal in
    inr (inl (uri, spells, unfit_case))
refused text case identity c uri error spells same able (inr is) = inr (inr is)

-- the parts of a case that is signed
pub signed : (text : List ℕ) (case : Target → Case) (identity : Identity) (c : Case) (uri : Uri) (output : SigningOutput SigningInstructions) → SpellsTarget text uri
    → c ≡ case (target_of uri) → unsignable identity c.at ≡ None → SignsCase identity c (Ok output) → SignsPieces text case (Ok (output, uri))
signed text case identity c uri output spells same able signs =
    let fit : unfit c ≡ None = rw able at signs.0 in (spells, rw (← same) fit, rw (← same) signs.1)

able_if : (years : Bool) (error : SigningError) → years ≡ true → (if years then None else Some error) ≡ None
able_if true error is = refl
able_if false error is = cc

-- credentials sign at every moment in the years
pub able : (identity : Identity) (t : Instant) → IsCredentials identity → is_in_years t ≡ true → unsignable identity t ≡ None
able (Credentials keys) t are years = able_if (is_in_years t) (MomentOutOfRange t) years
able (Token token) t are years = absurd are

case_target : (texts : PlainTexts) (headers : List Pair) (payload : List ℕ) (params : SigningParams) (target : Target)
    → (pieces_case texts headers payload params target).target ≡ target
case_target texts headers payload (V4 params) target = refl

-- a target that takes no more parameters is refused
pub retargeted : (texts : PlainTexts) (headers : List Pair) (payload : List ℕ) (params : SigningParams) (uri : Uri) (text : List ℕ) (made : List Pair) (error : SigningError)
    → let case = pieces_case texts headers payload params in
    SpellsTarget text uri → unfit (case (target_of uri)) ≡ None → made ≡ parameters (case (target_of uri))
    → ((takes_no_more made (target_of uri) ≡ true) × (error ≡ InvalidUri)) ⊎ (error ≡ NoMemory) → RefusesSpelled text case error
retargeted texts headers payload params uri text made error spells fit is (inl over) =
    let target = target_of uri in
    let refusal = not_taken (pieces_case texts headers payload params target) target made (case_target texts headers payload params target) is over.0 in
    inr (inl (uri, spells, rw (fit, refusal, over.1) refl))
retargeted texts headers payload params uri text made error spells fit is (inr memory) = inr (inr memory)

-- what is refused of the pieces is refused
pub pieces_refused : (text : List ℕ) (case : Target → Case) (error : SigningError) → SignsPieces text case (Err error) → RefusesSpelled text case error
pieces_refused text case error (inl none) = inl none
pieces_refused text case error (inr (inl met)) = inr (inl (met.0, met.1, rw met.2 refl))
pieces_refused text case error (inr (inr memory)) = inr (inr memory)

-- what goes out of pieces, and the signature
pub applied : (texts : PlainTexts) (headers : List Pair) (payload : List ℕ) (params : SigningParams) (uri : Uri) (text : List ℕ) (made : Instructions) (answer : Made)
    → let case = pieces_case texts headers payload params in let c = case (target_of uri) in
    SpellsTarget text uri → unfit c ≡ None → made.headers ≡ instructions c → made.params ≡ parameters c → answer.signature ≡ signature_of c
    → ((new : List ℕ) × AppliesTo made.params (target_of uri) text new (Ok tt)
    × (answer.text.items ≡ (if is_query_params params then new else http_lines made.headers)))
    → SignsSpelled text case answer
unfolding signed_target
applied texts headers payload (V4 params) uri text made answer spells fit headers_are params_are signature_is goes =
    let target = target_of uri in
    let c = pieces_case texts headers payload (V4 params) target in
    let passed = taken c target made.params refl params_are goes.1.0 in
    (uri, spells, rw (fit, passed) refl, rw (goes.2, goes.1.1, headers_are, params_are) refl, signature_is)

-- the case of the pieces is the one that is asked for
pub case_asked : (signer : LentSigner) (request : Request) (settings : Settings) (seconds : ℤ) (texts : PlainTexts) (headers : List Pair) (payload : List ℕ)
    (params : V4Params SigningSettings) (identity : Bor Identity) (region name : Bor (List ℕ)) (at : Instant) (made : SigningSettings)
    → params ≡ params_of identity region name at made → texts.method.now ≡ request.method.now → headers ≡ map lent_header request.headers.now
    → payload ≡ lent_payload settings.flags request.body.now → settings_of made ≡ lent_settings settings → key_id_of identity.now ≡ signer.key_id.now
    → token_of identity.now ≡ given_text signer.token.now → secret_of identity.now ≡ signer.secret.now → region.now ≡ signer.region.now
    → name.now ≡ signer.service.now → at ≡ moment_at seconds → (target : Target)
    → pieces_case texts headers payload (V4 params) target ≡ lent_case signer request settings seconds target
case_asked signer request settings seconds texts headers payload params identity region name at made built method fields body set key_id token secret place service when target =
    rw (built, method, fields, body, set, key_id, token, secret, place, service, when) refl

-- what is signed of one case is signed of an equal one
pub signs_moved : (text other : List ℕ) (case asked : Target → Case) (made : Made) → text ≡ other → ((target : Target) → case target ≡ asked target)
    → SignsSpelled text case made → SignsSpelled other asked made
signs_moved text other case asked made same cases signs =
    let is = cases (target_of signs.0) in
    (signs.0, rw (← same) signs.1, rw (← is) signs.2, rw (← same, ← is) signs.3, rw (← is) signs.4)

-- and so is what is refused
pub refuses_moved : (text other : List ℕ) (case asked : Target → Case) (error : SigningError) → text ≡ other → ((target : Target) → case target ≡ asked target)
    → RefusesSpelled text case error → RefusesSpelled other asked error
refuses_moved text other case asked error same cases (inl none) = inl (rw (← same) none.0, none.1)
refuses_moved text other case asked error same cases (inr (inl met)) =
    let is = cases (target_of met.0) in inr (inl (met.0, rw (← same) met.1, rw (← is) met.2))
refuses_moved text other case asked error same cases (inr (inr memory)) = inr (inr memory)

read_if : (big plain keys fields payload set years : Bool) → big ≡ false → plain ≡ true → keys ≡ true → fields ≡ true → payload ≡ true → set ≡ true → years ≡ true
    → (if big then Some unknown_flags else option_or (unless_utf8 (plain && keys && fields && payload && set)) (if years then None else Some beyond_years)) ≡ None
read_if big plain keys fields payload set years b p k f l s y = rw (b, p, k, f, l, s, y) refl

-- all of a request is read
pub readable : (signer : LentSigner) (request : Request) (settings : Settings) (seconds : ℤ) → nat_lt 127 settings.flags ≡ false → are_plain_texts signer request ≡ true
    → is_text_keys signer ≡ true → list_all is_text_field request.headers.now ≡ true → is_text_payload settings.flags request.body.now ≡ true
    → is_text_settings settings ≡ true → is_in_years (moment_at seconds) ≡ true → unreadable signer request settings seconds ≡ None
readable signer request settings seconds flags plain keys fields payload set years =
    read_if (nat_lt 127 settings.flags) (are_plain_texts signer request) (is_text_keys signer) (list_all is_text_field request.headers.now)
    (is_text_payload settings.flags request.body.now) (is_text_settings settings) (is_in_years (moment_at seconds)) flags plain keys fields payload set years
