-- A request that is signed by what was wanted.
use Rattle.std.proofs.Common.{◌≡◌, ℕ, inl, inr, Bool, true, false, List, Option, Some, None, option_map, refl, sym, ap, ◌∙◌}
use Rattle.std.specs.Prelude.{Ok, Err, string_bytes, if◌then◌else◌}
use Rattle.std.specs.Borrow.{Bor}
use Rattle.std.specs.Fn.{Shared}
use Rattle.std.specs.Option.{option_or}
use Rattle.smithy_core.specs.Civil.{is_in_years}
use Rattle.smithy_core.specs.Moment.{Instant}
use Rattle.smithy_core.specs.declared.identity.Identity.{Identity}
use Rattle.smithy_core.specs.declared.identity.Identity.TheVariants.{Credentials, Token}
use Rattle.smithy_core.specs.declared.request.HttpRequest.{HttpRequest}
use Rattle.smithy_http.specs.Target.{Target}
use Rattle.sigv4.specs.Request.{Case}
use Rattle.sigv4.specs.declared.error.SigningError.{SigningError}
use Rattle.sigv4.specs.declared.error.SigningError.TheVariants as errors
use Rattle.sigv4.specs.declared.settings.SigningSettings.{SigningSettings}
use Rattle.aws_auth.specs.Error.{override_error}
use Rattle.aws_auth.specs.Inputs.{ChosenInputs, chosen, chosen_case, chosen_text, given_config}
use Rattle.aws_auth.specs.NameOverride.{MayAnswer, NameAnswer}
use Rattle.eventstream.specs.Key.{Signer}
use Rattle.eventstream.specs.Told.{signs_over}
use Rattle.sigv4.specs.Signed.{signature_of}
use Rattle.sigv4.specs.Refusal.{unfit_request}
use Rattle.aws_auth.specs.MessageSigner.{GoesOn, SignerState, told_by}
use Rattle.aws_auth.specs.Options.{AreSameOverrides, IsSameOptions}
use Rattle.aws_auth.specs.declared.options.SigningOptions.{SigningOptions}
use Rattle.aws_auth.specs.declared.payload.PayloadSigningOverride.{PayloadSigningOverride}
use Rattle.aws_auth.specs.declared.payload.PayloadSigningOverride.TheVariants as payloads
use Rattle.aws_auth.specs.Signer.{IsSignedCase, SignsByInputs, SpellsAs, name_in, out_of_years, refusal_before_override, refusal_before_target, unsigned_target, wrong_identity}
use Rattle.aws_auth.specs.declared.error.SigV4SigningError.{SigV4SigningError}
use Rattle.aws_auth.specs.declared.error.SigV4SigningError.TheVariants as auth
use Rattle.aws_auth.specs.declared.inputs.SigningInputs.{SigningInputs}
use Rattle.aws_auth.specs.declared.name_override.OverrideError.TheVariants as overrides
use Rattle.aws_auth.specs.declared.options.SigV4OperationSigningConfig.{SigV4OperationSigningConfig}
use Rattle.aws_auth.specs.declared.signer.Signed.{Signed}
use Rattle.signed_stream.specs.Case.{request_moment, settings_with}
use Rattle.smithy_core.specs.Identity.{IsCredentials, IsSameIdentity, secret_of}
use Rattle.signed_stream.specs.Chain.{outside_years}
use Rattle.signed_stream.specs.Command.{Wanted}
use Rattle.signed_stream.specs.Plan.{TargetSpells, TargetRead, accepted, unaccepted, unread}
use Rattle.signed_stream.specs.Sign.{GivesName, IsRequestError, SealsFor, SignsJob, Unsigned, case_fault, error_ending, run_fault_for, identity_case, request_fault}
use Rattle.signed_stream.specs.Status.{Ending, moment_out_of_range, no_memory, refused}
use Rattle.signed_stream.proofs.TestLemmas.{IsPartError, IsTestError, unsigned_test}

-- what is chosen by what was wanted, for a region
abbrev pub wanted_choice : Wanted → List ℕ → Instant → ChosenInputs
wanted_choice wanted region first = record {
  region = Some region;
  name = Some wanted.name;
  payload = wanted.signing.payload_override;
  settings = settings_with wanted.signing None;
  at = request_moment wanted first;
}

-- the inputs ask for what was wanted
pub record AsksFor (identity : Identity) (inputs : SigningInputs) (wanted : Wanted) (region : List ℕ) (first : Instant) : Type 0 where
  pub chosen_is : chosen inputs first ≡ wanted_choice wanted region first
  pub before : refusal_before_override identity inputs ≡ None

-- credentials are no wrong identity
pub right_identity : (identity : Identity) → IsCredentials identity → wrong_identity identity ≡ None
right_identity (Credentials credentials) can = refl
right_identity (Token token) can = absurd can

-- ## The tests

-- no test fails
pub passed_fault : (years : Bool) (t : Instant) (error : Option SigningError)
    → option_or (if years then None else Some (auth.Signing (errors.MomentOutOfRange t))) (option_map auth.Signing error) ≡ None
    → option_or (if years then None else Some (moment_out_of_range t)) (option_map run_fault_for error) ≡ None
passed_fault true t None none = refl
passed_fault true t (Some error) none = cc
passed_fault false t error none = cc

-- the error of a request that isn't signed for this fault, and how its run ends
abbrev pub RefusesFor : List ℕ → Instant → (Target → Case) → SigV4SigningError → Type 0
RefusesFor text at case error = IsRequestError error × Unsigned text at case (error_ending error)

part_error : (error : SigningError) → IsPartError error → IsRequestError (auth.Signing error)
part_error (errors.InvalidHeaderName place) test = tt
part_error (errors.InvalidHeaderValue place) test = tt
part_error errors.MissingHost test = tt
part_error errors.InvalidTokenName test = tt
part_error errors.MissingExpires test = tt
part_error error test = absurd test

test_error : (c : Case) (error : SigningError) → IsTestError c error → IsRequestError (auth.Signing error)
test_error c error (inl target) = rw target.0 tt
test_error c error (inr part) = part_error error part

-- memory that ran out
no_memory_refuses : (text : List ℕ) (at : Instant) (case : Target → Case) (error : SigV4SigningError) → error ≡ auth.NoMemory → RefusesFor text at case error
no_memory_refuses text at case error is = rw is (tt, tt)

-- the moment lies outside the years
pub outside_refuses : (text : List ℕ) (at : Instant) (case : Target → Case) (error : SigV4SigningError) → is_in_years at ≡ false
    → error ≡ auth.Signing (errors.MomentOutOfRange at) → RefusesFor text at case error
outside_refuses text at case error years is = rw is (tt, (unread, tt, rw years refl))

-- the target isn't read, or a test of the request fails
pub target_refuses : (text : List ℕ) (at : Instant) (case : Target → Case) (error : SigV4SigningError) (target : Option Target) → is_in_years at ≡ true → SpellsAs text target
    → option_map auth.Signing (unsigned_target case target) ≡ Some error → RefusesFor text at case error
target_refuses text at case error None years reads is =
    let same : error ≡ auth.Signing errors.InvalidUri = cc in
    rw same (tt, (unaccepted, reads, rw years refl))
target_refuses text at case error (Some target) years reads is = by_error (unfit_request (case target)) refl is
  where
    by_error : (found : Option SigningError) → unfit_request (case target) ≡ found → option_map auth.Signing found ≡ Some error
        → IsRequestError error × Unsigned text at case (error_ending error)
    by_error None found is = cc
    by_error (Some inner) found is =
        let same : error ≡ auth.Signing inner = cc in
        rw same (test_error (case target) inner (unsigned_test (case target) inner found), (accepted target, reads, rw (years, found) refl))

-- ## By inputs

-- the case that is chosen is the one that is wanted
wanted_case : (old : HttpRequest) (identity : Identity) (wanted : Wanted) (region : List ℕ) (first : Instant) (token_name : Option (List ℕ)) (target : Target) → token_name ≡ wanted.token_name
    → chosen_case old identity (wanted_choice wanted region first) token_name target ≡ identity_case old identity region wanted first target
wanted_case old identity wanted region first token_name target is = rw is refl

-- options that are the same make the same case
same_payload : (asked copy : Option PayloadSigningOverride) (body : List ℕ) → AreSameOverrides asked copy → chosen_text copy body ≡ chosen_text asked body
same_payload None copy body same = rw same refl
same_payload (Some (payloads.Precomputed digest)) (Some (payloads.Precomputed copy)) body same = same
same_payload (Some payloads.UnsignedPayload) (Some copy) body same = rw same refl
same_payload (Some payloads.StreamingUnsignedPayloadTrailer) (Some copy) body same = rw same refl
same_payload (Some payloads.StreamingSignedPayloadTrailer) (Some copy) body same = rw same refl
same_payload (Some (payloads.Precomputed digest)) (Some payloads.UnsignedPayload) body same = cc
same_payload (Some (payloads.Precomputed digest)) (Some payloads.StreamingUnsignedPayloadTrailer) body same = cc
same_payload (Some (payloads.Precomputed digest)) (Some payloads.StreamingSignedPayloadTrailer) body same = cc
same_payload (Some payload) None body same = absurd same

pub same_case : (request : HttpRequest) (identity : Identity) (region : List ℕ) (wanted : Wanted) (first : Instant) (copy : SigningOptions) (target : Target) → IsSameOptions wanted.signing copy
    → identity_case request identity region (record wanted { signing = copy }) first target ≡ identity_case request identity region wanted first target
same_case request identity region wanted first copy target same =
    rw (same_payload wanted.signing.payload_override copy.payload_override request.body same.payload_override, same.double_uri_encode, same.content_sha256_header, same.signature_type, same.expires_in, same.normalize_uri_path, same.omit_session_token) refl

pub same_moment : (wanted : Wanted) (first : Instant) (copy : SigningOptions) → IsSameOptions wanted.signing copy → request_moment (record wanted { signing = copy }) first ≡ request_moment wanted first
same_moment wanted first copy same = rw same.signature_type refl

-- a request that is a copy makes the same case
pub copied_case : (request copy : HttpRequest) (identity : Identity) (region : List ℕ) (wanted : Wanted) (first : Instant) (target : Target)
    → string_bytes copy.method ≡ string_bytes request.method → copy.headers ≡ request.headers → copy.body ≡ request.body
    → identity_case copy identity region wanted first target ≡ identity_case request identity region wanted first target
copied_case request copy identity region wanted first target method headers body = rw (method, headers, body) refl

-- ## As it was asked

-- a copy of credentials has their secret
same_secret : (identity copy : Identity) → IsCredentials identity → IsSameIdentity identity copy → secret_of copy ≡ secret_of identity
same_secret (Credentials credentials) (Credentials copy) can same = same.secret
same_secret (Credentials credentials) (Token token) can same = absurd same
same_secret (Token token) copy can same = absurd can

-- and seals
copy_seals : (identity copy : Identity) (signature : List ℕ) (who : Signer) → IsCredentials identity → IsSameIdentity identity copy → told_by copy signature who ≡ signs_over signature who
copy_seals (Credentials credentials) (Credentials copy) signature who can same = refl
copy_seals (Credentials credentials) (Token token) signature who can same = absurd same
copy_seals (Token token) copy signature who can same = absurd can

-- what goes on from a case's signature seals for it
seals_for : (identity : Identity) (c : Case) (signer : SignerState (Unit {0})) → IsCredentials identity → secret_of identity ≡ c.signer.secret
    → GoesOn identity (signature_of c) c.signer c.at signer → SealsFor c signer
seals_for identity c signer can secret goes = record {
  told = copy_seals identity signer.parts.identity _ _ can goes.identity;
  signature = goes.signature;
  who = rw (same_secret identity signer.parts.identity can goes.identity, secret, goes.region, goes.name) refl;
}

module _ (request copy : HttpRequest) (identity : Identity) (region : List ℕ) (wanted : Wanted) (first : Instant) (options : SigningOptions) (same : IsSameOptions wanted.signing options)
    (method : string_bytes copy.method ≡ string_bytes request.method) (target : string_bytes copy.target ≡ string_bytes request.target) (headers : copy.headers ≡ request.headers)
    (body : copy.body ≡ request.body) where
  -- what is signed of copies
  abbrev asked : Wanted
  asked = record wanted { signing = options }

  case_is : (t : Target) → identity_case copy identity region asked first t ≡ identity_case request identity region wanted first t
  case_is t = copied_case request copy identity region asked first t method headers body ∙ same_case request identity region wanted first options t same

  fault_is : (t : TargetRead) → request_fault (request_moment asked first) (identity_case copy identity region asked first) t ≡ request_fault (request_moment wanted first) (identity_case request identity region wanted first) t
  fault_is unread = rw (same_moment wanted first options same) refl
  fault_is unaccepted = rw (same_moment wanted first options same) refl
  fault_is (accepted t) =
      ap (λ (at : Instant). option_or (outside_years at) (case_fault (identity_case copy identity region asked first t))) (same_moment wanted first options same)
      ∙ ap (λ (c : Case). option_or (outside_years (request_moment wanted first)) (case_fault c)) (case_is t)

  -- a request that is signed
  pub signed_as_asked : (new : HttpRequest) (signed : Signed) → IsCredentials identity → string_bytes new.method ≡ string_bytes copy.method → new.body ≡ copy.body
      → (t : Target) × TargetSpells (string_bytes copy.target) (accepted t) × (request_fault (request_moment asked first) (identity_case copy identity region asked first) (accepted t) ≡ None)
      × IsSignedCase identity (identity_case copy identity region asked first t) copy new signed
      → SignsJob (request_moment wanted first) (identity_case request identity region wanted first) request (Ok (new, signed.message_signer))
  signed_as_asked new signed can new_method new_body (t, spells, passed, made) =
      let c = identity_case request identity region wanted first t in
      let is : IsSignedCase identity c copy new signed = rw (case_is t) at made in (
        t,
        rw target at spells,
        sym (fault_is (accepted t)) ∙ passed,
        record { method = new_method ∙ method; target = rw target at is.target; headers = is.headers; body = new_body ∙ body },
        seals_for identity c signed.message_signer can refl is.message_signer,
      )

  -- a request that isn't
  pub unsigned_as_asked : (early : Ending) → Unsigned (string_bytes copy.target) (request_moment asked first) (identity_case copy identity region asked first) early
      → Unsigned (string_bytes request.target) (request_moment wanted first) (identity_case request identity region wanted first) early
  unsigned_as_asked (refused fault) (t, spells, stopped) = (t, rw target at spells, sym (fault_is t) ∙ stopped)
  unsigned_as_asked no_memory free = tt
  unsigned_as_asked other wrong = absurd wrong

module _ {F : Type 0} (calls : Shared F (Bor SigningSettings × (Bor SigV4OperationSigningConfig × Unit {0})) NameAnswer) (closure : F)
    (identity : Identity) (inputs : SigningInputs) (wanted : Wanted) (region : List ℕ) (first : Instant) (old : HttpRequest) (asks : AsksFor identity inputs wanted region first)
    (gives : (config : SigV4OperationSigningConfig) (answer : NameAnswer) → MayAnswer calls closure (chosen inputs first).settings config answer → GivesName wanted.token_name answer) where
  -- a request that is signed
  pub signed_job : (new : HttpRequest) (signed : Signed) → SignsByInputs calls (Some closure) identity inputs first old new (Ok signed)
      → (target : Target) × TargetSpells (string_bytes old.target) (accepted target)
      × (request_fault (request_moment wanted first) (identity_case old identity region wanted first) (accepted target) ≡ None)
      × IsSignedCase identity (identity_case old identity region wanted first target) old new signed
  signed_job new signed signs =
      let named : option_map string_bytes signs.token_name ≡ wanted.token_name = gives (given_config inputs) (Ok signs.token_name) signs.asked in
      let same = wanted_case old identity wanted region first (option_map string_bytes signs.token_name) signs.target named in
      let made : IsSignedCase identity (identity_case old identity region wanted first signs.target) old new signed = rw (asks.chosen_is, same) at signs.made in
      let passed = rw (asks.before, asks.chosen_is, same) at signs.passed in (
        signs.target,
        signs.read,
        passed_fault (is_in_years (request_moment wanted first)) (request_moment wanted first) (unfit_request (identity_case old identity region wanted first signs.target)) passed,
        made,
      )

  -- a request that isn't
  pub refused_job : (new : HttpRequest) (error : SigV4SigningError) → SignsByInputs calls (Some closure) identity inputs first old new (Err error)
      → RefusesFor (string_bytes old.target) (request_moment wanted first) (identity_case old identity region wanted first) error
  refused_job new error (inr is) = no_memory_refuses (string_bytes old.target) (request_moment wanted first) (identity_case old identity region wanted first) error is
  refused_job new error (inl stopped) =
      by_answer stopped.answer (gives (given_config inputs) stopped.answer (stopped.asked asks.before)) (stopped.read asks.before) (rw asks.before at stopped.refused)
    where
      by_years : (years : Bool) → is_in_years (request_moment wanted first) ≡ years
          → (out_of_years (request_moment wanted first) ≡ None → SpellsAs (string_bytes old.target) stopped.target)
          → option_or (if years then None else Some (auth.Signing (errors.MomentOutOfRange (request_moment wanted first)))) (option_map auth.Signing (unsigned_target (identity_case old identity region wanted first) stopped.target)) ≡ Some error
          → RefusesFor (string_bytes old.target) (request_moment wanted first) (identity_case old identity region wanted first) error
      by_years false outside reads is = outside_refuses _ (request_moment wanted first) _ error outside (let same : error ≡ auth.Signing (errors.MomentOutOfRange (request_moment wanted first)) = cc in same)
      by_years true within reads is = target_refuses _ (request_moment wanted first) _ error stopped.target within (reads (rw within refl)) is

      by_answer : (answer : NameAnswer) → GivesName wanted.token_name answer
          → (refusal_before_target (chosen inputs first) answer ≡ None → SpellsAs (string_bytes old.target) stopped.target)
          → option_or (refusal_before_target (chosen inputs first) answer) (option_map auth.Signing (unsigned_target (chosen_case old identity (chosen inputs first) (name_in answer)) stopped.target)) ≡ Some error
          → RefusesFor (string_bytes old.target) (request_moment wanted first) (identity_case old identity region wanted first) error
      by_answer (Err e) is reads failed =
          let refuses : Some (override_error e) ≡ Some error = failed in
          let same : error ≡ auth.NoMemory = (let first : Some (override_error overrides.NoMemory) ≡ Some error = rw is at refuses in cc) in
          no_memory_refuses (string_bytes old.target) (request_moment wanted first) (identity_case old identity region wanted first) error same
      by_answer (Ok name) named reads failed =
          by_years (is_in_years (request_moment wanted first)) refl (rw asks.chosen_is at reads) (rw (asks.chosen_is, named) at failed)
