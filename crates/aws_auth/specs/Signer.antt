-- What signing a request by its inputs promises.
use Rattle.std.specs.Prelude.{◌≡◌, ◌⊎◌, ⊤, ℕ, List, Option, Some, None, option_map, Result, Ok, Err, String, string_bytes, if◌then◌else◌}
use Rattle.std.specs.Borrow.{Bor}
use Rattle.std.specs.Fn.{Shared}
use Rattle.std.specs.Option.{option_or}
use Rattle.std.specs.declared.alloc.Global.{Global}
use Rattle.smithy_core.specs.Civil.{is_in_years}
use Rattle.smithy_core.specs.Moment.{Instant}
use Rattle.smithy_core.specs.declared.identity.Identity.{Identity}
use Rattle.smithy_core.specs.declared.identity.Identity.TheVariants.{Credentials, Token}
use Rattle.smithy_core.specs.declared.request.HttpRequest.{HttpRequest}
use Rattle.smithy_http.specs.QueryWriter.{SpellsNoTarget}
use Rattle.smithy_http.specs.Target.{Target}
use Rattle.sigv4.specs.Parameters.{SpellsParts}
use Rattle.sigv4.specs.Refusal.{unfit_request}
use Rattle.sigv4.specs.Request.{Case}
use Rattle.sigv4.specs.Settings.{settings_of}
use Rattle.sigv4.specs.Signed.{signature_of, signed_headers, signed_target}
use Rattle.sigv4.specs.declared.error.SigningError.{SigningError}
use Rattle.sigv4.specs.declared.error.SigningError.TheVariants.{InvalidUri, MomentOutOfRange}
use Rattle.sigv4.specs.declared.settings.SigningSettings.{SigningSettings}
use Rattle.aws_auth.specs.Endpoint.{bad_field}
use Rattle.aws_auth.specs.Error.{override_error}
use Rattle.aws_auth.specs.Inputs.{ChosenInputs, chosen, chosen_case, given_config, given_endpoint}
use Rattle.aws_auth.specs.MessageSigner.{GoesOn, IsSameSigner}
use Rattle.aws_auth.specs.NameOverride.{AnswersName, NameAnswer}
use Rattle.aws_auth.specs.declared.error.SigV4SigningError.{SigV4SigningError}
use Rattle.aws_auth.specs.declared.error.SigV4SigningError.TheVariants.{MissingOperationSigningConfig, MissingSigningRegion, MissingSigningName, WrongIdentityType, Signing, NoMemory}
use Rattle.aws_auth.specs.declared.inputs.SigningInputs.{SigningInputs}
use Rattle.aws_auth.specs.declared.options.SigV4OperationSigningConfig.{SigV4OperationSigningConfig}
use Rattle.aws_auth.specs.declared.signer.Signed.{Signed}

-- the error of an identity that isn't credentials
abbrev pub wrong_identity : Identity → Option SigV4SigningError
wrong_identity (Credentials credentials) = None
wrong_identity (Token token) = Some WrongIdentityType

-- the error, where there is nothing
abbrev pub unless_there : {A : Type 0} → Option A → SigV4SigningError → Option SigV4SigningError
unless_there None error = Some error
unless_there (Some value) error = None

-- the error of an override that gives no name
abbrev pub refused_name : NameAnswer → Option SigV4SigningError
refused_name (Ok name) = None
refused_name (Err error) = Some (override_error error)

-- the error of a moment outside the years 0 to 9999
abbrev pub out_of_years : Instant → Option SigV4SigningError
out_of_years t = if is_in_years t then None else Some (Signing (MomentOutOfRange t))

-- the first of a region, a name and a moment that is missing or outside the years 0 to 9999
abbrev pub unfit_params : Option (List ℕ) → Option (List ℕ) → Instant → Option SigV4SigningError
unfit_params region name at = option_or (unless_there region MissingSigningRegion) (option_or (unless_there name MissingSigningName) (out_of_years at))

-- why a request isn't signed, whose case is this for what its target spells: that is none, or the request is refused, or its target takes no more
abbrev pub unsigned_target : (Target → Case) → Option Target → Option SigningError
unsigned_target case None = Some InvalidUri
unsigned_target case (Some target) = unfit_request (case target)

-- the first test that fails before an override is asked: who signs, the config, and the endpoint's fields in order
abbrev pub refusal_before_override : Identity → SigningInputs → Option SigV4SigningError
refusal_before_override identity inputs =
    option_or (wrong_identity identity) (option_or (unless_there inputs.config MissingOperationSigningConfig) (bad_field (given_endpoint inputs)))

-- the first test that fails from there on, before the target is read: the override's answer, the region, the name and the moment
abbrev pub refusal_before_target : ChosenInputs → NameAnswer → Option SigV4SigningError
refusal_before_target choice answer =
    option_or (refused_name answer) (unfit_params choice.region choice.name choice.at)

-- the name in an answer that gives one
abbrev pub name_in : NameAnswer → Option (List ℕ)
name_in (Ok name) = option_map string_bytes name
name_in (Err error) = None

-- the first test of all that fails, in the order in which they are made
abbrev pub signing_refusal : HttpRequest → Identity → SigningInputs → Instant → NameAnswer → Option Target → Option SigV4SigningError
signing_refusal request identity inputs now answer target =
    let choice = chosen inputs now in
    option_or (refusal_before_override identity inputs) (option_or (refusal_before_target choice answer)
    (option_map Signing (unsigned_target (chosen_case request identity choice (name_in answer)) target)))

-- the text spells a target of these parts, or none
abbrev pub SpellsAs : List ℕ → Option Target → Type 0
SpellsAs text None = SpellsNoTarget text
SpellsAs text (Some target) = SpellsParts text target

-- the request, the signature and the two signers of a case
pub record IsSignedCase (identity : Identity) (c : Case) (old new : HttpRequest) (signed : Signed) : Type 0 where
  pub headers : new.headers ≡ signed_headers c
  pub target : string_bytes new.target ≡ signed_target c (string_bytes old.target)
  pub signature : string_bytes signed.signature ≡ signature_of c
  pub message_signer : GoesOn identity (signature_of c) c.signer c.at signed.message_signer
  pub chunk_signer : GoesOn identity (signature_of c) c.signer c.at signed.chunk_signer
  pub chunk_settings : settings_of signed.chunk_signer.parts.settings ≡ c.settings

-- the signatures are the same, and so are the signers that go on
pub record IsSameSigned (signed copy : Signed) : Type 0 where
  pub signature : string_bytes copy.signature ≡ string_bytes signed.signature
  pub message_signer : IsSameSigner (λ _ _. ⊤) signed.message_signer copy.message_signer
  pub chunk_signer : IsSameSigner (λ settings other. settings_of other ≡ settings_of settings) signed.chunk_signer copy.chunk_signer

-- what is signed so is answered without its signers
abbrev pub AnswersAlone : {E : Type 0} → (Result Signed E → Type 0) → Result (String Global) E → Type 0
AnswersAlone Signs (Ok signature) = (signed : Signed) × (signed.signature ≡ signature) × Signs (Ok signed)
AnswersAlone Signs (Err error) = Signs (Err error)

module _ {F : Type 0} (calls : Shared F (Bor SigningSettings × (Bor SigV4OperationSigningConfig × Unit {0})) NameAnswer) (closure : Option F)
    (identity : Identity) (inputs : SigningInputs) (now : Instant) (old : HttpRequest) where
  -- the override answers so for the settings that are made so far, and the config
  abbrev pub IsAnswer : NameAnswer → Type 0
  IsAnswer answer = AnswersName calls closure (chosen inputs now).settings (given_config inputs) answer

  -- a test fails with this error, and no test before it: an override is asked where those before it pass, and the target is read likewise
  pub record RefusesRequest (error : SigV4SigningError) : Type 0 where
    pub answer : NameAnswer
    pub target : Option Target
    pub asked : refusal_before_override identity inputs ≡ None → IsAnswer answer
    pub read : refusal_before_override identity inputs ≡ None → refusal_before_target (chosen inputs now) answer ≡ None → SpellsAs (string_bytes old.target) target
    pub refused : signing_refusal old identity inputs now answer target ≡ Some error

  -- the request is that of the case, for the name that an override gives the token and what the target spells, and no test fails
  pub record SignsRequest (new : HttpRequest) (signed : Signed) : Type 0 where
    pub token_name : Option (String Global)
    pub target : Target
    pub asked : IsAnswer (Ok token_name)
    pub read : SpellsAs (string_bytes old.target) (Some target)
    pub passed : signing_refusal old identity inputs now (Ok token_name) (Some target) ≡ None
    pub made : IsSignedCase identity (chosen_case old identity (chosen inputs now) (option_map string_bytes token_name) target) old new signed

  -- with no test that fails the request is signed; with one it is the first, or memory ran out
  abbrev pub SignsByInputs : HttpRequest → Result Signed SigV4SigningError → Type 0
  SignsByInputs new (Ok signed) = SignsRequest new signed
  SignsByInputs new (Err error) = RefusesRequest error ⊎ (error ≡ NoMemory)

module _ (identity : Identity) (inputs : SigningInputs) (now : Instant) (old : HttpRequest) where
  -- a test fails with this error, and no test before it, where no override is asked: the target is read where those before it pass
  pub record RefusesPlainly (error : SigV4SigningError) : Type 0 where
    pub target : Option Target
    pub read : refusal_before_override identity inputs ≡ None → refusal_before_target (chosen inputs now) (Ok None) ≡ None → SpellsAs (string_bytes old.target) target
    pub refused : signing_refusal old identity inputs now (Ok None) target ≡ Some error

  -- the request is that of the case, with the token's usual name and what the target spells, and no test fails
  pub record SignsUsually (new : HttpRequest) (signed : Signed) : Type 0 where
    pub target : Target
    pub read : SpellsAs (string_bytes old.target) (Some target)
    pub passed : signing_refusal old identity inputs now (Ok None) (Some target) ≡ None
    pub made : IsSignedCase identity (chosen_case old identity (chosen inputs now) None target) old new signed

  -- the request is signed where no test fails, and else refused by the first that does, or memory ran out: no override is asked
  abbrev pub SignsPlainly : HttpRequest → Result Signed SigV4SigningError → Type 0
  SignsPlainly new (Ok signed) = SignsUsually new signed
  SignsPlainly new (Err error) = RefusesPlainly error ⊎ (error ≡ NoMemory)
