-- What carries the proof of the signer: what its own steps promise. No public call speaks of it.
use Rattle.std.specs.Prelude.{◌≡◌, ◌⊎◌, ℕ, Bool, List, Option, Some, None, option_copied, option_map, Result, Ok, Err, String, string_bytes}
use Rattle.std.specs.Borrow.{Bor}
use Rattle.std.specs.Fn.{Shared}
use Rattle.std.specs.declared.alloc.Global.{Global}
use Rattle.http_uri.specs.declared.uri.Uri.{Uri}
use Rattle.smithy_core.specs.Document.{Data}
use Rattle.smithy_core.specs.Moment.{Instant}
use Rattle.smithy_core.specs.declared.identity.Identity.{Identity}
use Rattle.smithy_core.specs.declared.request.HttpRequest.{HttpRequest}
use Rattle.smithy_http.specs.QueryWriter.{SpellsTarget}
use Rattle.smithy_http.specs.Target.{Target, target_of}
use Rattle.sigv4.specs.Params.{signer_of, v4_identity, v4_name, v4_region, v4_settings, v4_time}
use Rattle.sigv4.specs.Refusal.{unfit}
use Rattle.sigv4.specs.Request.{Case, key_id_of, token_of}
use Rattle.sigv4.specs.RequestSigning.{IsSigned}
use Rattle.sigv4.specs.Settings.{Settings, settings_of}
use Rattle.sigv4.specs.declared.error.SigningError.{SigningError}
use Rattle.sigv4.specs.declared.error.SigningError.TheVariants as errors
use Rattle.sigv4.specs.declared.instructions.SigningInstructions.{SigningInstructions}
use Rattle.sigv4.specs.declared.output.SigningOutput.{SigningOutput}
use Rattle.sigv4.specs.declared.settings.SigningSettings.{SigningSettings}
use Rattle.sigv4.specs.declared.signing_params.SigningParams.{SigningParams}
use Rattle.sigv4.specs.declared.signing_params.SigningParams.TheVariants.{V4}
use Rattle.aws_auth.specs.Endpoint.{Fields, bad_field, bad_text, bad_truth, field_of, fields_of, text_in, truth_in}
use Rattle.aws_auth.specs.Error.{override_error}
use Rattle.aws_auth.specs.Inputs.{ChosenInputs, chosen, chosen_text, given_config, with_token_name}
use Rattle.aws_auth.specs.MessageSigner.{GoesOn}
use Rattle.aws_auth.specs.NameOverride.{AnswersName, NameAnswer}
use Rattle.aws_auth.specs.Signer.{IsSignedCase, RefusesRequest, SpellsAs, refusal_before_override, unfit_params, unsigned_target}
use Rattle.aws_auth.specs.declared.endpoint.EndpointField.{EndpointField}
use Rattle.aws_auth.specs.declared.endpoint.EndpointFields.{EndpointFields}
use Rattle.aws_auth.specs.declared.error.SigV4SigningError.{SigV4SigningError}
use Rattle.aws_auth.specs.declared.error.SigV4SigningError.TheVariants.{NoMemory}
use Rattle.aws_auth.specs.declared.inputs.Choice.{Choice}
use Rattle.aws_auth.specs.declared.inputs.SigningInputs.{SigningInputs}
use Rattle.aws_auth.specs.declared.name_override.OverrideError.{OverrideError}
use Rattle.aws_auth.specs.declared.options.SigV4OperationSigningConfig.{SigV4OperationSigningConfig}
use Rattle.aws_auth.specs.declared.payload.PayloadSigningOverride.{PayloadSigningOverride}
use Rattle.aws_auth.specs.declared.signer.Signed.{Signed}

-- what was found of an endpoint's fields
abbrev pub found : EndpointFields → Fields
found fields = record {
  name = option_copied fields.name;
  region = option_copied fields.region;
  disable_double_encoding = fields.disable_double_encoding;
  disable_normalize_path = fields.disable_normalize_path;
}

-- the text of a field, or its error
abbrev pub FindsText : Option Data → EndpointField → Result (Option (Bor (List ℕ))) SigV4SigningError → Type 0
FindsText endpoint field (Ok found) = (bad_text endpoint field ≡ None) × (option_copied found ≡ text_in (field_of endpoint field))
FindsText endpoint field (Err error) = bad_text endpoint field ≡ Some error

-- the Boolean of a field, or its error
abbrev pub FindsTruth : Option Data → EndpointField → Result (Option Bool) SigV4SigningError → Type 0
FindsTruth endpoint field (Ok found) = (bad_truth endpoint field ≡ None) × (found ≡ truth_in (field_of endpoint field))
FindsTruth endpoint field (Err error) = bad_truth endpoint field ≡ Some error

-- what the fields say, or the error of the first whose value is of another type
abbrev pub FindsFields : Option Data → Result EndpointFields SigV4SigningError → Type 0
FindsFields endpoint (Ok fields) = (bad_field endpoint ≡ None) × (found fields ≡ fields_of endpoint)
FindsFields endpoint (Err error) = bad_field endpoint ≡ Some error

-- what was chosen
abbrev pub choice_of : Choice → ChosenInputs
choice_of choice = record {
  region = option_copied choice.region;
  name = option_copied choice.name;
  payload = option_copied choice.payload;
  settings = settings_of choice.settings;
  at = choice.at;
}

-- the case of a request that is signed by parameters, for what its target spells
abbrev pub params_case : HttpRequest → Option PayloadSigningOverride → SigningParams → Target → Case
params_case request payload (V4 params) target = record {
  method = string_bytes request.method;
  target = target;
  headers = request.headers;
  payload = chosen_text payload request.body;
  settings = settings_of (v4_settings params);
  key_id = key_id_of (v4_identity params);
  token = token_of (v4_identity params);
  signer = signer_of params;
  at = v4_time params;
}

module _ {F : Type 0} (calls : Shared F (Bor SigningSettings × (Bor SigV4OperationSigningConfig × Unit {0})) NameAnswer) where
  -- the settings with the name that the override gives the token, or the error of an override that gives none
  abbrev pub NamesToken : Option F → Settings → SigV4OperationSigningConfig → Result SigningSettings SigV4SigningError → Type 0
  NamesToken closure settings config (Ok named) =
      (name : Option (String Global)) × AnswersName calls closure settings config (Ok name) × (settings_of named ≡ with_token_name settings (option_map string_bytes name))
  NamesToken closure settings config (Err error) =
      (refused : OverrideError) × AnswersName calls closure settings config (Err refused) × (error ≡ override_error refused)

-- the config and what is chosen, or the first test that fails before an override is asked, or memory ran out
abbrev pub Chooses : Identity → SigningInputs → Instant → Result (Bor SigV4OperationSigningConfig × Choice) SigV4SigningError → Type 0
Chooses identity inputs now (Ok chose) =
    (refusal_before_override identity inputs ≡ None) × (given_config inputs ≡ chose.0.now) × (chosen inputs now ≡ choice_of chose.1)
Chooses identity inputs now (Err error) = (refusal_before_override identity inputs ≡ Some error) ⊎ (error ≡ NoMemory)

-- these are the parameters
abbrev pub IsParamsOf : Identity → Option (List ℕ) → Option (List ℕ) → Instant → SigningSettings → SigningParams → Type 0
IsParamsOf identity region name at settings (V4 params) =
    (v4_identity params ≡ identity) × (Some (v4_region params) ≡ region) × (Some (v4_name params) ≡ name) × (v4_time params ≡ at) × (v4_settings params ≡ settings)

-- the parameters, or the first that is missing or outside the years 0 to 9999
abbrev pub TestsParams : Identity → Option (List ℕ) → Option (List ℕ) → Instant → SigningSettings → Result SigningParams SigV4SigningError → Type 0
TestsParams identity region name at settings (Ok params) = (unfit_params region name at ≡ None) × IsParamsOf identity region name at settings params
TestsParams identity region name at settings (Err error) = unfit_params region name at ≡ Some error

module _ {F : Type 0} (calls : Shared F (Bor SigningSettings × (Bor SigV4OperationSigningConfig × Unit {0})) NameAnswer) (closure : Option F)
    (identity : Identity) (inputs : SigningInputs) (now : Instant) where
  -- the parameters, and what is signed in place of the body, as they are chosen, with the name that the override gives the token; no test before the target's fails
  pub record IsPrepared (params : SigningParams) (payload : Option PayloadSigningOverride) : Type 0 where
    pub token_name : Option (String Global)
    pub settings : SigningSettings
    pub passed : refusal_before_override identity inputs ≡ None
    pub asked : AnswersName calls closure (chosen inputs now).settings (given_config inputs) (Ok token_name)
    pub fit : unfit_params (chosen inputs now).region (chosen inputs now).name (chosen inputs now).at ≡ None
    pub named : settings_of settings ≡ with_token_name (chosen inputs now).settings (option_map string_bytes token_name)
    pub made : IsParamsOf identity (chosen inputs now).region (chosen inputs now).name (chosen inputs now).at settings params
    pub in_place : payload ≡ (chosen inputs now).payload

  -- they are prepared, or the first test that fails for any request, or memory ran out
  abbrev pub PreparesSigning : Result (SigningParams × Option (Bor PayloadSigningOverride)) SigV4SigningError → Type 0
  PreparesSigning (Ok prepared) = IsPrepared prepared.0 (option_copied prepared.1)
  PreparesSigning (Err error) = (old : HttpRequest) → RefusesRequest calls closure identity inputs now old error ⊎ (error ≡ NoMemory)

-- the signature, and two signers that go on from it
abbrev pub IsSignedWith : SigningParams → List ℕ → Signed → Type 0
IsSignedWith (V4 params) signature signed =
    (string_bytes signed.signature ≡ signature) × GoesOn (v4_identity params) signature (signer_of params) (v4_time params) signed.message_signer
    × GoesOn (v4_identity params) signature (signer_of params) (v4_time params) signed.chunk_signer
    × (settings_of signed.chunk_signer.parts.settings ≡ settings_of (v4_settings params))

-- a test of the target of a text fails with this error, and no test before it, or memory ran out
abbrev pub RefusesTarget : List ℕ → (Target → Case) → SigningError → Type 0
RefusesTarget text case error = ((target : Option Target) × SpellsAs text target × (unsigned_target case target ≡ Some error)) ⊎ (error ≡ errors.NoMemory)

-- what a signature adds to the request of a case and what was read of its target, or why it isn't signed
abbrev pub SignsParts : List ℕ → (Target → Case) → Result (SigningOutput SigningInstructions × Uri) SigningError → Type 0
SignsParts text case (Ok parts) =
    SpellsTarget text parts.1 × (unfit (case (target_of parts.1)) ≡ None) × IsSigned (case (target_of parts.1)) parts.0
SignsParts text case (Err error) = RefusesTarget text case error

-- the request of a case is signed, or why it isn't
abbrev pub SignsTarget : Identity → (Target → Case) → HttpRequest → HttpRequest → Result Signed SigningError → Type 0
SignsTarget identity case old new (Ok signed) =
    (target : Target) × SpellsAs (string_bytes old.target) (Some target) × (unsigned_target case (Some target) ≡ None)
    × IsSignedCase identity (case target) old new signed
SignsTarget identity case old new (Err error) = RefusesTarget (string_bytes old.target) case error
