-- A request that is signed as its inputs say, or refused by the first test that fails.
use Rattle.std.proofs.Common.{◌≡◌, ℕ, ◌⊎◌, inl, inr, List, Option, Some, None, Bor, refl, sym, ap, subst}
use Rattle.std.specs.Prelude.{Ok, Err, String, option_map, string_bytes}
use Rattle.std.specs.Fn.{Shared}
use Rattle.std.specs.declared.alloc.Global.{Global}
use Rattle.smithy_core.specs.Moment.{Instant}
use Rattle.smithy_core.specs.declared.identity.Identity.{Identity}
use Rattle.smithy_core.specs.declared.request.HttpRequest.{HttpRequest}
use Rattle.smithy_http.specs.Target.{Target}
use Rattle.sigv4.specs.Request.{Case, identity_of}
use Rattle.sigv4.specs.Settings.{settings_of}
use Rattle.sigv4.specs.declared.error.SigningError.{SigningError}
use Rattle.sigv4.specs.declared.error.SigningError.TheVariants as errors
use Rattle.sigv4.specs.declared.settings.SigningSettings.{SigningSettings}
use Rattle.sigv4.specs.declared.signing_params.SigningParams.{SigningParams}
use Rattle.sigv4.specs.declared.signing_params.SigningParams.TheVariants.{V4}
use Rattle.aws_auth.specs.Error.{auth_error, override_error}
use Rattle.aws_auth.specs.Inputs.{ChosenInputs, chosen, chosen_case, given_config, with_token_name}
use Rattle.aws_auth.specs.NameOverride.{AnswersName, NameAnswer}
use Rattle.aws_auth.specs.Signer.{IsAnswer, IsSignedCase, RefusesRequest, SignsRequest, SpellsAs, refusal_before_override, unfit_params, unsigned_target}
use Rattle.aws_auth.specs.Steps.{IsParamsOf, IsPrepared, RefusesTarget, SignsTarget, params_case}
use Rattle.aws_auth.specs.declared.error.SigV4SigningError.{SigV4SigningError}
use Rattle.aws_auth.specs.declared.error.SigV4SigningError.TheVariants.{NoMemory, Signing}
use Rattle.aws_auth.specs.declared.inputs.SigningInputs.{SigningInputs}
use Rattle.aws_auth.specs.declared.name_override.OverrideError.{OverrideError}
use Rattle.aws_auth.specs.declared.options.SigV4OperationSigningConfig.{SigV4OperationSigningConfig}
use Rattle.aws_auth.specs.declared.payload.PayloadSigningOverride.{PayloadSigningOverride}
use Rattle.aws_auth.specs.declared.signer.Signed.{Signed}

-- what is chosen leaves the token its usual name
pub usual_name : (inputs : SigningInputs) (now : Instant) (choice : ChosenInputs) → chosen inputs now ≡ choice → choice.settings.session_token_name_override ≡ None
unfolding chosen
usual_name inputs now choice is = sym (ap (λ choice. choice.settings.session_token_name_override) is)

-- who signs by parameters
params_identity : (identity : Identity) (region name : Option (List ℕ)) (at : Instant) (settings : SigningSettings) (params : SigningParams)
    → IsParamsOf identity region name at settings params → identity_of params ≡ identity
params_identity identity region name at settings (V4 params) is = is.0

-- the case of the parameters is that of what is chosen
same_case : (old : HttpRequest) (identity : Identity) (choice : ChosenInputs) (token : Option (List ℕ)) (settings : SigningSettings) (params : SigningParams)
    → IsParamsOf identity choice.region choice.name choice.at settings params → settings_of settings ≡ with_token_name choice.settings token
    → (target : Target) → params_case old choice.payload params target ≡ chosen_case old identity choice token target
same_case old identity choice token settings (V4 params) is named target = rw (is.0, ← is.1, ← is.2, is.3, is.4, named) refl

same_target : (text : List ℕ) (case other : Target → Case) (error : SigningError) → ((target : Target) → case target ≡ other target) → (target : Option Target)
    → SpellsAs text target → unsigned_target case target ≡ Some error → RefusesTarget text other error
same_target text case other error same None spells is = inl (None, spells, is)
same_target text case other error same (Some target) spells is = inl (Some target, spells, rw (← same target) is)

-- the first test of the target that fails is the same for the same cases
same_refusal : (text : List ℕ) (case other : Target → Case) (error : SigningError) → ((target : Target) → case target ≡ other target)
    → RefusesTarget text case error → RefusesTarget text other error
same_refusal text case other error same (inl found) = same_target text case other error same found.0 found.1 found.2
same_refusal text case other error same (inr memory) = inr memory

-- the request of a case is signed as that of the same case
same_signed : (identity who : Identity) (case other : Target → Case) (old new : HttpRequest) (answer : Signed) → who ≡ identity
    → ((target : Target) → case target ≡ other target) → SignsTarget who case old new (Ok answer) → SignsTarget identity other old new (Ok answer)
same_signed identity who case other old new answer is same signs =
    let made : IsSignedCase identity (other signs.0) old new answer = rw (← is, ← same signs.0) signs.3 in
    (signs.0, signs.1, rw (← same signs.0) signs.2, made)

module _ {F : Type 0} (calls : Shared F (Bor SigningSettings × (Bor SigV4OperationSigningConfig × Unit {0})) NameAnswer) (closure : Option F)
    (identity : Identity) (inputs : SigningInputs) (now : Instant) (config : SigV4OperationSigningConfig) (choice : ChosenInputs)
    (config_is : given_config inputs ≡ config) (choice_is : chosen inputs now ≡ choice) where
  -- what an override answers for these settings and this config is its answer for what is chosen
  answered : (answer : NameAnswer) → AnswersName calls closure choice.settings config answer
      → AnswersName calls closure (chosen inputs now).settings (given_config inputs) answer
  answered answer answers =
      subst (λ c. AnswersName calls closure c.settings (given_config inputs) answer) (sym choice_is)
      (subst (λ k. AnswersName calls closure choice.settings k answer) (sym config_is) answers)

  -- the parameters of what is chosen are prepared
  pub prepared_by : refusal_before_override identity inputs ≡ None → (name : Option (String Global)) → AnswersName calls closure choice.settings config (Ok name)
      → (settings : SigningSettings) (params : SigningParams) → settings_of settings ≡ with_token_name choice.settings (option_map string_bytes name)
      → unfit_params choice.region choice.name choice.at ≡ None → IsParamsOf identity choice.region choice.name choice.at settings params
      → IsPrepared calls closure identity inputs now params choice.payload
  prepared_by passed name answers settings params named fit is = record {
    token_name = name;
    settings = settings;
    passed = passed;
    asked = answered (Ok name) answers;
    fit = rw choice_is fit;
    named = rw choice_is named;
    made = rw choice_is is;
    in_place = rw choice_is refl;
  }

module _ {F : Type 0} (calls : Shared F (Bor SigningSettings × (Bor SigV4OperationSigningConfig × Unit {0})) NameAnswer) (closure : Option F)
    (identity : Identity) (inputs : SigningInputs) (now : Instant) (old : HttpRequest) where
  -- a test fails before the override is asked
  refused_early : (error : SigV4SigningError) → refusal_before_override identity inputs ≡ Some error → RefusesRequest calls closure identity inputs now old error
  refused_early error is = record {
    answer = Ok None;
    target = None;
    asked = λ none. let no : ⊥ = cc in absurd no;
    read = λ none _. let no : ⊥ = cc in absurd no;
    refused = rw is refl;
  }

  -- the same, or memory ran out
  pub kept_early : (error : SigV4SigningError) → (refusal_before_override identity inputs ≡ Some error) ⊎ (error ≡ NoMemory)
      → RefusesRequest calls closure identity inputs now old error ⊎ (error ≡ NoMemory)
  kept_early error (inl is) = inl (refused_early error is)
  kept_early error (inr memory) = inr memory

  module _ (config : SigV4OperationSigningConfig) (choice : ChosenInputs) (passed : refusal_before_override identity inputs ≡ None) (config_is : given_config inputs ≡ config)
      (choice_is : chosen inputs now ≡ choice) where
    -- what an override answers for these settings and this config is the answer that counts
    counts : (answer : NameAnswer) → AnswersName calls closure choice.settings config answer → IsAnswer calls closure identity inputs now old answer
    counts answer answers = answered calls closure identity inputs now config choice config_is choice_is answer answers

    -- the override gives no name
    pub refused_name_by : (refused : OverrideError) → AnswersName calls closure choice.settings config (Err refused)
        → RefusesRequest calls closure identity inputs now old (override_error refused)
    refused_name_by refused answers = record {
      answer = Err refused;
      target = None;
      asked = λ _. counts _ answers;
      read = λ _ none. let no : ⊥ = cc in absurd no;
      refused = rw passed refl;
    }

    -- the region, the name or the moment fails
    pub refused_params : (name : Option (String Global)) (error : SigV4SigningError) → AnswersName calls closure choice.settings config (Ok name)
        → unfit_params choice.region choice.name choice.at ≡ Some error → RefusesRequest calls closure identity inputs now old error
    refused_params name error answers is = record {
      answer = Ok name;
      target = None;
      asked = λ _. counts _ answers;
      read = λ _ none. let fails : unfit_params (chosen inputs now).region (chosen inputs now).name (chosen inputs now).at ≡ Some error = rw choice_is is in
          let no : ⊥ = cc in absurd no;
      refused = rw (passed, choice_is, is) refl;
    }

    refused_for : (name : Option (String Global)) (error : SigningError) (target : Option Target) → AnswersName calls closure choice.settings config (Ok name)
        → unfit_params choice.region choice.name choice.at ≡ None → SpellsAs (string_bytes old.target) target
        → unsigned_target (chosen_case old identity choice (option_map string_bytes name)) target ≡ Some error
        → RefusesRequest calls closure identity inputs now old (Signing error)
    refused_for name error target answers fit spells is = record {
      answer = Ok name;
      target = target;
      asked = λ _. counts _ answers;
      read = λ _ _. spells;
      refused = rw (passed, choice_is, fit, is) refl;
    }

    kept_memory : (error : SigningError) → RefusesRequest calls closure identity inputs now old (Signing error)
        → RefusesRequest calls closure identity inputs now old (auth_error error) ⊎ (auth_error error ≡ NoMemory)
    kept_memory errors.NoMemory refuses = inr refl
    kept_memory error refuses = inl refuses

    -- a test of the target fails, or memory ran out
    refused_chosen : (name : Option (String Global)) (error : SigningError) → AnswersName calls closure choice.settings config (Ok name)
        → unfit_params choice.region choice.name choice.at ≡ None
        → RefusesTarget (string_bytes old.target) (chosen_case old identity choice (option_map string_bytes name)) error
        → RefusesRequest calls closure identity inputs now old (auth_error error) ⊎ (auth_error error ≡ NoMemory)
    refused_chosen name error answers fit (inl found) = kept_memory error (refused_for name error found.0 answers fit found.1 found.2)
    refused_chosen name error answers fit (inr memory) = rw memory (inr refl)

  module _ (params : SigningParams) (payload : Option PayloadSigningOverride) (is : IsPrepared calls closure identity inputs now params payload) where
    cases : (target : Target) → params_case old payload params target ≡ chosen_case old identity (chosen inputs now) (option_map string_bytes is.token_name) target
    cases target = rw is.in_place (same_case old identity (chosen inputs now) (option_map string_bytes is.token_name) is.settings params is.made is.named target)

    -- the request of the parameters is refused
    pub refused_target : (error : SigningError) → RefusesTarget (string_bytes old.target) (params_case old payload params) error
        → RefusesRequest calls closure identity inputs now old (auth_error error) ⊎ (auth_error error ≡ NoMemory)
    refused_target error refuses =
        refused_chosen (given_config inputs) (chosen inputs now) is.passed refl refl is.token_name error is.asked is.fit (same_refusal _ _ _ error cases refuses)

    -- the request of the parameters is signed
    pub signed_request : (new : HttpRequest) (answer : Signed) → SignsTarget (identity_of params) (params_case old payload params) old new (Ok answer)
        → SignsRequest calls closure identity inputs now old new answer
    signed_request new answer signs =
        let signs = same_signed identity (identity_of params) (params_case old payload params) (chosen_case old identity (chosen inputs now) (option_map string_bytes is.token_name))
        old new answer (params_identity identity _ _ _ is.settings params is.made) cases signs in
        record {
          token_name = is.token_name;
          target = signs.0;
          asked = is.asked;
          read = signs.1;
          passed = rw (is.passed, is.fit, signs.2) refl;
          made = signs.3;
        }
