-- The signing of an attempt's request.
use Rattle.std.proofs.Common.{◌≡◌, inl, inr, List, Option, Some, None, refl, ap}
use Rattle.std.specs.Prelude.{Err, option_map, string_bytes}
use Rattle.std.specs.Option.{option_or}
use Rattle.sigv4.specs.Refusal.{unfit, unfit_signed_target}
use Rattle.sigv4.specs.Request.{Case}
use Rattle.smithy_core.specs.Moment.{Instant}
use Rattle.smithy_core.specs.declared.identity.Identity.{Identity}
use Rattle.smithy_core.specs.declared.request.HttpRequest.{HttpRequest}
use Rattle.smithy_http.specs.Target.{Target}
use Rattle.aws_auth.specs.Inputs.{ChosenInputs, chosen, chosen_case}
use Rattle.aws_auth.specs.NameOverride.{NameAnswer}
use Rattle.aws_auth.specs.Signer.{RefusesPlainly, SignsPlainly, name_in, refusal_before_override, refusal_before_target, signing_refusal}
use Rattle.aws_auth.specs.declared.error.SigV4SigningError.{SigV4SigningError}
use Rattle.aws_auth.specs.declared.error.SigV4SigningError.TheVariants as errors
use Rattle.aws_auth.specs.declared.inputs.SigningInputs.{SigningInputs}
use Rattle.operation_run.specs.Fault.{not_signed}
use Rattle.operation_run.specs.Reply.{request_texts}
use Rattle.operation_run.specs.Steps.{SignsAt}

-- ## Signed without signers

module _ (identity : Identity) (inputs : SigningInputs) (now : Instant) (old new : HttpRequest) where
  refused_as : (error : SigV4SigningError) → RefusesPlainly identity inputs now old error → SignsAt identity inputs now old new (Err (not_signed error))
  refused_as errors.MissingOperationSigningConfig is = (is.target, is.read, is.refused)
  refused_as errors.MissingSigningRegion is = (is.target, is.read, is.refused)
  refused_as errors.MissingSigningName is = (is.target, is.read, is.refused)
  refused_as errors.WrongIdentityType is = (is.target, is.read, is.refused)
  refused_as (errors.BadTypeInEndpointAuthSchemeConfig field) is = (is.target, is.read, is.refused)
  refused_as errors.NameOverrideRefused is = (is.target, is.read, is.refused)
  refused_as (errors.Signing error) is = (is.target, is.read, is.refused)
  refused_as errors.NoMemory is = tt

  -- the error of a request that isn't signed
  pub not_signed_at : (error : SigV4SigningError) → SignsPlainly identity inputs now old new (Err error) → SignsAt identity inputs now old new (Err (not_signed error))
  not_signed_at error (inl is) = refused_as error is
  not_signed_at error (inr is) = rw is tt

-- ## Requests that say the same

module _ (a b : HttpRequest) (same : request_texts a ≡ request_texts b) where
  same_method : string_bytes a.method ≡ string_bytes b.method
  same_method = ap (λ texts. texts.method) same

  same_headers : a.headers ≡ b.headers
  same_headers = ap (λ texts. texts.headers) same

  same_body : a.body ≡ b.body
  same_body = ap (λ texts. texts.body) same

  pub same_target : string_bytes a.target ≡ string_bytes b.target
  same_target = ap (λ texts. texts.target) same

  -- they have the same case
  pub same_case : (identity : Identity) (choice : ChosenInputs) (name : Option (List _)) (target : Target) → chosen_case a identity choice name target ≡ chosen_case b identity choice name target
  same_case identity choice name target = rw (same_method, same_headers, same_body) refl

  -- and are refused alike
  pub same_refusal : (identity : Identity) (inputs : SigningInputs) (now : Instant) (answer : NameAnswer) (target : Option Target)
      → signing_refusal a identity inputs now answer target ≡ signing_refusal b identity inputs now answer target
  same_refusal identity inputs now answer None = refl
  same_refusal identity inputs now answer (Some found) =
      ap (λ (c : Case). option_or (refusal_before_override identity inputs) (option_or (refusal_before_target (chosen inputs now) answer) (option_map errors.Signing (option_or (unfit c) (unfit_signed_target c)))))
      (same_case identity (chosen inputs now) (name_in answer) found)
