-- Lemmas on requests that are signed without an override.
use Rattle.std.proofs.Common.{◌≡◌, ◌∙◌, Option, Some, None, inl, inr, refl, subst, sym}
use Rattle.std.specs.Prelude.{Result, Ok, Err}
use Rattle.std.specs.Borrow.{Bor}
use Rattle.std.specs.Fn.{Shared}
use Rattle.smithy_core.specs.Moment.{Instant}
use Rattle.smithy_core.specs.declared.identity.Identity.{Identity}
use Rattle.smithy_core.specs.declared.request.HttpRequest.{HttpRequest}
use Rattle.smithy_http.specs.Target.{Target}
use Rattle.sigv4.specs.declared.settings.SigningSettings.{SigningSettings}
use Rattle.aws_auth.specs.Inputs.{chosen, chosen_case}
use Rattle.aws_auth.specs.NameOverride.{NameAnswer}
use Rattle.aws_auth.specs.Signer.{IsSignedCase, RefusesPlainly, RefusesRequest, SignsByInputs, SignsPlainly, SignsRequest, SignsUsually, name_in, refusal_before_override, refusal_before_target, signing_refusal}
use Rattle.aws_auth.specs.declared.error.SigV4SigningError.{SigV4SigningError}
use Rattle.aws_auth.specs.declared.inputs.SigningInputs.{SigningInputs}
use Rattle.aws_auth.specs.declared.options.SigV4OperationSigningConfig.{SigV4OperationSigningConfig}
use Rattle.aws_auth.specs.declared.signer.Signed.{Signed}

-- a test that fails before an override is asked is the first of all, whatever the override answers
early : (old : HttpRequest) (identity : Identity) (inputs : SigningInputs) (now : Instant) (answer other : NameAnswer) (target : Option Target)
    (error : SigV4SigningError) → refusal_before_override identity inputs ≡ Some error
    → signing_refusal old identity inputs now answer target ≡ signing_refusal old identity inputs now other target
early old identity inputs now answer other target error is = rw is refl

module _ {F : Type 0} (calls : Shared F (Bor SigningSettings × (Bor SigV4OperationSigningConfig × Unit {0})) NameAnswer)
    (identity : Identity) (inputs : SigningInputs) (now : Instant) (old : HttpRequest) where
  -- the request is that of the case with the token's usual name
  signs_usually : (new : HttpRequest) (signed : Signed) → SignsRequest calls None identity inputs now old new signed → SignsUsually identity inputs now old new signed
  signs_usually new signed signs =
      let Passes : NameAnswer → Type 0 = λ answer. signing_refusal old identity inputs now answer (Some signs.target) ≡ None in
      let Made : NameAnswer → Type 0 = λ answer. IsSignedCase identity (chosen_case old identity (chosen inputs now) (name_in answer) signs.target) old new signed in
      record { target = signs.target; read = signs.read; passed = subst Passes signs.asked signs.passed; made = subst Made signs.asked signs.made }

  -- a test fails where no override is asked
  refuses_plainly : (first : Option SigV4SigningError) (error : SigV4SigningError) → refusal_before_override identity inputs ≡ first
      → RefusesRequest calls None identity inputs now old error → RefusesPlainly identity inputs now old error
  refuses_plainly (Some fault) error is refuses = record {
    target = refuses.target;
    read = λ none passed. let no : ⊥ = cc in absurd no;
    refused = early old identity inputs now (Ok None) refuses.answer refuses.target fault is ∙ refuses.refused;
  }
  refuses_plainly None error is refuses =
      let usual : refuses.answer ≡ Ok None = refuses.asked is in
      let Refused : NameAnswer → Type 0 = λ answer. signing_refusal old identity inputs now answer refuses.target ≡ Some error in
      let Passed : NameAnswer → Type 0 = λ answer. refusal_before_target (chosen inputs now) answer ≡ None in
      record {
        target = refuses.target;
        read = λ none passed. refuses.read none (subst Passed (sym usual) passed);
        refused = subst Refused usual refuses.refused;
      }

  -- without an override the token has its usual name
  pub plainly : (new : HttpRequest) (result : Result Signed SigV4SigningError) → SignsByInputs calls None identity inputs now old new result
      → SignsPlainly identity inputs now old new result
  plainly new (Ok signed) signs = signs_usually new signed signs
  plainly new (Err error) (inl refuses) = inl (refuses_plainly (refusal_before_override identity inputs) error refl refuses)
  plainly new (Err error) (inr memory) = inr memory
