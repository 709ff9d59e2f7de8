use Rattle.std.proofs.lemmas.Result.{err_from_is_err_and}
use Rattle.std.specs.Prelude.{option_copied, string_bytes}
use Rattle.aws_auth.proofs.SignerLemmas.{applied_alone, retargeted}
use Rattle.aws_auth.proofs.signer.sign_alone_by.Goals as goal

pub returns-in_err-apply_to_parsed-clause-signs : goal.returns-in_err-apply_to_parsed-clause-signs
returns-in_err-apply_to_parsed-clause-signs c =
    let exit = err_from_is_err_and c.from_residual-in_err-apply_to_parsed.result c.from_residual-in_err-apply_to_parsed.ensures.1 in
    let parts = c.in_ok-output.ensures in
    rw (exit.1, exit.2)
    (retargeted c.args.request.now (option_copied c.args.payload) c.args.params.now c.in_ok-output.uri c.in_ok-output.output.output.params
    (string_bytes c.apply_to_parsed.new.request.target) _ parts.0 parts.1 parts.2.params (rw c.into_parts-instructions.ensures at c.in_err-apply_to_parsed.ensures.target))

pub returns-clause-signs : goal.returns-clause-signs
returns-clause-signs c =
    let parts = c.in_ok-output.ensures in
    let made = rw c.into_parts-instructions.ensures at c.in_ok-apply_to_parsed.ensures in
    rw c.into_parts-instructions.ensures
    (applied_alone c.args.request.now c.apply_to_parsed.new.request (option_copied c.args.payload) c.args.params.now c.in_ok-output.uri c.in_ok-output.output.output
    c.in_ok-output.output.signature parts.0 parts.1 parts.2.headers parts.2.params parts.2.signature made.headers made.target)
