use Rattle.std.proofs.lemmas.Result.{err_from_is_err_and}
use Rattle.operation_run.proofs.SigningLemmas.{not_signed_at}
use Rattle.operation_run.proofs.signing.sign_at.Goals as goal

pub returns-in_err-sign_alone-clause-signs : goal.returns-in_err-sign_alone-clause-signs
returns-in_err-sign_alone-clause-signs c =
    let exit = err_from_is_err_and c.from_residual.result c.from_residual.ensures.1 in
    rw (exit.1, exit.2) (not_signed_at c.args.identity.now c.args.inputs.now c.args.first c.args.request.now c.sign_alone.new.request _ c.in_err-sign_alone.ensures.signs)

pub returns-clause-signs : goal.returns-clause-signs
returns-clause-signs c =
    let signs = c.in_ok-sign_alone.ensures.signs.2 in
    (signs.target, signs.read, signs.passed, signs.made.headers, signs.made.target)
