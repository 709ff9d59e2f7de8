use Rattle.std.proofs.lemmas.Result.{err_from_is_err_and}
use Rattle.std.specs.Prelude.{option_copied}
use Rattle.aws_auth.proofs.InputsLemmas.{refused_target, signed_request}
use Rattle.aws_auth.proofs.signer.SigV4Signer.sign_http_request.Goals as goal

pub returns-in_err-params-clause-signs : goal.returns-in_err-params-clause-signs
returns-in_err-params-clause-signs g c =
    let exit = err_from_is_err_and c.from_residual.result c.from_residual.ensures.1 in
    rw (exit.1, exit.2) (c.in_err-params.ensures c.args.request.now)

pub returns-in_err-sign_by-clause-signs : goal.returns-in_err-sign_by-clause-signs
returns-in_err-sign_by-clause-signs g c =
    let exit = err_from_is_err_and c.from_residual-in_err-sign_by.result c.from_residual-in_err-sign_by.ensures.1 in
    rw (exit.1, exit.2)
    (refused_target g.F.Fn (option_copied c.args.name_override) c.args.identity.now c.args.inputs.now c.args.now c.args.request.now
    c.in_ok-params.params (option_copied c.in_ok-params.payload) c.in_ok-params.ensures _ c.in_err-sign_by.ensures.signs)

pub returns-clause-signs : goal.returns-clause-signs
returns-clause-signs g c =
    signed_request g.F.Fn (option_copied c.args.name_override) c.args.identity.now c.args.inputs.now c.args.now c.args.request.now
    c.in_ok-params.params (option_copied c.in_ok-params.payload) c.in_ok-params.ensures c.sign_by.new.request c.in_ok-sign_by.field-0 c.in_ok-sign_by.ensures.signs
