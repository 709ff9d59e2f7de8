use Rattle.std.proofs.lemmas.Result.{err_from_is_err_and}
use Rattle.std.specs.Prelude.{Ok, Err, None, option_copied}
use Rattle.aws_auth.proofs.InputsLemmas.{refused_target, signed_request}
use Rattle.aws_auth.proofs.PlainLemmas.{plainly}
use Rattle.aws_auth.proofs.signer.SigV4Signer.sign_alone.Goals as goal

pub returns-in_err-params-clause-signs : goal.returns-in_err-params-clause-signs
returns-in_err-params-clause-signs c =
    let exit = err_from_is_err_and c.from_residual.result c.from_residual.ensures.1 in
    rw (exit.1, exit.2)
    (plainly _ c.args.identity.now c.args.inputs.now c.args.now c.args.request.now c.args.request.now (Err _) (c.in_err-params.ensures c.args.request.now))

pub returns-in_err-sign_alone_by-clause-signs : goal.returns-in_err-sign_alone_by-clause-signs
returns-in_err-sign_alone_by-clause-signs c =
    let exit = err_from_is_err_and c.from_residual-in_err-sign_alone_by.result c.from_residual-in_err-sign_alone_by.ensures.1 in
    rw (exit.1, exit.2)
    (plainly _ c.args.identity.now c.args.inputs.now c.args.now c.args.request.now c.sign_alone_by.new.request (Err _)
    (refused_target _ None c.args.identity.now c.args.inputs.now c.args.now c.args.request.now
    c.in_ok-params.params (option_copied c.in_ok-params.payload) c.in_ok-params.ensures _ c.in_err-sign_alone_by.ensures.signs))

pub returns-clause-signs : goal.returns-clause-signs
returns-clause-signs c =
    let signs = c.in_ok-sign_alone_by.ensures.signs in (
      signs.0,
      signs.1,
      plainly _ c.args.identity.now c.args.inputs.now c.args.now c.args.request.now c.sign_alone_by.new.request (Ok signs.0)
          (signed_request _ None c.args.identity.now c.args.inputs.now c.args.now c.args.request.now
          c.in_ok-params.params (option_copied c.in_ok-params.payload) c.in_ok-params.ensures c.sign_alone_by.new.request signs.0 signs.2),
    )
