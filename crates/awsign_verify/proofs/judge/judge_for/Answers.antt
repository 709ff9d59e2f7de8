use Rattle.awsign_run.specs.Chosen.{signs_for_of}
use Rattle.awsign_verify.proofs.VerifyLemmas.{not_admitted}
use Rattle.awsign_verify.proofs.judge.judge_for.Goals as goal

pub returns-in-Err : goal.returns-in-Err
returns-in-Err c =
    rw c.from.ensures
    (not_admitted c.args.options.now c.args.request.now c.args.body.now c.args.at (signs_for_of c.args.signer.now) c.in-Err.fault c.in-Err.ensures)
