use Rattle.std.proofs.Common.{map}
use Rattle.env_config.specs.Source.{file_of}
use Rattle.awsign_verify.specs.Verify.{verify_signer}
use Rattle.awsign_verify.proofs.VerifyLemmas.{signer_lacks}
use Rattle.awsign_verify.proofs.judge.judge_at.Goals as goal

pub returns-in-Ok : goal.returns-in-Ok
returns-in-Ok c = rw (rw (c.request_host-host.ensures, c.requires) at c.in-Ok.ensures) c.judge_for.ensures

pub returns-in-Err : goal.returns-in-Err
returns-in-Err c =
    rw c.from.ensures
    (signer_lacks c.args.options.now c.args.request.now c.args.body.now c.args.at
    (verify_signer c.args.options.now c.args.env.now (map file_of c.args.source.now.files.items) c.args.request.now) c.in-Err.fault
    (rw (c.request_host-host.ensures, c.requires) at c.in-Err.ensures))
