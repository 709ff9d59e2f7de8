use Rattle.std.proofs.Common.{map}
use Rattle.env_config.specs.Source.{file_of}
use Rattle.awsign_events.specs.VerifyEvents.{chain_signer}
use Rattle.awsign_events.proofs.VerifyLemmas.{signer_lacks}
use Rattle.awsign_events.proofs.verify.verify_by_files.Goals as goal

pub returns-in-Ok-clause-verifies : goal.returns-in-Ok-clause-verifies
returns-in-Ok-clause-verifies g c = rw (rw c.requires at c.in-Ok.ensures) c.verify_chain.ensures.verifies

pub returns-in-Err-clause-verifies : goal.returns-in-Err-clause-verifies
returns-in-Err-clause-verifies g c =
    rw c.from.ensures
    (signer_lacks c.args.asked.now.options (g.S.ByteSource.left c.args.input.now) (g.K.ByteSink.held c.args.out.now)
    (chain_signer c.args.asked.now.options c.args.env.now (map file_of c.args.source.now.files.items)) c.in-Err.fault (rw c.requires at c.in-Err.ensures))
