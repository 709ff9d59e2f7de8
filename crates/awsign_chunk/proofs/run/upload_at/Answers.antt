use Rattle.std.proofs.Common.{map}
use Rattle.env_config.specs.Source.{file_of}
use Rattle.awsign_words.specs.Words.{sign_wanted}
use Rattle.awsign_chunk.specs.ChunkRun.{sent_signer}
use Rattle.awsign_chunk.proofs.SentLemmas.{nobody_sends}
use Rattle.awsign_chunk.proofs.run.upload_at.Goals as goal

pub returns-in-Ok : goal.returns-in-Ok
returns-in-Ok c = rw (rw (c.url_host-host.ensures, c.requires) at c.in-Ok.ensures) c.upload_for.ensures

pub returns-in-Err : goal.returns-in-Err
returns-in-Err c =
    rw c.from.ensures
    (nobody_sends (sign_wanted c.args.asked.now) c.args.length c.args.at
    (sent_signer (sign_wanted c.args.asked.now) c.args.env.now (map file_of c.args.source.now.files.items)) c.in-Err.fault
    (rw (c.url_host-host.ensures, c.requires) at c.in-Err.ensures))
