use Rattle.std.proofs.Common.{map, option_map}
use Rattle.std.specs.Prelude.{string_bytes}
use Rattle.smithy_core.specs.Given.{Gives}
use Rattle.env_config.specs.Source.{file_of}
use Rattle.awsign_run.specs.Run.{Digests, TakesAskedMoment, asked_moment}
use Rattle.awsign_words.specs.Words.{sign_wanted}
use Rattle.awsign_run.proofs.RunLemmas.{data_unread, digest_given}
use Rattle.awsign_run.proofs.run.sign_source.Goals as goal

pub returns-in-Ok-clause-gives : goal.returns-in-Ok-clause-gives
returns-in-Ok-clause-gives g c =
    let options = c.args.asked.now.options in
    digest_given (Digests options (g.S.ByteSource.left c.args.body.now) (g.S.ByteSource.left c.data_digest.new.body))
    (TakesAskedMoment (λ taken. Gives g.C.Clock c.args.clock.now taken c.sign_digest.new.clock) (asked_moment options)) (sign_wanted c.args.asked.now) c.args.env.now
    (map file_of c.args.source.now.files.items) (option_map string_bytes c.in-Ok.digest) c.sign_digest.result c.in-Ok.ensures.digests c.sign_digest.ensures

pub returns-in-Err-clause-gives : goal.returns-in-Err-clause-gives
returns-in-Err-clause-gives g c =
    let options = c.args.asked.now.options in
    rw c.from.ensures
    (data_unread (Digests options (g.S.ByteSource.left c.args.body.now) (g.S.ByteSource.left c.data_digest.new.body))
    (TakesAskedMoment (λ taken. Gives g.C.Clock c.args.clock.now taken c.args.clock.now) (asked_moment options)) (sign_wanted c.args.asked.now) c.args.env.now
    (map file_of c.args.source.now.files.items) c.in-Err.fault c.in-Err.ensures.named)
