use Rattle.std.proofs.Common.{Ok}
use Rattle.presigned_program.specs.PresignRun.{valid_until}
use Rattle.presigned_program.proofs.PresignLemmas.{presigned_no_memory}
use Rattle.presigned_program.proofs.run.write_until.Goals as goal

pub returns-in-Err-clause-printed : goal.returns-in-Err-clause-printed
returns-in-Err-clause-printed g c = presigned_no_memory (Ok (valid_until c.args.until)) (g.K.ByteSink.held c.args.out.now)
