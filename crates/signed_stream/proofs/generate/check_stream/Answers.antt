use Rattle.signed_stream.proofs.GenerateLemmas.{check_wants}
use Rattle.signed_stream.proofs.generate.check_stream.Goals as goal

pub check_without_memory-requires : goal.check_without_memory-requires
check_without_memory-requires c =
    check_wants c.args.seed.now c.args.bytes.now c.args.events.now c.in-Err.fault c.requires.drawn c.requires.seed c.requires.stream c.in-Err.ensures.answer
