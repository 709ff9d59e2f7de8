use Rattle.signed_stream.proofs.SealLemmas.{write_fails}
use Rattle.signed_stream.proofs.chain.put_frame.Goals as goal

pub fault_at-requires : goal.fault_at-requires
fault_at-requires c = rw c.kind.ensures (write_fails c.args.message.now _ c.in-Err.ensures.0)
