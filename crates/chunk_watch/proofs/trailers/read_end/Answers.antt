use Rattle.std.proofs.Common.{◌∙◌}
use Rattle.chunk_watch.proofs.EndReadLemmas.{reads_none}
use Rattle.chunk_watch.proofs.trailers.read_end.Goals as goal

pub returns-in-Err-BadChunk : goal.returns-in-Err-BadChunk
returns-in-Err-BadChunk c =
    reads_none c.args.bytes.now c.as_slice.result.now (c.as_slice.ensures.value ∙ c.in_ok-text.ensures) c.in-Err-BadChunk.field-0-0
    (rw c.in-Err-BadChunk.field-0-is at c.in-Err-BadChunk.ensures.reads)
