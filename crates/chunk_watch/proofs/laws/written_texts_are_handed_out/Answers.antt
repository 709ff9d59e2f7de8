use Rattle.chunk_watch.proofs.HandedLemmas.{hands_written}
use Rattle.chunk_watch.proofs.laws.written_texts_are_handed_out.Goals as goal

pub returns : goal.returns
returns c = hands_written
