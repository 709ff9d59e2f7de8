use Rattle.chunk_watch.specs.Walk.{with_more}
use Rattle.chunk_watch.specs.Watch.{HandsChunks}
use Rattle.chunk_watch.specs.WatchParts.{chunk_rank}
use Rattle.chunk_watch.proofs.watch.ChunkWatch.feed.Given as goal

-- the walk went on from the point at the beginning, with the piece
abbrev pub invariant-chunks : goal.invariant-chunks
invariant-chunks l = HandsChunks l.fn.self (with_more l.fn.self.point l.fn.piece) l.fn.out.items l.self l.out.items

abbrev pub decreases-chunks : goal.decreases-chunks
decreases-chunks l = chunk_rank l.self.point
