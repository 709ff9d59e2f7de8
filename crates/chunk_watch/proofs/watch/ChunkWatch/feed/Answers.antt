use Rattle.std.proofs.Common.{arith, rules}
use Rattle.std.proofs.lemmas.Grind.{common_steps}
use Rattle.chunk_watch.proofs.KeepLemmas.{keeps_stopped}
use Rattle.chunk_watch.proofs.WatchLemmas.{feeds}
use Rattle.chunk_watch.proofs.watch.ChunkWatch.feed.Goals as goal

pub returns : goal.returns
returns c =
    let stopped = rw c.if-branch.false at c.in_ok-step.ensures in
    record {
      feeds = first_of (search (rules, feeds), grind (arith, common_steps, feeds));
      keeps = keeps_stopped c.chunks.self c.step.new.self c.state.result stopped.0 stopped.1;
    }
