use Rattle.chain_watch.specs.Watch.{WalksOn, rank}
use Rattle.chain_watch.proofs.watch.ChainWatch.go_on.Given as goal

-- the walk went on from the watch and the events at the beginning
abbrev pub invariant-frames : goal.invariant-frames
invariant-frames l = WalksOn l.fn.self l.fn.events.items l.self l.events.items

abbrev pub decreases-frames : goal.decreases-frames
decreases-frames l = rank l.self.at
