-- What any list of calls of a watch hands out, and what the last of them answers.
use Rattle.std.specs.Prelude.{◌≡◌, ℕ, ◌+◌, ◌⊎◌, List, [], ◌∷◌, ◌++◌, flat_map, length, Result, Ok, Err}
use Rattle.smithy_core.specs.Message.{Parts}
use Rattle.chain_watch.specs.Walk.{walk, walk_onto}
use Rattle.chain_watch.specs.Watch.{Feeds, Watching, state, unwalked}
use Rattle.chain_watch.specs.declared.chain_fault.ChainFault.{ChainFault}
use Rattle.chain_watch.specs.declared.chain_fault.ChainFault.TheVariants.{NoMemory}
use Rattle.chain_watch.specs.declared.watch.Watched.{Watched}

-- a call of `feed`: the piece that it was handed, the bytes of it that were taken, the events that it handed out, and its answer
pub record Feeding : Type 0 where
  pub piece : List ℕ
  pub taken : List ℕ
  pub events : List Parts
  pub answer : Result Watched ChainFault

-- the call leaves one watch as the other, which tells how many bytes were taken: those of the piece, or none
pub record IsFed (old : Watching) (call : Feeding) (new : Watching) : Type 0 where
  pub before : List Parts
  pub feeds : Feeds old call.piece before new (before ++ call.events) call.answer
  pub fed : new.fed ≡ old.fed + length call.taken
  pub whole : (call.taken ≡ call.piece) ⊎ (call.taken ≡ [])

-- the calls, one after another
abbrev pub AreFed : Watching → List Feeding → Watching → Type 0
AreFed old [] new = new ≡ old
AreFed old (call ∷ calls) new = (between : Watching) × IsFed old call between × AreFed between calls new

-- the bytes that calls take
abbrev pub taken_by : List Feeding → List ℕ
taken_by calls = flat_map (λ call. call.taken) calls

-- the events that calls hand out
abbrev pub handed_out : List Feeding → List Parts
handed_out calls = flat_map (λ call. call.events) calls

-- the events handed out are the first of the walk of the bytes taken, each once; those of the bytes that are kept come behind them
pub record HandOut (old : Watching) (calls : List Feeding) (new : Watching) : Type 0 where
  pub fed : new.fed ≡ old.fed + length (taken_by calls)
  pub signer : new.signer ≡ old.signer
  pub walked : walk old.signer old.at (taken_by calls) ≡ walk_onto (handed_out calls) (unwalked new)

-- all events of the walk of the bytes taken were handed out, and its state is the answer; or memory ran out
abbrev pub AnswersWalk : Watching → List Feeding → Result Watched ChainFault → Type 0
AnswersWalk old calls answer =
    ((handed_out calls ≡ (walk old.signer old.at (taken_by calls)).events) × (answer ≡ state (walk old.signer old.at (taken_by calls)).at))
    ⊎ (answer ≡ Err NoMemory)

-- these events are those of the chain, or the fault is that of the bytes; or memory ran out
abbrev pub EndsChain : Result (List Parts) ChainFault → List Parts → Result (Unit {0}) ChainFault → Type 0
EndsChain wanted events (Ok _) = wanted ≡ Ok events
EndsChain wanted events (Err told) = (wanted ≡ Err told) ⊎ (told ≡ NoMemory)
