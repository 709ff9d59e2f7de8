-- What a watch promises of each call: the events of the frames that were tested, each once, and where the walk over the bytes taken is.
use Rattle.std.specs.Prelude.{◌≡◌, ℕ, suc, ◌+◌, ◌-◌, ◌<◌, ◌⊎◌, Bool, true, false, nat_lt, if◌then◌else◌, List, [], ◌++◌, codes, length, Result, Ok, Err}
use Rattle.std.specs.Fmt.{decimal}
use Rattle.smithy_core.specs.Message.{Parts}
use Rattle.eventstream.specs.Frame.{most_frame}
use Rattle.eventstream.specs.Key.{Signer}
use Rattle.eventstream.specs.Read.{announced}
use Rattle.seg_buf.specs.Segments.{prelude_len}
use Rattle.chain_watch.specs.Walk.{Point, Walk, closed, ending, failed, unclosed, seed_point, stays, walk, walk_onto}
use Rattle.chain_watch.specs.declared.chain_fault.ChainFault.{ChainFault}
use Rattle.chain_watch.specs.declared.chain_fault.ChainFault.TheVariants.{NoMemory}
use Rattle.chain_watch.specs.declared.watch.Watched.{Watched}
use Rattle.chain_watch.specs.declared.watch.Watched.TheVariants.{Open, Closed}

-- what contracts see of a watch: how many bytes it took, who signs, for which region and service, and the point that it keeps
pub record Watching : Type 0 where
  pub fed : ℕ
  pub signer : Signer
  pub at : Point

-- a watch that has taken nothing
abbrev pub new_watch : Signer → List ℕ → Watching
new_watch signer seed = record { fed = 0; signer = signer; at = seed_point seed }

-- what a walk that is at a point says of the chain
abbrev pub state : Point → Result Watched ChainFault
state (unclosed signature passed left) = Ok Open
state (closed passed) = Ok Closed
state (failed told) = Err told

-- the bytes left over at a point
abbrev pub left_over : Point → List ℕ
left_over (unclosed signature passed left) = left
left_over at = []

-- how many bytes more the frame has at least that begins with these: those of a prelude, or those that its prelude announces
abbrev pub frame_wants : List ℕ → ℕ
frame_wants bytes = if nat_lt (length bytes) prelude_len then prelude_len - length bytes else announced bytes - length bytes

-- how many bytes more the next frame has at least at a point, where one may come
abbrev pub wanted : Point → ℕ
wanted (unclosed signature passed left) = frame_wants left
wanted at = 0

-- the walk's events are handed out, but for those of the rest of it, and each once
pub record HandsOut (walked : Walk) (old new : List Parts) (rest : Walk) : Type 0 where
  pub given : List Parts
  pub gained : new ≡ old ++ given
  pub split : walked ≡ walk_onto given rest

-- the walk of the bytes that a watch keeps
abbrev pub unwalked : Watching → Walk
unwalked watch = walk watch.signer watch.at []

-- the walk of the bytes that are kept has no event and stays where it is, and the state is the answer; or memory ran out
abbrev pub AnswersState : Watching → Result Watched ChainFault → Type 0
AnswersState watch result = ((unwalked watch ≡ stays watch.at) × (result ≡ state watch.at)) ⊎ (result ≡ Err NoMemory)

-- the piece is taken: the events of its walk from the point before the call are those that the call handed out, and then those of the bytes that
-- are kept
pub record FeedsPiece (old : Watching) (piece : List ℕ) (events : List Parts) (new : Watching) (gained : List Parts) (result : Result Watched ChainFault) : Type 0 where
  pub fed : new.fed ≡ old.fed + length piece
  pub signer : new.signer ≡ old.signer
  pub handed : HandsOut (walk old.signer old.at piece) events gained (unwalked new)
  pub answer : AnswersState new result

-- nothing is taken and nothing handed out
abbrev pub DoesNothing : Watching → List Parts → Watching → List Parts → Type 0
DoesNothing old events new gained = (new ≡ old) × (gained ≡ events)

-- what a call of `feed` does at a point: behind a fault it answers that fault; and else the piece is taken, or it is refused room
abbrev pub FeedsAt : Point → Watching → List ℕ → List Parts → Watching → List Parts → Result Watched ChainFault → Type 0
FeedsAt (failed told) old piece events new gained result = (result ≡ Err told) × DoesNothing old events new gained
FeedsAt at old piece events new gained result =
    FeedsPiece old piece events new gained result ⊎ ((result ≡ Err NoMemory) × DoesNothing old events new gained)

-- what a call of `feed` does, at the point where the watch is
abbrev pub Feeds : Watching → List ℕ → List Parts → Watching → List Parts → Result Watched ChainFault → Type 0
Feeds old = FeedsAt old.at old

-- what a call of `finish` does: the events of the bytes that are kept are handed out, and it is answered whether the chain may end there; or memory
-- ran out, and some of them are handed out, the first ones
abbrev pub EndsWatch : Watching → List Parts → List Parts → Result (Unit {0}) ChainFault → Type 0
EndsWatch watch events gained result =
    ((gained ≡ events ++ (unwalked watch).events) × (result ≡ ending (unwalked watch).at))
    ⊎ ((result ≡ Err NoMemory) × (rest : Walk) × HandsOut (unwalked watch) events gained rest)

-- what is printed of a watch: how many bytes it took, and nothing of who signs or of a signature
abbrev pub shown_watch : Watching → List ℕ
shown_watch watch = codes "ChainWatch(" ++ (decimal watch.fed ++ codes " bytes)")

-- ## Between the functions of a watch: a reader of `ChainWatch` needs none of it

-- what taking a piece does at a point: behind a fault that fault is answered; and else the bytes that are kept are walked as the piece is from the
-- point before, or memory ran out
abbrev pub PutsAt : Point → Watching → List ℕ → Watching → Result (Unit {0}) ChainFault → Type 0
PutsAt (failed told) old piece new result = (result ≡ Err told) × (new ≡ old)
PutsAt at old piece new (Ok _) = (new.fed ≡ old.fed + length piece) × (new.signer ≡ old.signer) × (unwalked new ≡ walk old.signer old.at piece)
PutsAt at old piece new (Err told) = (told ≡ NoMemory) × (new ≡ old)

abbrev pub Puts : Watching → List ℕ → Watching → Result (Unit {0}) ChainFault → Type 0
Puts old = PutsAt old.at old

-- the walk of the bytes that are kept goes on, and its events are handed out
pub record WalksOn (old : Watching) (events : List Parts) (new : Watching) (gained : List Parts) : Type 0 where
  pub fed : new.fed ≡ old.fed
  pub signer : new.signer ≡ old.signer
  pub handed : HandsOut (unwalked old) events gained (unwalked new)

-- how much may still be walked
abbrev pub rank : Point → ℕ
rank (unclosed signature passed left) = suc (length left)
rank at = 0

-- a step goes on, and there is less to be walked then; or nothing is left to be walked, or memory ran out, and nothing changes
abbrev pub StepsOn : {E : Type 0} → Watching → List Parts → Watching → List Parts → Result Bool E → Type 0
StepsOn old events new gained (Ok true) = WalksOn old events new gained × (rank new.at < rank old.at)
StepsOn old events new gained (Ok false) = DoesNothing old events new gained × (unwalked old ≡ stays old.at) × (length (left_over old.at) < most_frame)
StepsOn old events new gained (Err refused) = DoesNothing old events new gained
