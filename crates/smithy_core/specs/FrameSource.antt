-- What contracts say of a source of frames. What it has left is optional: it need not tell.
use Rattle.std.specs.Prelude.{◌≡◌, ℕ, ◌≤◌, ◌↔◌, Contains, Bool, true, false, List, [], ◌∷◌, length, Option, Some, None, if◌then◌else◌}
use Rattle.std.specs.List.{AllByRecursion}
use Rattle.smithy_core.specs.Calls.{FailsAsListed, Tally, one_more}
use Rattle.smithy_core.specs.declared.outside.frame_part.FramePart.{FramePart}
use Rattle.smithy_core.specs.declared.outside.frame_part.FramePart.TheVariants as part
use Rattle.smithy_core.specs.declared.outside.frame_part.Polled.{Polled}
use Rattle.smithy_core.specs.declared.outside.frame_part.Polled.TheVariants.{Data, Trailers, NotYet, End, Failed, NoMemory}

-- the answer that gives a frame
abbrev pub answer_of : FramePart → Polled
answer_of (part.Data piece) = Data piece
answer_of (part.Trailers trailers) = Trailers trailers

-- the frame was the first of what was left, and is gone
abbrev pub TakesFrame : FramePart → Option (List FramePart) → Option (List FramePart) → Type 0
TakesFrame frame None now = now ≡ None
TakesFrame frame (Some before) None = ⊥
TakesFrame frame (Some before) (Some now) = before ≡ frame ∷ now

-- no frame is left
abbrev pub IsDrained : Option (List FramePart) → Type 0
IsDrained None = Unit {0}
IsDrained (Some frames) = frames ≡ []

-- a frame is the first of what was left; the end comes with nothing left; every other answer leaves what was left
abbrev pub GivesFrame : Option (List FramePart) → Option (List FramePart) → Polled → Type 0
GivesFrame before now (Data piece) = TakesFrame (part.Data piece) before now
GivesFrame before now (Trailers trailers) = TakesFrame (part.Trailers trailers) before now
GivesFrame before now End = (now ≡ before) × IsDrained now
GivesFrame before now NotYet = now ≡ before
GivesFrame before now Failed = now ≡ before
GivesFrame before now NoMemory = now ≡ before

-- a piece of data has at most 4,294,967,295 bytes
abbrev pub IsShort : FramePart → Type 0
IsShort (part.Data piece) = length piece ≤ 4294967295
IsShort (part.Trailers trailers) = Unit {0}

-- each piece of data has at most 4,294,967,295 bytes
abbrev pub AreShort : List FramePart → Type 0
AreShort frames = AllByRecursion IsShort frames

-- where a piece of data is answered, it has at most 4,294,967,295 bytes
abbrev pub GivesShort : Polled → Type 0
GivesShort (Data piece) = length piece ≤ 4294967295
GivesShort _ = Unit {0}

-- a frame or the end is answered
abbrev pub GivesCalmly : Polled → Type 0
GivesCalmly (Data piece) = Unit {0}
GivesCalmly (Trailers trailers) = Unit {0}
GivesCalmly End = Unit {0}
GivesCalmly _ = ⊥

-- the frames that a source in memory has left, the calls that are to fail, the numbers of those that are to wait, how many
-- waited, and whether the end was answered
pub record FramesState : Type 0 where
  pub left : List FramePart
  pub tally : Tally
  pub waiting : List ℕ
  pub waits : ℕ
  pub ended : Bool

-- whether the answer is a wait
abbrev pub is_wait : Polled → Bool
is_wait NotYet = true
is_wait _ = false

-- whether the answer is the end
abbrev pub is_end : Polled → Bool
is_end End = true
is_end _ = false

-- a poll before the end: it fails exactly where its number is among those that are to fail, and else waits exactly where
-- it is among those that are to wait; exactly a wait counts as one
pub record PollsAsListed (before : FramesState) (answer : Polled) (now : FramesState) : Type 0 where
  pub fails : FailsAsListed (answer ≡ Failed) before.tally now.tally
  pub waits : (answer ≡ NotYet) ↔ ((answer ≡ Failed → ⊥) × Contains before.waiting now.tally.calls)
  pub waited : now.waits ≡ if is_wait answer then one_more before.waits else before.waits
  pub count : before.waits ≤ now.waits
  pub gives : GivesFrame (Some before.left) (Some now.left) answer
  pub ended : now.ended ≡ is_end answer
  pub same : now.waiting ≡ before.waiting
  pub no_memory : answer ≡ NoMemory → ⊥
