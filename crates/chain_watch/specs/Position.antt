-- What stands at the front of the bytes that a watch keeps: a reader of a watch needs none of it.
use Rattle.std.specs.Prelude.{◌≡◌, ℕ, ◌+◌, ◌*◌, ◌<◌, ◌≤◌, ◌⊎◌, length, drop, Option, Some, None, Result, Ok, Err, string_bytes}
use Rattle.eventstream.specs.Frame.{least_frame, most_frame}
use Rattle.eventstream.specs.Key.{Signer}
use Rattle.chain_watch.specs.Walk.{Point, Walk, after_closing, closed, failed, unclosed, stays, walk_frames, walk_passed}
use Rattle.chain_watch.specs.declared.chain_fault.ChainFault.{ChainFault}
use Rattle.chain_watch.specs.declared.chain_fault.ChainFault.TheVariants.{NoMemory}
use Rattle.chain_watch.specs.declared.frame.CheckedFrame.{CheckedFrame}
use Rattle.chain_watch.specs.declared.position.Phase.{Phase}
use Rattle.chain_watch.specs.declared.position.Phase.TheVariants as phases
use Rattle.chain_watch.specs.declared.position.Position.{Position}

-- the point at a position
abbrev pub open_at : Position → Point
open_at position = unclosed (string_bytes position.signature) position.passed position.left.bytes

-- the walk of the bytes left over at a position
abbrev pub walk_at : Signer → Position → Walk
walk_at signer position = walk_frames signer (string_bytes position.signature) position.passed position.left.bytes

-- the walk behind a frame of so many bytes that passed
abbrev pub walk_behind : Signer → Position → CheckedFrame → ℕ → Walk
walk_behind signer position frame len =
    walk_passed (walk_frames signer) (position.passed + 1) (drop len position.left.bytes) (string_bytes frame.signature) frame.event

-- the walk goes on behind the frame that is found, or stays where no frame is there whole, or it ends at this fault; or memory ran out
abbrev pub FindsFrame : Signer → Position → Result (Option (CheckedFrame × ℕ)) ChainFault → Type 0
FindsFrame signer position (Ok None) = (walk_at signer position ≡ stays (open_at position)) × (length position.left.bytes < most_frame)
FindsFrame signer position (Ok (Some found)) =
    (walk_at signer position ≡ walk_behind signer position found.0 found.1) × (least_frame ≤ found.1) × (found.1 ≤ length position.left.bytes)
FindsFrame signer position (Err told) = (walk_at signer position ≡ stays (failed told)) ⊎ (told ≡ NoMemory)

-- the point that a watch keeps in its parts
abbrev pub point_of : Phase → Position → Point
point_of phases.Open position = open_at position
point_of phases.Closed position = closed position.passed
point_of (phases.Failed told) position = failed told

-- the walk behind a closing frame of so many bytes stays where this phase is, one frame on
abbrev pub ClosesAt : Position → ℕ → Phase → Type 0
ClosesAt position len phase = (moved : Position) → moved.passed ≡ position.passed + 1
    → after_closing (position.passed + 1) (drop len position.left.bytes) ≡ stays (point_of phase moved)

-- each frame that passed took the bytes of the smallest frame at least of those that were taken, and the others are left over
abbrev pub IsWithin : ℕ → Position → Type 0
IsWithin fed position = least_frame * position.passed + length position.left.bytes ≤ fed
