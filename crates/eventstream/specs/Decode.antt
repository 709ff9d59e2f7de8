-- What a decoder of frames promises: one step of the reading on the bytes that it has not yet used.
use Rattle.std.specs.Prelude.{◌≡◌, ◌≢◌, ℕ, ◌≤◌, nat_lt, if◌then◌else◌, ◌⊎◌, List, [], ◌∷◌, ◌++◌, length, take, drop, Option, Some, None, IfSome, Result, Ok, Err}
use Rattle.smithy_core.specs.Message.{Parts}
use Rattle.seg_buf.specs.Segments.{Segments, prelude_len}
use Rattle.eventstream.specs.declared.decode.DecodedFrame.{DecodedFrame}
use Rattle.eventstream.specs.declared.decode.DecodedFrame.TheVariants.{Incomplete, Complete}
use Rattle.eventstream.specs.declared.decode.StreamEnd.{StreamEnd}
use Rattle.eventstream.specs.declared.decode.StreamEnd.TheVariants.{Clean, Leftover, Undecoded}
use Rattle.eventstream.specs.declared.error.ErrorKind.TheVariants.{NoMemory}
use Rattle.eventstream.specs.declared.error.Error.{Error}
use Rattle.eventstream.specs.Error.{error_kind}
use Rattle.eventstream.specs.declared.error.ErrorKind.{ErrorKind}
use Rattle.eventstream.specs.declared.read.lengths.Lengths.{Lengths}
use Rattle.eventstream.specs.declared.kept_prelude.KeptPrelude.{KeptPrelude}
use Rattle.eventstream.specs.Read.{AreFit, read_prelude}
use Rattle.eventstream.specs.Reading.{First, nothing, leftover, fault, begins, first_of, Begin}

-- a prelude whose lengths, where they are at hand, are those that it tells
pub record IsReadPrelude (kept : KeptPrelude) : Type 0 where
  pub bytes : length kept.bytes ≡ prelude_len
  pub told : IfSome kept.lengths (λ lengths. read_prelude kept.bytes ≡ Ok lengths)
  pub fit : IfSome kept.lengths AreFit

-- the prelude that is kept, and then the bytes of the buffer
abbrev pub undecoded_bytes : Option (List ℕ) → List ℕ → List ℕ
undecoded_bytes None buffer = buffer
undecoded_bytes (Some prelude) buffer = prelude ++ buffer

-- the prelude of these bytes, once it is there
abbrev pub prelude_of : List ℕ → Option (List ℕ)
prelude_of bytes = if nat_lt (length bytes) prelude_len then None else Some (take prelude_len bytes)

-- no byte is lost, and the prelude is taken once it is there
abbrev pub KeepsBytes : List ℕ → Option (List ℕ) → List ℕ → Type 0
KeepsBytes bytes prelude buffer = (prelude ≡ prelude_of bytes) × (undecoded_bytes prelude buffer ≡ bytes)

-- there is less than a frame
abbrev pub IsUnfinished : First → Type 0
IsUnfinished nothing = Unit {0}
IsUnfinished (leftover bytes) = Unit {0}
IsUnfinished first = ⊥

-- the message at the front and how many bytes its frame has, or nothing while there is less than a frame, or the fault in its
-- place; or memory ran out
abbrev pub PeeksMessage : List ℕ → Result (Option (Parts × ℕ)) Error → Type 0
PeeksMessage bytes (Ok None) = IsUnfinished (first_of bytes)
PeeksMessage bytes (Ok (Some found)) = (found.1 ≤ length bytes) × (first_of bytes ≡ begins found.0 (drop found.1 bytes))
PeeksMessage bytes (Err e) = (first_of bytes ≡ fault (error_kind e)) ⊎ (error_kind e ≡ NoMemory)

-- after a fault of its prelude every byte stays; after another fault the frame that it announces is gone, and the prelude forgotten
abbrev pub LeavesBehind : Result Lengths ErrorKind → List ℕ → Option (List ℕ) → List ℕ → Type 0
LeavesBehind (Err kind) bytes prelude buffer = KeepsBytes bytes prelude buffer
LeavesBehind (Ok lengths) bytes prelude buffer = (prelude ≡ None) × (buffer ≡ drop lengths.total bytes)

-- what is left after a fault
abbrev pub LeavesFault : List ℕ → Option (List ℕ) → List ℕ → Type 0
LeavesFault bytes = LeavesBehind (read_prelude (take prelude_len bytes)) bytes

-- so many bytes are taken, unless memory ran out
abbrev pub Finishes : ℕ → Result Parts Error → Option (List ℕ) → Segments → Option (List ℕ) → Segments → Result DecodedFrame Error → Type 0
Finishes len (Ok message) kept old prelude new result =
    (result ≡ Ok (Complete message)) × (prelude ≡ None) × (new.bytes ≡ drop len old.bytes)
Finishes len (Err e) kept old prelude new result =
    (result ≡ Err e)
    × (((error_kind e ≡ NoMemory) × (prelude ≡ kept) × (new ≡ old)) ⊎ ((error_kind e ≢ NoMemory) × (prelude ≡ None) × (new.bytes ≡ drop len old.bytes)))

-- one step of the reading; where memory runs out nothing changes
abbrev pub DecodesFrame : Option (List ℕ) → Segments → Option (List ℕ) → Segments → Result DecodedFrame Error → Type 0
DecodesFrame kept old prelude new (Ok Incomplete) =
    IsUnfinished (first_of (undecoded_bytes kept old.bytes)) × KeepsBytes (undecoded_bytes kept old.bytes) prelude new.bytes
DecodesFrame kept old prelude new (Ok (Complete message)) =
    (first_of (undecoded_bytes kept old.bytes) ≡ begins message new.bytes) × (prelude ≡ None)
DecodesFrame kept old prelude new (Err e) =
    ((first_of (undecoded_bytes kept old.bytes) ≡ fault (error_kind e)) × LeavesFault (undecoded_bytes kept old.bytes) prelude new.bytes)
    ⊎ ((error_kind e ≡ NoMemory) × (prelude ≡ kept) × (new ≡ old))

-- the messages that a list has gained at its end
abbrev pub appended_messages : List Parts → List Parts → List Parts
appended_messages old new = drop (length old) new

-- these messages were taken, and nothing else; without one nothing has changed
abbrev pub Takes : List Parts → Option (List ℕ) → Segments → Option (List ℕ) → Segments → Type 0
Takes [] kept old prelude new = (prelude ≡ kept) × (new ≡ old)
Takes (message ∷ messages) kept old prelude new = (prelude ≡ None) × Begin (message ∷ messages) (undecoded_bytes kept old.bytes) new.bytes

-- the messages that the bytes begin with, until less than a frame is there, or a fault; where memory runs out, some of them
abbrev pub DecodesAll : List Parts → Option (List ℕ) → Segments → Option (List ℕ) → Segments → Result (Unit {0}) Error → Type 0
DecodesAll messages kept old prelude new (Ok _) =
    (rest : List ℕ) × Begin messages (undecoded_bytes kept old.bytes) rest × IsUnfinished (first_of rest) × KeepsBytes rest prelude new.bytes
DecodesAll messages kept old prelude new (Err e) =
    ((rest : List ℕ) × Begin messages (undecoded_bytes kept old.bytes) rest × (first_of rest ≡ fault (error_kind e)) × LeavesFault rest prelude new.bytes)
    ⊎ ((error_kind e ≡ NoMemory) × Takes messages kept old prelude new)

-- how a stream ends that begins with this
abbrev pub end_of : First → StreamEnd
end_of nothing = Clean
end_of (leftover bytes) = Leftover (length bytes)
end_of first = Undecoded
