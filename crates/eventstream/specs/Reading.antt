-- What a stream of bytes is read as: messages, and how the stream ends.
use Rattle.std.specs.Prelude.{◌≡◌, ℕ, zero, suc, ◌==◌, nat_lt, if◌then◌else◌, List, [], ◌∷◌, length, take, drop, Result, Ok, Err}
use Rattle.smithy_core.specs.Message.{Parts}
use Rattle.eventstream.specs.declared.error.ErrorKind.{ErrorKind}
use Rattle.eventstream.specs.declared.read.lengths.Lengths.{Lengths}
use Rattle.seg_buf.specs.Segments.{prelude_len}
use Rattle.eventstream.specs.Read.{read, read_prelude}

-- what a stream begins with
pub data First : Type 0 where
  -- no byte
  nothing : First
  -- less than a frame
  leftover : List ℕ → First
  -- no frame, for this reason
  fault : ErrorKind → First
  -- a message, and the bytes after its frame
  begins : Parts → List ℕ → First

-- the bytes begin with what was read of the frame of so many bytes, or with a fault
abbrev pub as_first : ℕ → List ℕ → Result (Parts × ℕ) ErrorKind → First
as_first total bytes (Ok message) = begins message.0 (drop total bytes)
as_first total bytes (Err kind) = fault kind

-- what the bytes begin with, whose prelude tells this: less than the frame that it announces, or what that frame is read as
abbrev pub first_behind : List ℕ → Result Lengths ErrorKind → First
first_behind bytes (Err kind) = fault kind
first_behind bytes (Ok lengths) =
    if nat_lt (length bytes) lengths.total then leftover bytes else as_first lengths.total bytes (read (take lengths.total bytes))

-- what the bytes begin with; a prelude is read as soon as it is there
unfoldable pub first_of : List ℕ → First
first_of bytes =
    if length bytes == 0 then nothing
    else if nat_lt (length bytes) prelude_len then leftover bytes
    else first_behind bytes (read_prelude (take prelude_len bytes))

-- the bytes begin with these messages, one after another, and then these bytes follow
abbrev pub Begin : List Parts → List ℕ → List ℕ → Type 0
Begin [] bytes rest = rest ≡ bytes
Begin (message ∷ messages) bytes rest = (others : List ℕ) × (first_of bytes ≡ begins message others) × Begin messages others rest

-- messages in order, and how the stream ends
pub record Read : Type 0 where
  pub messages : List Parts
  pub end : First

-- a reading with a message before the others
abbrev pub onto : Parts → Read → Read
onto message others = record { messages = message ∷ others.messages; end = others.end }

-- goes on after a message
abbrev pub read_on : (List ℕ → Read) → First → Read
read_on others nothing = record { messages = []; end = nothing }
read_on others (leftover bytes) = record { messages = []; end = leftover bytes }
read_on others (fault kind) = record { messages = []; end = fault kind }
read_on others (begins message rest) = onto message (others rest)

-- the reading of a stream up to its first so many messages
unfoldable pub reading_within : ℕ → List ℕ → Read
reading_within zero bytes = read_on (λ _. record { messages = []; end = nothing }) (first_of bytes)
reading_within (suc most) bytes = read_on (reading_within most) (first_of bytes)

-- the messages of a stream, and its end; each message takes a byte at least
unfoldable pub reading : List ℕ → Read
reading bytes = reading_within (length bytes) bytes
