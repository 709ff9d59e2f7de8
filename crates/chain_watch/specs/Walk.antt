-- The walk over the frames of a chain: the events of the frames that pass, and the point that it reaches.
use Rattle.std.specs.Prelude.{◌≡◌, ℕ, zero, suc, ◌+◌, ◌==◌, ◌&&◌, ◌⊎◌, if◌then◌else◌, List, [], ◌∷◌, ◌++◌, length, Option, Some, None, is_none, ok_or, option_and_then, option_map, Result, Ok, Err, bytes_eq, codes}
use Rattle.std.specs.Global.{Vec}
use Rattle.hex.specs.Hex.{encode_lower}
use Rattle.smithy_core.specs.Civil.{is_in_years}
use Rattle.smithy_core.specs.Moment.{Instant}
use Rattle.smithy_core.specs.Header.{Header}
use Rattle.smithy_core.specs.HeaderValue.{byte_array_of}
use Rattle.smithy_core.specs.Message.{Parts}
use Rattle.eventstream.specs.Bind.{◌>>=◌}
use Rattle.eventstream.specs.Frame.{frame, unframed}
use Rattle.eventstream.specs.Key.{Signer}
use Rattle.eventstream.specs.Link.{link_code, carried_date}
use Rattle.eventstream.specs.Read.{read}
use Rattle.eventstream.specs.Reading.{First, fault, begins, first_of}
use Rattle.eventstream.specs.declared.error.ErrorKind.{ErrorKind}
use Rattle.chain_watch.specs.declared.chain_fault.ChainFault.{ChainFault}
use Rattle.chain_watch.specs.declared.chain_fault.ChainFault.TheVariants.{NotChain, Mismatch, NoMemory}
use Rattle.chain_watch.specs.declared.chain_fault.ChainPart.TheVariants.{NotFrame, Headers, Date, Inner, AfterClosing, NoClosing}

-- ## The tests of a frame

-- the signature that a header `:chunk-signature` carries in 32 bytes
abbrev pub carried_code : Header → Option (List ℕ)
carried_code h =
    if bytes_eq h.name (codes ":chunk-signature")
    then option_and_then (λ code. if length code == 32 then Some code else None) (byte_array_of h.value)
    else None

-- the signature and the moment that headers carry, which are exactly these two in this order
abbrev pub carried : List Header → Option (List ℕ × Instant)
carried (first ∷ second ∷ []) = option_and_then (λ code. option_map (λ date. (code, date)) (carried_date second)) (carried_code first)
carried headers = None

-- the moment, where it is a whole second in the years 0 to 9999
abbrev pub signed_moment : Instant → Option Instant
signed_moment t = if t.nanos == 0 && is_in_years t then Some t else None

-- the message that was read from bytes, where they are its frame
abbrev pub if_framed : List ℕ → Result (Parts × ℕ) ErrorKind → Option Parts
if_framed bytes (Ok message) = if is_none (unframed message.0) && bytes_eq (frame message.0) bytes then Some message.0 else None
if_framed bytes (Err kind) = None

-- the message whose frame bytes are
unfoldable pub framed_message : List ℕ → Option Parts
framed_message bytes = if_framed bytes (read bytes)

-- what a payload holds: no event where it is empty, and else the event whose frame it is
abbrev pub inner_event : List ℕ → Option (Option Parts)
inner_event [] = Some None
inner_event (byte ∷ bytes) = option_map Some (framed_message (byte ∷ bytes))

-- what a frame that passes holds: an event, or none in the closing frame; and the signature over which the next frame is signed
pub record Passed : Type 0 where
  pub event : Option Parts
  pub signature : List ℕ

-- a frame passes whose carried signature is the recomputed one
abbrev pub compared : ℕ → List ℕ → List ℕ → Option Parts → Result Passed ChainFault
compared place code recomputed event =
    if bytes_eq code recomputed then Ok (record { event = event; signature = encode_lower recomputed })
    else Err (Mismatch place code recomputed)

-- the tests of the frame at a place, whose message this is, over the signature before: of its headers, of its date, of its payload and of its signature,
-- the first that fails
unfoldable pub frame_test : Signer → List ℕ → ℕ → Parts → Result Passed ChainFault
frame_test signer signature place message = do
  headers ← ok_or (carried message.headers) (NotChain place Headers)
  date ← ok_or (signed_moment headers.1) (NotChain place Date)
  event ← ok_or (inner_event message.payload) (NotChain place Inner)
  compared place headers.0 (link_code signer signature message.payload date) event

-- ## The walk

-- where a walk is
pub data Point : Type 0 where
  -- over a running signature, behind so many frames that passed, and with bytes left over that don't hold a whole frame
  unclosed : List ℕ → ℕ → List ℕ → Point
  -- right behind the closing frame, the last of so many
  closed : ℕ → Point
  -- at the first fault
  failed : ChainFault → Point

-- the events of the frames that pass, in order, and the point that is reached
pub record Walk : Type 0 where
  pub events : List Parts
  pub at : Point

-- no event, and a point
abbrev pub stays : Point → Walk
stays at = record { events = []; at = at }

-- an event before the others
abbrev pub event_onto : Parts → Walk → Walk
event_onto event others = record { events = event ∷ others.events; at = others.at }

-- behind the closing frame nothing follows
abbrev pub after_closing : ℕ → List ℕ → Walk
after_closing passed [] = stays (closed passed)
after_closing passed (byte ∷ bytes) = stays (failed (NotChain (passed + 1) AfterClosing))

-- goes on behind so many frames, the last of which has this event and signature, with the bytes behind it
abbrev pub walk_passed : (List ℕ → ℕ → List ℕ → Walk) → ℕ → List ℕ → List ℕ → Option Parts → Walk
walk_passed others passed rest signature (Some event) = event_onto event (others signature passed rest)
walk_passed others passed rest signature None = after_closing passed rest

-- goes on after the tests of the frame that follows so many, with the bytes behind it
abbrev pub walk_tested : (List ℕ → ℕ → List ℕ → Walk) → ℕ → List ℕ → Result Passed ChainFault → Walk
walk_tested others passed rest (Ok tested) = walk_passed others (passed + 1) rest tested.signature tested.event
walk_tested others passed rest (Err told) = stays (failed told)

-- goes on with what the bytes begin with
abbrev pub walk_on : (List ℕ → ℕ → List ℕ → Walk) → Signer → List ℕ → ℕ → List ℕ → First → Walk
walk_on others signer signature passed bytes (begins message rest) = walk_tested others passed rest (frame_test signer signature (passed + 1) message)
walk_on others signer signature passed bytes (fault kind) = stays (failed (NotChain (passed + 1) NotFrame))
walk_on others signer signature passed bytes first = stays (unclosed signature passed bytes)

-- the walk over at most so many frames
unfoldable pub walk_within : ℕ → Signer → List ℕ → ℕ → List ℕ → Walk
walk_within zero signer signature passed bytes = stays (unclosed signature passed bytes)
walk_within (suc most) signer signature passed bytes = walk_on (walk_within most signer) signer signature passed bytes (first_of bytes)

-- the walk over all frames of the bytes, over a signature and behind so many frames; each takes a byte at least
unfoldable pub walk_frames : Signer → List ℕ → ℕ → List ℕ → Walk
walk_frames signer signature passed bytes = walk_within (length bytes) signer signature passed bytes

-- the walk from a point on over the bytes, before which stand those that are left over there
abbrev pub walk : Signer → Point → List ℕ → Walk
walk signer (unclosed signature passed left) bytes = walk_frames signer signature passed (left ++ bytes)
walk signer (closed passed) bytes = after_closing passed bytes
walk signer (failed told) bytes = stays (failed told)

-- the point of a seed: no frame passed, and no byte is left over
abbrev pub seed_point : List ℕ → Point
seed_point seed = unclosed seed 0 []

-- events that came before a walk
abbrev pub walk_onto : List Parts → Walk → Walk
walk_onto events others = record { events = events ++ others.events; at = others.at }

-- ## The answer

-- whether a chain may end at a point: right behind the closing frame, and else not: the next frame is missing, or isn't whole
abbrev pub ending : Point → Result (Unit {0}) ChainFault
ending (failed told) = Err told
ending (closed passed) = Ok tt
ending (unclosed signature passed []) = Err (NotChain (passed + 1) NoClosing)
ending (unclosed signature passed (byte ∷ left)) = Err (NotChain (passed + 1) NotFrame)

-- these events, where the chain may end at the point
abbrev pub outcome : List Parts → Point → Result (List Parts) ChainFault
outcome events at = ending at >>= (λ _. Ok events)

-- the outcome of a walk after these events
abbrev pub walk_outcome : List Parts → Walk → Result (List Parts) ChainFault
walk_outcome events walked = outcome (events ++ walked.events) walked.at

-- the events of the chain that bytes are under a seed, or the first test that they fail
unfoldable pub chain_events : Signer → List ℕ → List ℕ → Result (List Parts) ChainFault
chain_events signer seed bytes = walk_outcome [] (walk signer (seed_point seed) bytes)

-- they are the answer, or memory ran out
abbrev pub AnswersChain : Result (List Parts) ChainFault → Result (Vec Parts) ChainFault → Type 0
AnswersChain wanted (Ok events) = wanted ≡ Ok events.items
AnswersChain wanted (Err told) = (wanted ≡ Err told) ⊎ (told ≡ NoMemory)
