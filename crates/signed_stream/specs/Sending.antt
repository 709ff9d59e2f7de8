-- What sending to a sink promises, a text or a chain, to the functions that send; a reader of `run` needs none of it.
use Rattle.std.specs.Prelude.{◌≡◌, ℕ, ◌+◌, ◌≤◌, ◌⊎◌, List, [], ◌∷◌, ◌++◌, length, Result, Ok, Err, Option, Some, None}
use Rattle.smithy_core.specs.Message.{Parts}
use Rattle.smithy_core.specs.Moment.{Instant}
use Rattle.smithy_core.specs.Outside.{Gains, GainsPrefix}
use Rattle.eventstream.specs.Error.{error_kind}
use Rattle.eventstream.specs.Frame.{frame, unframed}
use Rattle.eventstream.specs.Key.{Signer}
use Rattle.eventstream.specs.Link.{link_message, link_signature}
use Rattle.eventstream.specs.Told.{Told, signs_over}
use Rattle.eventstream.specs.Write.{IsFrameFault}
use Rattle.eventstream.specs.declared.error.ErrorKind.{ErrorKind}
use Rattle.eventstream.specs.declared.error.ErrorKind.TheVariants as reasons
use Rattle.eventstream.specs.declared.sign_error.SignMessageError.{SignMessageError}
use Rattle.eventstream.specs.declared.sign_error.SignMessageError.TheVariants as signing
use Rattle.event_io.specs.Chain.{next_bytes}
use Rattle.signed_stream.specs.Chain.{fault_at, first_refusal, outside_years, refusal_fault, streamed_text, unlinked}
use Rattle.signed_stream.specs.Status.{Ending, RunFault, moment_out_of_range, no_memory, output_fault, refused, stream_ending}
use Rattle.signed_stream.specs.declared.form.Form.{Form}
use Rattle.signed_stream.specs.declared.status.StreamFault.{StreamFault}

-- ## A text

-- how sending ends early: where the text is written it is refused for the fault; where the sink fails or memory runs out a prefix of the text is
abbrev pub EndsEarly : Option RunFault → List ℕ → Option (List ℕ) → Option (List ℕ) → Ending → Type 0
EndsEarly fault text before now (refused reason) = (fault ≡ Some reason) × Gains before now text
EndsEarly fault text before now output_fault = GainsPrefix before now text
EndsEarly fault text before now no_memory = GainsPrefix before now text
EndsEarly fault text before now end = ⊥

-- the text is written, and then the answer is the fault, where there is one; the sink may fail and memory may run out before
abbrev pub Sends : {T : Type 0} → Option RunFault → List ℕ → Option (List ℕ) → Option (List ℕ) → Result T StreamFault → Type 0
Sends fault text before now (Ok _) = (fault ≡ None) × Gains before now text
Sends fault text before now (Err reason) = EndsEarly fault text before now (stream_ending reason)

-- the line of a message, and nothing where there is a fault
abbrev pub unless_refused : Option RunFault → List ℕ → List ℕ
unless_refused None line = line
unless_refused (Some fault) line = []

-- ## One frame

-- why the frame at a place isn't sent at a moment over the signature before it: that of the next event, or the closing one
abbrev pub next_refused : Signer → ℕ → List ℕ → List Parts → Instant → Option RunFault
next_refused who place signature [] t = outside_years t
next_refused who place signature (event ∷ events) t = unlinked who place signature event t

-- how a run ends for that reason, and that it is one
abbrev pub IsRefusedBy : Signer → ℕ → List ℕ → List Parts → Instant → Ending → Type 0
IsRefusedBy who place signature events t end = (fault : RunFault) × (end ≡ refused fault) × (next_refused who place signature events t ≡ Some fault)

-- why a message isn't written: it has no frame, or memory ran out
abbrev pub IsWriteFault : ErrorKind → Type 0
IsWriteFault reasons.NoMemory = Unit {0}
IsWriteFault kind = IsFrameFault kind

-- how the run ends with one at a place
abbrev pub write_ending : ℕ → ErrorKind → Ending
write_ending place reasons.NoMemory = no_memory
write_ending place kind = refused (fault_at place kind)

-- the refusals of a signer that has a secret, and that memory ran out
abbrev pub IsSignFault : SignMessageError → Type 0
IsSignFault (signing.FailedToEncodeMessage error) = IsWriteFault (error_kind error)
IsSignFault (signing.MomentOutOfRange t) = Unit {0}
IsSignFault signing.NoMemory = Unit {0}
IsSignFault error = ⊥

-- how the run ends with one at a place
abbrev pub sign_ending : ℕ → SignMessageError → Ending
sign_ending place (signing.FailedToEncodeMessage error) = write_ending place (error_kind error)
sign_ending place (signing.MomentOutOfRange t) = refused (moment_out_of_range t)
sign_ending place error = no_memory

-- these are the bytes of the frame of the message at a place; or it has none, or memory ran out
abbrev pub PutsFrame : ℕ → Parts → List ℕ → Result (Unit {0}) StreamFault → Type 0
PutsFrame place message bytes (Ok _) = (unframed message ≡ None) × (bytes ≡ frame message)
PutsFrame place message bytes (Err fault) =
    (kind : ErrorKind) × ((unframed message ≡ Some kind) ⊎ (kind ≡ reasons.NoMemory)) × (stream_ending fault ≡ write_ending place kind)

-- these are the bytes of the frame of the first of these events, or of the closing one, signed at a moment over the signature before it, from whose own
-- the signer goes on; or it is refused, or memory ran out
abbrev pub Seals : Signer → ℕ → List ℕ → List Parts → Instant → List ℕ → Told → Result (Unit {0}) StreamFault → Type 0
Seals who place signature events t bytes told (Ok _) =
    (next_refused who place signature events t ≡ None)
    × (bytes ≡ frame (link_message who signature (next_bytes events) t))
    × (told ≡ signs_over (link_signature who signature (next_bytes events) t) who)
Seals who place signature events t bytes told (Err fault) = (stream_ending fault ≡ no_memory) ⊎ IsRefusedBy who place signature events t (stream_ending fault)

-- ## The chain

-- who signs, by what is told of a signer, and over which signature
abbrev pub told_signer : Told → Signer
told_signer (signs_over signature who) = who
told_signer told = record { secret = []; region = []; name = [] }

abbrev pub told_signature : Told → List ℕ
told_signature (signs_over signature who) = signature
told_signature told = []

-- a signer of a chain
abbrev pub IsSealer : Told → Type 0
IsSealer told = told ≡ signs_over (told_signature told) (told_signer told)

-- with no fault each event and the closing frame had its moment
abbrev pub IsWhole : {T : Type 0} → List Parts → List Instant → Result T StreamFault → Type 0
IsWhole events moments (Ok _) = length moments ≡ length events + 1
IsWhole events moments (Err _) = Unit {0}

-- a moment was taken only where the moments before it refuse no event, and each of them had its own
abbrev pub TakesInTurn : Signer → List Parts → List ℕ → List Instant → Type 0
TakesInTurn who events seed moments =
    (front : List Instant) (t : Instant) (rest : List Instant) → moments ≡ front ++ t ∷ rest
    → (first_refusal who 1 events front seed ≡ None) × (length front ≤ length events)

-- the frames of the events for the moments taken were sent, up to the first that is refused
pub record SendsChain {T : Type 0} (form : Form) (who : Signer) (events : List Parts) (seed : List ℕ) (before now : Option (List ℕ)) (moments : List Instant) (answer : Result T StreamFault) : Type 0 where
  pub sends : let refusal = first_refusal who 1 events moments seed in
      Sends (refusal_fault refusal) (streamed_text form who events moments seed refusal) before now answer
  pub whole : IsWhole events moments answer
  pub next : TakesInTurn who events seed moments

-- a head was sent, and then these frames
pub record SendsAll {T : Type 0} (form : Form) (head : List ℕ) (who : Signer) (events : List Parts) (seed : List ℕ) (before now : Option (List ℕ)) (moments : List Instant) (answer : Result T StreamFault) : Type 0 where
  pub sends : let refusal = first_refusal who 1 events moments seed in
      Sends (refusal_fault refusal) (head ++ streamed_text form who events moments seed refusal) before now answer
  pub whole : IsWhole events moments answer
  pub next : TakesInTurn who events seed moments
