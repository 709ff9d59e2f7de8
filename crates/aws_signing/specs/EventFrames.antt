-- What a stream of signed events is, and what framing an event promises: the frames are links of the chain of `eventstream/specs/Link.antt`.
use Rattle.std.specs.Prelude.{◌≡◌, ◌⊎◌, ℕ, suc, List, [], ◌∷◌, ◌++◌, length, replicate, Option, Some, None, option_map, Result, Ok, Err}
use Rattle.std.specs.Global.{Vec}
use Rattle.std.specs.Option.{option_or}
use Rattle.smithy_core.specs.Message.{Parts}
use Rattle.smithy_core.specs.Moment.{Instant}
use Rattle.eventstream.specs.Frame.{frame, unframed}
use Rattle.eventstream.specs.Link.{chain, link_message, link_signature}
use Rattle.eventstream.specs.declared.error.ErrorKind.{ErrorKind}
use Rattle.event_io.specs.Adapter.{FramesMessage}
use Rattle.sigv4.specs.ChunkTold.{unsigned_chunk_at}
use Rattle.sigv4.specs.EventStream.{failed_encoding}
use Rattle.sigv4.specs.declared.error.SigningError.{SigningError}
use Rattle.sigv4.specs.declared.error.SigningError.TheVariants.{NoMemory}
use Rattle.aws_signing.specs.KeyHolder.{HeldKey, key_kept}
use Rattle.aws_signing.specs.SigningBy.{SigningState}
use Rattle.aws_signing.specs.SigningFaults.{of_signing}
use Rattle.aws_signing.specs.declared.fault.AwsSigningError.{AwsSigningError}
use Rattle.aws_signing.specs.declared.fault.AwsSigningError.TheVariants as faults

-- who signs, with the key that is kept, and the last signature
pub record EventsState : Type 0 where
  pub holder : HeldKey
  pub signature : List ℕ

-- the events that go on from the signature of a signer's request
abbrev pub begun_events : SigningState → List ℕ → EventsState
begun_events by signature = record { holder = by.holder; signature = signature }

-- the events with the key of a moment kept
abbrev pub events_kept : EventsState → Instant → EventsState
events_kept events at = record events { holder = key_kept events.holder at }

-- the signed message of bytes at a moment, over the last signature
abbrev pub next_link : EventsState → List ℕ → Instant → Parts
next_link events bytes at = link_message events.holder.kept.signer events.signature bytes at

-- the events behind it
abbrev pub after_link : EventsState → List ℕ → Instant → EventsState
after_link events bytes at = record (events_kept events at) { signature = link_signature events.holder.kept.signer events.signature bytes at }

-- why there is no frame of the bytes of a message, which may have none itself: the moment lies outside the years 0 to 9999, the message has no frame, or
-- the signed message has none
abbrev pub frame_refusal : Option ErrorKind → EventsState → List ℕ → Instant → Option SigningError
frame_refusal unfit events bytes at =
    option_or (unsigned_chunk_at at) (option_or (option_map failed_encoding unfit) (option_map failed_encoding (unframed (next_link events bytes at))))

-- the frame of the next link, and the events go on behind it; or why there is none, or memory ran out, and the last signature stays
abbrev pub FramesLink : Option ErrorKind → EventsState → List ℕ → Instant → Result (List ℕ) SigningError → EventsState → Type 0
FramesLink unfit old bytes at (Ok framed) new =
    (frame_refusal unfit old bytes at ≡ None) × (framed ≡ frame (next_link old bytes at)) × (new ≡ after_link old bytes at)
FramesLink unfit old bytes at (Err error) new = ((frame_refusal unfit old bytes at ≡ Some error) ⊎ (error ≡ NoMemory)) × (new ≡ events_kept old at)

-- the same of an event, the error as one of this crate
abbrev pub FramesEvent : EventsState → Parts → Instant → Result (List ℕ) AwsSigningError → EventsState → Type 0
FramesEvent old message at (Ok framed) new = FramesLink (unframed message) old (frame message) at (Ok framed) new
FramesEvent old message at (Err fault) new =
    (error : SigningError) × FramesLink (unframed message) old (frame message) at (Err error) new × (fault ≡ of_signing error)

-- the frame that ends the stream, or why there is none
abbrev pub ClosesEvents : EventsState → Instant → Result (List ℕ) AwsSigningError → Type 0
ClosesEvents events at (Ok framed) = FramesLink None events [] at (Ok framed) (after_link events [] at)
ClosesEvents events at (Err fault) =
    (error : SigningError) × FramesLink None events [] at (Err error) (events_kept events at) × (fault ≡ of_signing error)

-- why messages and the end have no frames, each signed at a moment over the signature before it: the first reason
abbrev pub stream_refusal : EventsState → List Parts → Instant → Option SigningError
stream_refusal events [] at = frame_refusal None events [] at
stream_refusal events (message ∷ messages) at =
    option_or (frame_refusal (unframed message) events (frame message) at) (stream_refusal (after_link events (frame message) at) messages at)

-- the chain of messages that are all signed at a moment, and of the end
abbrev pub stream_frames : EventsState → List Parts → Instant → List (List ℕ)
stream_frames events messages at = chain events.holder.kept.signer messages (replicate (suc (length messages)) at) events.signature

-- its frames, or why there are none, or memory ran out
abbrev pub FramesAll : EventsState → List Parts → Instant → Result (Vec (List ℕ)) AwsSigningError → Type 0
FramesAll events messages at (Ok frames) = (stream_refusal events messages at ≡ None) × (frames.items ≡ stream_frames events messages at)
FramesAll events messages at (Err fault) =
    ((error : SigningError) × (stream_refusal events messages at ≡ Some error) × (fault ≡ of_signing error)) ⊎ (fault ≡ faults.NoMemory)

-- ## On the way

-- of all messages the first have these frames, and what follows them is what the rest gives
pub record IsChainedSoFar (start now : EventsState) (all rest : List Parts) (at : Instant) (frames : List (List ℕ)) : Type 0 where
  pub refusal : stream_refusal start all at ≡ stream_refusal now rest at
  pub chained : stream_frames start all at ≡ frames ++ stream_frames now rest at

-- the frame of a signed message, or why it has none, as an error of signing, or memory ran out
abbrev pub FramesSigned : Parts → Result (List ℕ) SigningError → Type 0
FramesSigned message (Ok framed) = FramesMessage message (Ok framed)
FramesSigned message (Err error) = (option_map failed_encoding (unframed message) ≡ Some error) ⊎ (error ≡ NoMemory)

-- the same, and the signature comes in place of the last one where there is a frame
abbrev pub GoesOnBy : Parts → List ℕ → EventsState → Result (List ℕ) SigningError → EventsState → Type 0
GoesOnBy message signature old (Ok framed) new = FramesSigned message (Ok framed) × (new ≡ record old { signature = signature })
GoesOnBy message signature old (Err error) new = FramesSigned message (Err error) × (new ≡ old)
