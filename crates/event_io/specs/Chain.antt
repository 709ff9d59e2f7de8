-- What an adapter answers whose items are messages as they are, and whose signer signs them: the frames of a chain, one by one.
use Rattle.std.specs.Prelude.{◌≡◌, ℕ, ◌⊎◌, List, [], ◌∷◌, ◌++◌, map, Option, Some, None, Result, Ok, Err}
use Rattle.smithy_core.specs.Message.{Parts}
use Rattle.smithy_core.specs.Moment.{Instant}
use Rattle.smithy_core.specs.Outside.{RoseOrStands}
use Rattle.smithy_core.specs.declared.outside.clock.Clock as Clock
use Rattle.smithy_core.specs.declared.sdk_error.SdkError.TheVariants.{ConstructionFailure, NoMemory}
use Rattle.eventstream.specs.Error.{error_kind}
use Rattle.eventstream.specs.Frame.{frame, unframed}
use Rattle.eventstream.specs.Key.{Signer}
use Rattle.eventstream.specs.Link.{begun, link_message, link_signature}
use Rattle.eventstream.specs.Told.{signs_over, unsigned_at, unsigned_message}
use Rattle.eventstream.specs.declared.error.Error.{Error}
use Rattle.eventstream.specs.declared.marshall.MarshallMessage as MarshallMessage
use Rattle.eventstream.specs.declared.sign.SignMessage as SignMessage
use Rattle.eventstream.specs.declared.sign_error.SignMessageError.{SignMessageError}
use Rattle.event_io.specs.Adapter.{IsEnded, IsOpen, TakesMoment, TakesNone}
use Rattle.event_io.specs.AdapterFault.{SendError}
use Rattle.event_io.specs.declared.adapter.MessageStreamAdapter.{MessageStreamAdapter}
use Rattle.event_io.specs.declared.adapter.Next.{Next}
use Rattle.event_io.specs.declared.adapter.Next.TheVariants.{Frame, NotYet}
use Rattle.event_io.specs.declared.adapter_fault.AdapterFault.TheVariants.{Sign, Write}
use Rattle.event_io.specs.declared.event_source.EventSource as EventSource

-- a marshaller that takes messages as they are
abbrev pub IsIdentity : {M : Type 0} → MarshallMessage.Ghosts M Parts → Type 0
IsIdentity {M = M} marshaller = (m : M) (message : Parts) (answer : Result Parts Error) → marshaller.answers m message answer → answer ≡ Ok message

-- the bytes that are signed next: the frame of the next event, or none at the end
abbrev pub next_bytes : List Parts → List ℕ
next_bytes [] = []
next_bytes (event ∷ events) = frame event

-- why the next event, or the end, isn't signed at a moment
abbrev pub next_unsigned : List Parts → Instant → Option SignMessageError
next_unsigned [] t = unsigned_at t
next_unsigned (event ∷ events) t = unsigned_message event t

module _ {S M EM G E : Type 0} (source : EventSource.Ghosts S Parts E) (signer : SignMessage.Ghosts G) where
  -- an adapter that goes on, with these events left, whose signer signs over this signature
  pub record Chains (who : Signer) (events : List Parts) (signature : List ℕ) (adapter : MessageStreamAdapter S M EM G) : Type 0 where
    pub goes_on : IsOpen adapter
    pub left : source.left adapter.source ≡ Some (map (λ event. Ok event) events)
    pub told : signer.told adapter.signer ≡ signs_over signature who

  -- an adapter after the next event, whose signer signs over this signature, or after the end
  abbrev pub ChainsOn : Signer → List Parts → List ℕ → MessageStreamAdapter S M EM G → Type 0
  ChainsOn who [] signature adapter = IsEnded adapter
  ChainsOn who (event ∷ events) signature adapter = Chains who events signature adapter

  -- the frames that an adapter has answered at these moments, which with those to come are the frames of the events
  abbrev pub HasSent : Signer → List Parts → List ℕ → List (List ℕ) → List Instant → MessageStreamAdapter S M EM G → Type 0
  HasSent who events signature frames moments adapter =
      ((left : List Parts) × (next : List ℕ) × Chains who left next adapter
      × ((more : List Instant) → frames ++ begun who left more next ≡ begun who events (moments ++ more) signature))
      ⊎ (IsEnded adapter × (frames ≡ begun who events moments signature))

  module _ {C : Type 0} (clock : Clock.Ghosts C) (before now : C) (old_moments moments : List Instant) (who : Signer) where
    -- what a call answers: the frame of the next link at a moment of the clock, or why there is none
    abbrev pub PollsChain : List Parts → List ℕ → MessageStreamAdapter S M EM G → MessageStreamAdapter S M EM G → Result Next SendError → Type 0
    PollsChain events signature old new (Ok (Frame bytes)) =
        (t : Instant) × TakesMoment clock before now old_moments moments t
        × (next_unsigned events t ≡ None) × (unframed (link_message who signature (next_bytes events) t) ≡ None)
        × (bytes ≡ frame (link_message who signature (next_bytes events) t))
        × ChainsOn who events (link_signature who signature (next_bytes events) t) new
    PollsChain events signature old new (Ok NotYet) =
        RoseOrStands (source.waits old.source) (source.waits new.source) × Chains who events signature new × TakesNone before now old_moments moments
    PollsChain events signature old new (Err (ConstructionFailure (Sign error))) =
        (t : Instant) × TakesMoment clock before now old_moments moments t × (next_unsigned events t ≡ Some error)
        × ChainsOn who events signature new
    PollsChain events signature old new (Err (ConstructionFailure (Write error))) =
        (t : Instant) × TakesMoment clock before now old_moments moments t
        × (next_unsigned events t ≡ None) × (unframed (link_message who signature (next_bytes events) t) ≡ Some (error_kind error))
        × ChainsOn who events (link_signature who signature (next_bytes events) t) new
    PollsChain events signature old new (Err NoMemory) = TakesNone before now old_moments moments ⊎ ((t : Instant) × TakesMoment clock before now old_moments moments t)
    PollsChain events signature old new result = ⊥

    -- the signer signs over this signature as before, or over that of the next link at a moment of the clock
    abbrev pub StaysWithinLink : List Parts → List ℕ → MessageStreamAdapter S M EM G → Type 0
    StaysWithinLink events signature new =
        (signer.told new.signer ≡ signs_over signature who)
        ⊎ ((t : Instant) × TakesMoment clock before now old_moments moments t × (signer.told new.signer ≡ signs_over (link_signature who signature (next_bytes events) t) who))
