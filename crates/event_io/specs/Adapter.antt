-- What an adapter of a stream of events promises of each call: the next item, marshalled, signed at its moment and framed.
use Rattle.std.specs.Prelude.{◌≡◌, ℕ, ◌⊎◌, List, [], ◌∷◌, ◌++◌, codes, length, Option, Some, None, Result, Ok, Err}
use Rattle.std.specs.declared.alloc.Global.{Global}
use Rattle.smithy_core.specs.Blob.{byte_count}
use Rattle.smithy_core.specs.Given.{GivesOne}
use Rattle.smithy_core.specs.Message.{Parts}
use Rattle.smithy_core.specs.Moment.{Instant}
use Rattle.smithy_core.specs.Outside.{RoseOrStands}
use Rattle.smithy_core.specs.declared.outside.clock.Clock as Clock
use Rattle.smithy_core.specs.declared.sdk_error.SdkError.TheVariants.{ConstructionFailure, NoMemory}
use Rattle.eventstream.specs.Error.{error_kind}
use Rattle.eventstream.specs.Frame.{frame, unframed}
use Rattle.eventstream.specs.Told.{Signs, SignsEmpty}
use Rattle.eventstream.specs.declared.error.Error.{Error}
use Rattle.eventstream.specs.declared.error.ErrorKind.TheVariants as kinds
use Rattle.eventstream.specs.declared.marshall.MarshallMessage as MarshallMessage
use Rattle.eventstream.specs.declared.sign.SignMessage as SignMessage
use Rattle.eventstream.specs.declared.sign_error.SignMessageError.{SignMessageError}
use Rattle.event_io.specs.AdapterFault.{SendError, send_error}
use Rattle.event_io.specs.EventSource.{IsUsedUp, TakesItem}
use Rattle.event_io.specs.declared.adapter.MessageStreamAdapter.{MessageStreamAdapter}
use Rattle.event_io.specs.declared.adapter.Next.{Next}
use Rattle.event_io.specs.declared.adapter.Next.TheVariants.{Frame, NotYet, End}
use Rattle.event_io.specs.declared.adapter.Phase.TheVariants.{Open, Ended, Closed}
use Rattle.event_io.specs.declared.adapter_fault.AdapterFault.TheVariants.{Marshall, Sign, Write}
use Rattle.event_io.specs.declared.event_source.EventSource as EventSource

-- how many bytes a frame has, or the name of another answer
abbrev pub next_size : Next → List ℕ
next_size (Frame bytes) = byte_count (codes "Frame") (length bytes)
next_size NotYet = codes "NotYet"
next_size End = codes "End"

-- the frame of the message, or why it has none, or memory ran out
abbrev pub FramesMessage : Parts → Result (List ℕ) Error → Type 0
FramesMessage message (Ok bytes) = (unframed message ≡ None) × (bytes ≡ frame message)
FramesMessage message (Err error) = (unframed message ≡ Some (error_kind error)) ⊎ (error_kind error ≡ kinds.NoMemory)

-- the frame of the message that the signer answered, or why it has none, or the signer's refusal; or memory ran out
abbrev pub Frames : Result Parts SignMessageError → Result Next SendError → Type 0
Frames (Ok message) (Ok (Frame bytes)) = (unframed message ≡ None) × (bytes ≡ frame message)
Frames (Ok message) (Err (ConstructionFailure (Write error))) = unframed message ≡ Some (error_kind error)
Frames (Err refusal) (Err (ConstructionFailure (Sign error))) = error ≡ refusal
Frames signed (Err NoMemory) = Unit {0}
Frames signed result = ⊥

-- a fault that an adapter answers isn't `NoMemory`
abbrev pub NamesSendWant : Result Next SendError → Type 0
NamesSendWant (Err (ConstructionFailure fault)) = send_error fault ≡ ConstructionFailure fault
NamesSendWant result = Unit {0}

-- one moment more, which the clock gave
abbrev pub TakesMoment : {C : Type 0} → Clock.Ghosts C → C → C → List Instant → List Instant → Instant → Type 0
TakesMoment clock before now old new t = (new ≡ old ++ t ∷ []) × GivesOne clock before t now

-- no moment more, and the clock isn't asked
abbrev pub TakesNone : {C : Type 0} → C → C → List Instant → List Instant → Type 0
TakesNone before now old new = (now ≡ before) × (new ≡ old)

module _ {S M EM G : Type 0} where
  -- an adapter that has sent nothing
  abbrev pub new_adapter : Global → M → EM → G → S → MessageStreamAdapter S M EM G
  new_adapter alloc marshaller error_marshaller signer source =
      record { alloc = alloc; marshaller = marshaller; error_marshaller = error_marshaller; signer = signer; source = source; phase = Open }

  -- the marshallers of an adapter, its signer and the source of its items
  abbrev pub adapter_parts : MessageStreamAdapter S M EM G → M × EM × G × S
  adapter_parts adapter = (adapter.marshaller, adapter.error_marshaller, adapter.signer, adapter.source)

  -- the source of an adapter's items
  abbrev pub item_source_of : MessageStreamAdapter S M EM G → S
  item_source_of adapter = adapter.source

  -- the signer of an adapter
  abbrev pub adapter_signer : MessageStreamAdapter S M EM G → G
  adapter_signer adapter = adapter.signer

  -- an adapter of copies of the same parts, which goes on where this one does
  pub record IsAdapterCopy (sources : S → S → Type 0) (marshallers : M → M → Type 0) (error_marshallers : EM → EM → Type 0) (signers : G → G → Type 0)
      (adapter copy : MessageStreamAdapter S M EM G) : Type 0 where
    pub source : sources adapter.source copy.source
    pub marshaller : marshallers adapter.marshaller copy.marshaller
    pub error_marshaller : error_marshallers adapter.error_marshaller copy.error_marshaller
    pub signer : signers adapter.signer copy.signer
    pub phase : copy.phase ≡ adapter.phase

  -- an adapter that goes on
  abbrev pub IsOpen : MessageStreamAdapter S M EM G → Type 0
  IsOpen adapter = adapter.phase ≡ Open

  -- an adapter that has asked for the empty message at the end of its items
  abbrev pub IsEnded : MessageStreamAdapter S M EM G → Type 0
  IsEnded adapter = adapter.phase ≡ Ended

  -- an adapter that ran out of memory
  abbrev pub IsClosed : MessageStreamAdapter S M EM G → Type 0
  IsClosed adapter = adapter.phase ≡ Closed

  -- the same adapter, which goes on no more
  abbrev pub closed : MessageStreamAdapter S M EM G → MessageStreamAdapter S M EM G
  closed adapter = record adapter { phase = Closed }

  -- an adapter as an answer leaves it
  abbrev pub left_by : Result Next SendError → MessageStreamAdapter S M EM G → MessageStreamAdapter S M EM G
  left_by (Err NoMemory) adapter = closed adapter
  left_by result adapter = adapter

  -- the marshallers stay
  abbrev pub KeepsMarshallers : MessageStreamAdapter S M EM G → MessageStreamAdapter S M EM G → Type 0
  KeepsMarshallers old new = new ≡ record old { signer = new.signer; source = new.source; phase = new.phase }

  -- what the marshaller of events answers for an event, and the one of errors for an error
  abbrev pub Marshals : {T E : Type 0} → MarshallMessage.Ghosts M T → MarshallMessage.Ghosts EM E → MessageStreamAdapter S M EM G → Result T E → Result Parts Error → Type 0
  Marshals marshaller error_marshaller adapter (Ok event) answer = marshaller.answers adapter.marshaller event answer
  Marshals marshaller error_marshaller adapter (Err error) answer = error_marshaller.answers adapter.error_marshaller error answer

  module _ {T E : Type 0} (source : EventSource.Ghosts S T E) (marshaller : MarshallMessage.Ghosts M T) (error_marshaller : MarshallMessage.Ghosts EM E)
      (signer : SignMessage.Ghosts G) where
    -- the signer answers this for the message of the next item
    pub record SignsItem (old new : MessageStreamAdapter S M EM G) (t : Instant) (answer : Result Parts SignMessageError) : Type 0 where
      pub item : Result T E
      pub taken : TakesItem item (source.left old.source) (source.left new.source)
      pub message : Parts
      pub marshalled : Marshals marshaller error_marshaller old item (Ok message)
      pub signed : signer.signs old.signer message t answer new.signer
      pub told : Signs (signer.told old.signer) message t answer (signer.told new.signer)
      pub goes_on : IsOpen new

    -- no item is left, and the signer answers this for the empty message
    pub record SignsEnd (old new : MessageStreamAdapter S M EM G) (t : Instant) (answer : Option (Result Parts SignMessageError)) : Type 0 where
      pub kept : source.left new.source ≡ source.left old.source
      pub used_up : IsUsedUp (source.left old.source)
      pub asked : signer.closes old.signer t answer new.signer
      pub told : SignsEmpty (signer.told old.signer) t answer (signer.told new.signer)
      pub ended : IsEnded new

    -- the signer answers this, for the next item or for the empty message at the end
    abbrev pub Asks : MessageStreamAdapter S M EM G → MessageStreamAdapter S M EM G → Instant → Result Parts SignMessageError → Type 0
    Asks old new t answer = SignsItem old new t answer ⊎ SignsEnd old new t (Some answer)

    -- the marshaller refuses the next item
    pub record RefusesItem (old new : MessageStreamAdapter S M EM G) (error : Error) : Type 0 where
      pub item : Result T E
      pub taken : TakesItem item (source.left old.source) (source.left new.source)
      pub refused : Marshals marshaller error_marshaller old item (Err error)
      pub signer_stays : new.signer ≡ old.signer
      pub goes_on : IsOpen new

    -- one item is taken at most, and the signer isn't asked
    pub record AsksNone (old new : MessageStreamAdapter S M EM G) : Type 0 where
      pub taken : (source.left new.source ≡ source.left old.source) ⊎ ((item : Result T E) × TakesItem item (source.left old.source) (source.left new.source))
      pub signer_stays : new.signer ≡ old.signer

    -- nothing has come
    pub record Waits (old new : MessageStreamAdapter S M EM G) : Type 0 where
      pub waited : RoseOrStands (source.waits old.source) (source.waits new.source)
      pub kept : source.left new.source ≡ source.left old.source
      pub signer_stays : new.signer ≡ old.signer
      pub goes_on : IsOpen new

    module _ {C : Type 0} (clock : Clock.Ghosts C) (before now : C) (old_moments moments : List Instant) where
      -- what a call of an adapter answers that goes on
      abbrev pub PollsOpen : MessageStreamAdapter S M EM G → MessageStreamAdapter S M EM G → Result Next SendError → Type 0
      PollsOpen old new (Ok NotYet) = Waits old new × TakesNone before now old_moments moments
      PollsOpen old new (Ok End) = (t : Instant) × TakesMoment clock before now old_moments moments t × SignsEnd old new t None
      PollsOpen old new (Err (ConstructionFailure (Marshall error))) = RefusesItem old new error × TakesNone before now old_moments moments
      PollsOpen old new (Err NoMemory) =
          (left : MessageStreamAdapter S M EM G) × (new ≡ closed left)
          × ((AsksNone old left × TakesNone before now old_moments moments)
          ⊎ ((t : Instant) × TakesMoment clock before now old_moments moments t × (signed : Result Parts SignMessageError) × Asks old left t signed))
      PollsOpen old new result =
          (t : Instant) × TakesMoment clock before now old_moments moments t
          × (signed : Result Parts SignMessageError) × Asks old new t signed × Frames signed result

      -- what a call answers: after the end, and where memory ran out, the end again
      abbrev pub Polls : MessageStreamAdapter S M EM G → MessageStreamAdapter S M EM G → Result Next SendError → Type 0
      Polls old new result =
          (IsOpen old × PollsOpen old new result)
          ⊎ ((IsEnded old ⊎ IsClosed old) × (result ≡ Ok End) × (new ≡ old) × TakesNone before now old_moments moments)
