-- What an adapter answers that goes on, by what its marshaller refused or its signer answered.
use Rattle.std.proofs.Common.{◌≡◌, ◌⊎◌, inl, inr, List, Result, Ok, Err, refl, sym, subst}
use Rattle.smithy_core.specs.Message.{Parts}
use Rattle.smithy_core.specs.Moment.{Instant}
use Rattle.smithy_core.specs.declared.outside.clock.Clock as Clock
use Rattle.smithy_core.specs.declared.sdk_error.SdkError.TheVariants.{ConstructionFailure, DispatchFailure, NoMemory, ResponseError, ServiceError}
use Rattle.eventstream.specs.Error.{error_kind}
use Rattle.eventstream.specs.declared.error.Error.{Error}
use Rattle.eventstream.specs.declared.error.ErrorKind.{ErrorKind}
use Rattle.eventstream.specs.declared.error.ErrorKind.TheVariants as kinds
use Rattle.eventstream.specs.declared.marshall.MarshallMessage as MarshallMessage
use Rattle.eventstream.specs.declared.sign.SignMessage as SignMessage
use Rattle.eventstream.specs.declared.sign_error.SignMessageError.{SignMessageError}
use Rattle.event_io.specs.Adapter.{Asks, AsksNone, Frames, PollsOpen, RefusesItem, TakesMoment, TakesNone, left_by}
use Rattle.event_io.specs.AdapterFault.{SendError, send_error, send_error_for}
use Rattle.event_io.specs.declared.adapter.MessageStreamAdapter.{MessageStreamAdapter}
use Rattle.event_io.specs.declared.adapter.Next.{Next}
use Rattle.event_io.specs.declared.adapter.Next.TheVariants.{Frame, NotYet, End}
use Rattle.event_io.specs.declared.adapter_fault.AdapterFault.{AdapterFault}
use Rattle.event_io.specs.declared.adapter_fault.AdapterFault.TheVariants.{Marshall, Sign, Write}
use Rattle.event_io.specs.declared.event_source.EventSource as EventSource

-- the error of an item that isn't sent is that memory ran out, or the fault
error_is : (kind : ErrorKind) (fault : AdapterFault) → (send_error_for kind fault ≡ NoMemory) ⊎ (send_error_for kind fault ≡ ConstructionFailure fault)
error_is kinds.NoMemory fault = inl refl
error_is kinds.HeadersTooLong fault = inr refl
error_is kinds.HeaderValueTooLong fault = inr refl
error_is kinds.InvalidHeaderNameLength fault = inr refl
error_is kinds.InvalidHeaderValue fault = inr refl
error_is (kinds.InvalidHeaderValueType n) fault = inr refl
error_is kinds.InvalidHeadersLength fault = inr refl
error_is kinds.InvalidMessageLength fault = inr refl
error_is kinds.InvalidUtf8String fault = inr refl
error_is (kinds.MessageChecksumMismatch a b) fault = inr refl
error_is kinds.MessageTooLong fault = inr refl
error_is kinds.PayloadTooLong fault = inr refl
error_is (kinds.PreludeChecksumMismatch a b) fault = inr refl
error_is (kinds.TimestampValueTooLarge t) fault = inr refl
error_is (kinds.Marshalling text) fault = inr refl
error_is (kinds.Unmarshalling text) fault = inr refl

module _ {S M EM G T E C : Type 0} (source : EventSource.Ghosts S T E) (marshaller : MarshallMessage.Ghosts M T) (error_marshaller : MarshallMessage.Ghosts EM E)
    (signer : SignMessage.Ghosts G) (clock : Clock.Ghosts C) (before now : C) (old_moments moments : List Instant) (old new : MessageStreamAdapter S M EM G) where
  -- with what the signer answered, framed
  pub asked : (t : Instant) (signed : Result Parts SignMessageError) (result : Result Next SendError)
      → TakesMoment clock before now old_moments moments t → Asks source marshaller error_marshaller signer old new t signed → Frames signed result
      → PollsOpen source marshaller error_marshaller signer clock before now old_moments moments old (left_by result new) result
  asked t signed (Ok (Frame bytes)) takes asks frames = (t, takes, signed, asks, frames)
  asked t (Ok message) (Ok NotYet) takes asks frames = absurd frames
  asked t (Err refusal) (Ok NotYet) takes asks frames = absurd frames
  asked t (Ok message) (Ok End) takes asks frames = absurd frames
  asked t (Err refusal) (Ok End) takes asks frames = absurd frames
  asked t (Ok message) (Err (ConstructionFailure (Marshall error))) takes asks frames = absurd frames
  asked t (Err refusal) (Err (ConstructionFailure (Marshall error))) takes asks frames = absurd frames
  asked t signed (Err (ConstructionFailure (Sign error))) takes asks frames = (t, takes, signed, asks, frames)
  asked t signed (Err (ConstructionFailure (Write error))) takes asks frames = (t, takes, signed, asks, frames)
  asked t signed (Err DispatchFailure) takes asks frames = (t, takes, signed, asks, frames)
  asked t signed (Err (ResponseError fault raw)) takes asks frames = (t, takes, signed, asks, frames)
  asked t signed (Err (ServiceError fault raw)) takes asks frames = (t, takes, signed, asks, frames)
  asked t signed (Err NoMemory) takes asks frames = (new, refl, inr (t, takes, signed, asks))

  -- memory ran out before the signer was asked
  pub ran_out : AsksNone source marshaller error_marshaller signer old new → TakesNone before now old_moments moments
      → PollsOpen source marshaller error_marshaller signer clock before now old_moments moments old (left_by (Err NoMemory) new) (Err NoMemory)
  ran_out unasked none = (new, refl, inl (unasked, none))

  -- with the refusal of a marshaller
  pub refused : (error : Error) (result : SendError) → result ≡ send_error (Marshall error)
      → RefusesItem source marshaller error_marshaller signer old new error → TakesNone before now old_moments moments
      → PollsOpen source marshaller error_marshaller signer clock before now old_moments moments old (left_by (Err result) new) (Err result)
  refused error result is refuses none = subst Polled (sym is) (by (error_is (error_kind error) (Marshall error))) where
    Polled : SendError → Type 0
    Polled result = PollsOpen source marshaller error_marshaller signer clock before now old_moments moments old (left_by (Err result) new) (Err result)

    by : (send_error (Marshall error) ≡ NoMemory) ⊎ (send_error (Marshall error) ≡ ConstructionFailure (Marshall error)) → Polled (send_error (Marshall error))
    by (inl wants) = subst Polled (sym wants) (ran_out (record { taken = inr (refuses.item, refuses.taken); signer_stays = refuses.signer_stays }) none)
    by (inr tells) = subst Polled (sym tells) (refuses, none)
