-- Lemmas on events in signed messages.
use Rattle.std.proofs.Common.{◌≡◌, ◌<◌, ◌≤◌, ℕ, List, [], ◌∷◌, length, drop, Option, Some, None, ap, arith, refl, subst, sym, ◌∙◌}
use Rattle.std.proofs.lemmas.List.{length-drop}
use Rattle.std.specs.Prelude.{Result, Ok, Err}
use Rattle.smithy_core.specs.Message.{Parts}
use Rattle.smithy_core.specs.Moment.{Instant}
use Rattle.eventstream.specs.Error.{error_kind}
use Rattle.eventstream.specs.Texts.{Tells}
use Rattle.eventstream.specs.declared.error.Error.{Error as Refusal}
use Rattle.eventstream.specs.declared.unmarshall.UnmarshalledMessage.{UnmarshalledMessage}
use Rattle.eventstream.specs.declared.unmarshall.UnmarshalledMessage.TheVariants as made
use Rattle.event_io.specs.SignedEvent.{Unwraps, UnwrapsAt, UnwrapsHeld, UnwrapsPayload, no_date, signed_date}
use Rattle.event_io.specs.declared.signed_event.SignedEvent.{SignedEvent}
use Rattle.event_io.specs.declared.signed_event.SignedEvent.TheVariants as signed

module _ {T E : Type 0} (answers : Parts → Result (UnmarshalledMessage T E) Refusal → Type 0) where
  -- a message without a moment is refused
  pub undated : (message : Parts) (refusal : Refusal) → signed_date message.headers ≡ None → Tells no_date (error_kind refusal) → Unwraps answers message (Err refusal)
  undated message refusal none tells =
      let P : Option Instant → Type 0 = λ when. UnwrapsAt answers when message.payload (Err refusal) in subst P (sym none) tells

  at_date : (message : Parts) (date : Instant) (answer : Result (UnmarshalledMessage (SignedEvent T) E) Refusal) → signed_date message.headers ≡ Some date
      → UnwrapsPayload answers date message.payload answer → Unwraps answers message answer
  at_date message date answer some unwraps =
      let P : Option Instant → Type 0 = λ when. UnwrapsAt answers when message.payload answer in subst P (sym some) unwraps

  no_payload : (payload : List ℕ) (date : Instant) → length payload ≡ 0 → UnwrapsPayload answers date payload (Ok (made.Event (signed.Closing date)))
  no_payload [] date none = refl
  no_payload (byte ∷ bytes) date none = absurd (omega arith)

  -- a message without a payload ends the stream
  pub closing : (message : Parts) (date : Instant) → signed_date message.headers ≡ Some date → length message.payload ≡ 0
      → Unwraps answers message (Ok (made.Event (signed.Closing date)))
  closing message date some none = at_date message date (Ok (made.Event (signed.Closing date))) some (no_payload message.payload date none)

  some_payload : (payload : List ℕ) (date : Instant) (answer : Result (UnmarshalledMessage (SignedEvent T) E) Refusal) → 0 < length payload
      → UnwrapsHeld answers date payload answer → UnwrapsPayload answers date payload answer
  some_payload [] date answer some held = absurd (omega arith)
  some_payload (byte ∷ bytes) date answer some held = held

  -- a payload is unwrapped
  pub filled : (message : Parts) (date : Instant) (answer : Result (UnmarshalledMessage (SignedEvent T) E) Refusal) → signed_date message.headers ≡ Some date
      → 0 < length message.payload → UnwrapsHeld answers date message.payload answer → Unwraps answers message answer
  filled message date answer some bytes held = at_date message date answer some (some_payload message.payload date answer bytes held)

-- bytes are left behind a part of others, where it isn't all of them
pub left_over : (len part : ℕ) (bytes : List ℕ) → len ≡ part → len ≤ length bytes → (len ≡ length bytes → ⊥) → drop part bytes ≡ [] → ⊥
left_over len part bytes same within other none =
    other (let left = sym (length-drop part bytes) ∙ ap (λ (rest : List ℕ). length rest) none in omega arith)
