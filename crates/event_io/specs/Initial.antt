-- What a marshaller of events answers that passes on messages in their place.
use Rattle.std.specs.Prelude.{◌≡◌, Result, Ok}
use Rattle.smithy_core.specs.Message.{Parts}
use Rattle.eventstream.specs.declared.error.Error.{Error}
use Rattle.eventstream.specs.declared.marshall.MarshallMessage as MarshallMessage
use Rattle.event_io.specs.declared.initial.EventOrInitial.{EventOrInitial}
use Rattle.event_io.specs.declared.initial.EventOrInitial.TheVariants.{Event, InitialMessage}
use Rattle.event_io.specs.declared.initial.EventOrInitialMarshaller.{EventOrInitialMarshaller}

-- a marshaller that hands events to this one
abbrev pub marshaller_over : {M : Type 0} → M → EventOrInitialMarshaller M
marshaller_over inner = record { inner = inner }

-- the marshaller that events are handed to
abbrev pub inner_of : {M : Type 0} → EventOrInitialMarshaller M → M
inner_of marshaller = marshaller.inner

-- an event is marshalled by the inner marshaller, and a message passed on
abbrev pub MarshalsOrPasses : {M T : Type 0} → MarshallMessage.Ghosts M T → EventOrInitialMarshaller M → EventOrInitial T → Result Parts Error → Type 0
MarshalsOrPasses inner marshaller (Event event) answer = inner.answers (inner_of marshaller) event answer
MarshalsOrPasses inner marshaller (InitialMessage message) answer = answer ≡ Ok message

-- the same message, or a copy of the event
abbrev pub IsSameEvent : {T : Type 0} → (T → T → Type 0) → EventOrInitial T → EventOrInitial T → Type 0
IsSameEvent copies (Event event) (Event copy) = copies event copy
IsSameEvent copies (InitialMessage message) (InitialMessage copy) = copy ≡ message
IsSameEvent copies _ _ = ⊥
