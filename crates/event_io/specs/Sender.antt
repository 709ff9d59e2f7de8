-- What contracts see of a sender of events: the source of its events.
use Rattle.event_io.specs.declared.sender.EventStreamSender.{EventStreamSender}

-- a sender of the events of a source
abbrev pub sender_over : {S : Type 0} → S → EventStreamSender S
sender_over source = record { source = source }

-- the source of a sender's events
abbrev pub source_of : {S : Type 0} → EventStreamSender S → S
source_of sender = sender.source
