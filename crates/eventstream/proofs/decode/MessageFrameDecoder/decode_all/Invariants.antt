use Rattle.std.proofs.Common.{◌≡◌, ◌≤◌, ◌++◌, length}
use Rattle.eventstream.specs.Decode.{Takes, appended_messages, undecoded_bytes}
use Rattle.eventstream.proofs.decode.MessageFrameDecoder.decode_all.Given as goal

-- the messages that were appended were taken, and nothing else
abbrev pub invariant-loop-self : goal.invariant-loop-self
invariant-loop-self l = record {
  after : l.messages.items ≡ l.fn.messages.items ++ appended_messages l.fn.messages.items l.messages.items;
  taken : Takes (appended_messages l.fn.messages.items l.messages.items) l.fn.self l.fn.buffer l.self l.buffer;
  spare : l.fn.buffer.spare ≤ l.buffer.spare;
}

-- each message takes a byte at least
abbrev pub decreases-loop-self : goal.decreases-loop-self
decreases-loop-self l = length (undecoded_bytes l.self l.buffer.bytes)
