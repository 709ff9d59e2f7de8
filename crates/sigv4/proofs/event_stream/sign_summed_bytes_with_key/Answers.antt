use Rattle.std.proofs.Common.{ap, sym, ◌∙◌}
use Rattle.mac_core.specs.Crc.{after_bytes, before_any}
use Rattle.smithy_core.specs.Message.{Parts}
use Rattle.eventstream.specs.Link.{link_message}
use Rattle.sigv4.proofs.event_stream.sign_summed_bytes_with_key.Goals as goal

-- the payload of what was signed is the bytes
pub summed-requires : goal.summed-requires
unfolding link_message
summed-requires c = c.requires.checksum ∙ sym (ap (λ (message : Parts). after_bytes before_any message.payload) c.in_ok-signed.ensures.1)
