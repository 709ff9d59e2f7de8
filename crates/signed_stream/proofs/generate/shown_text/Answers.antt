use Rattle.std.proofs.Common.{◌∙◌}
use Rattle.signed_stream.proofs.GenerateLemmas.{shown_is, stream_long, stream_signature}
use Rattle.signed_stream.proofs.generate.shown_text.Goals as goal

pub closing_signature-requires : goal.closing_signature-requires
closing_signature-requires c = stream_long c.as_slice-bytes.result.now c.args.events.now (c.as_slice-bytes.ensures.value ∙ c.in_ok-stream.ensures)

pub returns : goal.returns
returns c =
    let is = c.as_slice-bytes.ensures.value ∙ c.in_ok-stream.ensures in
    let signature = c.as_str-signature.ensures.value ∙ c.in_ok-signature.ensures ∙ stream_signature c.as_slice-bytes.result.now c.args.events.now is in
    rw (← shown_is c.args.events.now c.as_slice-bytes.result.now c.as_str-signature.result.now is signature) c.format.ensures.ok
