use Rattle.std.proofs.Common.{ap}
use Rattle.std.specs.Prelude.{Err}
use Rattle.smithy_core.specs.contracts.outside.clock.FixedClockClock.TheImpl as fixed
use Rattle.aws_auth.specs.MessageSigner.{running_signature, signer_in}
use Rattle.signed_stream.proofs.GenerateLemmas.{moments_same, never_rises, seals_for, streaming_done, streaming_wants}
use Rattle.signed_stream.proofs.generate.stream_by.Goals as goal

pub returns-in-Ok : goal.returns-in-Ok
returns-in-Ok c =
    let sends = rw c.in_ok-copies.ensures at c.in-Ok.ensures.sends in
    let moments = moments_same fixed.ghosts (λ before moment now gives. gives) c.new-clock.result c.stream_events.new.clock sends.0 (rw c.moment.ensures at c.new-clock.ensures.at) sends.2 in
    streaming_done c.args.events.now sends.0 c.stream_events.new.sink c.requires.drawn moments (rw (seals_for c.args.signer c.requires.sealed, c.requires.sealed.signature, c.new-sink.ensures.held) at sends.3)

pub stream_without_memory-requires : goal.stream_without_memory-requires
stream_without_memory-requires c =
    let sends = rw c.in_ok-copies.ensures at c.in-Err.ensures.sends in
    let moments = moments_same fixed.ghosts (λ before moment now gives. gives) c.new-clock.result c.stream_events.new.clock sends.0 (rw c.moment.ensures at c.new-clock.ensures.at) sends.2 in
    streaming_wants (signer_in c.args.signer) c.args.events.now sends.0 (running_signature c.args.signer) _ _ c.in-Err.fault c.requires.drawn moments (λ is. never_rises (c.in-Err.ensures.counts.rose (ap Err is))) sends.3
