use Rattle.std.proofs.Common.{◌≡◌}
use Rattle.aws_auth.specs.MessageSigner.{running_signature, signer_in, told_of}
use Rattle.signed_stream.proofs.SealLemmas.{IsAt}
use Rattle.signed_stream.proofs.chain.stream_events.Given as goal

-- the frames before this place were written, each at the moment that was taken for it
abbrev pub invariant-frames : goal.invariant-frames
invariant-frames g l =
    let sink = g.K.ByteSink in
    record {
      count : sink.faults l.sink ≡ sink.faults l.fn.sink;
      at : IsAt g.C.Clock l.form (signer_in l.fn.signer) l.fn.events.items (running_signature l.fn.signer) (sink.held l.fn.sink) l.fn.moments.items l.fn.clock
          (sink.held l.sink) l.moments.items l.clock l.place l.left.items (told_of l.signer);
    }
