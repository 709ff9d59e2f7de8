use Rattle.std.proofs.Common.{◌≡◌, length}
use Rattle.smithy_core.specs.Outside.{GainsRest}
use Rattle.smithy_core.specs.contracts.outside.frame_source.CalmFramesFrameSource.TheImpl as calm
use Rattle.aws_auth.specs.contracts.chunk_signer.SigV4MessageSignerSigningSettingsSignChunk.TheImpl as sealing
use Rattle.aws_chunked.specs.SoundBody.{IsSoundBody, text_left}
use Rattle.signed_stream.proofs.show_chunked.send_body.Given as goal

-- the text that is left of the body is what the output hasn't gained yet
abbrev pub invariant-polls : goal.invariant-polls
invariant-polls g l =
    let sink = g.K.ByteSink in
    record {
      sound : IsSoundBody calm.ghosts sealing.ghosts l.body;
      count : sink.faults l.out ≡ sink.faults l.fn.out;
      left : GainsRest (sink.held l.fn.out) (sink.held l.out) (text_left calm.ghosts sealing.ghosts l.body) (text_left calm.ghosts sealing.ghosts l.fn.body);
    }

abbrev pub decreases-polls : goal.decreases-polls
decreases-polls g l = length (text_left calm.ghosts sealing.ghosts l.body)
