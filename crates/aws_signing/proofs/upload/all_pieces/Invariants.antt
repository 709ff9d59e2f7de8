use Rattle.std.proofs.Common.{◌≡◌, ◌++◌, length}
use Rattle.smithy_core.specs.contracts.outside.frame_source.CalmFramesFrameSource.TheImpl as calm
use Rattle.aws_auth.specs.contracts.chunk_signer.SigV4MessageSignerSigningSettingsSignChunk.TheImpl as sealing
use Rattle.aws_chunked.specs.SoundBody.{IsSoundBody, text_left}
use Rattle.aws_chunked.specs.Made.{joined}
use Rattle.aws_signing.proofs.upload.all_pieces.Given as goal

-- the pieces and the text that is left of the body are its whole text
abbrev pub invariant-polls : goal.invariant-polls
invariant-polls l = record {
  sound : IsSoundBody calm.ghosts sealing.ghosts l.body;
  whole : joined l.pieces.items ++ text_left calm.ghosts sealing.ghosts l.body ≡ text_left calm.ghosts sealing.ghosts l.fn.body;
}

abbrev pub decreases-polls : goal.decreases-polls
decreases-polls l = length (text_left calm.ghosts sealing.ghosts l.body)
