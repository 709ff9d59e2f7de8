use Rattle.std.proofs.Common.{List, ℕ, ◌++◌, ap, sym, ◌∙◌, append-nil}
use Rattle.smithy_core.specs.contracts.outside.frame_source.CalmFramesFrameSource.TheImpl as calm
use Rattle.aws_auth.specs.contracts.chunk_signer.SigV4MessageSignerSigningSettingsSignChunk.TheImpl as sealing
use Rattle.aws_chunked.proofs.SoundBodyLemmas.{closed_left}
use Rattle.aws_chunked.specs.Made.{joined}
use Rattle.aws_signing.proofs.upload.all_pieces.Goals as goal

pub returns : goal.returns
returns c =
    let none = closed_left calm.ghosts sealing.ghosts c.polls.body (c.is_end_stream.ensures.0 c.polls-test.false) in
    sym (append-nil (joined c.polls.pieces.items)) ∙ ap (λ (left : List ℕ). joined c.polls.pieces.items ++ left) (sym none) ∙ c.polls.invariant.whole
