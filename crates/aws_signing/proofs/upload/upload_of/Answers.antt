use Rattle.std.proofs.Common.{ap, Some, ◌∙◌}
use Rattle.smithy_core.specs.contracts.outside.frame_source.CalmFramesFrameSource.TheImpl as calm
use Rattle.aws_auth.specs.contracts.chunk_signer.SigV4MessageSignerSigningSettingsSignChunk.TheImpl as sealing
use Rattle.aws_chunked.specs.Options.{Options}
use Rattle.aws_chunked.proofs.SoundBodyLemmas.{as_declared}
use Rattle.aws_signing.proofs.UploadLemmas.{new_upload}
use Rattle.aws_signing.proofs.upload.upload_of.Goals as goal

pub returns : goal.returns
returns c = λ before who t told years.
    let encoded = c.requires.encoded in
    let signed = ap (λ (o : Options). o.is_signed) encoded in
    new_upload calm.ghosts sealing.ghosts c.args.options c.args.content before c.args.trailers who t c.new-source.result c.args.signer c.new.result c.with_signer.result
    (c.new-source.ensures.left ∙ ap Some c.in_ok-frames_in_memory.ensures.frames) c.new.ensures.starts c.new.ensures.parts c.new.ensures.total
    c.with_signer.ensures.signer c.with_signer.ensures.due told years signed (as_declared c.args.options c.args.trailers c.requires.announced)
    (ap (λ (o : Options). o.stream_length) encoded) c.requires.short
