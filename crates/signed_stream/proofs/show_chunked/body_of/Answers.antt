use Rattle.std.proofs.Common.{rules, Some, ap, ◌∙◌}
use Rattle.aws_chunked.specs.Text.{chunked_text}
use Rattle.smithy_core.specs.contracts.outside.frame_source.CalmFramesFrameSource.TheImpl as calm
use Rattle.aws_auth.specs.contracts.chunk_signer.SigV4MessageSignerSigningSettingsSignChunk.TheImpl as sealing
use Rattle.signed_stream.specs.ChunkJob.{shown_chunks}
use Rattle.signed_stream.proofs.ChunkLemmas.{new_body}
use Rattle.signed_stream.proofs.show_chunked.body_of.Goals as goal

pub returns : goal.returns
unfolding shown_chunks
returns c =
    let body =
    new_body calm.ghosts sealing.ghosts c.with_chunk_size.result c.args.bytes.items c.args.words.trailers c.new.result c.new-2.result
    (c.new.ensures.left ∙ ap Some (rw c.in_ok-from_vec.ensures.ok at c.in_ok-frames.ensures.frames)) c.new-2.ensures.starts c.new-2.ensures.due c.new-2.ensures.parts c.new-2.ensures.total
    (search rules) (search rules) (search rules) c.requires in
    (body.0, body.1 ∙ ap (λ n. chunked_text n c.args.bytes.items c.args.words.trailers) (search rules))
