use Rattle.std.proofs.Common.{refl, ◌∙◌}
use Rattle.std.proofs.lemmas.Result.{err_from_is_err_and}
use Rattle.smithy_core.proofs.GainLemmas.{gains_whole}
use Rattle.smithy_core.specs.contracts.outside.frame_source.CalmFramesFrameSource.TheImpl as calm
use Rattle.aws_auth.specs.contracts.chunk_signer.SigV4MessageSignerSigningSettingsSignChunk.TheImpl as sealing
use Rattle.aws_chunked.proofs.SoundBodyLemmas.{closed_left}
use Rattle.signed_stream.proofs.ChunkLemmas.{bytes_gained, bytes_ended_early}
use Rattle.signed_stream.proofs.show_chunked.send_body.Goals as goal

pub returns-in_err-write_text-clause-sends : goal.returns-in_err-write_text-clause-sends
returns-in_err-write_text-clause-sends g c =
    let exit = err_from_is_err_and c.from_residual-in_err-write_text.result c.from_residual-in_err-write_text.ensures.1 in
    rw (exit.1, exit.2)
    (bytes_ended_early _ _ _ c.in_ok-bytes.bytes _ _ (Unit {0}) (Unit {0}) _ c.in_err-write_text.field-0.0 c.in_ok-bytes.ensures.text.1 c.polls.invariant.left
    (rw c.as_slice.ensures at c.in_err-write_text.ensures.sends))

pub polls-preserved-in_ok-write_text : goal.polls-preserved-in_ok-write_text
polls-preserved-in_ok-write_text g c =
    let sends = rw c.as_slice.ensures at c.in_ok-write_text.ensures.sends in
    record {
      sound = c.in_ok-bytes.ensures.text.0;
      count = c.in_ok-write_text.ensures.counts.stayed (λ failed. cc) ∙ c.polls.invariant.count;
      left = bytes_gained _ _ _ c.in_ok-bytes.bytes _ _ _ c.in_ok-bytes.ensures.text.1 c.polls.invariant.left sends.1;
    }

pub polls-preserved : goal.polls-preserved
polls-preserved g c =
    let sends = rw c.as_slice.ensures at c.in_ok-write_text.ensures.sends in
    record {
      sound = c.in_ok-bytes.ensures.text.0;
      count = c.in_ok-write_text.ensures.counts.stayed (λ failed. cc) ∙ c.polls.invariant.count;
      left = bytes_gained _ _ _ c.in_ok-bytes.bytes _ _ _ c.in_ok-bytes.ensures.text.1 c.polls.invariant.left sends.1;
    }

pub returns-clause-sends : goal.returns-clause-sends
returns-clause-sends g c =
    (refl, gains_whole _ _ _ _ c.polls.invariant.left (closed_left calm.ghosts sealing.ghosts c.polls.body (c.is_end_stream.ensures.0 c.polls-test.false)))
