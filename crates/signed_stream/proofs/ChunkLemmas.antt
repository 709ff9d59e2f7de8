-- The body of the command `chunk`, and how it is written.
use Rattle.std.proofs.Common.{◌≡◌, ℕ, ◌≤◌, false, List, [], ◌∷◌, ◌++◌, length, Option, None, Some, ap, sym, subst, ◌∙◌, append-nil, arith}
use Rattle.std.specs.Prelude.{Bool, Err, option_map}
use Rattle.smithy_core.proofs.GainLemmas.{gains_front, gains_join, prefix_join, prefix_within}
use Rattle.smithy_core.specs.Outside.{Gains, GainsRest}
use Rattle.smithy_core.specs.declared.outside.frame_part.FramePart.{FramePart}
use Rattle.smithy_core.specs.declared.outside.frame_part.FramePart.TheVariants as frame
use Rattle.smithy_core.specs.declared.outside.frame_source.FrameSource as FrameSource
use Rattle.sigv4.specs.declared.chunk_signer.SignChunk as SignChunk
use Rattle.aws_chunked.specs.Body.{IsNewBody, Trailer, actual_length, data_before, lines_length, listed, parts_due, total_of, trailers_from}
use Rattle.aws_chunked.specs.Due.{due}
use Rattle.aws_chunked.specs.Options.{Options, counted, declared_length}
use Rattle.aws_chunked.specs.SoundBody.{IsSoundBodyOf}
use Rattle.aws_chunked.specs.Text.{chunked_text, parts_of}
use Rattle.aws_chunked.specs.declared.body.AwsChunkedBody.{AwsChunkedBody}
use Rattle.aws_chunked.proofs.SoundBodyLemmas.{new_sound}
use Rattle.signed_stream.specs.Sending.{EndsEarly, Sends}
use Rattle.signed_stream.specs.Status.{Ending, no_memory, output_fault, refused, stream_ending}
use Rattle.signed_stream.specs.declared.status.StreamFault.{StreamFault}
use Rattle.signed_stream.specs.Plan.{most_input}

-- unsigned trailers are as long as their lines
unsigned_length : (trailers : List Trailer) → actual_length false trailers ≡ lines_length trailers
unsigned_length [] = omega arith
unsigned_length (trailer ∷ trailers) = omega arith

module _ {F G : Type 0} (source : FrameSource.Ghosts F) (signer : SignChunk.Ghosts G) where
  -- the body of bytes and trailers of the declared lengths
  pub new_body : (options : Options) (bytes : List ℕ) (trailers : List Trailer) (from : F) (body : AwsChunkedBody F G)
      → source.left from ≡ Some (frame.Data bytes ∷ frame.Trailers trailers ∷ []) → IsNewBody from options body
      → (options.is_signed ≡ false → due source signer body
      ≡ option_map (λ (frames : List FramePart). chunked_text options.chunk_size (data_before frames) (listed (trailers_from None frames))) (source.left from))
      → parts_due source body ≡ option_map (λ (frames : List FramePart). parts_of options.chunk_size (data_before frames) (listed (trailers_from None frames))) (source.left from)
      → total_of source body ≡ option_map (λ (frames : List FramePart). counted (length (data_before frames))) (source.left from)
      → options.is_signed ≡ false → declared_length options.trailer_lengths ≡ lines_length trailers → options.stream_length ≡ length bytes → length bytes ≤ most_input
      → IsSoundBodyOf source signer (chunked_text options.chunk_size bytes trailers) body
  new_body options bytes trailers from body left new text parts total unsigned declared long short =
      new_sound source signer options bytes trailers (chunked_text options.chunk_size bytes trailers) body new.encoded (ap source.left new.reads_from ∙ left)
      (text unsigned
      ∙ ap (option_map (λ (frames : List FramePart). chunked_text options.chunk_size (data_before frames) (listed (trailers_from None frames)))) left
      ∙ ap (λ (b : List ℕ). Some (chunked_text options.chunk_size b trailers)) (append-nil bytes))
      (parts ∙ ap (option_map (λ (frames : List FramePart). parts_of options.chunk_size (data_before frames) (listed (trailers_from None frames)))) left)
      (total ∙ ap (option_map (λ (frames : List FramePart). counted (length (data_before frames)))) left)
      (ap (λ (is_signed : Bool). counted (actual_length is_signed trailers)) unsigned ∙ ap counted (unsigned_length trailers ∙ sym declared)) long (omega (arith, short))

-- ---- writing

module _ (before mid now : Option (List ℕ)) (bytes rest text : List ℕ) where
  -- the next bytes are gained
  pub bytes_gained : (left : List ℕ) → left ≡ bytes ++ rest → GainsRest before mid left text → Gains mid now bytes → GainsRest before now rest text
  bytes_gained left is so_far gained =
      gains_join before mid now rest (bytes ++ rest) text (subst (λ (l : List ℕ). GainsRest before mid l text) is so_far) (gains_front mid now bytes rest gained)

  ends_early_within : (left : List ℕ) (early : Ending) → left ≡ bytes ++ rest → GainsRest before mid left text → EndsEarly None bytes mid now early → EndsEarly None text before now early
  ends_early_within left (refused reason) is so_far ends_early = absurd (let no : None ≡ Some reason = ends_early.0 in cc)
  ends_early_within left output_fault is so_far ends_early =
      prefix_join before mid now (bytes ++ rest) text (subst (λ (l : List ℕ). GainsRest before mid l text) is so_far) (prefix_within mid now bytes rest ends_early)
  ends_early_within left no_memory is so_far ends_early =
      prefix_join before mid now (bytes ++ rest) text (subst (λ (l : List ℕ). GainsRest before mid l text) is so_far) (prefix_within mid now bytes rest ends_early)
  ends_early_within left other is so_far ends_early = absurd ends_early

  -- they aren't
  pub bytes_ended_early : (T U : Type 0) (left : List ℕ) (reason : StreamFault) → left ≡ bytes ++ rest → GainsRest before mid left text
      → Sends {T = T} None bytes mid now (Err reason) → Sends {T = U} None text before now (Err reason)
  bytes_ended_early T U left reason is so_far sends = ends_early_within left (stream_ending reason) is so_far sends
