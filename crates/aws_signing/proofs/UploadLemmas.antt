-- An upload in memory gives its signed text, and has no fault.
use Rattle.std.proofs.Common.{◌≡◌, ℕ, ◌≤◌, true, false, List, [], ◌∷◌, length, Option, None, Some, refl, ap, ◌∙◌, append-nil}
use Rattle.std.specs.Prelude.{Bool, IsTrue, option_map}
use Rattle.smithy_core.specs.Civil.{is_in_years}
use Rattle.smithy_core.specs.Moment.{Instant}
use Rattle.smithy_core.specs.declared.outside.frame_part.FramePart.{FramePart}
use Rattle.smithy_core.specs.declared.outside.frame_part.FramePart.TheVariants as frame
use Rattle.smithy_core.specs.declared.outside.frame_source.FrameSource as FrameSource
use Rattle.eventstream.specs.Key.{Signer}
use Rattle.sigv4.specs.ChunkTold.{signs_over, unsigned_chunk_at}
use Rattle.sigv4.specs.declared.error.SigningError.{SigningError}
use Rattle.sigv4.specs.declared.error.SigningError.TheVariants as signing
use Rattle.sigv4.specs.declared.chunk_signer.SignChunk as SignChunk
use Rattle.aws_chunked.specs.Body.{IsNewBody, Trailer, actual_length, data_before, listed, parts_due, signed_by, total_of, trailers_from}
use Rattle.aws_chunked.specs.Due.{StartsSigned, signed_chunked_text, told_of_chunks}
use Rattle.aws_chunked.specs.Options.{Options, counted, declared_length}
use Rattle.aws_chunked.specs.SoundBody.{IsSoundBodyOf}
use Rattle.aws_chunked.specs.Text.{parts_of}
use Rattle.aws_chunked.specs.declared.body.AwsChunkedBody.{AwsChunkedBody}
use Rattle.aws_chunked.proofs.SoundBodyLemmas.{new_sound}

-- where something is signed the moment lies in the years 0 to 9999
pub in_years : (t : Instant) → unsigned_chunk_at t ≡ None → IsTrue (is_in_years t)
in_years t signed = by (is_in_years t) refl
  where
    by : (b : Bool) → is_in_years t ≡ b → is_in_years t ≡ true
    by true years = years
    by false late = absurd (let no : ◌≡◌ {A = Option SigningError} (Some (signing.MomentOutOfRange t)) None = rw late at signed in cc)

module _ {F G : Type 0} (source : FrameSource.Ghosts F) (signer : SignChunk.Ghosts G) where
  -- a signed body of data and trailers of the declared lengths, over a signature
  pub new_upload : (options : Options) (bytes before : List ℕ) (trailers : List Trailer) (who : Signer) (t : Instant) (from : F) (held : G) (bare body : AwsChunkedBody F G)
      → source.left from ≡ Some (frame.Data bytes ∷ frame.Trailers trailers ∷ []) → IsNewBody from options bare
      → parts_due source bare ≡ option_map (λ (frames : List FramePart). parts_of options.chunk_size (data_before frames) (listed (trailers_from None frames))) (source.left from)
      → total_of source bare ≡ option_map (λ (frames : List FramePart). counted (length (data_before frames))) (source.left from)
      → body ≡ signed_by held bare → StartsSigned source signer bare body → signer.told held ≡ signs_over before who t → IsTrue (is_in_years t)
      → options.is_signed ≡ true → counted (actual_length options.is_signed trailers) ≡ counted (declared_length options.trailer_lengths) → options.stream_length ≡ length bytes
      → length bytes ≤ 4294967295
      → IsSoundBodyOf source signer (signed_chunked_text who t before options.chunk_size bytes trailers) body
  new_upload options bytes before trailers who t from held bare body left new parts total made starts told years signed declared long short =
      new_sound source signer options bytes trailers (signed_chunked_text who t before options.chunk_size bytes trailers) body
      (ap (λ (b : AwsChunkedBody F G). b.options) made ∙ new.encoded) (ap (λ (b : AwsChunkedBody F G). source.left b.source) made ∙ ap source.left new.reads_from ∙ left)
      (starts from options before who t new signed (ap (λ (b : AwsChunkedBody F G). told_of_chunks signer b.chunks.signer) made ∙ told) years
      ∙ ap (option_map (λ (frames : List FramePart). signed_chunked_text who t before options.chunk_size (data_before frames) (listed (trailers_from None frames)))) left
      ∙ ap (λ (b : List ℕ). Some (signed_chunked_text who t before options.chunk_size b trailers)) (append-nil bytes))
      (ap (λ (b : AwsChunkedBody F G). parts_due source b) made ∙ parts
      ∙ ap (option_map (λ (frames : List FramePart). parts_of options.chunk_size (data_before frames) (listed (trailers_from None frames)))) left)
      (ap (λ (b : AwsChunkedBody F G). total_of source b) made ∙ total ∙ ap (option_map (λ (frames : List FramePart). counted (length (data_before frames)))) left)
      declared long short
