-- The text that is due of a body. In that of a signed one each signature is made over the one before it.
use Rattle.std.specs.Prelude.{◌≡◌, ℕ, Bool, true, false, List, [], ◌∷◌, ◌++◌, IsTrue, Option, Some, None, option_map, if◌then◌else◌}
use Rattle.smithy_core.specs.Civil.{is_in_years}
use Rattle.smithy_core.specs.Moment.{Instant}
use Rattle.smithy_core.specs.declared.outside.frame_source.FrameSource as FrameSource
use Rattle.eventstream.specs.Key.{Signer}
use Rattle.sigv4.specs.Chunk.{chunk_signature, trailer_signature}
use Rattle.sigv4.specs.ChunkTold.{ChunkTold, signs_over, unwired}
use Rattle.sigv4.specs.declared.chunk_signer.SignChunk as SignChunk
use Rattle.aws_chunked.specs.Body.{IsNewBody, Trailer, data_before, listed, parts_due, ready_bytes, trailers_from}
use Rattle.aws_chunked.specs.Options.{Options}
use Rattle.aws_chunked.specs.Rests.{one_or_none}
use Rattle.aws_chunked.specs.Text.{Part, chunk, chunk_text, parts_of, parts_text, tail, tail_text}
use Rattle.aws_chunked.specs.declared.body.AwsChunkedBody.{AwsChunkedBody}

-- the signature of trailers, where there are some, over the one before it
abbrev pub trailers_signature : Signer → Instant → List ℕ → List Trailer → Option (List ℕ)
trailers_signature signer t before [] = None
trailers_signature signer t before (trailer ∷ trailers) = Some (trailer_signature (trailer ∷ trailers) signer t before)

-- the text of parts, of which the first is signed over this signature and each further one over the one before it; at the end the
-- trailers are signed over the signature of the empty chunk
unfoldable pub signed_chunks : Signer → Instant → List ℕ → List Part → List ℕ
signed_chunks signer t before [] = []
signed_chunks signer t before (chunk piece ∷ parts) =
    let signature = chunk_signature piece signer t before in
    chunk_text (Some signature) piece ++ signed_chunks signer t signature parts
signed_chunks signer t before (tail trailers ∷ parts) =
    let signature = chunk_signature [] signer t before in
    tail_text (Some signature) trailers (trailers_signature signer t signature trailers)

-- the text of data and trailers in chunks of this size, signed from this signature on
unfoldable pub signed_chunked_text : Signer → Instant → List ℕ → ℕ → List ℕ → List Trailer → List ℕ
signed_chunked_text signer t before size bytes trailers = signed_chunks signer t before (parts_of size bytes trailers)

-- the signatures of that text in order
abbrev pub chunk_signatures : Signer → Instant → List ℕ → List (List ℕ) → List Trailer → List (List ℕ)
chunk_signatures signer t before (piece ∷ pieces) trailers =
    let signature = chunk_signature piece signer t before in
    signature ∷ chunk_signatures signer t signature pieces trailers
chunk_signatures signer t before [] trailers =
    let signature = chunk_signature [] signer t before in
    signature ∷ one_or_none (trailers_signature signer t signature trailers)

-- ## What is due

-- what is told of the signer of a body: one that has none waits for it
abbrev pub told_of_chunks : {G : Type 0} → SignChunk.Ghosts G → Option G → ChunkTold
told_of_chunks signer None = unwired
told_of_chunks signer (Some held) = signer.told held

-- the text of parts without signatures, or by a signer of which this is told: one that signs over a signature, at a moment in the years
abbrev pub writing : Bool → ChunkTold → Option (List Part → List ℕ)
writing false told = Some parts_text
writing true (signs_over before signer t) = if is_in_years t then Some (signed_chunks signer t before) else None
writing true _ = None

-- text that was made, and behind it that of the parts that are left
abbrev pub text_due : Option (List Part → List ℕ) → List ℕ → Option (List Part) → Option (List ℕ)
text_due None ready parts = None
text_due (Some text_of) ready parts = option_map (λ rest. ready ++ text_of rest) parts

module _ {F G : Type 0} (source : FrameSource.Ghosts F) (signer : SignChunk.Ghosts G) where
  -- the text that is due of a body, where its source tells its frames and, of a signed one, its signer signs over a signature at a
  -- moment in the years
  unfoldable pub due : AwsChunkedBody F G → Option (List ℕ)
  due body = text_due (writing body.options.is_signed (told_of_chunks signer body.chunks.signer)) (ready_bytes body) (parts_due source body)

  -- of a signed body that had taken nothing, once it has such a signer, the signed text of the data before the first trailers and of
  -- the trailers is due
  abbrev pub StartsSigned : AwsChunkedBody F G → AwsChunkedBody F G → Type 0
  StartsSigned old new = (from : F) (options : Options) (before : List ℕ) (who : Signer) (t : Instant)
      → IsNewBody from options old → options.is_signed ≡ true → told_of_chunks signer new.chunks.signer ≡ signs_over before who t → IsTrue (is_in_years t)
      → due new
      ≡ option_map (λ frames. signed_chunked_text who t before options.chunk_size (data_before frames) (listed (trailers_from None frames))) (source.left from)
