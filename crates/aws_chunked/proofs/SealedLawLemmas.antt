-- Frames make up the text, and signed texts are whole texts, and as long as their options tell.
use Rattle.std.proofs.Common.{◌≡◌, ℕ, ◌*◌, true, List, [], ◌∷◌, ◌++◌, length, map, Some, refl, ap, ◌∙◌, arith, sym, subst, Option, None}
use Rattle.std.specs.Prelude.{IsOk, Ok, Err, Result}
use Rattle.std.specs.List.{AllByRecursion}
use Rattle.std.proofs.lemmas.Bool.{false≢true}
use Rattle.std.proofs.lemmas.List.Sums.{AllPass-from_list_all}
use Rattle.hex.specs.Hex.{encode_lower, lower_digits}
use Rattle.hex.proofs.HexLemmas.{length-encode_with}
use Rattle.mac_core.specs.Mac.{mac, mac_of_block}
use Rattle.smithy_core.specs.Moment.{Instant}
use Rattle.eventstream.specs.Key.{Signer, signing_key}
use Rattle.eventstream.proofs.LinkLemmas.{length-mac}
use Rattle.sigv4.specs.Chunk.{chunk_signature, text_signature, trailer_signature}
use Rattle.sigv4.proofs.DigitLemmas.{encoded_digits}
use Rattle.sigv4.proofs.SignatureLemmas.{sha256-bytes}
use Rattle.aws_chunked.specs.Body.{Trailer, actual_length, IsNothing}
use Rattle.sigv4.specs.Signature.{is_lower_digit}
use Rattle.aws_chunked.specs.Decoded.{IsPiecesText, IsSignature, IsTextOf, IsTrailer, TakesSignature}
use Rattle.aws_chunked.specs.Laws.{TakeDue, answered_bytes}
use Rattle.aws_chunked.specs.Options.{IsChunkSize, Options, declared_length, encoded_length}
use Rattle.aws_chunked.specs.Rests.{one_or_none}
use Rattle.aws_chunked.specs.Due.{signed_chunked_text, chunk_signatures, signed_chunks, trailers_signature}
use Rattle.aws_chunked.specs.Signing.{has_signature}
use Rattle.aws_chunked.specs.Text.{chunk, pieces_of_size, tail}
use Rattle.aws_chunked.specs.declared.body.ChunkNext.{ChunkNext}
use Rattle.aws_chunked.specs.declared.body.ChunkNext.TheVariants as next
use Rattle.aws_chunked.specs.declared.error.AwsChunkedBodyError.{AwsChunkedBodyError}
use Rattle.aws_chunked.proofs.LawLemmas.{signed_long}
use Rattle.aws_chunked.proofs.SignatureLemmas.{signature_from}

-- ## Signatures

text_sealed : (signer : Signer) (t : Instant) (text : List ℕ) → IsSignature (text_signature signer t text)
unfolding mac mac_of_block
text_sealed signer t text =
    let code = mac (signing_key signer t) text in
    signature_from (encode_lower code) (length-encode_with lower_digits code ∙ ap (λ (n : ℕ). 2 * n) (length-mac (signing_key signer t) text))
    (AllPass-from_list_all is_lower_digit (encode_lower code) (encoded_digits code (sha256-bytes _)))

pub chunk_sealed : (piece : List ℕ) (signer : Signer) (t : Instant) (before : List ℕ) → IsSignature (chunk_signature piece signer t before)
unfolding chunk_signature
chunk_sealed piece signer t before = text_sealed signer t _

pub trailers_sealed : (trailers : List Trailer) (signer : Signer) (t : Instant) (before : List ℕ) → IsSignature (trailer_signature trailers signer t before)
unfolding trailer_signature
trailers_sealed trailers signer t before = text_sealed signer t _

-- ## Whole texts

last_taken : (signer : Signer) (t : Instant) (before : List ℕ) (trailers : List Trailer)
    → TakesSignature (has_signature true trailers) (one_or_none (trailers_signature signer t before trailers)) (trailers_signature signer t before trailers) []
last_taken signer t before [] = (refl, refl)
last_taken signer t before (trailer ∷ trailers) = (trailers_sealed (trailer ∷ trailers) signer t before, refl)

pieces_sealed : (signer : Signer) (t : Instant) (before : List ℕ) (pieces : List (List ℕ)) (trailers : List Trailer)
    → IsPiecesText true pieces (chunk_signatures signer t before pieces trailers) trailers (signed_chunks signer t before (map chunk pieces ++ tail trailers ∷ []))
unfolding signed_chunks
pieces_sealed signer t before [] trailers =
    let signature = chunk_signature [] signer t before in
    let last = trailers_signature signer t signature trailers in
    (Some signature, one_or_none last, last, (chunk_sealed [] signer t before, refl), last_taken signer t signature trailers, refl)
pieces_sealed signer t before (piece ∷ pieces) trailers =
    let signature = chunk_signature piece signer t before in (
      Some signature,
      chunk_signatures signer t signature pieces trailers,
      signed_chunks signer t signature (map chunk pieces ++ tail trailers ∷ []),
      (chunk_sealed piece signer t before, refl),
      refl,
      pieces_sealed signer t signature pieces trailers,
    )

pub sealed_whole : (signer : Signer) (t : Instant) (before : List ℕ) (size : ℕ) (body : List ℕ) (trailers : List Trailer)
    → IsChunkSize size → AllByRecursion IsTrailer trailers
    → IsTextOf body (chunk_signatures signer t before (pieces_of_size size body) trailers) trailers (signed_chunked_text signer t before size body trailers)
unfolding signed_chunked_text
sealed_whole signer t before size body trailers in_range are = record {
  size = size;
  size_in_range = in_range;
  is_signed = true;
  trailers_are = are;
  is_text = pieces_sealed signer t before (pieces_of_size size body) trailers;
}

-- ## Joined frames

pub all_answered : (text : List ℕ) (results : List (Result ChunkNext AwsChunkedBodyError)) (last : Option (List ℕ)) → AllByRecursion IsOk results
    → TakeDue (Some text) (results ++ Ok next.End ∷ []) last → answered_bytes results ≡ text
all_answered text [] last fine (mid, takes, ends) = sym (subst IsNothing takes.0 takes.1)
all_answered text (Ok (next.Frame bytes) ∷ results) last fine (None, takes, others) = absurd takes.0
all_answered text (Ok (next.Frame bytes) ∷ results) last fine (Some rest, takes, others) =
    ap (λ (more : List ℕ). bytes ++ more) (all_answered rest results last fine.1 others) ∙ sym takes.0
all_answered text (Ok next.NotYet ∷ results) last fine (mid, takes, others) =
    all_answered text results last fine.1 (subst (λ (due : Option (List ℕ)). TakeDue due (results ++ Ok next.End ∷ []) last) takes others)
all_answered text (Ok next.OutOfTurns ∷ results) last fine (mid, takes, others) =
    all_answered text results last fine.1 (subst (λ (due : Option (List ℕ)). TakeDue due (results ++ Ok next.End ∷ []) last) takes others)
all_answered text (Ok next.End ∷ results) last fine (mid, takes, others) =
    all_answered text results last fine.1 (subst (λ (due : Option (List ℕ)). TakeDue due (results ++ Ok next.End ∷ []) last) takes.0 others)
all_answered text (Err error ∷ results) last fine takes = absurd (false≢true fine.0)

-- ## Lengths

pub sealed_long : (options : Options) (signer : Signer) (t : Instant) (before bytes : List ℕ) (trailers : List Trailer)
    → IsChunkSize options.chunk_size → options.is_signed ≡ true → length bytes ≡ options.stream_length → actual_length true trailers ≡ declared_length options.trailer_lengths
    → length (signed_chunked_text signer t before options.chunk_size bytes trailers) ≡ encoded_length options
unfolding signed_chunked_text
sealed_long options signer t before bytes trailers in_range signed long declared =
    let size = options.chunk_size in
    omega (
      arith,
      declared,
      signed_long options in_range signed bytes (chunk_signatures signer t before (pieces_of_size size bytes) trailers) trailers
          (signed_chunks signer t before (map chunk (pieces_of_size size bytes) ++ tail trailers ∷ [])) long (pieces_sealed signer t before (pieces_of_size size bytes) trailers),
    )
