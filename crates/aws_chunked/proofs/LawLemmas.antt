-- Laws of texts in chunks.
use Rattle.std.proofs.Common.{◌≡◌, ℕ, ◌+◌, ◌*◌, ◌/◌, ◌%◌, Bool, true, false, List, [], ◌∷◌, ◌++◌, length, length-append, drop, map, Option, Some, None, Result, Ok, Err, inl, inr, refl, ap, sym, subst, arith, append-nil, take-append-drop}
use Rattle.std.specs.Prelude.{codes}
use Rattle.std.specs.List.{AllByRecursion, flat_map}
use Rattle.std.proofs.lemmas.Nat.{div-add-mod', mod_below}
use Rattle.aws_chunked.specs.Body.{Trailer, actual_length, lines_length}
use Rattle.aws_chunked.specs.Decoded.{Decodes, DecodesOnly, IsPiecesText, IsText, IsTextOf, IsTrailer, StopsAtByte, TakesSignature}
use Rattle.aws_chunked.specs.Laws.{AnswersDecoded, IsSignedLengthOf}
use Rattle.aws_chunked.specs.Options.{IsChunkSize, Options, chunk_length, chunks_length, encoded_length, head_length, last_length}
use Rattle.aws_chunked.specs.Signing.{has_signature}
use Rattle.aws_chunked.specs.Text.{chunk, chunk_text, chunked_text, crlf, pieces_of_size, head_text, last_line, length_text, parts_text, signature_text, tail, tail_text, trailer_line}
use Rattle.aws_chunked.specs.declared.decode.DecodeFault.{DecodeFault}
use Rattle.aws_chunked.specs.declared.decode.DecodeFault.TheVariants.{BadChunk, NoMemory}
use Rattle.aws_chunked.specs.declared.decode.Decoded.{Decoded}
use Rattle.aws_chunked.proofs.SignatureLemmas.{signature_long}
use Rattle.aws_chunked.proofs.LengthLemmas.{cut_long, lines_long, pieces_length}

-- ## Decoding

unsigned_none : (trailers : List Trailer) → TakesSignature (has_signature false trailers) [] None []
unsigned_none [] = (refl, refl)
unsigned_none (trailer ∷ trailers) = (refl, refl)

pieces_text : (pieces : List (List ℕ)) (trailers : List Trailer) → IsPiecesText false pieces [] trailers (parts_text (map chunk pieces ++ tail trailers ∷ []))
pieces_text [] trailers = (None, [], None, (refl, refl), unsigned_none trailers, append-nil (tail_text None trailers None))
pieces_text (piece ∷ pieces) trailers =
    (None, [], parts_text (map chunk pieces ++ tail trailers ∷ []), (refl, refl), refl, pieces_text pieces trailers)

pub unsigned_whole : (size : ℕ) (body : List ℕ) (trailers : List Trailer) → IsChunkSize size → AllByRecursion IsTrailer trailers
    → IsTextOf body [] trailers (chunked_text size body trailers)
unfolding chunked_text
unsigned_whole size body trailers in_range are =
    record { size = size; size_in_range = in_range; is_signed = false; trailers_are = are; is_text = pieces_text (pieces_of_size size body) trailers }

no_stop : (bytes : List ℕ) (k : ℕ) → IsText bytes → StopsAtByte IsText bytes k → ⊥
no_stop bytes k is (inl stops) = stops.1 (drop (k + 1) bytes, subst IsText (sym (take-append-drop (k + 1) bytes)) is)
no_stop bytes k is (inr ends) = ends.1 is

pub whole_decoded : (bytes body : List ℕ) (signatures : List (List ℕ)) (trailers : List Trailer) (result : Result Decoded DecodeFault)
    → IsTextOf body signatures trailers bytes → Decodes bytes result → DecodesOnly bytes result → AnswersDecoded body signatures trailers result
whole_decoded bytes body signatures trailers (Ok decoded) is decodes only = only body signatures trailers is
whole_decoded bytes body signatures trailers (Err (BadChunk k)) is decodes only = no_stop bytes k (body, signatures, trailers, is) decodes.0
whole_decoded bytes body signatures trailers (Err NoMemory) is decodes only = tt

-- ## Lengths

head_long : (n : ℕ) (signature : List ℕ) → length signature ≡ 64 → length (head_text n (Some signature)) ≡ head_length true n
head_long n signature long =
    omega (
      arith,
      long,
      length-append (length_text n ++ signature_text (Some signature)) crlf,
      length-append (length_text n) (signature_text (Some signature)),
      length-append (codes ";chunk-signature=") signature,
    )

last_line_long : (trailers : List Trailer) (signatures : List (List ℕ)) (last : Option (List ℕ)) → TakesSignature (has_signature true trailers) signatures last []
    → length (last_line last) + lines_length trailers ≡ actual_length true trailers
last_line_long [] signatures last takes = ap (λ (o : Option (List ℕ)). length (last_line o) + lines_length []) takes.0
last_line_long (trailer ∷ trailers) signatures None takes = absurd takes
last_line_long (trailer ∷ trailers) signatures (Some signature) takes =
    omega (
      arith,
      signature_long signature takes.0,
      length-append ((codes "x-amz-trailer-signature" ++ codes ":") ++ signature) crlf,
      length-append (codes "x-amz-trailer-signature" ++ codes ":") signature,
    )

tail_long : (signature last : Option (List ℕ)) (trailers : List Trailer) → length (tail_text signature trailers last)
    ≡ length (head_text 0 signature) + (length (last_line last) + lines_length trailers) + 2
unfolding tail_text
tail_long signature last trailers =
    omega (
      arith,
      length-append (head_text 0 signature ++ flat_map trailer_line trailers ++ last_line last) crlf,
      length-append (head_text 0 signature ++ flat_map trailer_line trailers) (last_line last),
      length-append (head_text 0 signature) (flat_map trailer_line trailers),
      lines_long trailers,
    )

chunk_long : (signature : Option (List ℕ)) (piece : List ℕ) → length (chunk_text signature piece) ≡ length (head_text (length piece) signature) + length piece + 2
unfolding chunk_text
chunk_long signature piece =
    omega (arith, length-append (head_text (length piece) signature ++ piece) crlf, length-append (head_text (length piece) signature) piece)

-- how long a signed text is
pieces_long : (pieces signatures : List (List ℕ)) (trailers : List Trailer) (text : List ℕ) → IsPiecesText true pieces signatures trailers text
    → length text ≡ pieces_length true pieces + head_length true 0 + actual_length true trailers + 2
unfolding pieces_length
pieces_long [] signatures trailers text is = by is.0 is.3 is.5
  where
    by : (signature : Option (List ℕ)) → TakesSignature true signatures signature is.1 → text ≡ tail_text signature trailers is.2
        → length text ≡ 0 + head_length true 0 + actual_length true trailers + 2
    by None takes same = absurd takes
    by (Some signature) takes same =
        omega (arith, ap length same, tail_long (Some signature) is.2 trailers, head_long 0 signature (signature_long signature takes.0), last_line_long trailers is.1 is.2 is.4)
pieces_long (piece ∷ pieces) signatures trailers text is = by is.0 is.3 is.4 (pieces_long pieces is.1 trailers is.2 is.5)
  where
    by : (signature : Option (List ℕ)) → TakesSignature true signatures signature is.1 → text ≡ chunk_text signature piece ++ is.2
        → length is.2 ≡ pieces_length true pieces + head_length true 0 + actual_length true trailers + 2
        → length text ≡ (chunk_length true (length piece) + pieces_length true pieces) + head_length true 0 + actual_length true trailers + 2
    by None takes same rest = absurd takes
    by (Some signature) takes same rest =
        omega (
          arith,
          ap length same,
          length-append (chunk_text (Some signature) piece) is.2,
          chunk_long (Some signature) piece,
          head_long (length piece) signature (signature_long signature takes.0),
          rest,
        )

pub signed_long : (options : Options) → IsChunkSize options.chunk_size → options.is_signed ≡ true → IsSignedLengthOf options (encoded_length options)
unfolding encoded_length
signed_long options size_in_range signed bytes signatures trailers text long is =
    omega (
      arith,
      pieces_long (pieces_of_size size bytes) signatures trailers text is,
      cut_long true (length bytes / size) size (length bytes % size) bytes (mod_below (length bytes) size (omega (arith, size_in_range.0)))
          (sym (div-add-mod' (length bytes) size)),
      ap (λ n. (n / size) * chunk_length true size + last_length true (n % size)) long,
      signs,
    )
  where
    size : ℕ
    size = options.chunk_size

    signs : chunks_length options ≡ (options.stream_length / size) * chunk_length true size + last_length true (options.stream_length % size) + head_length true 0 + 2
    signs = ap (λ (b : Bool). (options.stream_length / size) * chunk_length b size + last_length b (options.stream_length % size) + head_length b 0 + 2) signed
