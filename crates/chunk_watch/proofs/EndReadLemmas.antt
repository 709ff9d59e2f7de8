-- The end of a body with trailers is read as a text without data.
use Rattle.std.proofs.Common.{◌≡◌, ℕ, ◌+◌, Bool, true, false, List, [], ◌∷◌, ◌++◌, Some, None, drop, length, map, inl, inr, refl, sym, ap, ◌∙◌, subst, arith, append_assoc, length-append}
use Rattle.std.specs.Prelude.{Result, Ok, Err, String, string_bytes}
use Rattle.std.specs.Fmt.{digits}
use Rattle.std.specs.List.{AllByRecursion, flat_map}
use Rattle.std.specs.declared.alloc.Global.{Global}
use Rattle.std.proofs.Math.Seq.{drop-append_seam}
use Rattle.std.proofs.lemmas.List.{take-append-drop}
use Rattle.sigv4.specs.Signature.{is_signature}
use Rattle.aws_chunked.specs.Body.{Trailer}
use Rattle.aws_chunked.specs.Decoded.{Decodes, DecodesOnly, IsPiecesText, IsSignature, IsText, IsTextOf, IsTrailer, StopsAtByte}
use Rattle.aws_chunked.specs.Text.{crlf, head_text, last_line, tail_text, trailer_line}
use Rattle.aws_chunked.specs.declared.decode.DecodeFault.TheVariants as stops
use Rattle.aws_chunked.specs.declared.decode.Decoded.{Decoded}
use Rattle.aws_chunked.proofs.SignatureLemmas.{signature_long}
use Rattle.aws_chunked.proofs.CutLemmas.{cut_none}
use Rattle.chunk_watch.specs.EndRead.{ReadsEnd, TakesEnd, empty_line, zeros}
use Rattle.chunk_watch.specs.Trailers.{IsTrailersEnd, trailers_text}
use Rattle.chunk_watch.specs.declared.fault.ChunkFault.{ChunkFault}
use Rattle.chunk_watch.specs.declared.fault.ChunkFault.TheVariants.{BadTrailers}

zeros_signed : IsSignature zeros
unfolding is_signature
zeros_signed = refl

-- ---- the line of the empty chunk

line_is : head_text 0 (Some zeros) ≡ empty_line
unfolding digits
line_is = refl

line_long : (signature : List ℕ) → IsSignature signature → length (head_text 0 (Some signature)) ≡ 84
unfolding digits
line_long signature is = omega (arith, signature_long signature is, length-append signature crlf)

tail_is : (signature : List ℕ) (trailers : List Trailer) (last : List ℕ) → tail_text (Some signature) trailers (Some last) ≡ head_text 0 (Some signature) ++ trailers_text trailers last
unfolding tail_text
tail_is signature trailers last =
    let lines = flat_map trailer_line trailers in
    append_assoc (head_text 0 (Some signature) ++ lines) (last_line (Some last)) crlf ∙ append_assoc (head_text 0 (Some signature)) lines (last_line (Some last) ++ crlf)

-- what stands behind two lines of one length is the same
behind_line : (a b xs ys : List ℕ) → length a ≡ length b → a ++ xs ≡ b ++ ys → xs ≡ ys
behind_line a b xs ys same e =
    sym (drop-append_seam a xs) ∙ ((λ i. drop (same i) (e i)) ∙ drop-append_seam b ys)

-- ---- a text is the end, and the end is a text

abbrev NoData : Bool → List (List ℕ) → List Trailer → List ℕ → Type 0
NoData is_signed signatures trailers text = IsPiecesText is_signed [] signatures trailers text

end_of : (is_signed : Bool) (first second : List ℕ) (trailers : List Trailer) (bytes : List ℕ) → AllByRecursion IsTrailer trailers
    → NoData is_signed (first ∷ second ∷ []) trailers (empty_line ++ bytes) → IsTrailersEnd trailers second bytes
end_of false first second [] bytes are (signature, others, last, (none, all), (unsigned, rest), text) = absurd (cc)
end_of false first second (t ∷ ts) bytes are (signature, others, last, (none, all), (unsigned, rest), text) = absurd (cc)
end_of true first second trailers bytes are (None, others, last, takes, closes, text) = absurd takes
end_of true first second [] bytes are (Some signature, others, last, (signed, all), (unsigned, rest), text) = absurd (cc)
end_of true first second (t ∷ ts) bytes are (Some signature, others, None, (signed, all), closes, text) = absurd closes
end_of true first second (t ∷ ts) bytes are (Some signature, others, Some last, (signed, all), (last_signed, rest), text) =
    let second_is : last ≡ second = cc in
    let whole : empty_line ++ bytes ≡ head_text 0 (Some signature) ++ trailers_text (t ∷ ts) last = text ∙ tail_is signature (t ∷ ts) last in
    let behind : bytes ≡ trailers_text (t ∷ ts) last =
    behind_line empty_line (head_text 0 (Some signature)) bytes (trailers_text (t ∷ ts) last) (sym (ap length line_is) ∙ (line_long zeros zeros_signed ∙ sym (line_long signature signed))) whole in
    record {
      some = omega arith;
      are = are;
      signed = subst IsSignature second_is last_signed;
      text = behind ∙ ap (trailers_text (t ∷ ts)) second_is;
    }

text_of : (trailers : List Trailer) (signature bytes : List ℕ) → IsTrailersEnd trailers signature bytes → IsTextOf [] (zeros ∷ signature ∷ []) trailers (empty_line ++ bytes)
text_of [] signature bytes end = absurd (omega (arith, end.some))
text_of (t ∷ ts) signature bytes end =
    record {
      size = 1;
      size_in_range = (omega arith, omega arith);
      is_signed = true;
      trailers_are = end.are;
      is_text = subst (λ (pieces : List (List ℕ)). IsPiecesText true pieces (zeros ∷ signature ∷ []) (t ∷ ts) (empty_line ++ bytes)) (sym (cut_none 1)) (
        Some zeros,
        signature ∷ [],
        Some signature,
        (zeros_signed, refl),
        (end.signed, refl),
        (λ i. sym line_is i ++ end.text i) ∙ sym (tail_is zeros (t ∷ ts) signature),
      );
    }

-- ---- what was read

module _ (bytes text : List ℕ) (text_is : text ≡ empty_line ++ bytes) where
  made : (trailers : List Trailer) (signature : List ℕ) → IsTrailersEnd trailers signature bytes → IsTextOf [] (zeros ∷ signature ∷ []) trailers text
  made trailers signature end = subst (λ (t : List ℕ). IsTextOf [] (zeros ∷ signature ∷ []) trailers t) (sym text_is) (text_of trailers signature bytes end)

  pub reads_text : (decoded : Decoded) (result : Result (List Trailer × String Global) ChunkFault) → Decodes text (Ok decoded) → DecodesOnly text (Ok decoded) → TakesEnd decoded result
      → ReadsEnd bytes result
  reads_text decoded (Ok (trailers, signature)) is only (no_data, first, both, trailers_are) =
      let found = subst (λ (b : List ℕ). IsTextOf b (first ∷ string_bytes signature ∷ []) decoded.trailers (empty_line ++ bytes)) no_data
      (subst (λ (s : List (List ℕ)). IsTextOf decoded.body s decoded.trailers (empty_line ++ bytes)) both
      (subst (λ (t : List ℕ). IsTextOf decoded.body (map string_bytes decoded.signatures.items) decoded.trailers t) text_is is)) in
      let end : IsTrailersEnd decoded.trailers (string_bytes signature) bytes =
      end_of found.is_signed first (string_bytes signature) decoded.trailers bytes found.trailers_are
      (subst (λ (pieces : List (List ℕ)). IsPiecesText found.is_signed pieces (first ∷ string_bytes signature ∷ []) decoded.trailers (empty_line ++ bytes)) (cut_none found.size) found.is_text) in
      record {
        is = subst (λ (t : List Trailer). IsTrailersEnd t (string_bytes signature) bytes) (sym trailers_are) end;
        only = λ others other e.
            let same = only [] (zeros ∷ other ∷ []) others (made others other e) in
            let two : zeros ∷ other ∷ [] ≡ first ∷ string_bytes signature ∷ [] = same.1 ∙ both in
            (same.2 ∙ sym trailers_are, second_same zeros other first (string_bytes signature) two);
      }
    where
      second_same : (a b c d : List ℕ) → a ∷ b ∷ [] ≡ c ∷ d ∷ [] → b ≡ d
      second_same a b c d e = cc
  reads_text decoded (Err fault) is only (bad, not) =
      inl (bad, λ trailers signature e. let same = only [] (zeros ∷ signature ∷ []) trailers (made trailers signature e) in not zeros signature (sym same.0) (sym same.1))

  pub reads_none : (k : ℕ) → Decodes text (Err (stops.BadChunk k)) → ReadsEnd bytes (Err BadTrailers)
  reads_none k bad = inl (refl, λ trailers signature e. refuse bad.0 ([], zeros ∷ signature ∷ [], trailers, made trailers signature e))
    where
      refuse : StopsAtByte IsText text k → IsText text → ⊥
      refuse (inl (low, none)) is = none (drop (k + 1) text, subst IsText (sym (take-append-drop (k + 1) text)) is)
      refuse (inr (end, none)) is = none is
