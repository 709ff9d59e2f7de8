-- How long the text for HTTP 0.x is.
use Rattle.std.proofs.Common.{◌≡◌, ℕ, zero, suc, ◌+◌, ◌^◌, Bool, true, false, nat_lt, if◌then◌else◌, List, [], ◌∷◌, ◌++◌, length, map, Option, None, Some, sym, subst, arith}
use Rattle.std.specs.Prelude.{IfSome}
use Rattle.std.specs.List.{flat_map}
use Rattle.std.proofs.lemmas.List.{length-append}
use Rattle.aws_chunked.specs.Body.{Trailer, lines_length}
use Rattle.aws_chunked.specs.Lengths.{IsPassedLengthOf}
use Rattle.aws_chunked.specs.Made.{joined}
use Rattle.aws_chunked.specs.Options.{Options, data_length, declared_length, fitting, head_length, last_length}
use Rattle.aws_chunked.specs.Passing.{Piece, empty_chunk, last_lines, passed, pieces_of, pieces_text}
use Rattle.aws_chunked.specs.Text.{crlf, head_text, trailer_line}
use Rattle.aws_chunked.specs.declared.piece_engine.Sent.TheVariants as sent
use Rattle.aws_chunked.proofs.LengthLemmas.{head_long, lines_long}

-- pieces that are passed on before others
passed_long_before : (pieces : List (List ℕ)) (more : List Piece) → length (pieces_text (map passed pieces ++ more)) ≡ length (joined pieces) + length (pieces_text more)
passed_long_before [] more = omega arith
passed_long_before (piece ∷ pieces) more =
    omega (
      arith,
      length-append piece (pieces_text (map passed pieces ++ more)),
      length-append piece (joined pieces),
      passed_long_before pieces more,
    )

last_long : (trailers : List Trailer) → length (pieces_text (last_lines trailers ∷ [])) ≡ lines_length trailers + 2
last_long trailers =
    omega (
      arith,
      length-append (flat_map trailer_line trailers ++ crlf) [],
      length-append (flat_map trailer_line trailers) crlf,
      lines_long trailers,
    )

empty_long : (trailers : List Trailer) → length (pieces_text (empty_chunk ∷ last_lines trailers ∷ [])) ≡ 2 + head_length false 0 + lines_length trailers + 2
empty_long trailers =
    omega (
      arith,
      length-append (crlf ++ head_text 0 None) (pieces_text (last_lines trailers ∷ [])),
      length-append crlf (head_text 0 None),
      head_long 0,
      last_long trailers,
    )

pub passed_long : (options : Options) → IsPassedLengthOf options (data_length options)
unfolding data_length
passed_long options pieces trailers long = by options.stream_length long
  where
    by : (n : ℕ) → length (joined pieces) ≡ n
        → length (pieces_text (pieces_of sent.Nothing n pieces trailers)) + declared_length options.trailer_lengths
        ≡ last_length false n + head_length false 0 + declared_length options.trailer_lengths + 2 + lines_length trailers
    by zero none =
        omega (
          arith,
          none,
          length-append (head_text 0 None) (pieces_text (map passed pieces ++ last_lines trailers ∷ [])),
          head_long 0,
          passed_long_before pieces (last_lines trailers ∷ []),
          last_long trailers,
        )
    by (suc n) some =
        omega (
          arith,
          some,
          length-append (head_text (suc n) None) (pieces_text (map passed pieces ++ empty_chunk ∷ last_lines trailers ∷ [])),
          head_long (suc n),
          passed_long_before pieces (empty_chunk ∷ last_lines trailers ∷ []),
          empty_long trailers,
        )

pub passed_told : (options : Options) (found : Option ℕ) → found ≡ fitting (data_length options) → IfSome found (λ n. IsPassedLengthOf options n)
passed_told options None is = tt
passed_told options (Some n) is = by (nat_lt (data_length options) (2 ^ 64)) is
  where
    by : (b : Bool) → Some n ≡ (if b then Some (data_length options) else None) → IsPassedLengthOf options n
    by true same = (let is : ◌≡◌ {A = Option ℕ} (Some n) (Some (data_length options)) = same in let n_is : n ≡ data_length options = cc in subst (IsPassedLengthOf options) (sym n_is) (passed_long options))
    by false same = (let is : ◌≡◌ {A = Option ℕ} (Some n) None = same in cc)
