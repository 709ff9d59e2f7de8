-- How the lengths that options tell are those of texts.
use Rattle.std.specs.Prelude.{◌≡◌, ℕ, ◌+◌, List, length}
use Rattle.aws_chunked.specs.Body.{Trailer, lines_length}
use Rattle.aws_chunked.specs.Made.{joined}
use Rattle.aws_chunked.specs.Options.{Options, declared_length}
use Rattle.aws_chunked.specs.Passing.{pieces_of, pieces_text}
use Rattle.aws_chunked.specs.Text.{chunked_text}
use Rattle.aws_chunked.specs.declared.piece_engine.Sent.TheVariants as sent

-- the number is the length of the text without signatures of any data of the declared length, with the declared lengths of the
-- trailers in place of those of their lines: so of trailers that have the declared lengths it is the length of the whole text
abbrev pub IsLengthOf : Options → ℕ → Type 0
IsLengthOf options n = (bytes : List ℕ) (trailers : List Trailer) → length bytes ≡ options.stream_length
    → length (chunked_text options.chunk_size bytes trailers) + declared_length options.trailer_lengths ≡ n + lines_length trailers

-- the same of the text for HTTP 0.x, in which data goes out in any pieces
abbrev pub IsPassedLengthOf : Options → ℕ → Type 0
IsPassedLengthOf options n = (pieces : List (List ℕ)) (trailers : List Trailer) → length (joined pieces) ≡ options.stream_length
    → length (pieces_text (pieces_of sent.Nothing options.stream_length pieces trailers)) + declared_length options.trailer_lengths ≡ n + lines_length trailers
