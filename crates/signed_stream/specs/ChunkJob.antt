-- The command `chunk`: the input in chunks.
use Rattle.std.specs.Prelude.{ℕ, List}
use Rattle.aws_chunked.specs.Text.{chunked_text}
use Rattle.signed_stream.specs.ChunkWords.{ChunkWanted}
use Rattle.signed_stream.specs.Plan.{Plan, writes}
use Rattle.signed_stream.specs.Status.{done}

-- what is shown: the text of the bytes in chunks that aren't signed, and of the trailers
unfoldable pub shown_chunks : ChunkWanted → List ℕ → List ℕ
shown_chunks wanted bytes = chunked_text wanted.size bytes wanted.trailers

-- to write that
abbrev pub chunk_plan : ChunkWanted → List ℕ → Plan
chunk_plan wanted bytes = writes (shown_chunks wanted bytes) done
