-- The words of `chunk`.
use Rattle.std.specs.Prelude.{ℕ, if◌then◌else◌, List, [], ◌∷◌, ◌++◌, codes, bytes_eq, Option, Some, None, is_some}
use Rattle.sigv4.specs.Refusal.{is_name, is_value}
use Rattle.smithy_core.specs.TextPairs.{lower}
use Rattle.job_text.specs.ChunkSize.{spelled_size}
use Rattle.signed_stream.specs.declared.command.chunk.ChunkWords.{ChunkWords}
use Rattle.signed_stream.specs.declared.command.chunk.GivenChunk.{GivenChunk}
use Rattle.signed_stream.specs.declared.command.chunk.ChunkValue.{ChunkValue}
use Rattle.signed_stream.specs.declared.command.chunk.ChunkValue.TheVariants.{Size, TrailerName, TrailerValue}

-- what `chunk` is asked for: how many bytes a chunk has, and the trailers in order, their names in lower case
pub record ChunkWanted : Type 0 where
  pub size : ℕ
  pub trailers : List (List ℕ × List ℕ)

-- what the words so far gave, the name of the trailer whose value comes next, and what the next word is, where it is no option
pub record ChunkGiven : Type 0 where
  pub size : Option ℕ
  pub trailers : List (List ℕ × List ℕ)
  pub name : List ℕ
  pub awaited : Option ChunkValue

-- no options
abbrev pub no_chunk_given : ChunkGiven
no_chunk_given = record { size = None; trailers = []; name = []; awaited = None }

-- an option: `--size`, which stands once, or `--trailer`
abbrev pub take_chunk_option : ChunkGiven → List ℕ → Option ChunkGiven
take_chunk_option given word =
    if bytes_eq word (codes "--size") then (if is_some given.size then None else Some (record given { awaited = Some Size }))
    else if bytes_eq word (codes "--trailer") then Some (record given { awaited = Some TrailerName })
    else None

-- the value of `--size`
abbrev pub take_chunk_size : ChunkGiven → Option ℕ → Option ChunkGiven
take_chunk_size given None = None
take_chunk_size given (Some n) = Some (record given { size = Some n; awaited = None })

-- the name of a trailer: that of a header
abbrev pub take_trailer_name : ChunkGiven → List ℕ → Option ChunkGiven
take_trailer_name given word = if is_name word then Some (record given { name = word; awaited = Some TrailerValue }) else None

-- the value of a trailer: that of a header
abbrev pub take_trailer_value : ChunkGiven → List ℕ → Option ChunkGiven
take_trailer_value given word = if is_value word then Some (record given { trailers = given.trailers ++ (lower given.name, word) ∷ []; awaited = None }) else None

-- a word: what is awaited, or else an option; or it is bad
abbrev pub take_chunk_word : ChunkGiven → Option ChunkValue → List ℕ → Option ChunkGiven
take_chunk_word given None word = take_chunk_option given word
take_chunk_word given (Some Size) word = take_chunk_size given (spelled_size word)
take_chunk_word given (Some TrailerName) word = take_trailer_name given word
take_chunk_word given (Some TrailerValue) word = take_trailer_value given word

-- how many bytes a chunk has: 65,536, unless another number is given
abbrev pub size_of : Option ℕ → ℕ
size_of None = 65536
size_of (Some n) = n

-- what is asked for
abbrev pub chunk_asked : ChunkGiven → ChunkWanted
chunk_asked given = record { size = size_of given.size; trailers = given.trailers }

-- a word of `chunk`
abbrev pub chunk_word : ChunkGiven → List ℕ → Option ChunkGiven
chunk_word given word = take_chunk_word given given.awaited word

-- ## What the readers of the words answer

-- what the words so far gave
abbrev pub chunk_given : GivenChunk → ChunkGiven
chunk_given given = record { size = given.size; trailers = given.trailers; name = given.name.now; awaited = given.awaited }

-- what the words ask for
abbrev pub chunk_wanted : ChunkWords → ChunkWanted
chunk_wanted words = record { size = words.size; trailers = words.trailers }
