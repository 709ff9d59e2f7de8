-- Between the functions that read the end of a body: a reader of `ChunkWatch` needs none of it.
use Rattle.std.specs.Prelude.{◌≡◌, ◌⊎◌, ℕ, List, [], ◌∷◌, ◌++◌, codes, map, Result, Ok, Err, String, string_bytes}
use Rattle.std.specs.declared.alloc.Global.{Global}
use Rattle.aws_chunked.specs.Body.{Trailer}
use Rattle.aws_chunked.specs.Text.{crlf}
use Rattle.aws_chunked.specs.declared.decode.Decoded.{Decoded}
use Rattle.chunk_watch.specs.Trailers.{IsNoEnd, IsReadAs, ReadsAs, plain_lines}
use Rattle.chunk_watch.specs.declared.fault.ChunkFault.{ChunkFault}
use Rattle.chunk_watch.specs.declared.fault.ChunkFault.TheVariants.{BadTrailers, NoMemory}

-- a signature that isn't looked at
abbrev pub zeros : List ℕ
zeros = codes "0000000000000000000000000000000000000000000000000000000000000000"

-- the line of an empty chunk
abbrev pub empty_line : List ℕ
empty_line = codes "0;chunk-signature=" ++ (zeros ++ crlf)

-- bytes are read as the end of a body with trailers, or are none
abbrev pub ReadsEnd : List ℕ → Result (List Trailer × String Global) ChunkFault → Type 0
ReadsEnd bytes (Ok (trailers, signature)) = ReadsAs bytes trailers (string_bytes signature)
ReadsEnd bytes (Err fault) = ((fault ≡ BadTrailers) × IsNoEnd bytes) ⊎ (fault ≡ NoMemory)

-- the same, also without loose line feeds
abbrev pub ReadsEitherEnd : List ℕ → Result (List Trailer × String Global) ChunkFault → Type 0
ReadsEitherEnd bytes (Ok (trailers, signature)) = IsReadAs bytes trailers (string_bytes signature)
ReadsEitherEnd bytes (Err fault) = ((fault ≡ BadTrailers) × IsNoEnd bytes × IsNoEnd (plain_lines bytes)) ⊎ (fault ≡ NoMemory)

-- of a text without data and with two signatures the trailers and the second signature are taken
abbrev pub TakesEnd : Decoded → Result (List Trailer × String Global) ChunkFault → Type 0
TakesEnd decoded (Ok (trailers, signature)) =
    (decoded.body ≡ []) × (first : List ℕ) × (map string_bytes decoded.signatures.items ≡ first ∷ string_bytes signature ∷ []) × (trailers ≡ decoded.trailers)
TakesEnd decoded (Err fault) =
    (fault ≡ BadTrailers) × ((first second : List ℕ) → decoded.body ≡ [] → map string_bytes decoded.signatures.items ≡ first ∷ second ∷ [] → ⊥)
