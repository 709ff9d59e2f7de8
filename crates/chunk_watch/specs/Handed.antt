-- The text of data and trailers that is written in signed chunks (`signed_chunked_text` of aws_chunked) is handed out whole.
use Rattle.std.specs.Prelude.{◌≡◌, ◌≤◌, ◌⊎◌, ℕ, true, false, List, [], ◌∷◌, ◌++◌, length, None, Option, Result, Ok, Err}
use Rattle.std.specs.List.{AllByRecursion, flat_map}
use Rattle.smithy_core.specs.Moment.{Instant}
use Rattle.eventstream.specs.Key.{Signer}
use Rattle.sigv4.specs.Chunk.{chunk_signature}
use Rattle.aws_chunked.specs.Body.{Trailer}
use Rattle.aws_chunked.specs.Decoded.{IsTrailer}
use Rattle.aws_chunked.specs.Due.{signed_chunked_text, trailers_signature}
use Rattle.aws_chunked.specs.Made.{joined}
use Rattle.aws_chunked.specs.Options.{IsChunkSize}
use Rattle.aws_chunked.specs.Text.{crlf, last_line, pieces_of_size, trailer_line}
use Rattle.chunk_watch.specs.Trailers.{are_announced}
use Rattle.chunk_watch.specs.Walk.{ChunkPoint, FedAll, step}
use Rattle.chunk_watch.specs.Watch.{ChunkWatching, EndsSignedAt, EndsAt, new_chunk_watch, rules_of}
use Rattle.chunk_watch.specs.declared.fault.ChunkFault.{ChunkFault}
use Rattle.chunk_watch.specs.declared.fault.ChunkFault.TheVariants.{NoMemory}
use Rattle.chunk_watch.specs.declared.limits.ChunkLimits.{ChunkLimits}

-- the signature of the empty chunk behind these pieces of data
abbrev pub last_signature : Signer → Instant → List ℕ → List (List ℕ) → List ℕ
last_signature signer t before [] = chunk_signature [] signer t before
last_signature signer t before (piece ∷ pieces) = last_signature signer t (chunk_signature piece signer t before) pieces

-- what stands behind the line of the empty chunk, whose signature is the one before
abbrev pub end_text : Signer → Instant → List ℕ → List Trailer → List ℕ
end_text signer t before trailers = flat_map trailer_line trailers ++ (last_line (trailers_signature signer t before trailers) ++ crlf)

-- at a point a body ends with these trailers, where its length is right: without any `finish` is `Ok`, and with some `finish_with_trailers` answers them, unless
-- memory runs out
abbrev pub EndsGiving : ChunkWatching → ChunkPoint → List Trailer → Type 0
EndsGiving watch point [] = (result : Result (Unit {0}) ChunkFault) → EndsAt false point result → result ≡ Ok tt
EndsGiving watch point (trailer ∷ trailers) =
    (announced : Option (List ℕ)) (result : Result (List Trailer) ChunkFault) → are_announced announced (trailer ∷ trailers) ≡ true
    → EndsSignedAt false watch.signing announced point result → (result ≡ Ok (trailer ∷ trailers)) ⊎ (result ≡ Err NoMemory)

-- the text of data and trailers, signed in chunks of one size, in any pieces: a new watch whose limits it keeps hands out the data, and ends with the trailers
abbrev pub HandsWritten : Signer → Instant → ChunkLimits → List ℕ → Type 0
HandsWritten signer t limits seed =
    (size : ℕ) (bytes given : List ℕ) (trailers : List Trailer) (pieces : List (List ℕ)) (to : ChunkPoint) →
    let watch = new_chunk_watch signer t limits seed in
    IsChunkSize size → size ≤ limits.chunk → length (end_text signer t (last_signature signer t seed (pieces_of_size size bytes)) trailers) ≤ limits.end
    → AllByRecursion IsTrailer trailers → joined pieces ≡ signed_chunked_text signer t seed size bytes trailers
    → FedAll (rules_of watch) watch.point pieces given to → step (rules_of watch) to ≡ None → (given ≡ bytes) × EndsGiving watch to trailers
