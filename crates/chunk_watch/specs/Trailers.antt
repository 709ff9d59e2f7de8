-- The end of a body with trailers (Amazon S3, "Signature calculations for the Authorization header: including trailing headers"): their lines, the line of
-- their signature, and an empty line.
use Rattle.std.specs.Prelude.{◌≡◌, ◌≢◌, ◌⊎◌, ℕ, ◌<◌, ◌==◌, ◌&&◌, Bool, true, false, not, List, [], ◌∷◌, ◌++◌, if◌then◌else◌, bytes_eq, length, Option, Some, None, Result, Ok, Err}
use Rattle.std.specs.List.{AllByRecursion, flat_map}
use Rattle.sigv4.specs.Chunk.{trailer_signature}
use Rattle.aws_chunked.specs.Announcement.{trailer_names}
use Rattle.aws_chunked.specs.Body.{Trailer}
use Rattle.aws_chunked.specs.Decoded.{IsSignature, IsTrailer}
use Rattle.aws_chunked.specs.Rests.{begins_with}
use Rattle.aws_chunked.specs.Text.{crlf, last_line, trailer_line}
use Rattle.chunk_watch.specs.Signing.{Signing}
use Rattle.chunk_watch.specs.declared.fault.ChunkFault.{ChunkFault}
use Rattle.chunk_watch.specs.declared.fault.ChunkFault.TheVariants.{BadTrailers, NoMemory, OtherTrailers, TrailerMismatch}

-- a line feed that stands before the end of a line and isn't the end of one
abbrev pub is_loose : ℕ → ℕ → List ℕ → Bool
is_loose before byte bytes = (byte == 10) && (not (before == 13) && begins_with 13 bytes)

-- bytes behind another one without loose line feeds
abbrev pub plain_after : ℕ → List ℕ → List ℕ
plain_after before [] = []
plain_after before (byte ∷ bytes) = if is_loose before byte bytes then plain_after byte bytes else byte ∷ plain_after byte bytes

-- bytes without loose line feeds: minio's client writes one before the end of a trailer's line
abbrev pub plain_lines : List ℕ → List ℕ
plain_lines bytes = plain_after 0 bytes

-- the end with these trailers and this signature of them
abbrev pub trailers_text : List Trailer → List ℕ → List ℕ
trailers_text trailers signature = flat_map trailer_line trailers ++ (last_line (Some signature) ++ crlf)

-- bytes are the end with these trailers, one at least, whose names are in lower case, and with a signature of 64 hexadecimal digits in lower case
pub record IsTrailersEnd (trailers : List Trailer) (signature bytes : List ℕ) : Type 0 where
  pub some : 0 < length trailers
  pub are : AllByRecursion IsTrailer trailers
  pub signed : IsSignature signature
  pub text : bytes ≡ trailers_text trailers signature

-- they are the end with these trailers and this signature, and with no others
pub record ReadsAs (bytes : List ℕ) (trailers : List Trailer) (signature : List ℕ) : Type 0 where
  pub is : IsTrailersEnd trailers signature bytes
  pub only : (others : List Trailer) (other : List ℕ) → IsTrailersEnd others other bytes → (others ≡ trailers) × (other ≡ signature)

-- they are the end with no trailers at all
abbrev pub IsNoEnd : List ℕ → Type 0
IsNoEnd bytes = (trailers : List Trailer) (signature : List ℕ) → IsTrailersEnd trailers signature bytes → ⊥

-- they are read as they are, or else without loose line feeds
abbrev pub IsReadAs : List ℕ → List Trailer → List ℕ → Type 0
IsReadAs bytes trailers signature = ReadsAs bytes trailers signature ⊎ (IsNoEnd bytes × ReadsAs (plain_lines bytes) trailers signature)

-- trailers have the announced names, with `,` between, as `x-amz-trailer` gives them, where they were announced
abbrev pub are_announced : Option (List ℕ) → List Trailer → Bool
are_announced None trailers = true
are_announced (Some names) trailers = bytes_eq names (trailer_names trailers)

-- the trailers aren't the announced ones; or they are, and carry another signature than their own
abbrev pub RefusesTrailers : Bool → List ℕ → List ℕ → ChunkFault → Type 0
RefusesTrailers false own signature fault = fault ≡ OtherTrailers
RefusesTrailers true own signature fault = (fault ≡ TrailerMismatch) × (signature ≢ own)

-- what is told of the bytes behind the empty chunk, whose signature is the one before: the trailers, which are the announced ones and carry their own
-- signature; or the first reason against them; or memory ran out
abbrev pub JudgesTrailers : Signing → List ℕ → Option (List ℕ) → List ℕ → Result (List Trailer) ChunkFault → Type 0
JudgesTrailers signing before announced bytes (Ok trailers) =
    IsReadAs bytes trailers (trailer_signature trailers signing.signer signing.at before) × (are_announced announced trailers ≡ true)
JudgesTrailers signing before announced bytes (Err fault) =
    ((fault ≡ BadTrailers) × IsNoEnd bytes × IsNoEnd (plain_lines bytes))
    ⊎ (((trailers : List Trailer) × (signature : List ℕ) × IsReadAs bytes trailers signature
    × RefusesTrailers (are_announced announced trailers) (trailer_signature trailers signing.signer signing.at before) signature fault)
    ⊎ (fault ≡ NoMemory))
