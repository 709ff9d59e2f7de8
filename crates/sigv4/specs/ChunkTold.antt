-- What contracts see of a signer of chunks and trailers, and what it answers.
use Rattle.std.specs.Prelude.{◌≡◌, ℕ, ◌⊎◌, List, Option, Some, None, Result, Ok, Err, String, string_bytes, if◌then◌else◌}
use Rattle.std.specs.declared.alloc.Global.{Global}
use Rattle.smithy_core.specs.Civil.{is_in_years}
use Rattle.smithy_core.specs.Moment.{Instant}
use Rattle.eventstream.specs.Key.{Signer}
use Rattle.sigv4.specs.Chunk.{chunk_signature, trailer_signature}
use Rattle.sigv4.specs.Query.{Pair}
use Rattle.sigv4.specs.declared.error.SigningError.{SigningError}
use Rattle.sigv4.specs.declared.error.SigningError.TheVariants.{MomentOutOfRange, NoMemory, SignerNotWired}

-- what is told of a signer of chunks
pub data ChunkTold : Type 0 where
  -- it signs over this signature, for who signs, at this moment, and goes on from the new signature
  signs_over : List ℕ → Signer → Instant → ChunkTold
  -- a signer that waits for another one
  unwired : ChunkTold
  -- nothing is told
  untold : ChunkTold

-- why nothing is signed at a moment: it lies outside the years 0 to 9999
abbrev pub unsigned_chunk_at : Instant → Option SigningError
unsigned_chunk_at t = if is_in_years t then None else Some (MomentOutOfRange t)

-- with no reason against it the answer is the next signature, and the signer goes on from it; else it is the reason, or
-- memory ran out, and the signer stays
abbrev pub SignsNextPart : List ℕ → List ℕ → Signer → Instant → Result (String Global) SigningError → ChunkTold → Type 0
SignsNextPart next signature signer t (Ok answer) now = (unsigned_chunk_at t ≡ None) × (string_bytes answer ≡ next) × (now ≡ signs_over next signer t)
SignsNextPart next signature signer t (Err error) now = ((unsigned_chunk_at t ≡ Some error) ⊎ (error ≡ NoMemory)) × (now ≡ signs_over signature signer t)

-- what a signer answers for a part that has a signature for who signs, a moment and the signature before it, by what is told of the
-- signer before and after
abbrev pub SignsNext : (Signer → Instant → List ℕ → List ℕ) → ChunkTold → Result (String Global) SigningError → ChunkTold → Type 0
SignsNext next (signs_over signature signer t) result now = SignsNextPart (next signer t signature) signature signer t result now
SignsNext next unwired (Ok answer) now = ⊥
SignsNext next unwired (Err error) now = (error ≡ SignerNotWired) × (now ≡ unwired)
SignsNext next untold result now = now ≡ untold

-- what it answers for a chunk
abbrev pub SignsChunk : ChunkTold → List ℕ → Result (String Global) SigningError → ChunkTold → Type 0
SignsChunk told chunk result now = SignsNext (chunk_signature chunk) told result now

-- what it answers for trailers
abbrev pub SignsTrailers : ChunkTold → List Pair → Result (String Global) SigningError → ChunkTold → Type 0
SignsTrailers told trailers result now = SignsNext (trailer_signature trailers) told result now
