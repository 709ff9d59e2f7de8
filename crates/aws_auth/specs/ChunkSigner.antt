-- What a signer of chunks and trailers promises, which goes on from the signature of its request, at that request's moment.
use Rattle.std.specs.Prelude.{◌≡◌, ℕ, ◌⊎◌, List, Some, None, Result, Ok, Err, String, string_bytes}
use Rattle.std.specs.declared.alloc.Global.{Global}
use Rattle.smithy_core.specs.Moment.{Instant}
use Rattle.smithy_core.specs.declared.identity.Identity.{Identity}
use Rattle.smithy_core.specs.declared.identity.Identity.TheVariants.{Credentials, Token}
use Rattle.eventstream.specs.Key.{Signer}
use Rattle.sigv4.specs.Chunk.{chunk_signature, trailer_signature}
use Rattle.sigv4.specs.ChunkTold.{ChunkTold, signs_over, untold}
use Rattle.sigv4.specs.EventStream.{unsignable}
use Rattle.sigv4.specs.Query.{Pair}
use Rattle.sigv4.specs.declared.error.SigningError.{SigningError}
use Rattle.sigv4.specs.declared.error.SigningError.TheVariants.{NoMemory}
use Rattle.aws_auth.specs.MessageSigner.{SignerState, running_signature, signer_in}

-- what is told of a signer of chunks, by who signs
abbrev pub chunk_told_by : Identity → List ℕ → Signer → Instant → ChunkTold
chunk_told_by (Credentials credentials) signature signer t = signs_over signature signer t
chunk_told_by (Token token) signature signer t = untold

-- what is told of a signer of chunks: credentials sign over the last signature, at the moment of the request
abbrev pub chunk_told : {S : Type 0} → SignerState S → ChunkTold
chunk_told signer = chunk_told_by signer.parts.identity (running_signature signer) (signer_in signer) signer.parts.time

-- with no reason against it the answer is the signature that a part has over the last one, in whose place it comes; else it is the
-- reason, or memory ran out, and the signer stays
abbrev pub SignsOver : {S : Type 0} → (Signer → Instant → List ℕ → List ℕ) → SignerState S → Result (String Global) SigningError → SignerState S → Type 0
SignsOver part old (Ok answer) new =
    (unsignable old.parts.identity old.parts.time ≡ None)
    × (string_bytes answer ≡ part (signer_in old) old.parts.time (running_signature old))
    × (new ≡ record old { running_signature = string_bytes answer })
SignsOver part old (Err error) new = ((unsignable old.parts.identity old.parts.time ≡ Some error) ⊎ (error ≡ NoMemory)) × (new ≡ old)

-- the signing of a chunk
abbrev pub SignsChunkOver : {S : Type 0} → SignerState S → List ℕ → Result (String Global) SigningError → SignerState S → Type 0
SignsChunkOver old chunk result new = SignsOver (chunk_signature chunk) old result new

-- the signing of trailers
abbrev pub SignsTrailersOver : {S : Type 0} → SignerState S → List Pair → Result (String Global) SigningError → SignerState S → Type 0
SignsTrailersOver old trailers result new = SignsOver (trailer_signature trailers) old result new
