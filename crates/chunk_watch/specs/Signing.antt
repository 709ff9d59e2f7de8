-- Who signs the chunks of a body, and when.
use Rattle.std.specs.Prelude.{◌≡◌, ◌⊎◌, false, Result, Ok, Err}
use Rattle.smithy_core.specs.Civil.{is_in_years}
use Rattle.smithy_core.specs.Moment.{Instant}
use Rattle.eventstream.specs.Key.{Signer}
use Rattle.chunk_watch.specs.declared.fault.ChunkFault.{ChunkFault}
use Rattle.chunk_watch.specs.declared.fault.ChunkFault.TheVariants.{MomentOutOfRange, NoMemory}

-- who signs, and at which moment
pub record Signing : Type 0 where
  pub signer : Signer
  pub at : Instant

-- they sign at a moment in the years 0 to 9999, and else the moment is refused, unless memory ran out
abbrev pub MakesChunkSigner : Signer → Instant → Result Signing ChunkFault → Type 0
MakesChunkSigner signer at (Ok made) = made ≡ record { signer = signer; at = at }
MakesChunkSigner signer at (Err fault) = ((fault ≡ MomentOutOfRange) × (is_in_years at ≡ false)) ⊎ (fault ≡ NoMemory)
