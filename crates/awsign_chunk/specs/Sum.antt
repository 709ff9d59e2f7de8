-- The checksum of data that comes piece by piece.
use Rattle.std.specs.Prelude.{◌≡◌, ℕ, List, Option, Some, None}
use Rattle.sha2.specs.Hashers.{Holds256}
use Rattle.mac_core.specs.Crc.{after_bytes, before_any}
use Rattle.awsign_words.specs.declared.words.Checksum.{Checksum}
use Rattle.awsign_words.specs.declared.words.Checksum.TheVariants as asked
use Rattle.awsign_chunk.specs.declared.sum.RunningSum.{RunningSum}
use Rattle.awsign_chunk.specs.declared.sum.RunningSum.TheVariants as running

-- the checksum that is asked for has taken these bytes, in order
abbrev pub HoldsSum : RunningSum → Option Checksum → List ℕ → Type 0
HoldsSum running.Nothing None bytes = Unit {0}
HoldsSum (running.Crc32 crc) (Some asked.Crc32) bytes = crc ≡ after_bytes before_any bytes
HoldsSum (running.Sha256 hasher) (Some asked.Sha256) bytes = Holds256 hasher bytes
HoldsSum sum checksum bytes = ⊥
