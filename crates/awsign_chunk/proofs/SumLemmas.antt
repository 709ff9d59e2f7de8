-- The trailer of a checksum that was taken piece by piece.
use Rattle.std.proofs.Common.{◌≡◌, ◌-◌, ℕ, List, [], ◌∷◌, codes, Option, Some, None, ap, sym}
use Rattle.std.specs.Int.{to_be_bytes, w32}
use Rattle.base64.specs.Engines.{standard}
use Rattle.base64.specs.GeneralPurpose.{encode_of}
use Rattle.sha2.specs.Sha256.{sha256}
use Rattle.sha2.specs.Hashers.{Holds256}
use Rattle.sha2.specs.declared.Sha256.{Sha256 as Hasher}
use Rattle.mac_core.specs.Crc.{remainder}
use Rattle.awsign_words.specs.declared.words.Checksum.{Checksum}
use Rattle.awsign_words.specs.declared.words.Checksum.TheVariants.{Crc32, Sha256}
use Rattle.awsign_chunk.specs.Sent.{checksum_trailers}
use Rattle.awsign_chunk.specs.Sum.{HoldsSum}
use Rattle.awsign_chunk.specs.declared.sum.RunningSum.TheVariants as running

-- that of CRC-32
pub crc_trailer : (crc : ℕ) (checksum : Option Checksum) (taken : List ℕ) → HoldsSum (running.Crc32 crc) checksum taken
    → checksum_trailers checksum taken ≡ (codes "x-amz-checksum-crc32", encode_of standard (to_be_bytes w32 (0xFFFFFFFF - crc))) ∷ []
unfolding remainder
crc_trailer crc None taken holds = absurd holds
crc_trailer crc (Some Sha256) taken holds = absurd holds
crc_trailer crc (Some Crc32) taken holds =
    ap (λ (n : ℕ). (codes "x-amz-checksum-crc32", encode_of standard (to_be_bytes w32 (0xFFFFFFFF - n))) ∷ []) (sym holds)

-- that of SHA-256
pub digest_trailer : (hasher : Hasher) (digest : List ℕ) (checksum : Option Checksum) (taken : List ℕ) → HoldsSum (running.Sha256 hasher) checksum taken
    → ((m : List ℕ) → Holds256 hasher m → digest ≡ sha256 m)
    → checksum_trailers checksum taken ≡ (codes "x-amz-checksum-sha256", encode_of standard digest) ∷ []
digest_trailer hasher digest None taken holds is = absurd holds
digest_trailer hasher digest (Some Crc32) taken holds is = absurd holds
digest_trailer hasher digest (Some Sha256) taken holds is =
    ap (λ (m : List ℕ). (codes "x-amz-checksum-sha256", encode_of standard m) ∷ []) (sym (is taken holds))
