-- What the links of one second are hashed with.
use Rattle.std.specs.Prelude.{◌≡◌, ℤ, Option, Some, None}
use Rattle.sha2.specs.Sha256.{sha256}
use Rattle.hex.specs.Hex.{encode_lower}
use Rattle.mac_core.specs.Mac.{HoldsMac, key_block}
use Rattle.smithy_core.specs.Moment.{Instant}
use Rattle.eventstream.specs.Frame.{spelling}
use Rattle.eventstream.specs.Key.{Signer, signing_key}
use Rattle.eventstream.specs.Link.{date_header, payload_lines}
use Rattle.sigv4.specs.declared.second_hasher.SecondHasher.{SecondHasher}

-- the moment at which a second begins
abbrev pub at_second : ℤ → Instant
at_second secs = record { secs = secs; nanos = 0 }

-- the HMAC is that under the signing key of its second, after these lines, and the digest is that of the second's header `:date`
pub record HashesFor (signer : Signer) (hasher : SecondHasher) : Type 0 where
  pub begun : HoldsMac hasher.begun (key_block (signing_key signer (at_second hasher.secs))) (payload_lines (at_second hasher.secs) signer.region signer.name)
  pub date_digits : hasher.date_digits ≡ encode_lower (sha256 (spelling (date_header (at_second hasher.secs))))

-- what is kept for a second, if any, is for who signs
abbrev pub IsHasherFor : Signer → Option SecondHasher → Type 0
IsHasherFor signer None = Unit {0}
IsHasherFor signer (Some hasher) = HashesFor signer hasher
