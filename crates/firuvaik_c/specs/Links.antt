-- What a signing key and a link of a chain are made of.
use Rattle.std.specs.Prelude.{ℕ, ℤ, Bool, ◌&&◌, List, Option, Some, None, if◌then◌else◌}
use Rattle.std.specs.Option.{option_or}
use Rattle.std.specs.Str.{is_utf8}
use Rattle.smithy_core.specs.Civil.{is_in_years}
use Rattle.smithy_core.specs.Moment.{Instant}
use Rattle.eventstream.specs.Key.{Signer as KeySigner}
use Rattle.firuvaik_c.specs.Asked.{moment_at, unless_utf8}
use Rattle.firuvaik_c.specs.Faults.{beyond_years}
use Rattle.firuvaik_c.specs.declared.fault.Fault.{Fault}
use Rattle.firuvaik_c.specs.declared.lent.Signer.{Signer}

-- secret, region and service of a signer
abbrev pub key_signer : Signer → KeySigner
key_signer signer = record { secret = signer.secret.now; region = signer.region.now; name = signer.service.now }

-- secret, region and service are UTF-8
abbrev pub is_text_scope : Signer → Bool
is_text_scope signer = is_utf8 signer.secret.now && (is_utf8 signer.region.now && is_utf8 signer.service.now)

-- why a signer signs nothing at a second: a text isn't one, or the second lies outside the years 0 to 9999
abbrev pub keyless_at : Bool → ℤ → Option Fault
keyless_at are_texts seconds = option_or (unless_utf8 are_texts) (if is_in_years (moment_at seconds) then None else Some beyond_years)

-- why there is no link over a signature: a text isn't one, or the second lies outside the years
abbrev pub linkless : Signer → ℤ → List ℕ → Option Fault
linkless signer seconds previous_signature = keyless_at (is_text_scope signer && is_utf8 previous_signature) seconds

-- what the signature of a link is made of: who signs it, when, and the signature before it
pub record LinkParts : Type 0 where
  pub signer : KeySigner
  pub at : Instant
  pub previous_signature : List ℕ

-- the link of a signer at a second, over the signature before it
abbrev pub link_over : Signer → ℤ → List ℕ → LinkParts
link_over signer seconds previous_signature = record { signer = key_signer signer; at = moment_at seconds; previous_signature = previous_signature }
