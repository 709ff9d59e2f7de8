-- The signature of a request of AWS Signature Version 4, over its canonical text.
use Rattle.std.specs.Prelude.{ℕ, ◌==◌, Bool, ◌&&◌, ◌||◌, List, ◌++◌, codes, length}
use Rattle.std.specs.Int.{is_in_range}
use Rattle.std.specs.List.{list_all}
use Rattle.sha2.specs.Sha256.{sha256}
use Rattle.hex.specs.Hex.{encode_lower}
use Rattle.mac_core.specs.Mac.{mac}
use Rattle.smithy_core.specs.Civil.{stamp}
use Rattle.smithy_core.specs.Moment.{Instant}
use Rattle.eventstream.specs.Key.{Signer, scope, signing_key}
use Rattle.eventstream.specs.Link.{begun_lines}

-- the algorithm, a stamp, a scope and a digest, a line each, with no LF after the last
abbrev pub string_to_sign_over : List ℕ → List ℕ → List ℕ → List ℕ
string_to_sign_over stamp_text scope_text digest = begun_lines (codes "AWS4-HMAC-SHA256") stamp_text scope_text ++ digest

-- that of the digest of a canonical text
abbrev pub string_to_sign_of : List ℕ → List ℕ → List ℕ → List ℕ
string_to_sign_of stamp_text scope_text canonical = string_to_sign_over stamp_text scope_text (encode_lower (sha256 canonical))

-- the string to sign of a canonical text, for a region and a name
unfoldable pub string_to_sign : Instant → List ℕ → List ℕ → List ℕ → List ℕ
string_to_sign t region name canonical = string_to_sign_of (stamp t) (scope t region name) canonical

-- the HMAC of the string to sign under the signing key, in lower-case hexadecimal
unfoldable pub signature : Signer → Instant → List ℕ → List ℕ
signature signer t canonical = encode_lower (mac (signing_key signer t) (string_to_sign t signer.region signer.name canonical))

-- a hexadecimal digit in lower case
abbrev pub is_lower_digit : ℕ → Bool
is_lower_digit byte = is_in_range 48 57 byte || is_in_range 97 102 byte

-- 64 hexadecimal digits in lower case
unfoldable pub is_signature : List ℕ → Bool
is_signature text = (length text == 64) && list_all is_lower_digit text
