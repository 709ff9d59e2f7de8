-- HMAC (RFC 2104) over SHA-256 (FIPS 180-4, as the crate `sha2` defines it).
use Rattle.std.specs.Prelude.{ℕ, ◌-◌, List, ◌++◌, length, map, replicate, bit_xor, nat_lt, if◌then◌else◌}
use Rattle.sha2.specs.Sha256.{sha256}
use Rattle.sha2.specs.Hashers.{Holds256}
use Rattle.mac_core.specs.declared.hmac.HmacSha256.{HmacSha256}

-- the key, or its digest where it has over 64 bytes
unfoldable pub short_key : List ℕ → List ℕ
short_key key = if nat_lt 64 (length key) then sha256 key else key

-- the short key filled with zeros to 64 bytes
unfoldable pub key_block : List ℕ → List ℕ
key_block key = short_key key ++ replicate (64 - length (short_key key)) 0

-- each byte xored with the pad
unfoldable pub xored : ℕ → List ℕ → List ℕ
xored pad bytes = map (λ b. bit_xor b pad) bytes

-- the HMAC of a text under a key block: the outer pad, and the digest of the inner pad and the text
unfoldable pub mac_of_block : List ℕ → List ℕ → List ℕ
mac_of_block block text = sha256 (xored 0x5C block ++ sha256 (xored 0x36 block ++ text))

-- HMAC-SHA-256 of a text under a key
unfoldable pub mac : List ℕ → List ℕ → List ℕ
mac key text = mac_of_block (key_block key) text

-- the hasher has taken the outer pad of this key block, and its inner pad and this text
pub record HoldsMac (hasher : HmacSha256) (block text : List ℕ) : Type 0 where
  pub outer : Holds256 hasher.outer (xored 0x5C block)
  pub inner : Holds256 hasher.inner (xored 0x36 block ++ text)
