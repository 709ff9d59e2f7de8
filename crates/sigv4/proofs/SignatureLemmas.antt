-- Signatures are values of headers.
use Rattle.std.proofs.Common.{◌≡◌, ℕ, zero, suc, ◌/◌, ◌%◌, ◌<◌, Bool, true, false, ◌&&◌, List, [], ◌∷◌, ◌++◌, codes, slice_index, refl, ap, ◌∙◌, arith}
use Rattle.std.specs.Prelude.{nat_lt}
use Rattle.std.specs.Int.{byte_at, bytes_high_first, to_be_bytes, w32}
use Rattle.std.specs.List.{list_all}
use Rattle.std.proofs.lemmas.Bool.{agree_below_at, lt-ltb, ltb-true, and_parts}
use Rattle.std.proofs.lemmas.List.Folds.{list_all-append}
use Rattle.sha2.specs.Sha256.{sha256, digest_bytes, final_hash, initial_hash_256}
use Rattle.hex.specs.Hex.{encode_lower, encode_with, lower_digits}
use Rattle.http_header.specs.Token.{is_value_byte}
use Rattle.mac_core.specs.Mac.{mac, mac_of_block}
use Rattle.sigv4.specs.Canonical.{credential, joined_names, names}
use Rattle.sigv4.specs.Request.{Case}
use Rattle.sigv4.specs.Refusal.{is_value}
use Rattle.sigv4.specs.Signature.{signature}
use Rattle.sigv4.specs.Signed.{authorization, signature_of}

abbrev is_byte : ℕ → Bool
is_byte b = nat_lt b 256

byte_at-byte : (k n : ℕ) → is_byte (byte_at k n) ≡ true
byte_at-byte zero n = lt-ltb _ _ (omega arith)
byte_at-byte (suc k) n = lt-ltb _ _ (omega arith)

high_first-bytes : (k n : ℕ) → list_all is_byte (bytes_high_first k n) ≡ true
high_first-bytes zero n = refl
high_first-bytes (suc k) n = λ i. byte_at-byte k n i && high_first-bytes k n i

digest-bytes : (h : List ℕ) (n : ℕ) → list_all is_byte (digest_bytes h n) ≡ true
unfolding digest_bytes
digest-bytes h zero = refl
digest-bytes h (suc n) = list_all-append is_byte (digest_bytes h n) (to_be_bytes w32 (slice_index h n)) ∙ (λ i. digest-bytes h n i && high_first-bytes 4 (slice_index h n) i)

-- a digest is made of bytes
pub sha256-bytes : (text : List ℕ) → list_all is_byte (sha256 text) ≡ true
unfolding sha256
sha256-bytes text = digest-bytes (final_hash initial_hash_256 text) 8

abbrev is_fine : ℕ → Bool
is_fine digit = is_value_byte (slice_index lower_digits digit)

fine : (digit : ℕ) → digit < 16 → is_fine digit ≡ true
fine digit h = agree_below_at is_fine (λ _. true) 16 digit refl h

-- bytes in hexadecimal may be a header's value
pub encode-value : (bytes : List ℕ) → list_all is_byte bytes ≡ true → list_all is_value_byte (encode_lower bytes) ≡ true
unfolding encode_with
encode-value [] h = refl
encode-value (b ∷ bytes) h =
    let parts = and_parts _ _ h in
    let small : b < 256 = ltb-true _ _ parts.0 in
    λ i. fine (b / 16) (omega arith) i && (fine (b % 16) (omega arith) i && encode-value bytes parts.1 i)

mac-bytes : (key text : List ℕ) → list_all is_byte (mac key text) ≡ true
unfolding mac mac_of_block
mac-bytes key text = sha256-bytes _

-- a signature may be a header's value
pub signature-value : (c : Case) → is_value (signature_of c) ≡ true
unfolding signature_of signature
signature-value c = encode-value _ (mac-bytes _ _)

pub and-true : (b : Bool) → (b && true) ≡ b
and-true true = refl
and-true false = refl

-- a text of such bytes in front changes nothing
behind : (front text : List ℕ) → is_value front ≡ true → is_value (front ++ text) ≡ is_value text
behind front text fine = list_all-append is_value_byte front text ∙ (λ i. fine i && is_value text)

-- an authorization may be a header's value where the credential and the names may
pub authorization-value : (c : Case) → is_value (authorization c) ≡ (is_value (credential c) && is_value (joined_names (names c)))
unfolding authorization
authorization-value c =
    let key = credential c in
    let listed = joined_names (names c) in
    let last = codes ", Signature=" ++ signature_of c in
    let middle = codes ", SignedHeaders=" ++ (listed ++ last) in
    behind (codes "AWS4-HMAC-SHA256 Credential=") (key ++ middle) refl ∙ list_all-append is_value_byte key middle
    ∙ ap (λ b. is_value key && b)
    (behind (codes ", SignedHeaders=") (listed ++ last) refl ∙ list_all-append is_value_byte listed last
    ∙ ap (λ b. is_value listed && b) (behind (codes ", Signature=") (signature_of c) refl ∙ signature-value c) ∙ and-true (is_value listed))
