-- The body of a request as it is signed.
use Rattle.std.specs.Prelude.{◌≡◌, ℕ, List, ◌++◌, codes, length, Option, Some, None, string_bytes}
use Rattle.sha2.specs.Sha256.{sha256}
use Rattle.hex.specs.Hex.{encode_lower}
use Rattle.smithy_core.specs.Blob.{byte_count}
use Rattle.sigv4.specs.declared.body.SignableBody.{SignableBody}
use Rattle.sigv4.specs.declared.body.SignableBody.TheVariants.{Bytes, UnsignedPayload, Precomputed, StreamingUnsignedPayloadTrailer, StreamingSignedPayloadTrailer}

-- the payload's text: the digest of the bytes, the digest that is given, or the word for a payload that isn't signed as a whole
abbrev pub payload_text : SignableBody → List ℕ
payload_text (Bytes bytes) = encode_lower (sha256 bytes.now)
payload_text UnsignedPayload = codes "UNSIGNED-PAYLOAD"
payload_text (Precomputed text) = string_bytes text
payload_text StreamingUnsignedPayloadTrailer = codes "STREAMING-UNSIGNED-PAYLOAD-TRAILER"
payload_text StreamingSignedPayloadTrailer = codes "STREAMING-AWS4-HMAC-SHA256-PAYLOAD-TRAILER"

-- the bytes of a body, where it is bytes
abbrev pub body_bytes : SignableBody → Option (List ℕ)
body_bytes (Bytes bytes) = Some bytes.now
body_bytes _ = None

-- what is printed of a body: of bytes how many there are, and nothing else
abbrev pub shown_body : SignableBody → List ℕ
shown_body (Bytes bytes) = byte_count (codes "Bytes") (length bytes.now)
shown_body UnsignedPayload = codes "UnsignedPayload"
shown_body (Precomputed text) = codes "Precomputed(" ++ (string_bytes text ++ codes ")")
shown_body StreamingUnsignedPayloadTrailer = codes "StreamingUnsignedPayloadTrailer"
shown_body StreamingSignedPayloadTrailer = codes "StreamingSignedPayloadTrailer"

-- the bodies are the same
abbrev pub IsSameBody : SignableBody → SignableBody → Type 0
IsSameBody (Bytes bytes) (Bytes copy) = copy.now ≡ bytes.now
IsSameBody UnsignedPayload UnsignedPayload = Unit {0}
IsSameBody (Precomputed text) (Precomputed copy) = string_bytes copy ≡ string_bytes text
IsSameBody StreamingUnsignedPayloadTrailer StreamingUnsignedPayloadTrailer = Unit {0}
IsSameBody StreamingSignedPayloadTrailer StreamingSignedPayloadTrailer = Unit {0}
IsSameBody _ _ = ⊥
