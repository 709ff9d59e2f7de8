-- What was signed of a request's payload.
use Rattle.std.specs.Prelude.{◌≡◌, ◌≢◌, ◌⊎◌, ℕ, true, Bool, ◌||◌, List, [], ◌∷◌, bytes_eq, codes, Option, Some, None, if◌then◌else◌, Result, Ok, Err, String, string_bytes}
use Rattle.std.specs.declared.alloc.Global.{Global}
use Rattle.sha2.specs.Sha256.{sha256}
use Rattle.hex.specs.Hex.{encode_lower}
use Rattle.smithy_core.specs.TextPairs.{named_values}
use Rattle.sigv4.specs.Query.{Pair}
use Rattle.sigv4.specs.Signature.{is_signature}
use Rattle.sigv4.specs.declared.settings.PayloadChecksumKind.{PayloadChecksumKind}
use Rattle.sigv4.specs.declared.settings.PayloadChecksumKind.TheVariants.{NoHeader, XAmzSha256}
use Rattle.sigv4.specs.declared.settings.SignatureLocation.{SignatureLocation}
use Rattle.sigv4.specs.declared.settings.SignatureLocation.TheVariants.{Headers, QueryParams}
use Rattle.request_door.specs.DoorCarried.{are_several, first_shown}
use Rattle.request_door.specs.DoorOrder.{IsFirstMet, NoneMet}
use Rattle.request_door.specs.declared.fault.DoorFault.{DoorFault}
use Rattle.request_door.specs.declared.fault.DoorFault.TheVariants.{RepeatedPayload, BadPayload, OtherPayload, NoMemory}
use Rattle.request_door.specs.declared.payload.DoorPayload.{DoorPayload}
use Rattle.request_door.specs.declared.payload.DoorPayload.TheVariants.{Digest, Unsigned, UnsignedChunks, SignedChunks}

-- a text that says that chunks or messages are signed, each after the one before it
abbrev pub is_signed_chunks : List ℕ → Bool
is_signed_chunks text =
    bytes_eq text (codes "STREAMING-AWS4-HMAC-SHA256-PAYLOAD") || (bytes_eq text (codes "STREAMING-AWS4-HMAC-SHA256-PAYLOAD-TRAILER")
    || bytes_eq text (codes "STREAMING-AWS4-HMAC-SHA256-EVENTS"))

-- the form of a payload by its text: 64 lower-case digits, or one of the words
abbrev pub payload_form : List ℕ → Option DoorPayload
payload_form text =
    if is_signature text then Some Digest
    else if bytes_eq text (codes "UNSIGNED-PAYLOAD") then Some Unsigned
    else if bytes_eq text (codes "STREAMING-UNSIGNED-PAYLOAD-TRAILER") then Some UnsignedChunks
    else if is_signed_chunks text then Some SignedChunks
    else None

-- the form where no header says it: the digest of the body, and in query form for a service whose payload goes by a header, as S3, an unsigned body
abbrev pub usual_form : SignatureLocation → PayloadChecksumKind → DoorPayload
usual_form Headers kind = Digest
usual_form QueryParams NoHeader = Digest
usual_form QueryParams XAmzSha256 = Unsigned

-- the form of a payload whose header has this value, or that has no such header
abbrev pub shown_form : SignatureLocation → PayloadChecksumKind → Option (List ℕ) → Option DoorPayload
shown_form place kind None = Some (usual_form place kind)
shown_form place kind (Some text) = payload_form text

-- the value of the payload's header
abbrev pub shown_payload : List Pair → Option (List ℕ)
shown_payload headers = first_shown (named_values headers (codes "x-amz-content-sha256"))

-- the payload's text where no header has it
abbrev pub usual_payload : DoorPayload → List ℕ → List ℕ
usual_payload Digest body = encode_lower (sha256 body)
usual_payload _ body = codes "UNSIGNED-PAYLOAD"

-- the payload's text that was signed
abbrev pub signed_payload : Option (List ℕ) → DoorPayload → List ℕ → List ℕ
signed_payload None form body = usual_payload form body
signed_payload (Some text) form body = text

-- the tests of the payload's header, in their order
abbrev pub payload_tests : List DoorFault
payload_tests = RepeatedPayload ∷ BadPayload ∷ []

-- a test of the payload's header: it is there more than once, or it states no form
abbrev pub MeetsPayload : SignatureLocation → PayloadChecksumKind → List Pair → DoorFault → Type 0
MeetsPayload place kind headers RepeatedPayload = are_several (named_values headers (codes "x-amz-content-sha256")) ≡ true
MeetsPayload place kind headers BadPayload = shown_form place kind (shown_payload headers) ≡ None
MeetsPayload place kind headers _ = ⊥

-- the form of the payload, where no test of its header is met, and else the first that is
abbrev pub ReadsPayload : SignatureLocation → PayloadChecksumKind → List Pair → Result DoorPayload DoorFault → Type 0
ReadsPayload place kind headers (Ok form) = NoneMet (MeetsPayload place kind headers) payload_tests × (shown_form place kind (shown_payload headers) ≡ Some form)
ReadsPayload place kind headers (Err fault) = IsFirstMet (MeetsPayload place kind headers) payload_tests fault

-- a digest that a header shows isn't the body's
abbrev pub IsOtherPayload : Option (List ℕ) → DoorPayload → List ℕ → Type 0
IsOtherPayload (Some text) Digest body = text ≢ encode_lower (sha256 body)
IsOtherPayload shown form body = ⊥

-- the payload's text that was signed, unless a digest that is shown isn't the body's, or memory ran out
abbrev pub MakesPayload : Option (List ℕ) → DoorPayload → List ℕ → Result (String Global) DoorFault → Type 0
MakesPayload shown form body (Ok text) = (IsOtherPayload shown form body → ⊥) × (string_bytes text ≡ signed_payload shown form body)
MakesPayload shown form body (Err fault) = (IsOtherPayload shown form body × (fault ≡ OtherPayload)) ⊎ (fault ≡ NoMemory)
