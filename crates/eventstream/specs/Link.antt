-- The chain of signed messages of AWS Signature Version 4: each is signed over the signature before it.
use Rattle.std.specs.Prelude.{ℕ, List, [], ◌∷◌, ◌++◌, bytes_eq, codes, Option, None, if◌then◌else◌}
use Rattle.sha2.specs.Sha256.{sha256}
use Rattle.hex.specs.Hex.{encode_lower}
use Rattle.mac_core.specs.Mac.{mac}
use Rattle.smithy_core.specs.Civil.{stamp}
use Rattle.smithy_core.specs.Moment.{Instant, floor_secs}
use Rattle.smithy_core.specs.Message.{Parts}
use Rattle.smithy_core.specs.Text.{line}
use Rattle.smithy_core.specs.Header.{Header}
use Rattle.smithy_core.specs.HeaderValue.{instant_of}
use Rattle.smithy_core.specs.declared.header.HeaderValue.TheVariants.{ByteArray, Timestamp}
use Rattle.eventstream.specs.Frame.{frame, spelling}
use Rattle.eventstream.specs.Key.{Signer, scope, signing_key}

-- the header `:date` with a moment
abbrev pub date_header : Instant → Header
date_header t = record { name = codes ":date"; value = Timestamp t }

-- the moment that a header `:date` carries
abbrev pub carried_date : Header → Option Instant
carried_date header = if bytes_eq header.name (codes ":date") then instant_of header.value else None

-- the lines with which a string to sign begins: the algorithm, the stamp and the scope
abbrev pub begun_lines : List ℕ → List ℕ → List ℕ → List ℕ
begun_lines algorithm stamp_text scope_text = line algorithm ++ line stamp_text ++ line scope_text

-- those of messages and of chunks
abbrev pub payload_lines : Instant → List ℕ → List ℕ → List ℕ
payload_lines t region name = begun_lines (codes "AWS4-HMAC-SHA256-PAYLOAD") (stamp t) (scope t region name)

-- the string to sign of bytes at a whole second, over the signature before
unfoldable pub message_string_to_sign : Signer → List ℕ → List ℕ → Instant → List ℕ
message_string_to_sign signer signature bytes t =
    payload_lines t signer.region signer.name ++ line signature ++ line (encode_lower (sha256 (spelling (date_header t)))) ++ encode_lower (sha256 bytes)

-- the HMAC of a link
unfoldable pub link_code : Signer → List ℕ → List ℕ → Instant → List ℕ
link_code signer signature bytes t = mac (signing_key signer (floor_secs t)) (message_string_to_sign signer signature bytes (floor_secs t))

-- the new signature
unfoldable pub link_signature : Signer → List ℕ → List ℕ → Instant → List ℕ
link_signature signer signature bytes t = encode_lower (link_code signer signature bytes t)

-- the signed message: the HMAC, the moment without its nanoseconds, and the bytes
unfoldable pub link_message : Signer → List ℕ → List ℕ → Instant → Parts
link_message signer signature bytes t =
    record { headers = record { name = codes ":chunk-signature"; value = ByteArray (link_code signer signature bytes t) } ∷ date_header (floor_secs t) ∷ []; payload = bytes }

-- the frames for the moments taken so far: one for each event in order and an empty one last, each signed over the signature
-- before it, its own moment and its bytes
abbrev pub begun : Signer → List Parts → List Instant → List ℕ → List (List ℕ)
begun signer events [] signature = []
begun signer [] (t ∷ ts) signature = frame (link_message signer signature [] t) ∷ []
begun signer (event ∷ events) (t ∷ ts) signature =
    frame (link_message signer signature (frame event) t) ∷ begun signer events ts (link_signature signer signature (frame event) t)

-- the frames of the events, each with its moment, and then an empty one with the last moment, each signed over the signature
-- before it. There is a chain where there is one moment more than events.
abbrev pub chain : Signer → List Parts → List Instant → List ℕ → List (List ℕ)
chain signer [] [] signature = []
chain signer [] (t ∷ []) signature = frame (link_message signer signature [] t) ∷ []
chain signer [] (t ∷ u ∷ ts) signature = []
chain signer (event ∷ events) [] signature = []
chain signer (event ∷ events) (t ∷ ts) signature =
    frame (link_message signer signature (frame event) t) ∷ chain signer events ts (link_signature signer signature (frame event) t)
