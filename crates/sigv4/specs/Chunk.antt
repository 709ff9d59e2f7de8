-- The signatures of an upload in chunks (AWS Signature Version 4, "Signature calculations for the Authorization header: transferring
-- payload in multiple chunks", and its form with trailing headers): each is made over the signature before it.
use Rattle.std.specs.Prelude.{◌≡◌, ℕ, ◌⊎◌, List, [], ◌∷◌, ◌++◌, codes, Option, Some, None, Result, Ok, Err, if◌then◌else◌}
use Rattle.std.specs.Borrow.{Bor}
use Rattle.std.specs.Cmp.Lexicographic.{slice_cmp}
use Rattle.std.specs.List.{flat_map}
use Rattle.std.specs.Ordering.{is_gt, nat_cmp}
use Rattle.std.specs.Str.{trim}
use Rattle.sha2.specs.Sha256.{sha256}
use Rattle.hex.specs.Hex.{encode_lower}
use Rattle.mac_core.specs.Mac.{mac}
use Rattle.smithy_core.specs.Civil.{stamp}
use Rattle.smithy_core.specs.Moment.{Instant}
use Rattle.smithy_core.specs.Text.{line}
use Rattle.eventstream.specs.Key.{Signer, scope, signing_key}
use Rattle.eventstream.specs.Link.{begun_lines, payload_lines}
use Rattle.sigv4.specs.Output.{output_signature}
use Rattle.sigv4.specs.Query.{Pair}
use Rattle.sigv4.specs.declared.error.SigningError.{SigningError}
use Rattle.sigv4.specs.declared.error.SigningError.TheVariants.{NoMemory}
use Rattle.sigv4.specs.declared.output.SigningOutput.{SigningOutput}

-- the string to sign of a chunk: after its first lines the signature before, the digest of nothing, and that of the chunk
unfoldable pub chunk_string_to_sign : List ℕ → Signer → Instant → List ℕ → List ℕ
chunk_string_to_sign chunk signer t signature =
    payload_lines t signer.region signer.name ++ line signature ++ line (encode_lower (sha256 [])) ++ encode_lower (sha256 chunk)

-- the trailer before the first one whose name isn't less
abbrev pub placed_by_name : Pair → List Pair → List Pair
placed_by_name trailer [] = trailer ∷ []
placed_by_name trailer (other ∷ trailers) =
    if is_gt (slice_cmp nat_cmp trailer.0 other.0) then other ∷ placed_by_name trailer trailers else trailer ∷ other ∷ trailers

-- the trailers by the bytes of their names, those of one name in order
abbrev pub by_name : List Pair → List Pair
by_name [] = []
by_name (trailer ∷ trailers) = placed_by_name trailer (by_name trailers)

-- `name:value` as a line, without the white space at the ends of the value
abbrev pub canonical_trailer_line : Pair → List ℕ
canonical_trailer_line trailer = line (trailer.0 ++ codes ":" ++ trim trailer.1)

-- a pair of borrowed texts, as contracts see it
abbrev pub borrowed_pair : Bor (List ℕ) × Bor (List ℕ) → Pair
borrowed_pair pair = (pair.0.now, pair.1.now)

-- the lines of the trailers by name
unfoldable pub trailer_lines : List Pair → List ℕ
trailer_lines trailers = flat_map canonical_trailer_line (by_name trailers)

-- the string to sign of trailers: after its first lines the signature before, and the digest of the lines of the trailers
unfoldable pub trailer_text : List Pair → Signer → Instant → List ℕ → List ℕ
trailer_text trailers signer t signature =
    begun_lines (codes "AWS4-HMAC-SHA256-TRAILER") (stamp t) (scope t signer.region signer.name) ++ line signature
    ++ encode_lower (sha256 (trailer_lines trailers))

-- the HMAC of a string to sign under the signing key, in lower-case hexadecimal
abbrev pub text_signature : Signer → Instant → List ℕ → List ℕ
text_signature signer t text = encode_lower (mac (signing_key signer t) text)

-- the signature of a chunk at a moment, over the signature before it
unfoldable pub chunk_signature : List ℕ → Signer → Instant → List ℕ → List ℕ
chunk_signature chunk signer t signature = text_signature signer t (chunk_string_to_sign chunk signer t signature)

-- the signature of trailers, likewise
unfoldable pub trailer_signature : List Pair → Signer → Instant → List ℕ → List ℕ
trailer_signature trailers signer t signature = text_signature signer t (trailer_text trailers signer t signature)

-- with no reason against it the signature is this one; else it is the reason, or memory ran out
abbrev pub SignsPart : {T : Type 0} → Option SigningError → List ℕ → Result (SigningOutput T) SigningError → Type 0
SignsPart refused signature (Ok output) = (refused ≡ None) × (output_signature output ≡ signature)
SignsPart refused signature (Err error) = (refused ≡ Some error) ⊎ (error ≡ NoMemory)
