-- What is signed in place of the bytes of a request's body.
use Rattle.std.specs.Prelude.{◌≡◌, string_bytes}
use Rattle.sigv4.specs.declared.body.SignableBody.{SignableBody}
use Rattle.sigv4.specs.declared.body.SignableBody.TheVariants as body
use Rattle.aws_auth.specs.declared.payload.PayloadSigningOverride.{PayloadSigningOverride}
use Rattle.aws_auth.specs.declared.payload.PayloadSigningOverride.TheVariants.{UnsignedPayload, Precomputed, StreamingUnsignedPayloadTrailer, StreamingSignedPayloadTrailer}

-- the body that is signed
abbrev pub signed_in_place : PayloadSigningOverride → SignableBody
signed_in_place UnsignedPayload = body.UnsignedPayload
signed_in_place (Precomputed digest) = body.Precomputed digest
signed_in_place StreamingUnsignedPayloadTrailer = body.StreamingUnsignedPayloadTrailer
signed_in_place StreamingSignedPayloadTrailer = body.StreamingSignedPayloadTrailer

-- the overrides are the same
abbrev pub IsSameOverride : PayloadSigningOverride → PayloadSigningOverride → Type 0
IsSameOverride (Precomputed digest) (Precomputed copy) = string_bytes copy ≡ string_bytes digest
IsSameOverride payload copy = copy ≡ payload
