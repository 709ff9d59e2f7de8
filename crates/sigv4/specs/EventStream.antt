-- What signing a message promises.
use Rattle.std.specs.Prelude.{◌≡◌, ℕ, ◌⊎◌, List, Option, Some, None, Result, Ok, Err, option_map}
use Rattle.std.specs.Option.{option_or}
use Rattle.smithy_core.specs.Identity.{unsigned_for}
use Rattle.smithy_core.specs.Moment.{Instant}
use Rattle.smithy_core.specs.Message.{Parts}
use Rattle.smithy_core.specs.declared.identity.Identity.{Identity}
use Rattle.eventstream.specs.Error.{error_of}
use Rattle.eventstream.specs.Frame.{unframed}
use Rattle.eventstream.specs.Key.{signing_key}
use Rattle.eventstream.specs.Link.{link_message, link_signature}
use Rattle.eventstream.specs.declared.error.ErrorKind.{ErrorKind}
use Rattle.sigv4.specs.Output.{output_signature, signed_output}
use Rattle.sigv4.specs.Params.{signer_of, v4_identity, v4_time}
use Rattle.sigv4.specs.declared.error.SigningError.{SigningError}
use Rattle.sigv4.specs.declared.error.SigningError.TheVariants.{FailedToEncodeMessage, MomentOutOfRange, NoMemory, UnsupportedIdentityType}
use Rattle.sigv4.specs.declared.output.SigningOutput.{SigningOutput}
use Rattle.sigv4.specs.declared.params.SigningParams.{SigningParams}

-- why an identity doesn't sign at a moment: it has no secret, or the moment lies outside the years 0 to 9999
abbrev pub unsignable : Identity → Instant → Option SigningError
unsignable identity t = unsigned_for UnsupportedIdentityType MomentOutOfRange identity t

-- the reason why a message has no frame, as an error
abbrev pub failed_encoding : ErrorKind → SigningError
failed_encoding kind = FailedToEncodeMessage (error_of kind)

-- why a message isn't signed: it has no frame, or the identity doesn't sign
abbrev pub message_refusal : Parts → Identity → Instant → Option SigningError
message_refusal message identity t = option_or (option_map failed_encoding (unframed message)) (unsignable identity t)

-- the key is the signing key of a message's parameters wherever their identity signs at their moment, and elsewhere any
abbrev pub IsKeyOf : {S : Type 0} → SigningParams S → List ℕ → Type 0
IsKeyOf params key = unsignable (v4_identity params) (v4_time params) ≡ None → key ≡ signing_key (signer_of params) (v4_time params)

-- with no reason against it the answer is the link of the bytes over the signature before; else it is the reason, or memory ran out
abbrev pub Links : {S : Type 0} → Option SigningError → SigningParams S → List ℕ → List ℕ → Result (SigningOutput Parts) SigningError → Type 0
Links refused params signature bytes (Ok output) =
    (refused ≡ None)
    × (signed_output output ≡ link_message (signer_of params) signature bytes (v4_time params))
    × (output_signature output ≡ link_signature (signer_of params) signature bytes (v4_time params))
Links refused params signature bytes (Err error) = (refused ≡ Some error) ⊎ (error ≡ NoMemory)
