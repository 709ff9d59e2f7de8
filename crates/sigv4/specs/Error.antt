-- What the errors of the layer below become, and what is printed.
use Rattle.std.specs.Prelude.{◌≡◌, ℕ, List, ◌++◌, codes}
use Rattle.std.specs.Fmt.{decimal, signed_decimal}
use Rattle.eventstream.specs.Error.{IsSameKind, error_kind, error_kind_text as encoding_text}
use Rattle.eventstream.specs.declared.error.Error.{Error}
use Rattle.eventstream.specs.declared.error.ErrorKind.{ErrorKind}
use Rattle.eventstream.specs.declared.error.ErrorKind.TheVariants.{NoMemory as NoRoom}
use Rattle.smithy_http.specs.declared.uri_fault.UriFault.{UriFault}
use Rattle.smithy_http.specs.declared.uri_fault.UriFault.TheVariants as target
use Rattle.sigv4.specs.declared.error.SigningError.{SigningError}
use Rattle.sigv4.specs.declared.error.SigningError.TheVariants.{FailedToEncodeMessage, InvalidHeaderName, InvalidHeaderValue, InvalidTokenName, InvalidUri, MissingExpires, MissingHost, MomentOutOfRange, NoMemory, SignerNotWired, UnsupportedIdentityType}
use Rattle.sigv4.specs.declared.error.ValuePlace.{ValuePlace}
use Rattle.sigv4.specs.declared.error.ValuePlace.TheVariants.{Header, Host, Token, PayloadHash, Authorization}

-- the error of an encoding that failed for a reason
abbrev pub encoding_error_for : ErrorKind → Error → SigningError
encoding_error_for NoRoom error = NoMemory
encoding_error_for _ error = FailedToEncodeMessage error

-- `NoMemory` stays what it is
abbrev pub encoding_error : Error → SigningError
encoding_error error = encoding_error_for (error_kind error) error

-- the error of a target that isn't read
abbrev pub target_error : UriFault → SigningError
target_error target.InvalidUri = InvalidUri
target_error target.NoMemory = NoMemory

-- what is printed of a place
abbrev pub place_text : ValuePlace → List ℕ
place_text (Header place) = codes "header " ++ decimal place
place_text Host = codes "the host"
place_text Token = codes "the session token"
place_text PayloadHash = codes "the payload's digest"
place_text Authorization = codes "the authorization"

-- what is printed
abbrev pub error_text : SigningError → List ℕ
error_text InvalidUri = codes "invalid target"
error_text (InvalidHeaderName place) = codes "invalid name of header " ++ decimal place
error_text (InvalidHeaderValue place) = codes "invalid value of " ++ place_text place
error_text MissingHost = codes "missing host"
error_text InvalidTokenName = codes "invalid name of the session token"
error_text MissingExpires = codes "missing expiry"
error_text UnsupportedIdentityType = codes "only AWS credentials are supported for signing"
error_text (FailedToEncodeMessage error) = codes "failed to encode message: " ++ encoding_text (error_kind error)
error_text (MomentOutOfRange t) = codes "moment " ++ (signed_decimal t.secs ++ codes " is outside the years 0 to 9999")
error_text SignerNotWired = codes "the signer isn't wired"
error_text NoMemory = codes "no memory"

-- the errors of signing a request are the same, and so are the texts of an encoding that failed
abbrev pub IsSameError : SigningError → SigningError → Type 0
IsSameError (FailedToEncodeMessage error) (FailedToEncodeMessage copy) = IsSameKind (error_kind error) (error_kind copy)
IsSameError error copy = copy ≡ error
