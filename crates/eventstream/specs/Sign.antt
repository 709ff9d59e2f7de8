-- Why a message isn't signed: what the errors of the writers become, and what is printed.
use Rattle.std.specs.Prelude.{◌≡◌, ℕ, List, ◌++◌, codes}
use Rattle.std.specs.Fmt.{signed_decimal}
use Rattle.eventstream.specs.declared.error.Error.{Error}
use Rattle.eventstream.specs.declared.error.ErrorKind.{ErrorKind}
use Rattle.eventstream.specs.declared.error.ErrorKind.TheVariants.{NoMemory as NoRoom}
use Rattle.eventstream.specs.declared.sign_error.SignMessageError.{SignMessageError}
use Rattle.eventstream.specs.declared.sign_error.SignMessageError.TheVariants.{FailedToEncodeMessage, UnsupportedIdentityType, MomentOutOfRange, NoMemory}
use Rattle.eventstream.specs.Error.{IsSameKind, error_kind, error_kind_text}

-- the error of an encoding that failed for a reason
abbrev pub sign_error_for : ErrorKind → Error → SignMessageError
sign_error_for NoRoom error = NoMemory
sign_error_for _ error = FailedToEncodeMessage error

-- the error of an encoding that failed: `NoMemory` stays what it is
abbrev pub sign_error_of : Error → SignMessageError
sign_error_of error = sign_error_for (error_kind error) error

-- the errors of signing a message are the same, and so are the texts of an encoding that failed
abbrev pub IsSameSignError : SignMessageError → SignMessageError → Type 0
IsSameSignError (FailedToEncodeMessage error) (FailedToEncodeMessage copy) = IsSameKind (error_kind error) (error_kind copy)
IsSameSignError error copy = copy ≡ error

-- what is printed
abbrev pub sign_error_text : SignMessageError → List ℕ
sign_error_text (FailedToEncodeMessage error) = codes "failed to encode message: " ++ error_kind_text (error_kind error)
sign_error_text UnsupportedIdentityType = codes "only AWS credentials are supported for signing"
sign_error_text (MomentOutOfRange t) = codes "moment " ++ (signed_decimal t.secs ++ codes " is outside the years 0 to 9999")
sign_error_text NoMemory = codes "no memory"
