-- Why a body can't go on.
use Rattle.std.specs.Prelude.{◌≡◌, ℕ, List, ◌++◌, codes}
use Rattle.std.specs.Fmt.{decimal}
use Rattle.eventstream.specs.Error.{error_kind}
use Rattle.eventstream.specs.declared.error.ErrorKind.{ErrorKind}
use Rattle.eventstream.specs.declared.error.ErrorKind.TheVariants.{NoMemory as NoRoom}
use Rattle.sigv4.specs.Error.{IsSameError, error_text}
use Rattle.sigv4.specs.declared.error.SigningError.{SigningError}
use Rattle.sigv4.specs.declared.error.SigningError.TheVariants as signing
use Rattle.aws_chunked.specs.declared.error.AwsChunkedBodyError.{AwsChunkedBodyError}
use Rattle.aws_chunked.specs.declared.error.AwsChunkedBodyError.TheVariants.{FailedToSign, NoMemory, ReportedTrailerLengthMismatch, SourceFault, StreamLengthMismatch}

-- the error of a signing that failed for this reason of an encoding
abbrev pub signing_error_for : ErrorKind → SigningError → AwsChunkedBodyError
signing_error_for NoRoom error = NoMemory
signing_error_for _ error = FailedToSign error

-- the error of a signing that failed: `NoMemory`, at any depth, stays what it is
abbrev pub signing_error : SigningError → AwsChunkedBodyError
signing_error signing.NoMemory = NoMemory
signing_error (signing.FailedToEncodeMessage error) = signing_error_for (error_kind error) (signing.FailedToEncodeMessage error)
signing_error error = FailedToSign error

-- the errors are the same, and so are those of signing that they carry
abbrev pub IsSameBodyError : AwsChunkedBodyError → AwsChunkedBodyError → Type 0
IsSameBodyError (FailedToSign error) (FailedToSign copy) = IsSameError error copy
IsSameBodyError error copy = copy ≡ error

-- how many bytes there are, and how many were declared
abbrev pub lengths_text : ℕ → ℕ → List ℕ
lengths_text actual expected = decimal actual ++ (codes " bytes in place of " ++ (decimal expected ++ codes " declared ones"))

-- what an error is printed as
abbrev pub body_error_text : AwsChunkedBodyError → List ℕ
body_error_text (StreamLengthMismatch actual expected) = codes "the stream has " ++ lengths_text actual expected
body_error_text (ReportedTrailerLengthMismatch actual expected) = codes "the trailers have " ++ lengths_text actual expected
body_error_text (FailedToSign source) = codes "failed to sign: " ++ error_text source
body_error_text SourceFault = codes "the source failed"
body_error_text NoMemory = codes "no memory"
