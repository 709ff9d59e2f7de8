-- What the errors of the layers below become, and what is printed.
use Rattle.std.specs.Prelude.{◌≡◌, ℕ, List, ◌++◌, codes}
use Rattle.sigv4.specs.Error.{IsSameError, error_text as signing_error_text}
use Rattle.sigv4.specs.declared.error.SigningError.{SigningError}
use Rattle.sigv4.specs.declared.error.SigningError.TheVariants.{NoMemory as NoRoom}
use Rattle.aws_auth.specs.Endpoint.{field_name}
use Rattle.aws_auth.specs.declared.error.SigV4SigningError.{SigV4SigningError}
use Rattle.aws_auth.specs.declared.error.SigV4SigningError.TheVariants.{MissingOperationSigningConfig, MissingSigningRegion, MissingSigningName, WrongIdentityType, BadTypeInEndpointAuthSchemeConfig, NameOverrideRefused, Signing, NoMemory}
use Rattle.aws_auth.specs.declared.name_override.OverrideError.{OverrideError}
use Rattle.aws_auth.specs.declared.name_override.OverrideError.TheVariants as overrides

-- the error of a request that isn't signed: `NoMemory` stays what it is
abbrev pub auth_error : SigningError → SigV4SigningError
auth_error NoRoom = NoMemory
auth_error error = Signing error

-- the error of an override that gives no name
abbrev pub override_error : OverrideError → SigV4SigningError
override_error overrides.Refused = NameOverrideRefused
override_error overrides.NoMemory = NoMemory

-- the errors of an operation's signer are the same, and so are the texts of an encoding that failed
abbrev pub IsSameAuthError : SigV4SigningError → SigV4SigningError → Type 0
IsSameAuthError (Signing error) (Signing copy) = IsSameError error copy
IsSameAuthError error copy = copy ≡ error

-- what is printed
abbrev pub auth_error_text : SigV4SigningError → List ℕ
auth_error_text MissingOperationSigningConfig = codes "missing operation signing config"
auth_error_text MissingSigningRegion = codes "missing signing region"
auth_error_text MissingSigningName = codes "missing signing name"
auth_error_text WrongIdentityType = codes "wrong identity type for SigV4, which takes AWS credentials"
auth_error_text (BadTypeInEndpointAuthSchemeConfig field) =
    codes "unexpected type for `" ++ (field_name field ++ codes "` in endpoint auth scheme config")
auth_error_text NameOverrideRefused = codes "the name of the session token is refused"
auth_error_text (Signing error) = signing_error_text error
auth_error_text NoMemory = codes "no memory"
