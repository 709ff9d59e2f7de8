-- Errors of applying an endpoint.
use Rattle.std.specs.Prelude.{◌≡◌, ℕ, List, ◌++◌, codes, string_bytes}
use Rattle.smithy_http.specs.declared.endpoint_error.InvalidEndpointError.{InvalidEndpointError}
use Rattle.smithy_http.specs.declared.endpoint_error.InvalidEndpointError.TheVariants.{EndpointMustHaveScheme, FailedToConstructAuthority, FailedToConstructUri, NoMemory}
use Rattle.smithy_http.specs.declared.uri_fault.UriFault.{UriFault}
use Rattle.smithy_http.specs.declared.uri_fault.UriFault.TheVariants as fault

-- the errors of an endpoint are the same, and so are their texts
abbrev pub IsSameEndpointError : InvalidEndpointError → InvalidEndpointError → Type 0
IsSameEndpointError (FailedToConstructAuthority authority) (FailedToConstructAuthority copy) = string_bytes copy ≡ string_bytes authority
IsSameEndpointError error copy = copy ≡ error

-- the error where a joined target isn't read
abbrev pub endpoint_error_of : UriFault → InvalidEndpointError
endpoint_error_of fault.InvalidUri = FailedToConstructUri
endpoint_error_of fault.NoMemory = NoMemory

-- what the fault of an endpoint that isn't applied prints
abbrev pub endpoint_error_text : InvalidEndpointError → List ℕ
endpoint_error_text EndpointMustHaveScheme = codes "the endpoint must have a scheme"
endpoint_error_text (FailedToConstructAuthority authority) = codes "invalid authority: " ++ string_bytes authority
endpoint_error_text FailedToConstructUri = codes "the target at the endpoint is invalid"
endpoint_error_text NoMemory = codes "no memory"
