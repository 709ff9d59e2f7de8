-- Errors of resolving an endpoint.
use Rattle.std.specs.Prelude.{◌≡◌, Option, Some, None, String, string_bytes}
use Rattle.std.specs.declared.alloc.Global.{Global}
use Rattle.smithy_core.specs.declared.error_metadata.ErrorMetadata.{ErrorMetadata}
use Rattle.smithy_core.specs.ErrorMetadata.{IsSameMetadata}
use Rattle.smithy_http.specs.declared.resolve_error.ResolveEndpointError.{ResolveEndpointError}

-- the error of this message and this source
abbrev pub resolve_error : String Global → Option ErrorMetadata → ResolveEndpointError
resolve_error message source = record { message = message; source = source }

-- the message of an error
abbrev pub resolve_message : ResolveEndpointError → String Global
resolve_message error = error.message

-- what an error came from, where that is known
abbrev pub resolve_source : ResolveEndpointError → Option ErrorMetadata
resolve_source error = error.source

-- both are there and the same, or neither is
abbrev pub IsSameSource : Option ErrorMetadata → Option ErrorMetadata → Type 0
IsSameSource None None = Unit {0}
IsSameSource (Some source) (Some copy) = IsSameMetadata source copy
IsSameSource _ _ = ⊥

-- the message and the source are the same
pub record IsSameResolveError (error copy : ResolveEndpointError) : Type 0 where
  pub message : string_bytes (resolve_message copy) ≡ string_bytes (resolve_message error)
  pub source : IsSameSource (resolve_source error) (resolve_source copy)
