-- What a service says of an error.
use Rattle.std.specs.Prelude.{◌≡◌, option_map, string_bytes}
use Rattle.smithy_core.specs.declared.error_metadata.ErrorMetadata.{ErrorMetadata}

-- the codes and the messages are the same
pub record IsSameMetadata (metadata copy : ErrorMetadata) : Type 0 where
  pub code : option_map string_bytes copy.code ≡ option_map string_bytes metadata.code
  pub message : option_map string_bytes copy.message ≡ option_map string_bytes metadata.message
