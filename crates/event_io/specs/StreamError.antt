-- What contracts see of an error of a stream: what it was made of, and its metadata.
use Rattle.std.specs.Prelude.{Some, None, unwrap_or}
use Rattle.smithy_core.specs.declared.error_metadata.ErrorMetadata.{ErrorMetadata}
use Rattle.smithy_core.specs.ErrorMetadata.{IsSameMetadata}
use Rattle.event_io.specs.declared.stream_error.MessageStreamError.{MessageStreamError}

-- metadata without code and message
abbrev pub no_metadata : ErrorMetadata
no_metadata = record { code = None; message = None }

-- an error of which nothing else is known
abbrev pub unhandled_error : ErrorMetadata → MessageStreamError
unhandled_error meta = record { source = meta; metadata = Some no_metadata }

-- an error whose metadata is what it was made of
abbrev pub generic_error : ErrorMetadata → MessageStreamError
generic_error meta = record { source = meta; metadata = None }

-- the metadata that an error was made of
abbrev pub given_metadata : MessageStreamError → ErrorMetadata
given_metadata error = error.source

-- the metadata that an error shows
abbrev pub metadata_of : MessageStreamError → ErrorMetadata
metadata_of error = unwrap_or error.metadata error.source

-- the errors are made of the same metadata, and show the same
pub record IsSameStreamError (error copy : MessageStreamError) : Type 0 where
  pub given : IsSameMetadata (given_metadata error) (given_metadata copy)
  pub shown : IsSameMetadata (metadata_of error) (metadata_of copy)
