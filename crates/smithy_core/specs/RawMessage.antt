-- How the bytes behind an error show themselves.
use Rattle.std.specs.Prelude.{ℕ, List, ◌++◌, codes, length, Some, None}
use Rattle.smithy_core.specs.Blob.{byte_count}
use Rattle.smithy_core.specs.Message.{message_sizes}
use Rattle.smithy_core.specs.declared.raw_message.RawMessage.{RawMessage}
use Rattle.smithy_core.specs.declared.raw_message.RawMessage.TheVariants.{Decoded, Invalid}

-- the sizes of the message, or how many bytes were left over, where they are told
abbrev pub raw_sizes : RawMessage → List ℕ
raw_sizes (Decoded message) = codes "Decoded(" ++ (message_sizes (length message.headers) (length message.payload) ++ codes ")")
raw_sizes (Invalid (Some bytes)) = byte_count (codes "Invalid") (length bytes)
raw_sizes (Invalid None) = codes "Invalid"
