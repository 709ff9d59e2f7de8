-- What may be a header's name or value (RFC 9110, sections 5.1 and 5.5).
use Rattle.std.specs.Prelude.{ℕ, List}
use Rattle.http_header.specs.FieldName.{IsFieldName}
use Rattle.http_header.specs.FieldValue.{IsFieldValue}

-- 1 to 65,535 letters, digits and marks of ``!#$%&'*+-.^_`|~``
abbrev pub IsHeaderName : List ℕ → Type 0
IsHeaderName name = IsFieldName name

-- of a text: none of the bytes 0 to 8, 10 to 31 and 127
abbrev pub IsHeaderValue : List ℕ → Type 0
IsHeaderValue value = IsFieldValue value
