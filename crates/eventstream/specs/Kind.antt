-- The event stream encoding: the byte that tells the kind of a header's value.
use Rattle.std.specs.Prelude.{ℕ}

-- the kind of a value that is true
abbrev pub true_kind : ℕ
true_kind = 0

-- the kind of a value that is false
abbrev pub false_kind : ℕ
false_kind = 1

-- the kind of a value that is a number of 8 bits
abbrev pub byte_kind : ℕ
byte_kind = 2

-- the kind of a value that is a number of 16 bits
abbrev pub int16_kind : ℕ
int16_kind = 3

-- the kind of a value that is a number of 32 bits
abbrev pub int32_kind : ℕ
int32_kind = 4

-- the kind of a value that is a number of 64 bits
abbrev pub int64_kind : ℕ
int64_kind = 5

-- the kind of a value that is an array of bytes
abbrev pub byte_array_kind : ℕ
byte_array_kind = 6

-- the kind of a value that is a text
abbrev pub string_kind : ℕ
string_kind = 7

-- the kind of a value that is a moment
abbrev pub timestamp_kind : ℕ
timestamp_kind = 8

-- the kind of a value that is a UUID
abbrev pub uuid_kind : ℕ
uuid_kind = 9
