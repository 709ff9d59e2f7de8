-- Percent-encoding of text (RFC 3986, section 2), and moments as escaped texts.
use Rattle.std.specs.Prelude.{◌≡◌, ℕ, Bool, not, ◌&&◌, ◌||◌, ◌==◌, List, [], ◌∷◌, if◌then◌else◌, Result, Ok, Err, String, string_bytes}
use Rattle.std.specs.Char.{is_ascii_alphanumeric}
use Rattle.std.specs.List.{flat_map}
use Rattle.std.specs.declared.alloc.Global.{Global}
use Rattle.percent_encoding.specs.Percent.{percent_encode_byte}
use Rattle.smithy_core.specs.Format.{Formats, HasText, formatted}
use Rattle.smithy_core.specs.Moment.{Instant}
use Rattle.smithy_core.specs.declared.format.Format.{Format}
use Rattle.smithy_core.specs.declared.format.FormatFault.{FormatFault}

-- unreserved: a letter, a digit, `-`, `.`, `_` or `~` (section 2.3)
abbrev pub is_plain : ℕ → Bool
is_plain byte = is_ascii_alphanumeric byte || byte == 45 || byte == 46 || byte == 95 || byte == 126

-- the base set: every byte that isn't unreserved
abbrev pub base_set : ℕ → Bool
base_set byte = not (is_plain byte)

-- the base set without `/`
abbrev pub greedy_set : ℕ → Bool
greedy_set byte = base_set byte && not (byte == 47)

-- each byte of the set as `%` and two upper-case hexadecimal digits (section 2.1), each other byte as it is
unfoldable pub escaped : (ℕ → Bool) → List ℕ → List ℕ
escaped set text = flat_map (λ byte. if set byte then percent_encode_byte byte else byte ∷ []) text

-- the text of a moment escaped where there is one, else `OutOfRange`; or memory ran out
abbrev pub FormatsEscaped : Format → Instant → Result (String Global) FormatFault → Type 0
FormatsEscaped format t (Ok text) = HasText format t × (string_bytes text ≡ escaped base_set (formatted format t))
FormatsEscaped format t (Err fault) = Formats format t (Err fault)
