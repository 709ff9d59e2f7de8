-- The line of a property in a profile file: the first one that begins with its key and on which another value would be the profile's.
use Rattle.std.specs.Prelude.{ℕ, zero, suc, ◌+◌, ◌==◌, Bool, false, not, ◌&&◌, if◌then◌else◌, List, [], ◌∷◌, ◌++◌, length, take, drop, codes, bytes_eq, nat_le, slice_index_or, Option, Some, None, Result, Ok, Err}
use Rattle.std.specs.List.{join_by, slice_split}
use Rattle.smithy_core.specs.Text.{line_feed}
use Rattle.smithy_core.specs.TextPairs.{lower}
use Rattle.env_config.specs.Sections.{FileText}
use Rattle.aws_settings.specs.Choice.{Lack, Profile}
use Rattle.awsign_settings.specs.Own.{alone, part_in, part_key}
use Rattle.awsign_settings.specs.declared.part.Part.{Part}

-- the lines of a text
abbrev pub lines_of : List ℕ → List (List ℕ)
lines_of text = slice_split (λ byte. byte == line_feed) text

-- the line begins with the key, in whatever case
abbrev pub begins_with_key : List ℕ → List ℕ → Bool
begins_with_key key line = nat_le (length key) (length line) && bytes_eq (lower (take (length key) line)) (lower key)

-- lines as a text
abbrev pub text_of_lines : List (List ℕ) → List ℕ
text_of_lines lines = join_by (λ line. line) (line_feed ∷ []) lines

-- the text with another value of the key, on the line with so many before it
unfoldable pub other_text : List ℕ → List (List ℕ) → ℕ → List ℕ
other_text key lines at = text_of_lines (take at lines) ++ (codes "\n" ++ (key ++ (codes " = ?\n" ++ text_of_lines (drop (at + 1) lines))))

-- the file with another value of the part, on the line with so many before it
abbrev pub other_file : FileText → Part → ℕ → FileText
other_file file part at = record file { contents = other_text (part_key part) (lines_of file.contents) at }

-- there is a value, and it is another one
abbrev pub is_other : List ℕ → Option (List ℕ) → Bool
is_other value None = false
is_other value (Some other) = not (bytes_eq other value)

-- the profile has another value of the part
abbrev pub has_other : Part → List ℕ → Result Profile Lack → Bool
has_other part value (Ok profile) = is_other value (part_in part profile)
has_other part value (Err lack) = false

-- the value of the part stands on the line with so many before it
unfoldable pub has_value : List ℕ → FileText → Part → List ℕ → ℕ → Bool
has_value name file part value at =
    begins_with_key (part_key part) (slice_index_or (lines_of file.contents) at []) && has_other part value (alone name (other_file file part at))

-- the place of the first line that passes a test, of so many behind so many; places count from 1
abbrev pub first_line : (ℕ → Bool) → ℕ → ℕ → Option ℕ
first_line test at zero = None
first_line test at (suc count) = if test at then Some (at + 1) else first_line test (at + 1) count

-- the line on which the value of the part stands that the profile of this name has
unfoldable pub property_line : List ℕ → FileText → Part → List ℕ → Option ℕ
property_line name file part value = first_line (has_value name file part value) 0 (length (lines_of file.contents))
