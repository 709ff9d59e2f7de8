-- Lines of a profile file, and their parts.
use Rattle.std.specs.Prelude.{◌≡◌, ℕ, ◌==◌, nat_lt, Bool, false, ◌&&◌, ◌||◌, if◌then◌else◌, List, [], ◌∷◌, length, slice_index, Option, Some, None, option_map, unwrap_or, Result, Ok, Err}
use Rattle.std.specs.Borrow.{Bor}
use Rattle.std.specs.Char.{is_whitespace, char_set_contains}
use Rattle.std.specs.List.{position_or_len, before_first, after_first}
use Rattle.std.specs.Str.{chars, encode_utf8_all}
use Rattle.smithy_core.specs.Text.{line_feed, space, tab}
use Rattle.env_config.specs.declared.line.PropertyFault.{PropertyFault}
use Rattle.env_config.specs.declared.line.PropertyFault.TheVariants.{NoEquals, NoName}

-- ## Signs

abbrev pub carriage_return : ℕ
carriage_return = 13

-- `#`
abbrev pub number_sign : ℕ
number_sign = 35

-- `;`
abbrev pub semicolon : ℕ
semicolon = 59

-- `=`
abbrev pub equals_sign : ℕ
equals_sign = 61

-- `[`
abbrev pub opening_bracket : ℕ
opening_bracket = 91

-- `]`
abbrev pub closing_bracket : ℕ
closing_bracket = 93

-- what follows the byte, where it stands in front
abbrev pub after_byte : ℕ → List ℕ → Option (List ℕ)
after_byte c [] = None
after_byte c (b ∷ bytes) = if b == c then Some bytes else None

-- what stands before the byte, where it is the last one
abbrev pub before_last : ℕ → List ℕ → Option (List ℕ)
before_last c [] = None
before_last c (b ∷ []) = if b == c then Some [] else None
before_last c (b ∷ d ∷ bytes) = option_map (λ front. b ∷ front) (before_last c (d ∷ bytes))

-- ## Lines

abbrev pub begins_with_lf : List ℕ → Bool
begins_with_lf [] = false
begins_with_lf (b ∷ bytes) = b == line_feed

-- the byte joins the first line
abbrev pub onto_first_line : ℕ → List (List ℕ) → List (List ℕ)
onto_first_line b [] = (b ∷ []) ∷ []
onto_first_line b (line ∷ lines) = (b ∷ line) ∷ lines

-- a line ends at LF, and a CR right before it is dropped; the last line may lack the LF
unfoldable pub profile_lines : List ℕ → List (List ℕ)
profile_lines [] = []
profile_lines (b ∷ bytes) =
    if b == line_feed then [] ∷ profile_lines bytes
    else if b == carriage_return && begins_with_lf bytes then profile_lines bytes
    else onto_first_line b (profile_lines bytes)

-- a line without the CR at its end
abbrev pub without_cr : List ℕ → List ℕ
without_cr line = unwrap_or (before_last carriage_return line) line

-- ## Trimming

-- a space or a tab
abbrev pub is_blank : ℕ → Bool
is_blank b = char_set_contains (space ∷ tab ∷ []) b

-- without the spaces and tabs in front
abbrev pub trimmed_front : List ℕ → List ℕ
trimmed_front [] = []
trimmed_front (b ∷ bytes) = if is_blank b then trimmed_front bytes else b ∷ bytes

-- the byte stays in front of bytes that stay
abbrev pub onto_kept : ℕ → List ℕ → List ℕ
onto_kept b [] = if is_blank b then [] else b ∷ []
onto_kept b (c ∷ bytes) = b ∷ c ∷ bytes

-- without the spaces and tabs at the end
abbrev pub trimmed_back : List ℕ → List ℕ
trimmed_back [] = []
trimmed_back (b ∷ bytes) = onto_kept b (trimmed_back bytes)

unfoldable pub trimmed : List ℕ → List ℕ
trimmed bytes = trimmed_back (trimmed_front bytes)

-- ## Comments

-- `#` or `;`
abbrev pub is_comment_sign : ℕ → Bool
is_comment_sign b = char_set_contains (number_sign ∷ semicolon ∷ []) b

-- a line of spaces and tabs only, or with a comment sign in front
unfoldable pub is_skipped : List ℕ → Bool
is_skipped line = length (trimmed line) == 0 || is_comment_sign (slice_index line 0)

-- the characters before the first comment sign that follows white space; the flag says whether white space stands before them
abbrev pub before_comment : Bool → List ℕ → List ℕ
before_comment follows_space [] = []
before_comment follows_space (c ∷ cs) = if follows_space && is_comment_sign c then [] else c ∷ before_comment (is_whitespace c) cs

-- a text without its comment
unfoldable pub uncommented : List ℕ → List ℕ
uncommented text = encode_utf8_all (before_comment false (chars text))

-- ## Section lines

-- what stands before the bracket, where there is one in front
abbrev pub before_bracket : Option (List ℕ) → Option (List ℕ)
before_bracket None = None
before_bracket (Some text) = before_last closing_bracket text

-- the text between the brackets; the line is cut at its first comment sign
unfoldable pub section_name : List ℕ → Option (List ℕ)
section_name line = before_bracket (after_byte opening_bracket (trimmed (before_first is_comment_sign (trimmed line))))

-- ## Property lines

abbrev pub is_equals : ℕ → Bool
is_equals b = b == equals_sign

-- the key has to have a name
abbrev pub with_name : List ℕ → List ℕ → Result (List ℕ × List ℕ) PropertyFault
with_name key value = if length key == 0 then Err NoName else Ok (key, value)

-- key and value stand before and after the first `=`
abbrev pub split_at_equals : List ℕ → Result (List ℕ × List ℕ) PropertyFault
split_at_equals text =
    if nat_lt (position_or_len is_equals text) (length text)
    then with_name (trimmed (before_first is_equals text)) (trimmed (after_first is_equals text))
    else Err NoEquals

-- key and value of a line, or why it is no property: it has no `=`, or nothing before the first one
unfoldable pub property_of : List ℕ → Result (List ℕ × List ℕ) PropertyFault
property_of line = split_at_equals (trimmed (uncommented (trimmed line)))

-- the key and the value, or the reason
abbrev pub CutsProperty : Result (List ℕ × List ℕ) PropertyFault → Result (Bor (List ℕ) × Bor (List ℕ)) PropertyFault → Type 0
CutsProperty is (Ok pair) = is ≡ Ok (pair.0.now, pair.1.now)
CutsProperty is (Err fault) = is ≡ Err fault
