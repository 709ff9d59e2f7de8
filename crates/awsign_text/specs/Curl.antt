-- The config files of curl (curl(1), `--config`): a line for each option, its name alone, or its name and a value in double quotes.
use Rattle.std.specs.Prelude.{ℕ, ◌-◌, ◌==◌, nat_lt, Bool, true, ◌&&◌, ◌||◌, false, not, if◌then◌else◌, List, [], ◌∷◌, ◌++◌, map, length, slice_index, count_by, codes, bytes_eq, Option, Some, None, is_some, option_and_then, option_map}
use Rattle.std.specs.List.{flat_map, list_all}
use Rattle.smithy_core.specs.Text.{line, line_feed, space, tab}
use Rattle.smithy_core.specs.TextPairs.{first_value}

-- an option of a config: its name, and its value where it has one
pub record Setting : Type 0 where
  pub name : List ℕ
  pub value : Option (List ℕ)

-- `"`
abbrev pub quote : ℕ
quote = 34

-- `\`
abbrev pub backslash : ℕ
backslash = 92

-- `=`
abbrev pub equals_sign : ℕ
equals_sign = 61

-- ## What is read

-- the byte that stands for a letter behind a backslash: `\t`, `\n`, `\r` and `\v` are control characters, and any other letter is itself
unfoldable pub unescaped : ℕ → ℕ
unescaped letter =
    if letter == 116 then 9 else if letter == 110 then 10 else if letter == 114 then 13 else if letter == 118 then 11 else letter

-- where the reader of a config stands: in a name, behind a name, in a value, behind a backslash in a value, behind a value
pub data ConfigPlace : Type 0 where
  in_name : List ℕ → ConfigPlace
  behind_name : List ℕ → ConfigPlace
  in_value : List ℕ → List ℕ → ConfigPlace
  in_escape : List ℕ → List ℕ → ConfigPlace
  behind_value : List ℕ → List ℕ → ConfigPlace

-- what a byte does: where the reader stands behind it, and the option that ends with it
pub record Step : Type 0 where
  pub place : ConfigPlace
  pub ended : Option Setting

-- the reader goes on to a place
abbrev pub goes : ConfigPlace → Option Step
goes place = Some (record { place = place; ended = None })

-- an option ends, and the reader stands at the start of the next line
abbrev pub ends : List ℕ → Option (List ℕ) → Option Step
ends name value = Some (record { place = in_name []; ended = Some (record { name = name; value = value }) })

-- a byte at a place, where it may stand there: names end before a space, values stand in quotes
unfoldable pub config_step : ConfigPlace → ℕ → Option Step
config_step (in_name name) byte =
    if byte == line_feed then ends name None else if byte == space then goes (behind_name name) else goes (in_name (name ++ byte ∷ []))
config_step (behind_name name) byte =
    if byte == quote then goes (in_value name []) else if byte == equals_sign || byte == space then goes (behind_name name) else None
config_step (in_value name value) byte =
    if byte == quote then goes (behind_value name value)
    else if byte == backslash then goes (in_escape name value) else goes (in_value name (value ++ byte ∷ []))
config_step (in_escape name value) byte = goes (in_value name (value ++ unescaped byte ∷ []))
config_step (behind_value name value) byte = if byte == line_feed then ends name (Some value) else None

-- the start of a line
abbrev pub is_start : ConfigPlace → Bool
is_start (in_name []) = true
is_start place = false

-- the option that ended, where one did, before the others
abbrev pub before_others : Option Setting → Option (List Setting) → Option (List Setting)
before_others None others = others
before_others (Some setting) others = option_map (λ others. setting ∷ others) others

-- the options that a text spells from a place on; the text is over behind the end of a line
abbrev pub config_settings_from : ConfigPlace → List ℕ → Option (List Setting)
config_settings_from place [] = if is_start place then Some [] else None
config_settings_from place (byte ∷ text) = option_and_then (λ read. before_others read.ended (config_settings_from read.place text)) (config_step place byte)

-- the options that a config spells
unfoldable pub config_settings : List ℕ → Option (List Setting)
config_settings text = config_settings_from (in_name []) text

-- ## What is written

-- a byte of a value: a quote, a backslash and a control character that has a letter stand behind a backslash
unfoldable pub escape : ℕ → List ℕ
escape byte =
    if byte == quote then backslash ∷ quote ∷ []
    else if byte == backslash then backslash ∷ backslash ∷ []
    else if byte == 9 then backslash ∷ 116 ∷ []
    else if byte == 10 then backslash ∷ 110 ∷ []
    else if byte == 13 then backslash ∷ 114 ∷ []
    else byte ∷ []

-- a value in quotes
unfoldable pub quoted : List ℕ → List ℕ
quoted value = quote ∷ (flat_map escape value ++ quote ∷ [])

-- what stands behind the name of an option
abbrev pub assigned : Option (List ℕ) → List ℕ
assigned None = []
assigned (Some value) = codes " = " ++ quoted value

-- the line of an option
unfoldable pub setting_line : Setting → List ℕ
setting_line setting = line (setting.name ++ assigned setting.value)

-- a config of these options
abbrev pub curl_config_text : List Setting → List ℕ
curl_config_text settings = flat_map setting_line settings

-- the name has neither a space nor the end of a line
abbrev pub is_plain_name : List ℕ → Bool
is_plain_name name = list_all (λ byte. not (byte == line_feed) && not (byte == space)) name

-- ## How curl sends a request

-- the name of an option alone
abbrev pub flag : List ℕ → Setting
flag name = record { name = name; value = None }

-- an option with a value
abbrev pub valued : List ℕ → List ℕ → Setting
valued name value = record { name = name; value = Some value }

-- a value of spaces and tabs alone, which curl would leave out with its name
abbrev pub is_blank_value : List ℕ → Bool
is_blank_value value = list_all (λ byte. byte == space || byte == tab) value

-- a header as curl takes it: `name: value`, and `name;` for a value that is blank
abbrev pub header_text : List ℕ × List ℕ → List ℕ
header_text header = if is_blank_value header.1 then header.0 ++ codes ";" else header.0 ++ (codes ": " ++ header.1)

-- a header
abbrev pub header_setting : List ℕ × List ℕ → Setting
header_setting header = valued (codes "header") (header_text header)

-- the option that names the method; curl waits for no body where it knows that it asks for a head
abbrev pub method_setting : List ℕ → Setting
method_setting method = if bytes_eq method (codes "HEAD") then flag (codes "head") else valued (codes "request") method

-- `/`
abbrev pub slash : ℕ
slash = 47

-- a target of which curl takes the last part for the name of a file: it has a path (behind the two slashes of its scheme), which doesn't end in a slash
unfoldable pub names_remote_file : List ℕ → Bool
names_remote_file target = nat_lt 2 (count_by (λ byte. byte == slash) target) && not (slice_index target (length target - 1) == slash)

-- a body that curl reads piece by piece; to any other target it would add the file's name
unfoldable pub is_uploaded : List ℕ → List ℕ → Bool
is_uploaded method target = bytes_eq method (codes "PUT") && names_remote_file target

-- curl's own content type, left out where the request has none
unfoldable pub no_content_type : List (List ℕ × List ℕ) → List Setting
no_content_type headers = if is_some (first_value headers (codes "content-type")) then [] else valued (codes "header") (codes "content-type:") ∷ []

-- a file as a body that curl takes into memory
unfoldable pub sent_settings : List (List ℕ × List ℕ) → List ℕ → List Setting
sent_settings headers path = no_content_type headers ++ valued (codes "data-binary") (codes "@" ++ path) ∷ []

-- a file as the body
unfoldable pub body_settings : List ℕ → List ℕ → List (List ℕ × List ℕ) → List ℕ → List Setting
body_settings method target headers path =
    if is_uploaded method target then valued (codes "upload-file") path ∷ []
    else sent_settings headers path

-- the body, where there is one
abbrev pub file_settings : List ℕ → List ℕ → List (List ℕ × List ℕ) → Option (List ℕ) → List Setting
file_settings method target headers None = []
file_settings method target headers (Some path) = body_settings method target headers path

-- the options by which curl sends exactly this request: the target isn't changed, and nothing in it stands for several
abbrev pub request_settings : List ℕ → List ℕ → List (List ℕ × List ℕ) → Option (List ℕ) → List Setting
request_settings method target headers file =
    flag (codes "path-as-is") ∷ flag (codes "globoff") ∷ method_setting method ∷ valued (codes "url") target
    ∷ (map header_setting headers ++ file_settings method target headers file)
