-- What the command `settings` prints.
use Rattle.std.specs.Prelude.{ℕ, ◌==◌, Bool, ◌||◌, nat_lt, List, ◌++◌, codes, Option, Some, None}
use Rattle.smithy_core.specs.Text.{line}
use Rattle.smithy_http.specs.Escape.{escaped}
use Rattle.signed_stream.specs.Settings.{Selected}

-- a control, `%` or a byte past ASCII's printed ones
abbrev pub is_hidden : ℕ → Bool
is_hidden byte = nat_lt byte 32 || byte == 37 || nat_lt 126 byte

-- `NAME VALUE`, with the hidden bytes of the value as `%` and two upper-case hexadecimal digits
abbrev pub shown_line : List ℕ → List ℕ → List ℕ
shown_line name value = line (name ++ (codes " " ++ escaped is_hidden value))

-- whether a token is there
abbrev pub yes_or_no : Option (List ℕ) → List ℕ
yes_or_no (Some token) = codes "yes"
yes_or_no None = codes "no"

-- the profile, the region, the key id and whether there is a token; never the secret
unfoldable pub shown_settings : Selected → List ℕ
shown_settings selected =
    shown_line (codes "profile") selected.profile
    ++ (shown_line (codes "region") selected.region
    ++ (shown_line (codes "key-id") selected.key_id ++ line (codes "token " ++ yes_or_no selected.token)))
