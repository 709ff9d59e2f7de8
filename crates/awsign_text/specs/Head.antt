-- The head of a request as it goes over the wire (RFC 9112, sections 2, 3 and 5).
use Rattle.std.specs.Prelude.{ℕ, ◌==◌, ◌&&◌, ◌||◌, if◌then◌else◌, List, [], ◌∷◌, ◌++◌, slice_index, codes, Option, Some, None, is_some}
use Rattle.std.specs.List.{before_first, flat_map}
use Rattle.smithy_core.specs.Text.{line}
use Rattle.smithy_core.specs.TextPairs.{first_value}
use Rattle.awsign_text.specs.Curl.{slash}

-- `?`
abbrev pub question_mark : ℕ
question_mark = 63

-- `#`
abbrev pub number_sign : ℕ
number_sign = 35

-- CR
abbrev pub carriage_return : ℕ
carriage_return = 13

-- a text from its first slash or question mark on, where an authority ends (RFC 3986, section 3.2)
abbrev pub from_path : List ℕ → List ℕ
from_path [] = []
from_path (byte ∷ text) = if byte == slash || byte == question_mark then byte ∷ text else from_path text

-- a target behind an authority that two slashes lead, and else all of it; the second text is the target from its first slash or question mark on
abbrev pub behind_slashes : List ℕ → List ℕ → List ℕ
behind_slashes target [] = target
behind_slashes target (first ∷ []) = target
behind_slashes target (first ∷ (second ∷ text)) = if first == slash && second == slash then from_path text else target

-- a target behind its scheme and its authority; one that begins with a slash has none
unfoldable pub behind_authority : List ℕ → List ℕ
behind_authority target = if slice_index target 0 == slash then target else behind_slashes target (from_path target)

-- a slash before a query alone, or nothing
abbrev pub with_path : List ℕ → List ℕ
with_path [] = slash ∷ []
with_path (byte ∷ text) = if byte == question_mark then slash ∷ byte ∷ text else byte ∷ text

-- a target in the form in which an origin gets it (RFC 9112, section 3.2.1): its path and its query, without a fragment
unfoldable pub origin_form : List ℕ → List ℕ
origin_form target = with_path (behind_authority (before_first (λ byte. byte == number_sign) target))

-- a line of a head, ended by CR and LF
abbrev pub wire_line : List ℕ → List ℕ
wire_line text = line (text ++ carriage_return ∷ [])

-- the first line
unfoldable pub start_line : List ℕ → List ℕ → List ℕ
start_line method target = wire_line (method ++ (codes " " ++ (origin_form target ++ codes " HTTP/1.1")))

-- the line of a header
abbrev pub field_line : List ℕ × List ℕ → List ℕ
field_line header = wire_line (header.0 ++ (codes ": " ++ header.1))

-- the line of the host
abbrev pub host_line : Option (List ℕ) → List ℕ
host_line None = []
host_line (Some host) = field_line (codes "host", host)

-- the line of the target's host, where no header has it
abbrev pub target_host_line : List (List ℕ × List ℕ) → Option (List ℕ) → List ℕ
target_host_line headers host = if is_some (first_value headers (codes "host")) then [] else host_line host

-- the head: the first line, the host, the headers, and an empty line
unfoldable pub wire_head : List ℕ → List ℕ → List (List ℕ × List ℕ) → Option (List ℕ) → List ℕ
wire_head method target headers host = start_line method target ++ (target_host_line headers host ++ (flat_map field_line headers ++ wire_line []))
