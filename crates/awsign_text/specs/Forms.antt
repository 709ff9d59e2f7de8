-- The forms in which a signed request is printed.
use Rattle.std.specs.Prelude.{ℕ, List, [], ◌∷◌, ◌++◌, codes, Option}
use Rattle.std.specs.List.{flat_map}
use Rattle.smithy_core.specs.Text.{line}
use Rattle.awsign_text.specs.Curl.{curl_config_text, quoted, request_settings}
use Rattle.awsign_text.specs.Head.{wire_head}
use Rattle.awsign_text.specs.declared.forms.Form.{Form}
use Rattle.awsign_text.specs.declared.forms.Form.TheVariants.{Curl, Headers, Json, Http, Url}

-- a header as a line
abbrev pub plain_header_line : List ℕ × List ℕ → List ℕ
plain_header_line header = line (header.0 ++ (codes ": " ++ header.1))

-- a header in JSON, as a list of its name and its value. A header's value and a target have no control character but the tab.
unfoldable pub json_header : List ℕ × List ℕ → List ℕ
json_header header = codes "[" ++ (quoted header.0 ++ (codes "," ++ (quoted header.1 ++ codes "]")))

-- headers in JSON, the first behind a lead and each other one behind a comma
abbrev pub json_from : List ℕ → List (List ℕ × List ℕ) → List ℕ
json_from lead [] = []
json_from lead (header ∷ headers) = (lead ++ json_header header) ++ json_from (codes ",") headers

-- headers in JSON, with commas between them
abbrev pub json_headers : List (List ℕ × List ℕ) → List ℕ
json_headers headers = json_from [] headers

-- a request in JSON (RFC 8259), as an object on one line
unfoldable pub json_text : List ℕ → List ℕ → List (List ℕ × List ℕ) → List ℕ
json_text method target headers =
    codes "{" ++ (quoted (codes "method") ++ (codes ":" ++ (quoted method ++ (codes "," ++ (quoted (codes "url") ++ (codes ":" ++ (quoted target ++ (codes "," ++ (quoted (codes "headers") ++ (codes ":[" ++ (json_headers headers ++ line (codes "]}"))))))))))))

-- a request in a form, whose target has this host and whose body is this file
abbrev pub text_in_form : Form → List ℕ → List ℕ → List (List ℕ × List ℕ) → Option (List ℕ) → Option (List ℕ) → List ℕ
text_in_form Curl method target headers host file = curl_config_text (request_settings method target headers file)
text_in_form Headers method target headers host file = flat_map plain_header_line headers
text_in_form Json method target headers host file = json_text method target headers
text_in_form Http method target headers host file = wire_head method target headers host
text_in_form Url method target headers host file = line target
