use Rattle.std.proofs.Common.{◌≡◌, ◌++◌, map}
use Rattle.awsign_text.specs.Curl.{curl_config_text, header_setting}
use Rattle.awsign_text.proofs.curl.push_headers.Given as goal

-- what was written and the headers to come are all of them
abbrev pub invariant-loop-name : goal.invariant-loop-name
invariant-loop-name l = l.text.items ++ curl_config_text (map header_setting l.name-iterator) ≡ l.fn.text.items ++ curl_config_text (map header_setting l.headers)
