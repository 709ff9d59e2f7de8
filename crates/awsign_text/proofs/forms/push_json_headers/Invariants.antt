use Rattle.std.proofs.Common.{◌≡◌, ◌++◌, []}
use Rattle.awsign_text.specs.Forms.{json_from}
use Rattle.awsign_text.proofs.forms.push_json_headers.Given as goal

-- what was written and the headers to come, the first behind the lead, are all of them
abbrev pub invariant-loop-name : goal.invariant-loop-name
invariant-loop-name l = l.text.items ++ json_from l.lead l.name-iterator ≡ l.fn.text.items ++ json_from [] l.headers
