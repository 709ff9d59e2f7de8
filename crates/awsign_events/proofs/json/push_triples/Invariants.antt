use Rattle.std.proofs.Common.{◌≡◌, ◌++◌, [], drop}
use Rattle.awsign_events.proofs.JsonLemmas.{triples_behind}
use Rattle.awsign_events.proofs.json.push_triples.Given as goal

-- what was written and the headers to come, the first behind the lead, are all of them
abbrev pub invariant-loop-header : goal.invariant-loop-header
invariant-loop-header l = l.text.items ++ triples_behind l.lead (drop l.header-index l.headers) ≡ l.fn.text.items ++ triples_behind [] l.headers
