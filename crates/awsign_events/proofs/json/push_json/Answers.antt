use Rattle.std.proofs.Common.{◌∙◌}
use Rattle.awsign_events.proofs.JsonLemmas.{json_parts}
use Rattle.awsign_events.proofs.json.push_json.Goals as goal

pub returns : goal.returns
returns c =
    json_parts c.args.text.now.items c.extend_from_slice.new.self.items c.push_triples.new.text.items c.push_payload.new.text.items c.args.message.now c.headers.result.now c.as_slice.result.now
    c.in_ok-extend_from_slice.ensures.items c.headers.ensures c.in_ok-push_triples.ensures (c.as_slice.ensures ∙ c.payload.ensures) c.in_ok-push_payload.ensures
