use Rattle.std.proofs.Common.{arith}
use Rattle.awsign_events.proofs.JsonLemmas.{all_joined}
use Rattle.awsign_events.proofs.json.push_triples.Goals as goal

pub returns : goal.returns
returns c =
    all_joined c.loop-header.text.items c.args.text.now.items c.loop-header.lead.now c.loop-header.header-index c.args.headers.now
    (omega (arith, c.loop-header-test.false)) c.loop-header.invariant
