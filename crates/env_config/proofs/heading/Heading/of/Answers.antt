use Rattle.env_config.proofs.SignLemmas.{heading_absent, heading_found}
use Rattle.env_config.proofs.heading.Heading.of.Goals as goal

pub returns-in-Some : goal.returns-in-Some
returns-in-Some c =
    let at = c.in-Some.ensures.cases in
    heading_found c.args.text.now c.trim-text.result.now c.in-Some.prefix.now c.in-Some.name.now c.trim.result.now c.trim-in-Some.result.now at.0 at.1
    c.trim-text.ensures at.2 at.3 at.4 at.5 at.7 c.trim.ensures c.trim-in-Some.ensures

pub returns-in-None : goal.returns-in-None
returns-in-None c = heading_absent c.args.text.now c.trim-text.result.now c.trim-text.ensures c.in-None.ensures.cases
