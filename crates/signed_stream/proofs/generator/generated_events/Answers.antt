use Rattle.signed_stream.specs.Generator.{drawn_events}
use Rattle.signed_stream.proofs.GeneratorLemmas.{all_drawn}
use Rattle.signed_stream.proofs.generator.generated_events.Goals as goal

pub returns : goal.returns
returns c = all_drawn c.args.count c.events._i c.events.generator c.events.events.items (drawn_events c.args.count c.args.seed) c.events-test.false c.events.invariant
