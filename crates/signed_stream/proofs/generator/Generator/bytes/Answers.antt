use Rattle.signed_stream.specs.Generator.{draw_after, drawn_bytes}
use Rattle.signed_stream.proofs.GeneratorLemmas.{bytes_drawn, draws_done}
use Rattle.signed_stream.proofs.generator.Generator.bytes.Goals as goal

pub returns-clause-bytes : goal.returns-clause-bytes
returns-clause-bytes c = bytes_drawn c.args.count c.draws._i c.draws.self c.draws.bytes.items (drawn_bytes c.args.count c.args.self.now) c.draws-test.false c.draws.invariant.bytes

pub returns-clause-kept : goal.returns-clause-kept
returns-clause-kept c = draws_done c.args.count c.draws._i c.draws.self (draw_after c.args.count c.args.self.now) c.draws-test.false c.draws.invariant.draw
