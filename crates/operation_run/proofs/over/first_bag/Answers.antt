use Rattle.std.proofs.Common.{refl}
use Rattle.operation_run.proofs.over.first_bag.Goals as goal

pub returns : goal.returns
returns c = record { empty = c.new-bag.result; is_empty = c.new-bag.ensures; made = rw (c.standard.ensures, c.in_ok-agent.ensures) refl }
