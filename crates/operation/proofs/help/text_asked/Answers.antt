use Rattle.operation.specs.Asked.{operation_help, operation_version}
use Rattle.operation.proofs.help.text_asked.Goals as goal

pub returns : goal.returns
unfolding operation_help operation_version
returns c = c.text_asked.ensures
