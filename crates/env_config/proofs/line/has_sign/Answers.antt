use Rattle.env_config.proofs.CommentLemmas.{none_found}
use Rattle.env_config.proofs.line.has_sign.Goals as goal

pub returns-else-contains : goal.returns-else-contains
returns-else-contains c = none_found c.args.text.now _ c.utf8.text c.if-contains.ensures.cases c.contains-else-contains.result c.contains-else-contains.ensures.cases
