use Rattle.env_config.proofs.GroupLemmas.{sub_put}
use Rattle.env_config.proofs.properties.insert_sub.Goals as goal

pub returns-clause-ok : goal.returns-clause-ok
returns-clause-ok c = sub_put c.args.subs.now.entries c.insert.new.self.entries c.args.name c.args.value c.in_ok-insert.ensures.entries
