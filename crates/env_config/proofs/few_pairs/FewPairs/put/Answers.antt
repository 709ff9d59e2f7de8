use Rattle.std.proofs.Common.{string_bytes}
use Rattle.env_config.specs.Texts.{pairs_of}
use Rattle.env_config.proofs.FewLemmas.{now_in_order}
use Rattle.env_config.proofs.few_pairs.FewPairs.put.Goals as goal

pub invariant_of-self : goal.invariant_of-self
invariant_of-self c =
    now_in_order (pairs_of c.self.inside.pairs.items) (pairs_of c.put_among_few.new.pairs.items) (string_bytes c.args.key) (string_bytes c.args.value) c.put_among_few.result c.put_among_few.ensures.ok c.put_among_few.ensures.err c.self.invariant
