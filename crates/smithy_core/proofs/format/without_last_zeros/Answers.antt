use Rattle.smithy_core.proofs.ZeroLemmas.{trimmed}
use Rattle.smithy_core.proofs.format.without_last_zeros.Goals as goal

pub returns : goal.returns
returns c = trimmed c.args.digits.now c.trim_end_matches.result.now c.trim_end_matches.ensures.matches
