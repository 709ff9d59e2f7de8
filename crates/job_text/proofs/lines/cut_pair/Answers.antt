use Rattle.job_text.proofs.LineLemmas.{pair_cut}
use Rattle.job_text.proofs.lines.cut_pair.Goals as goal

pub returns : goal.returns
returns c = pair_cut c.args.text.now c.split_once.result c.split_once.ensures.cases
