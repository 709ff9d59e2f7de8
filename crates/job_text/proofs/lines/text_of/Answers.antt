use Rattle.job_text.proofs.LineLemmas.{lines_of_text}
use Rattle.job_text.proofs.lines.text_of.Goals as goal

pub returns-in-Ok : goal.returns-in-Ok
returns-in-Ok c = rw c.in-Ok.ensures.cases.0 (lines_of_text c.args.bytes.now c.in-Ok.ensures.cases.1)
