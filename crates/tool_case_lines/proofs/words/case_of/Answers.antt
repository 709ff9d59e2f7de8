use Rattle.tool_case_lines.proofs.LineLemmas.{parted, unparted}
use Rattle.tool_case_lines.proofs.words.case_of.Goals as goal

pub returns-clause-parted : goal.returns-clause-parted
returns-clause-parted c = parted _ _ c.rsplit_once.ensures.cases

pub returns-clause-none : goal.returns-clause-none
returns-clause-none c = unparted _ _ c.rsplit_once.ensures.cases
