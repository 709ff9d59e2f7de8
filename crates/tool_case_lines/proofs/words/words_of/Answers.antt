use Rattle.std.proofs.Common.{lit<}
use Rattle.std.proofs.lemmas.Iterator.Consumers.{YieldsList-end}
use Rattle.std.proofs.lemmas.Iterator.Splits.{YieldsList-from_str_split}
use Rattle.tool_case_lines.proofs.words.words_of.Goals as goal

pub returns : goal.returns
returns c =
    let all = YieldsList-end (YieldsList-from_str_split 9 c.args.case.now (lit< tt) (cc) (cc) (cc)) c.loop-word.yielded _ c.loop-word.yielded_by _ _ c.in-None.is c.next.ensures.steps in
    rw (← all.0) c.loop-word.invariant.2
