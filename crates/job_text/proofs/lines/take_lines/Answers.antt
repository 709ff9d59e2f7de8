use Rattle.std.proofs.Common.{◌≡◌, ◌∙◌, sym, length}
use Rattle.std.proofs.lemmas.Bool.{eqb-true}
use Rattle.job_text.proofs.LineLemmas.{faulty_line, lines_over}
use Rattle.job_text.proofs.lines.take_lines.Goals as goal

pub returns : goal.returns
returns g c =
    let rest = c.loop-rest.rest.now in
    let none : length rest ≡ 0 = eqb-true (length rest) 0 (sym c.is_empty.ensures ∙ c.loop-rest-test.false) in
    sym c.loop-rest.invariant.to_come ∙ lines_over g.D.TakeLine.step c.loop-rest.place _ rest none

pub returns-in-Err : goal.returns-in-Err
returns-in-Err g c =
    rw c.at.ensures
    (faulty_line g.D.TakeLine.step c.loop-rest.place _ _ _ _ (g.D.TakeLine.draft c.take_line.new.self) c.in-Err.fault (rw c.cut_line.ensures.lines at c.loop-rest.invariant.to_come) c.in-Err.ensures)
