use Rattle.request_check.proofs.StampLemmas.{read_back}
use Rattle.request_check.proofs.stamp.civil_at.Goals as goal

pub returns-clause-only : goal.returns-clause-only
returns-clause-only c = λ civil fits e.
    rw (c.from.ensures, c.from-2.ensures) (read_back civil c.args.text.now c.number_at.result c.number_at-2.result c.number_at-3.result c.number_at-4.result
    c.number_at-5.result c.number_at-6.result c.number_at-7.result c.number_at.ensures c.number_at-2.ensures c.number_at-3.ensures c.number_at-4.ensures
    c.number_at-5.ensures c.number_at-6.ensures c.number_at-7.ensures fits e)
