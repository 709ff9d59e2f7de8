use Rattle.std.proofs.Common.{arith}
use Rattle.request_check.proofs.StampLemmas.{unstamped_length, unstamped_none, unstamped_other}
use Rattle.request_check.proofs.stamp.stamped_moment.Goals as goal

pub returns-then-text-ne16 : goal.returns-then-text-ne16
returns-then-text-ne16 c = unstamped_length c.args.text.now (λ same. grind (arith, same, c.if-text-ne16.true, c.as_bytes-text.ensures.len, c.as_bytes-text.ensures.value))

pub returns-in_err-moment : goal.returns-in_err-moment
returns-in_err-moment c = rw c.from_residual.ensures (unstamped_none c.args.text.now c.civil_at.result (rw c.as_bytes-text.ensures.value at c.civil_at.ensures.only) c.in_err-moment.ensures)

pub returns-else-has_stamp : goal.returns-else-has_stamp
returns-else-has_stamp c =
    unstamped_other c.args.text.now c.civil_at.result c.in_ok-moment.moment (rw c.as_bytes-text.ensures.value at c.civil_at.ensures.only) c.in_ok-moment.ensures
    (rw c.as_bytes-text.ensures.value at c.if-has_stamp.ensures)
