use Rattle.aws_chunked.proofs.StopLemmas.{expect_differs, expect_ends}
use Rattle.aws_chunked.proofs.decode.expecting.expect.Goals as goal
use Rattle.aws_chunked.proofs.decode.expecting.expect.Goals.{in_default-via-in-Some+else-first-byte, in_default-via-in_default}

pub returns-in_default : goal.returns-in_default
returns-in_default c =
    elim c.in_default.branch [
      | in_default-via-in-Some+else-first-byte w ↦
          expect_differs _ _ _ _ _ _ _ c.loop-byte-test.true c.loop-byte.invariant w.in-Some.ensures.cases.0 w.if-first-byte.false c.bad_at.ensures
      | in_default-via-in_default w ↦ expect_ends _ _ _ _ _ c.loop-byte-test.true c.loop-byte.invariant w.in_default.ensures.cases c.bad_at.ensures
    ]
