use Rattle.operation_run.specs.Steps.{operation_parts}
use Rattle.operation_run.proofs.PrepareLemmas.{prepared}
use Rattle.operation_run.proofs.attempt.prepare.Goals as goal

pub returns-clause-prepares : goal.returns-clause-prepares
returns-clause-prepares g c =
    let worn = c.in_ok-dress.ensures in
    let bag = worn.bag in
    let signed = c.in_ok-sign_at.ensures in
    let sent = c.in_ok-stamp.ensures in (
      c.next_moment-first.result,
      record { moments = c.next_moment-first.ensures.moments; given = c.next_moment-first.ensures.gives },
      prepared (operation_parts c.args.operation.now) c.args.bag.now c.args.request.now c.dress.new.request c.requires.copy worn.dresses.0 worn.dresses.1 worn.method worn.target worn.body
          c.sign_at.new.request c.stamp.new.request c.next_moment-first.result (rw bag at signed.signs) signed.method signed.body (rw bag at sent.ok) sent.method sent.target sent.body,
    )
