use Rattle.std.proofs.Common.{◌≡◌, List, length, replicate, ap, ◌∙◌}
use Rattle.smithy_core.specs.Given.{Gives}
use Rattle.smithy_core.specs.Moment.{Instant}
use Rattle.smithy_core.specs.contracts.outside.clock.FixedClockClock.TheImpl as fixed
use Rattle.smithy_core.proofs.GivenLemmas.{given_last}
use Rattle.operation_run.proofs.OverLemmas.{over_script}
use Rattle.operation_run.proofs.over.operate_over.Goals as goal

pub returns : goal.returns
returns c =
    let start = c.new-clock.result in
    let end = c.operate.new.clock in
    let all_at : (taken : List Instant) → Gives fixed.ghosts start taken end → taken ≡ replicate (length taken) c.args.at =
    λ taken gives. given_last fixed.ghosts (λ before moment now is. is) start end taken (ap (λ k. k.moments) c.new-clock.ensures.at) gives.0
    ∙ ap (λ k. replicate (length taken) k.last) c.new-clock.ensures.at in
    over_script (λ taken. Gives fixed.ghosts start taken end) _ c.in_ok-bag.bag c.operate.new.bag c.in_ok-bag.ensures c.in_ok-ids.ids c.operate.new.generator c.in_ok-ids.ensures c.args.at
    all_at c.args.script.now c.operate.new.transport c.requires c.operate.ensures.settled c.new-moments.result.items c.operate.new.moments.items c.new-moments.ensures.items c.operate.result
    c.operate.ensures.all c.operate.ensures.operates
