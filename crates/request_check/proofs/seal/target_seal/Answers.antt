use Rattle.request_check.proofs.SealLemmas.{if_ok, target_seal, uncarried}
use Rattle.request_check.proofs.seal.target_seal.Goals as goal

pub returns-in_default-carried_by : goal.returns-in_default-carried_by
returns-in_default-carried_by c =
    uncarried c.args.target.now c.args.region.now c.args.name.now c.in-Some.uri (rw c.in-Some.is at c.in_ok-uri.ensures)
    (rw (c.as_slice.ensures.value, c.in_ok-pairs.ensures) at c.in_default-carried_by.ensures)

pub returns : goal.returns
returns c = if_ok c.made_seal.result
    (λ made is. target_seal c.args.target.now c.args.region.now c.args.name.now c.in-Some.uri _ made (rw c.in-Some.is at c.in_ok-uri.ensures)
    (rw (c.as_slice.ensures.value, c.in_ok-pairs.ensures) at c.in-Some-carried_by.ensures) is) c.made_seal.ensures
