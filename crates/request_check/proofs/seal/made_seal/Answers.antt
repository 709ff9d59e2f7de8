use Rattle.request_check.proofs.SealLemmas.{no_scope}
use Rattle.request_check.proofs.seal.made_seal.Goals as goal

pub returns-in_default-key_id_before : goal.returns-in_default-key_id_before
returns-in_default-key_id_before c =
    no_scope c.args.place c.args.region.now c.args.name.now c.args.carried.now c.in-Some.at c.in-Some.ensures
    (rw (c.as_str.ensures.value, c.in_ok-scope.ensures) at c.in_default-key_id_before.ensures)
