use Rattle.std.proofs.Common.{sym}
use Rattle.request_door.specs.DoorCarried.{texts_carried}
use Rattle.request_door.proofs.DoorTermLemmas.{bad_expiry, long_expiry, states}
use Rattle.request_door.proofs.terms.read_terms.Goals as goal

pub returns-in_default-stated_seconds : goal.returns-in_default-stated_seconds
returns-in_default-stated_seconds c =
    let cut = rw (c.as_str.ensures.value, c.in_ok-scope.ensures) at c.in-Some-key_id_before.ensures in
    bad_expiry c.args.region.now c.args.name.now c.args.limits.now (texts_carried c.args.texts.now) c.in-Some.at c.in-Some.ensures c.in_ok-test_scope.ensures
    c.in-Some-key_id_before.key_id.now cut (sym c.in_default-stated_seconds.ensures)

pub returns-then-seconds-limits : goal.returns-then-seconds-limits
returns-then-seconds-limits c =
    let cut = rw (c.as_str.ensures.value, c.in_ok-scope.ensures) at c.in-Some-key_id_before.ensures in
    long_expiry c.args.region.now c.args.name.now c.args.limits.now (texts_carried c.args.texts.now) c.in-Some.at c.in-Some.ensures c.in_ok-test_scope.ensures
    c.in-Some-key_id_before.key_id.now cut c.in-Some-stated_seconds.seconds (sym c.in-Some-stated_seconds.ensures) c.if-seconds-limits.true

pub returns : goal.returns
returns c =
    let cut = rw (c.as_str.ensures.value, c.in_ok-scope.ensures) at c.in-Some-key_id_before.ensures in
    states c.args.region.now c.args.name.now c.args.limits.now (texts_carried c.args.texts.now) c.in-Some.at c.in-Some.ensures c.in_ok-test_scope.ensures
    c.in-Some-key_id_before.key_id.now cut c.in-Some-stated_seconds.seconds (sym c.in-Some-stated_seconds.ensures) c.if-seconds-limits.false
