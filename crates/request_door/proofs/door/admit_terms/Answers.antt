use Rattle.std.proofs.Common.{rules}
use Rattle.std.proofs.lemmas.Int.{to_z-of_z}
use mir.Syntax.{w128}
use mir.Val.{SFits}
use Rattle.std.proofs.lemmas.Result.{err_from_is_err_and}
use Rattle.request_door.specs.Doors.{door_input}
use Rattle.request_door.proofs.DoorOrderLemmas.{admits, refused_key, refused_last, refused_names, refused_payload, refused_time}
use Rattle.request_door.proofs.door.admit_terms.Goals as goal

pub returns-in_err-test_names : goal.returns-in_err-test_names
returns-in_err-test_names g c =
    let asked = door_input (g.K.Keys.secrets c.args.keys.now) c.args.asked.now in
    let exit = err_from_is_err_and c.from_residual.result c.from_residual.ensures.1 in
    rw (exit.1, exit.2) (refused_names asked _ _ _ c.requires _ c.in_err-test_names.ensures)

pub returns-in_err-until : goal.returns-in_err-until
returns-in_err-until g c =
    let asked = door_input (g.K.Keys.secrets c.args.keys.now) c.args.asked.now in
    let exit = err_from_is_err_and c.from_residual-in_err-until.result c.from_residual-in_err-until.ensures.1 in
    rw (exit.1, exit.2) (refused_time asked _ _ _ c.requires c.in_ok-test_names.ensures _ c.in_err-until.ensures)

pub returns-in_err-form : goal.returns-in_err-form
returns-in_err-form g c =
    let asked = door_input (g.K.Keys.secrets c.args.keys.now) c.args.asked.now in
    let exit = err_from_is_err_and c.from_residual-in_err-form.result c.from_residual-in_err-form.ensures.1 in
    rw (exit.1, exit.2) (refused_payload asked _ _ _ c.requires c.in_ok-test_names.ensures _ c.in_ok-until.ensures _ c.in_err-form.ensures)

pub returns-in_err-secret : goal.returns-in_err-secret
returns-in_err-secret g c =
    let asked = door_input (g.K.Keys.secrets c.args.keys.now) c.args.asked.now in
    let exit = err_from_is_err_and c.from_residual-in_err-secret.result c.from_residual-in_err-secret.ensures.1 in
    rw (exit.1, exit.2)
    (refused_key asked _ _ _ c.requires c.in_ok-test_names.ensures _ c.in_ok-until.ensures _ c.in_ok-form.ensures _ c.in_err-secret.ensures)

pub returns-in_err-test_last : goal.returns-in_err-test_last
returns-in_err-test_last g c =
    let asked = door_input (g.K.Keys.secrets c.args.keys.now) c.args.asked.now in
    let last = rw c.as_str-secret.ensures.value at c.in_err-test_last.ensures in
    let exit = err_from_is_err_and c.from_residual-in_err-test_last.result c.from_residual-in_err-test_last.ensures.1 in
    rw (exit.1, exit.2)
    (refused_last asked _ _ _ c.requires c.in_ok-test_names.ensures _ c.in_ok-until.ensures _ c.in_ok-form.ensures c.in_ok-secret.secret c.in_ok-secret.ensures _ last)

pub test_last-requires : goal.test_last-requires
test_last-requires g c = c.requires.states.1.moment.in_years

pub returns : goal.returns
returns g c =
    let asked = door_input (g.K.Keys.secrets c.args.keys.now) c.args.asked.now in
    let last = rw c.as_str-secret.ensures.value at c.in_ok-test_last.ensures in
    let fits : SFits w128 c.in_ok-until.until = search rules in
    let stated_so = rw (to_z-of_z w128 c.in_ok-until.until fits) at c.in_ok-admitted.ensures in
    admits asked _ _ _ c.requires c.in_ok-test_names.ensures _ c.in_ok-until.ensures _ c.in_ok-form.ensures c.in_ok-secret.secret c.in_ok-secret.ensures _ last stated_so
