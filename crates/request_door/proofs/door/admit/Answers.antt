use Rattle.std.proofs.Common.{ap, ◌∙◌}
use Rattle.std.proofs.lemmas.Result.{err_from_is_err_and}
use Rattle.smithy_core.specs.TextPairs.{text_pairs}
use Rattle.sigv4.specs.Settings.{settings_of}
use Rattle.request_door.proofs.DoorOrderLemmas.{input, refused_target}
use Rattle.request_door.proofs.door.admit.Goals as goal

pub returns-in_err-uri : goal.returns-in_err-uri
returns-in_err-uri g c =
    let asked = input c.args.request.now c.args.body.now (settings_of c.args.settings.now) c.args.region.now c.args.name.now (g.K.Keys.secrets c.args.keys.now)
    c.args.now c.args.limits.now in
    let exit = err_from_is_err_and c.from_residual.result c.from_residual.ensures.1 in
    rw (exit.1, exit.2) (refused_target asked _ c.in_err-uri.ensures)

pub admit_pairs-requires : goal.admit_pairs-requires
admit_pairs-requires g c =
    record { accepted = c.in_ok-uri.ensures; pairs_are = ap text_pairs c.as_slice.ensures.value ∙ c.in_ok-pairs.ensures }
