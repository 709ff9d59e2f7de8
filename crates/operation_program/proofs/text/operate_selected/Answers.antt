use Rattle.std.proofs.Common.{refl}
use Rattle.operation_program.proofs.PartsLemmas.{selected_operation}
use Rattle.operation_program.proofs.text.operate_selected.Goals as goal

pub returns : goal.returns
returns c = λ texts.
    selected_operation c.args.env.now c.args.request.now texts c.args.settings c.args.name.now c.args.at c.args.script.now.replies _ c.operate_over.new.script.sent c.operate_over.result
    (record {
      config = rw (c.new.ensures, c.in_ok-from_str.ensures.ok, c.default.ensures) refl;
      given = refl;
      endpoint = refl;
      region = refl;
      name = refl;
      payload = refl;
    }) c.operate_over.ensures
