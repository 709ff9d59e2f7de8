use Rattle.std.proofs.Common.{inl}
use Rattle.std.proofs.lemmas.Result.{err_from_is_err_and}
use Rattle.std.specs.Prelude.{option_copied}
use Rattle.aws_auth.specs.Steps.{choice_of}
use Rattle.aws_auth.proofs.InputsLemmas.{kept_early, prepared_by, refused_name_by, refused_params, usual_name}
use Rattle.aws_auth.proofs.signer.prepared.Goals as goal

pub named_settings-requires-clause-usual : goal.named_settings-requires-clause-usual
named_settings-requires-clause-usual g c = usual_name c.args.inputs.now c.args.now (choice_of c.in_ok-config.choice) c.in_ok-config.ensures.2

pub returns-in_err-config : goal.returns-in_err-config
returns-in_err-config g c =
    let exit = err_from_is_err_and c.from_residual.result c.from_residual.ensures.1 in
    rw (exit.1, exit.2)
    (λ old. kept_early g.F.Fn (option_copied c.args.name_override) c.args.identity.now c.args.inputs.now c.args.now old _ c.in_err-config.ensures)

pub returns-in_err-settings : goal.returns-in_err-settings
returns-in_err-settings g c =
    let exit = err_from_is_err_and c.from_residual-in_err-settings.result c.from_residual-in_err-settings.ensures.1 in
    let chose = c.in_ok-config.ensures in
    let refused = c.in_err-settings.ensures in
    rw (exit.1, exit.2, refused.2)
    (λ old. inl (refused_name_by g.F.Fn (option_copied c.args.name_override) c.args.identity.now c.args.inputs.now c.args.now old
    c.in_ok-config.config.now (choice_of c.in_ok-config.choice) chose.0 chose.1 chose.2 refused.0 refused.1))

pub returns-in_err-params : goal.returns-in_err-params
returns-in_err-params g c =
    let exit = err_from_is_err_and c.from_residual-in_err-params.result c.from_residual-in_err-params.ensures.1 in
    let chose = c.in_ok-config.ensures in
    let named = c.in_ok-settings.ensures in
    rw (exit.1, exit.2)
    (λ old. inl (refused_params g.F.Fn (option_copied c.args.name_override) c.args.identity.now c.args.inputs.now c.args.now old
    c.in_ok-config.config.now (choice_of c.in_ok-config.choice) chose.0 chose.1 chose.2 named.0 _ named.1 c.in_err-params.ensures))

pub returns : goal.returns
returns g c =
    let chose = c.in_ok-config.ensures in
    let named = c.in_ok-settings.ensures in
    let made = c.in_ok-params.ensures in
    prepared_by g.F.Fn (option_copied c.args.name_override) c.args.identity.now c.args.inputs.now c.args.now
    c.in_ok-config.config.now (choice_of c.in_ok-config.choice) chose.1 chose.2 chose.0 named.0 named.1 c.in_ok-settings.settings c.in_ok-params.params named.2
    made.0 made.1
