use Rattle.aws_settings.proofs.ChoiceLemmas.{no_settings}
use Rattle.aws_settings.specs.Choice.{chosen_key, region_by, chosen_settings, profile_values}
use Rattle.std.specs.Prelude.{option_copied}
use Rattle.aws_settings.proofs.choice.choose_settings.Goals as goal

pub returns-in-Err : goal.returns-in-Err
unfolding chosen_settings
returns-in-Err c =
    let profile = profile_values c.args.profile.now in
    no_settings profile.name (chosen_key c.args.names_profile c.args.env.now profile) (region_by (option_copied c.args.region) c.args.env.now profile) c.in-Err.fault c.in-Err.ensures

pub returns-in-Ok : goal.returns-in-Ok
unfolding chosen_settings
returns-in-Ok c = rw (c.in-Ok.ensures, ← c.region_of-region.ensures, ← c.as_str.ensures.value) c.settings_with.ensures
