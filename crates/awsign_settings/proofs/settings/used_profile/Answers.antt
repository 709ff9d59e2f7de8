use Rattle.std.proofs.Common.{Option, codes, option_map, ap, ap₂, ◌∙◌}
use Rattle.std.specs.Prelude.{unwrap_or}
use Rattle.std.specs.Option.{option_or}
use Rattle.awsign_settings.specs.Settings.{Used, by_nothing, used_of}
use Rattle.awsign_settings.proofs.SettingsLemmas.{used_default, used_either}
use Rattle.awsign_settings.proofs.settings.used_profile.Goals as goal

pub returns : goal.returns
returns c =
    ap used_of c.unwrap_or.ensures ∙ used_default c.or-named.result _
    ∙ ap (λ (x : Option Used). unwrap_or x (record { value = codes "default"; whence = by_nothing }))
    (ap (option_map used_of) c.or-named.ensures ∙ used_either c.from_option.result c.from_variable.result ∙ ap₂ option_or c.from_option.ensures c.from_variable.ensures)
