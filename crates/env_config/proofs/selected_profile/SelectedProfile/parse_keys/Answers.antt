use Rattle.std.proofs.Common.{map, string_bytes}
use Rattle.std.specs.Prelude.{Ok, Err}
use Rattle.env_config.specs.Source.{file_of}
use Rattle.env_config.proofs.SelectedLemmas.{keys_parsed}
use Rattle.env_config.proofs.selected_profile.SelectedProfile.parse_keys.Goals as goal

pub returns-in-Ok : goal.returns-in-Ok
returns-in-Ok c =
    keys_parsed (map file_of c.args.source.now.files.items) (string_bytes c.args.source.now.profile) c.as_str.result.now (map (λ k. k.now) c.args.keys.now) (Ok c.in-Ok.sections) c.as_str.ensures.value c.in-Ok.ensures

pub returns-in-Err : goal.returns-in-Err
returns-in-Err c =
    keys_parsed (map file_of c.args.source.now.files.items) (string_bytes c.args.source.now.profile) c.as_str.result.now (map (λ k. k.now) c.args.keys.now) (Err c.in-Err.fault) c.as_str.ensures.value c.in-Err.ensures
