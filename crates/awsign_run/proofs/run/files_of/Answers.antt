use Rattle.std.proofs.Common.{◌≡◌, ◌++◌, ap, codes, refl, subst, List}
use Rattle.std.specs.Prelude.{IfOk}
use Rattle.smithy_core.specs.TextPairs.{last_value}
use Rattle.env_config.specs.Files.{Place, chosen_places, file_places, or_usual}
use Rattle.env_config.specs.declared.source.EnvConfigFileKind.TheVariants.{Config, Credentials}
use Rattle.awsign_run.specs.Run.{named_place}
use Rattle.awsign_run.proofs.run.files_of.Goals as goal

pub returns : goal.returns
returns c =
    let options = c.args.options.now in
    let places : chosen_places c.in_ok-with_named.field-0 ≡ named_place Config (last_value options (codes "--config")) ++ named_place Credentials (last_value options (codes "--credentials")) =
    rw (c.in_ok-with_named.ensures, c.in_ok-builder.ensures, c.builder-builder.ensures, c.get.ensures, c.get-2.ensures) refl in
    let Given : List Place → Type 0 = λ places. IfOk c.built.result (λ files. file_places files ≡ places) in
    subst Given (ap or_usual places) c.built.ensures
