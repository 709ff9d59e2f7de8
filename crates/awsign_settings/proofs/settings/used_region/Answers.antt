use Rattle.std.proofs.Common.{◌≡◌, ℕ, List, Option, None, Some, IfOk, codes, map, option_map, ap, ap₂, subst, ◌∙◌}
use Rattle.std.specs.Option.{option_or}
use Rattle.aws_settings.specs.Choice.{profile_name}
use Rattle.awsign_run.specs.Chosen.{asked_profile}
use Rattle.awsign_settings.specs.Own.{own_of}
use Rattle.awsign_settings.specs.Settings.{Used, from_files, from_option, from_variable, used_of}
use Rattle.awsign_settings.specs.declared.part.Part.TheVariants.{Region}
use Rattle.awsign_settings.proofs.SettingsLemmas.{used_either}
use Rattle.awsign_settings.proofs.settings.used_region.Goals as goal

pub returns-in-Some : goal.returns-in-Some
returns-in-Some c =
    let options = c.args.options.now in
    let env = c.args.env.now in
    let set : option_map used_of c.or-set.result ≡ option_or (from_option options (codes "--region")) (from_variable env (codes "AWS_REGION")) =
    ap (option_map used_of) c.or-set.ensures ∙ used_either c.from_option.result c.from_variable.result ∙ ap₂ option_or c.from_option.ensures c.from_variable.ensures in
    let found : Some (used_of c.in-Some.region) ≡ option_or (option_or (from_option options (codes "--region")) (from_variable env (codes "AWS_REGION"))) (from_variable env (codes "AWS_DEFAULT_REGION")) =
    ap (option_map used_of) c.in-Some.ensures ∙ used_either c.or-set.result c.from_variable-2.result ∙ ap₂ option_or set c.from_variable-2.ensures in
    ap (λ (x : Option Used). option_or x (from_files (asked_profile options env) Region (map own_of c.args.owns.now))) found

pub returns-in-None : goal.returns-in-None
returns-in-None c =
    let options = c.args.options.now in
    let env = c.args.env.now in
    let owns = map own_of c.args.owns.now in
    let set : option_map used_of c.or-set.result ≡ option_or (from_option options (codes "--region")) (from_variable env (codes "AWS_REGION")) =
    ap (option_map used_of) c.or-set.ensures ∙ used_either c.from_option.result c.from_variable.result ∙ ap₂ option_or c.from_option.ensures c.from_variable.ensures in
    let none : None ≡ option_or (option_or (from_option options (codes "--region")) (from_variable env (codes "AWS_REGION"))) (from_variable env (codes "AWS_DEFAULT_REGION")) =
    ap (option_map used_of) c.in-None.ensures ∙ used_either c.or-set.result c.from_variable-2.result ∙ ap₂ option_or set c.from_variable-2.ensures in
    let name : c.profile_name.result.now ≡ asked_profile options env = c.profile_name.ensures ∙ ap (λ (n : Option (List ℕ)). profile_name n env) c.get.ensures in
    let Given : Option Used → Type 0 = λ x. IfOk c.from_files.result (λ region. option_map used_of region ≡ x) in
    subst Given
    (ap (λ (n : List ℕ). from_files n Region owns) name ∙ ap (λ (x : Option Used). option_or x (from_files (asked_profile options env) Region owns)) none)
    c.from_files.ensures
