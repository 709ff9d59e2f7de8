use Rattle.std.proofs.Common.{Ok, subst, List, ℕ, string_bytes}
use Rattle.env_config.specs.EnvConfigSections.{sections_of}
use Rattle.env_config.specs.Kept.{keeps_of}
use Rattle.env_config.specs.ProfileSink.{ReadsLatest}
use Rattle.env_config.specs.Raw.{raw}
use Rattle.env_config.specs.Source.{file_of}
use Rattle.env_config.proofs.MergedProfileLemmas.{profile_merged}
use Rattle.env_config.proofs.sections.EnvConfigSections.merge_profile.Goals as goal

pub returns-in_ok-merge_latest-in-Ok-clause-sections : goal.returns-in_ok-merge_latest-in-Ok-clause-sections
returns-in_ok-merge_latest-in-Ok-clause-sections c =
    let keeps = keeps_of c.args.kept.now in
    let Reads : List ℕ → Type 0 = λ text. ReadsLatest c.args.profile.now (raw keeps text) (Ok c.in-Ok.latest) in
    profile_merged keeps c.args.profile.now (raw keeps (string_bytes c.args.file.now.contents)) (file_of c.args.file.now) c.in-Ok.latest (sections_of c.args.self.now) (sections_of c.merge_latest.new.self)
    (subst Reads c.as_str.ensures.value c.in-Ok.ensures) c.in_ok-merge_latest-in-Ok.ensures.sections
