use Rattle.std.proofs.Common.{◌∙◌, ap}
use Rattle.std.specs.Prelude.{option_map}
use Rattle.env_config.specs.Profile.{profile_section}
use Rattle.env_config.specs.Section.{section_of}
use Rattle.env_config.specs.Sections.{Section}
use Rattle.env_config.specs.declared.profile.Profile.{Profile}
use Rattle.env_config.proofs.TextsLemmas.{seen_at}
use Rattle.env_config.proofs.sections.EnvConfigSections.get_profile.Goals as goal

pub returns-clause-section : goal.returns-clause-section
returns-clause-section c =
    let seen : Profile → Section = λ profile. section_of (profile_section profile) in
    ap (option_map seen) c.get.ensures ∙ seen_at seen c.args.self.now.profiles c.args.name.now
