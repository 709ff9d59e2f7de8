use Rattle.std.proofs.Common.{◌∙◌, ap}
use Rattle.std.specs.Prelude.{option_map}
use Rattle.env_config.specs.Profile.{session_section}
use Rattle.env_config.specs.Section.{section_of}
use Rattle.env_config.specs.Sections.{Section}
use Rattle.env_config.specs.declared.profile.SsoSession.{SsoSession}
use Rattle.env_config.proofs.TextsLemmas.{seen_at}
use Rattle.env_config.proofs.sections.EnvConfigSections.sso_session.Goals as goal

pub returns-clause-section : goal.returns-clause-section
returns-clause-section c =
    let seen : SsoSession → Section = λ session. section_of (session_section session) in
    ap (option_map seen) c.get.ensures ∙ seen_at seen c.args.self.now.sessions c.args.name.now
