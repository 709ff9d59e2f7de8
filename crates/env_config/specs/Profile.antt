-- What a profile and a session are: a section, each as a type of its own.
use Rattle.env_config.specs.declared.profile.Profile.{Profile}
use Rattle.env_config.specs.declared.profile.SsoSession.{SsoSession}
use Rattle.env_config.specs.declared.section.Section.{Section}

-- the section of a profile
abbrev pub profile_section : Profile → Section
profile_section profile = profile.section

-- the section of a session
abbrev pub session_section : SsoSession → Section
session_section session = session.section
