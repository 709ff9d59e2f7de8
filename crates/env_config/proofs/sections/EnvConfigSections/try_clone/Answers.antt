use Rattle.std.proofs.Common.{◌∙◌, ap, List, ℕ}
use Rattle.env_config.specs.Sections.{Key, Section, Sections}
use Rattle.env_config.specs.Texts.{Named, named_as}
use Rattle.env_config.specs.Properties.{others_of}
use Rattle.env_config.specs.Section.{IsSameSection, section_of}
use Rattle.env_config.specs.Profile.{profile_section, session_section}
use Rattle.env_config.specs.declared.profile.Profile.{Profile}
use Rattle.env_config.specs.declared.profile.SsoSession.{SsoSession}
use Rattle.env_config.proofs.CloneLemmas.{named_alike, section_alike}
use Rattle.env_config.proofs.sections.EnvConfigSections.try_clone.Goals as goal

pub returns-clause-sections : goal.returns-clause-sections
returns-clause-sections c =
    let make : Named Section → Named Section → List (Key × List ℕ) → Sections = λ profiles sessions others. record { profiles = profiles; sessions = sessions; others = others } in
    let seen_profile : Profile → Section = λ profile. section_of (profile_section profile) in
    let seen_session : SsoSession → Section = λ session. section_of (session_section session) in
    let profiles = named_as seen_profile c.args.self.now.profiles in
    let sessions = named_as seen_session c.args.self.now.sessions in
    let copies = named_as seen_session c.in_ok-try_clone-2.field-0 in
    let others = others_of c.in_ok-try_clone-3.field-0 in
    ap (λ (p : Named Section). make p copies others)
    (named_alike (λ x y. IsSameSection (profile_section x) (profile_section y)) seen_profile (λ x y same. section_alike (profile_section x) (profile_section y) same) c.args.self.now.profiles c.in_ok-try_clone.field-0 c.in_ok-try_clone.ensures.names c.in_ok-try_clone.ensures.values)
    ∙ ap (λ (s : Named Section). make profiles s others)
    (named_alike (λ x y. IsSameSection (session_section x) (session_section y)) seen_session (λ x y same. section_alike (session_section x) (session_section y) same) c.args.self.now.sessions c.in_ok-try_clone-2.field-0 c.in_ok-try_clone-2.ensures.names c.in_ok-try_clone-2.ensures.values)
    ∙ ap (λ (o : List (Key × List ℕ)). make profiles sessions o) c.in_ok-try_clone-3.ensures
