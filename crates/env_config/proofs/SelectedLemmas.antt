-- Sections that are read for some keys and a service give what all sections give.
use Rattle.std.proofs.Common.{◌≡◌, ℕ, true, List, refl, sym, ap, subst, ◌∙◌}
use Rattle.std.specs.Prelude.{Option, None, Result, Ok, Err, codes}
use Rattle.smithy_core.specs.TextPairs.{lower}
use Rattle.env_config.specs.declared.parse_fault.ParseFault.{ParseFault}
use Rattle.env_config.specs.declared.parse_fault.ParseFault.TheVariants.{Parse, NoMemory}
use Rattle.env_config.specs.declared.properties.Properties.{Properties}
use Rattle.env_config.specs.declared.sections.EnvConfigSections.{EnvConfigSections}
use Rattle.env_config.specs.declared.selected_profile.SelectedProfile.{SelectedProfile}
use Rattle.env_config.specs.EnvConfigSections.{ParsesSections, sections_of, selected_of}
use Rattle.env_config.specs.Kept.{has_heading, is_kept_key, is_kept_sub, keys_in_profile, subs_in_services}
use Rattle.env_config.specs.Laws.{value_in}
use Rattle.env_config.specs.MergedProfile.{ParsesProfile}
use Rattle.env_config.specs.ParseFault.{faulty_line_of}
use Rattle.env_config.specs.Properties.{others_of}
use Rattle.env_config.specs.Raw.{Keeps, everything}
use Rattle.env_config.specs.Sections.{FaultyLine, FileText, Sections, files_from, no_sections, sections, value_at_key}
use Rattle.env_config.specs.Selected.{GivesSelected, GivesService, ParsesSelected, ParsesService}
use Rattle.env_config.specs.Value.{id_in_sections, service_sub}
use Rattle.env_config.proofs.NarrowMergeLemmas.{AlikeMerged, files_same, profile_kept}
use Rattle.env_config.proofs.NarrowServiceLemmas.{nothing_kept, service_kept}

-- the line that is refused where some is kept is refused where all is
refused : (at : Sections → Option (List ℕ)) (full : Result Sections FaultyLine) (line : FaultyLine) → AlikeMerged at full (Err line) → full ≡ Err line
refused at (Ok all) line alike = absurd alike
refused at (Err other) line alike = ap (λ (l : FaultyLine). Err l) (sym alike)

-- ## Keys of the selected profile

keys_alike : (files : List FileText) (name : List ℕ) (keys : List (List ℕ)) (key : List ℕ) → is_kept_key keys key ≡ true
    → AlikeMerged (λ s. value_in s.profiles name key) (files_from everything no_sections files) (files_from (keys_in_profile name keys) no_sections files)
keys_alike files name keys key asked =
    files_same (keys_in_profile name keys) (has_heading (codes "profile") name) (λ s. value_in s.profiles name key) (profile_kept name keys key asked) files no_sections no_sections refl

keys_given : (full : Result Sections FaultyLine) (profile : List ℕ) (keys : List (List ℕ)) (some : EnvConfigSections)
    → ((key : List ℕ) → is_kept_key keys key ≡ true → AlikeMerged (λ s. value_in s.profiles profile key) full (Ok (sections_of some))) → selected_of some ≡ profile → GivesSelected full profile keys None (record { sections = some })
keys_given (Err line) profile keys some alike selected = absurd (alike (codes "services") refl)
keys_given (Ok all) profile keys some alike selected =
    (selected, λ key asked. ap (λ (name : List ℕ). value_in (sections_of some).profiles name (lower key)) selected ∙ alike (lower key) asked, tt)

-- what some sections have, all have
alike_values : (at : Sections → Option (List ℕ)) (full kept : Result Sections FaultyLine) (all some : Sections) → AlikeMerged at full kept → kept ≡ Ok all → at some ≡ at all → AlikeMerged at full (Ok some)
alike_values at full (Ok here) all some alike is same = by full alike
  where
    ok_or : Result Sections FaultyLine → Sections
    ok_or (Ok s) = s
    ok_or (Err line) = all

    by : (full : Result Sections FaultyLine) → AlikeMerged at full (Ok here) → AlikeMerged at full (Ok some)
    by (Ok s) alike = same ∙ ap at (sym (ap ok_or is)) ∙ alike
    by (Err line) alike = absurd alike
alike_values at full (Err line) all some alike is same = absurd cc

-- the profile in the sections
abbrev pub picked : Result EnvConfigSections ParseFault → Result SelectedProfile ParseFault
picked (Ok some) = Ok (record { sections = some })
picked (Err fault) = Err fault

pub keys_parsed : (files : List FileText) (profile name : List ℕ) (keys : List (List ℕ)) (result : Result EnvConfigSections ParseFault) → name ≡ profile
    → ParsesProfile (keys_in_profile name keys) (files_from (keys_in_profile name keys) no_sections files) profile result → ParsesSelected (sections files) profile keys None (picked result)
unfolding sections
keys_parsed files profile name keys result named parses =
    by result (subst (λ (n : List ℕ). ParsesProfile (keys_in_profile n keys) (files_from (keys_in_profile n keys) no_sections files) profile result) named parses)
  where
    keeps : Keeps
    keeps = keys_in_profile profile keys

    full : Result Sections FaultyLine
    full = files_from everything no_sections files

    at : List ℕ → Sections → Option (List ℕ)
    at key s = value_in s.profiles profile key

    given : (some : EnvConfigSections) (kept : Result Sections FaultyLine) → files_from keeps no_sections files ≡ kept → ParsesProfile keeps kept profile (Ok some) → ParsesSelected full profile keys None (picked (Ok some))
    given some (Ok all) is parses =
        keys_given full profile keys some
        (λ key asked. alike_values (at key) full (files_from keeps no_sections files) all (sections_of some) (keys_alike files profile keys key asked) is (parses.0 key asked))
        parses.1
    given some (Err line) is parses = absurd parses

    by : (result : Result EnvConfigSections ParseFault) → ParsesProfile keeps (files_from keeps no_sections files) profile result → ParsesSelected full profile keys None (picked result)
    by (Ok some) parses = given some (files_from keeps no_sections files) refl parses
    by (Err (Parse error)) parses =
        refused (at (codes "services")) full (faulty_line_of error)
        (subst (λ (r : Result Sections FaultyLine). AlikeMerged (at (codes "services")) full r) parses (keys_alike files profile keys (codes "services") refl))
    by (Err NoMemory) parses = tt

-- ## A service

service_alike : (files : List FileText) (services id : List ℕ) (subs : List (List ℕ)) (key : List ℕ) → is_kept_sub subs key ≡ true
    → AlikeMerged (λ s. value_at_key s.others (service_sub services id key)) (files_from everything no_sections files) (files_from (subs_in_services services (id_in_sections id) subs) no_sections files)
service_alike files services id subs key asked =
    let keeps = subs_in_services services (id_in_sections id) subs in
    files_same keeps (has_heading (codes "services") services) (λ s. value_at_key s.others (service_sub services id key))
    (service_kept services (id_in_sections id) subs key asked) files no_sections no_sections refl

-- the same lines are refused
lines_alike : (files : List FileText) (services key : List ℕ) (subs : List (List ℕ)) → AlikeMerged (λ s. None) (files_from everything no_sections files) (files_from (subs_in_services services key subs) no_sections files)
lines_alike files services key subs =
    files_same (subs_in_services services key subs) (has_heading (codes "services") services) (λ s. None) (nothing_kept services key subs) files no_sections no_sections refl

service_given : (full : Result Sections FaultyLine) (services id : List ℕ) (subs : List (List ℕ)) (some : Sections) (others : Properties) → others_of others ≡ some.others → AlikeMerged (λ s. None) full (Ok some)
    → ((key : List ℕ) → is_kept_sub subs key ≡ true → AlikeMerged (λ s. value_at_key s.others (service_sub services id key)) full (Ok some)) → GivesService full services subs id others
service_given (Err line) services id subs some others is taken alike = absurd taken
service_given (Ok all) services id subs some others is taken alike = λ key asked. ap (λ o. value_at_key o (service_sub services id key)) is ∙ alike key asked

-- the sub-properties of the sections that are kept
pub service_parsed : (files : List FileText) (profile services id key : List ℕ) (subs : List (List ℕ)) (some : EnvConfigSections) → key ≡ id_in_sections id
    → ParsesSections (files_from (subs_in_services services key subs) no_sections files) profile (Ok some) → ParsesService (sections files) services subs id (Ok some.others)
unfolding sections
service_parsed files profile services id key subs some key_is parses =
    let full = files_from everything no_sections files in
    let kept : (key : List ℕ) → Result Sections FaultyLine = λ key. files_from (subs_in_services services key subs) no_sections files in
    let read : kept (id_in_sections id) ≡ Ok (sections_of some) = ap kept (sym key_is) ∙ parses.0 in
    service_given full services id subs (sections_of some) some.others refl
    (subst (λ (r : Result Sections FaultyLine). AlikeMerged (λ s. None) full r) parses.0 (lines_alike files services key subs))
    (λ sub asked. subst (λ (r : Result Sections FaultyLine). AlikeMerged (λ s. value_at_key s.others (service_sub services id sub)) full r) read (service_alike files services id subs sub asked))

-- the line that is refused
pub service_refused : (files : List FileText) (profile services id key : List ℕ) (subs : List (List ℕ)) (fault : ParseFault)
    → ParsesSections (files_from (subs_in_services services key subs) no_sections files) profile (Err fault) → ParsesService (sections files) services subs id (Err fault)
unfolding sections
service_refused files profile services id key subs NoMemory parses = tt
service_refused files profile services id key subs (Parse error) parses =
    let full = files_from everything no_sections files in
    refused (λ s. None) full (faulty_line_of error) (subst (AlikeMerged (λ s. None) full) parses (lines_alike files services key subs))
