-- A profile that was read for its keys has what all sections have of it.
use Rattle.std.proofs.Common.{◌≡◌, ℕ, List, [], ◌∷◌, codes, Option, None, refl, sym, ap, ap₂, ◌∙◌}
use Rattle.std.specs.Prelude.{Result, Ok, Err}
use Rattle.env_config.specs.Selected.{GivesSelected, HasSelectedKeys, ParsesSelected, kept_of}
use Rattle.env_config.specs.declared.parse_fault.ParseFault.{ParseFault}
use Rattle.env_config.specs.declared.parse_fault.ParseFault.TheVariants.{Parse, NoMemory as ParsedNoMemory}
use Rattle.env_config.specs.Sections.{FaultyLine, Sections}
use Rattle.env_config.specs.Value.{Chosen, selected_value}
use Rattle.env_config.specs.declared.selected_profile.SelectedProfile.{SelectedProfile}
use Rattle.aws_settings.specs.Choice.{GivesProfile, Profile, profile_in, profile_of}
use Rattle.aws_settings.specs.Faults.{parse_fault}

-- the keys that a profile is read for
abbrev pub profile_keys : List (List ℕ)
profile_keys = codes "aws_access_key_id" ∷ codes "aws_secret_access_key" ∷ codes "aws_session_token" ∷ codes "region" ∷ []

alike : (name : List ℕ) (all some : Chosen) → HasSelectedKeys profile_keys all some → profile_in name some ≡ profile_in name all
alike name all some keys =
    let give : Option (List ℕ) → Option (List ℕ) → Option (List ℕ) → Option (List ℕ) → Profile = λ key_id secret token region.
    record { name = name; key_id = key_id; secret = secret; token = token; region = region } in
    ap₂ (λ (k s : Option (List ℕ)). give k s (selected_value some (codes "aws_session_token")) (selected_value some (codes "region")))
    (keys (codes "aws_access_key_id") refl) (keys (codes "aws_secret_access_key") refl)
    ∙ ap₂ (λ (t r : Option (List ℕ)). give (selected_value all (codes "aws_access_key_id")) (selected_value all (codes "aws_secret_access_key")) t r)
    (keys (codes "aws_session_token") refl) (keys (codes "region") refl)

pub profile_read : (read : Result Sections FaultyLine) (name : List ℕ) (some : SelectedProfile) → GivesSelected read name profile_keys None some
    → profile_of read name ≡ Ok (profile_in name (kept_of some))
profile_read (Err line) name some gives = absurd gives
profile_read (Ok all) name some gives = ap Ok (sym (alike name (record { sections = all; selected = name }) (kept_of some) gives.1))

-- files that give no sections give no profile
pub profile_refused : (read : Result Sections FaultyLine) (name : List ℕ) (inner : ParseFault) → ParsesSelected read name profile_keys None (Err inner)
    → GivesProfile (profile_of read name) (Err (parse_fault inner))
profile_refused read name (Parse error) is = rw is refl
profile_refused read name ParsedNoMemory is = tt
