-- The profile files that are asked for.
use Rattle.std.proofs.Common.{◌≡◌, Bool, List, ◌++◌, refl, append_assoc}
use Rattle.env_config.specs.declared.files.Builder.{Builder}
use Rattle.env_config.specs.declared.source.EnvConfigFileKind.TheVariants.{Config, Credentials}
use Rattle.env_config.specs.Files.{Place, added_places, chosen_places, defaults_of, usual_if}

grows : (a b : Bool × Bool) (first second more : List Place) → second ≡ first ++ more → b ≡ a
    → usual_if b.0 Config ++ (usual_if b.1 Credentials ++ second) ≡ (usual_if a.0 Config ++ (usual_if a.1 Credentials ++ first)) ++ more
grows a b first second more added same =
    rw (added, same, ← append_assoc (usual_if a.1 Credentials) first more, ← append_assoc (usual_if a.0 Config) (usual_if a.1 Credentials ++ first) more) refl

-- the default files stay in front of what is added
pub chosen_grows : (before now : Builder) (more : List Place) → added_places now ≡ added_places before ++ more → defaults_of now ≡ defaults_of before → chosen_places now ≡ chosen_places before ++ more
chosen_grows before now more added same = grows (defaults_of before) (defaults_of now) (added_places before) (added_places now) more added same
