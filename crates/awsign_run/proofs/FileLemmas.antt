-- The profile files that are asked for.
use Rattle.std.proofs.Common.{◌≡◌, ◌<◌, List, [], ◌∷◌, length, arith, refl}
use Rattle.env_config.specs.Files.{Place, or_usual}

-- where a file is named the default ones aren't read
pub some_named : (places : List Place) → 0 < length places → or_usual places ≡ places
some_named [] none = absurd (omega arith)
some_named (place ∷ places) some = refl
