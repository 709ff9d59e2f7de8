use Rattle.std.proofs.Common.{◌∙◌, ap, ℕ, List}
use Rattle.std.specs.Prelude.{Option, option_map}
use Rattle.env_config.specs.Latest.{is_beaten}
use Rattle.env_config.proofs.LatestViewLemmas.{placed_found, placed_value}
use Rattle.env_config.proofs.latest.is_beaten.Goals as goal

pub returns-in-Some : goal.returns-in-Some
returns-in-Some c =
    ap (λ (found : Option (ℕ × List ℕ)). is_beaten found c.args.place) (ap (option_map placed_value) c.in-Some.ensures.value ∙ placed_found c.args.values.now.entries c.args.key.now)

pub returns-in-None : goal.returns-in-None
returns-in-None c =
    ap (λ (found : Option (ℕ × List ℕ)). is_beaten found c.args.place) (ap (option_map placed_value) c.in-None.ensures.value ∙ placed_found c.args.values.now.entries c.args.key.now)
