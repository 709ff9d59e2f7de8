use Rattle.std.proofs.Common.{ap₂, List, ℕ, String, Global, string_bytes}
use Rattle.env_config.proofs.CloneLemmas.{map_alike}
use Rattle.env_config.proofs.texts.copied_map.Goals as goal

pub returns : goal.returns
returns c =
    map_alike _ (λ (e : String Global × String Global). (string_bytes e.0, string_bytes e.1)) (λ x y same. ap₂ (λ (k v : List ℕ). (k, v)) same.0 same.1) c.args.pairs.now.entries c.in_ok-copy.copy.entries c.in_ok-copy.ensures.cases
