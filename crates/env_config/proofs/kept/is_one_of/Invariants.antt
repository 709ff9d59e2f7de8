use Rattle.std.proofs.Common.{◌≡◌, map, drop}
use Rattle.std.specs.Prelude.{bytes_eq}
use Rattle.std.specs.List.{list_any}
use Rattle.smithy_core.specs.TextPairs.{lower}
use Rattle.env_config.proofs.kept.is_one_of.Given as goal

-- no key that passed is it
abbrev pub invariant-loop-key : goal.invariant-loop-key
invariant-loop-key l = list_any (λ k. bytes_eq l.text (lower k)) (map (λ k. k.now) l.keys) ≡ list_any (λ k. bytes_eq l.text (lower k)) (map (λ k. k.now) (drop l.key-index l.keys))
