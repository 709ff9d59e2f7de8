use Rattle.std.proofs.Common.{◌≡◌, map, drop}
use Rattle.std.specs.Prelude.{string_bytes, option_copied}
use Rattle.std.specs.Option.{option_or}
use Rattle.smithy_core.specs.TextPairs.{last_value}
use Rattle.smithy_core.proofs.env.last_text.Given as goal

-- what the pairs to come have, or else what was found
abbrev pub invariant-loop-pair : goal.invariant-loop-pair
invariant-loop-pair l =
    last_value (map (λ pair. (string_bytes pair.0, string_bytes pair.1)) l.pairs) l.key
    ≡ option_or (last_value (map (λ pair. (string_bytes pair.0, string_bytes pair.1)) (drop l.pair-index l.pairs)) l.key) (option_copied l.found)
