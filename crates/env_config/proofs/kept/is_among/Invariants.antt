use Rattle.std.proofs.Common.{◌≡◌, map, drop}
use Rattle.env_config.specs.Kept.{is_kept_sub}
use Rattle.env_config.proofs.kept.is_among.Given as goal

-- no text that passed is it
abbrev pub invariant-loop-other : goal.invariant-loop-other
invariant-loop-other l = is_kept_sub (map (λ t. t.now) l.texts) l.text ≡ is_kept_sub (map (λ t. t.now) (drop l.other-index l.texts)) l.text
