-- Maps whose keys are in order.
use Rattle.std.specs.Prelude.{◌≡◌, ℕ, List, [], ◌∷◌}
use Rattle.std.specs.List.{AllByRecursion}
use Rattle.std.specs.declared.cmp.Ordering.TheVariants.{Less}
use Rattle.env_config.specs.Texts.{text_cmp}

-- each key is below those after it
abbrev pub IsRising : {X : Type 0} → List (List ℕ × X) → Type 0
IsRising [] = Unit {0}
IsRising (e ∷ es) = AllByRecursion (λ d. text_cmp e.0 d.0 ≡ Less) es × IsRising es
