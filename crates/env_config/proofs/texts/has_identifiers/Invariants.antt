use Rattle.std.proofs.Common.{◌≡◌, true, length}
use Rattle.std.specs.List.{AllByRecursion}
use Rattle.env_config.specs.Entries.{left_in}
use Rattle.env_config.specs.Sections.{is_identifier}
use Rattle.env_config.proofs.texts.has_identifiers.Given as goal

-- where the keys to come are identifiers, all are
abbrev pub invariant-loop-entry : goal.invariant-loop-entry
invariant-loop-entry l = AllByRecursion (λ e. is_identifier e.0 ≡ true) (left_in l.entries) → AllByRecursion (λ e. is_identifier e.0 ≡ true) (left_in l.fn.entries)

abbrev pub decreases-loop-entry : goal.decreases-loop-entry
decreases-loop-entry l = length (left_in l.entries)
