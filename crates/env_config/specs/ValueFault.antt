-- The refusal of a value: what it tells, its copies and its text.
use Rattle.std.specs.Prelude.{◌≡◌, ℕ, List, ◌++◌, codes, Option, Some, option_map}
use Rattle.env_config.specs.Value.{FoundAt, found_text}
use Rattle.env_config.specs.ValueSource.{found_at}
use Rattle.env_config.specs.declared.value_fault.EnvConfigError.{EnvConfigError}
use Rattle.env_config.specs.declared.value_fault.ValidateFault.{ValidateFault}
use Rattle.env_config.specs.declared.value_fault.ValidateFault.TheVariants.{Invalid, NoMemory}

-- why the value was refused
abbrev pub why_refused : {E : Type 0} → EnvConfigError E → E
why_refused error = error.err

-- where it was found
abbrev pub refused_at : {E : Type 0} → EnvConfigError E → FoundAt
refused_at error = found_at error.source

-- ## Copies

-- an equal place, with a copy of what the validator said
abbrev pub IsValueErrorCopy : {E : Type 0} → (E → E → Type 0) → EnvConfigError E → EnvConfigError E → Type 0
IsValueErrorCopy IsCopy error copy = (refused_at copy ≡ refused_at error) × IsCopy (why_refused error) (why_refused copy)

-- an equal refusal, or memory ran out both times
abbrev pub IsValidateFaultCopy : {E : Type 0} → (E → E → Type 0) → ValidateFault E → ValidateFault E → Type 0
IsValidateFaultCopy IsCopy (Invalid error) (Invalid copy) = IsValueErrorCopy IsCopy error copy
IsValidateFaultCopy IsCopy (Invalid error) NoMemory = ⊥
IsValidateFaultCopy IsCopy NoMemory (Invalid copy) = ⊥
IsValidateFaultCopy IsCopy NoMemory NoMemory = Unit {0}

-- ## Texts

-- the text of the fault, and where its value was found
abbrev pub invalid_text : {E : Type 0} → (E → Option (List ℕ)) → EnvConfigError E → Option (List ℕ)
invalid_text text error = option_map (λ t. t ++ (codes ". source: " ++ found_text (refused_at error))) (text (why_refused error))

abbrev pub validate_fault_text : {E : Type 0} → (E → Option (List ℕ)) → ValidateFault E → Option (List ℕ)
validate_fault_text text (Invalid error) = invalid_text text error
validate_fault_text text NoMemory = Some (codes "no memory")
