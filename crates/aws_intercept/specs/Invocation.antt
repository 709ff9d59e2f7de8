-- Ids of invocations.
use Rattle.std.specs.Prelude.{◌≡◌, ℕ, List, [], ◌∷◌, ◌++◌, Option, Some, None, Result, Ok, Err, codes}
use Rattle.rand_core.specs.Stream.{Stream, fill_bytes}
use Rattle.uuid.specs.Parts.{v4_of_fill}
use Rattle.uuid.specs.Text.{hyphenated_text, lower}
use Rattle.aws_intercept.specs.declared.bag.ConfigBag.{ConfigBag}
use Rattle.aws_intercept.specs.declared.id_fault.IdFault.{IdFault}
use Rattle.aws_intercept.specs.declared.id_generator.DefaultInvocationIdGenerator.{DefaultInvocationIdGenerator}
use Rattle.aws_intercept.specs.declared.id_fault.IdFault.TheVariants.{UsedUp, NoMemory}

-- the generator of random numbers that a generator of ids draws from
abbrev pub numbers_of : {R : Type 0} → DefaultInvocationIdGenerator R → R
numbers_of generator = generator.rng

-- the UUID of version 4 of the next 16 bytes, or memory ran out before they were taken
abbrev pub GivesDrawn : Stream → Result (Option (List ℕ)) IdFault → Stream → Type 0
GivesDrawn before (Ok (Some id)) after =
    let drawn = v4_of_fill (fill_bytes 16 before) in (id ≡ hyphenated_text lower drawn.0) × (after ≡ drawn.1)
GivesDrawn before (Ok None) after = ⊥
GivesDrawn before (Err UsedUp) after = ⊥
GivesDrawn before (Err NoMemory) after = after ≡ before

-- the first id that was left, or none was
abbrev pub GivesFirst : List (List ℕ) → Result (Option (List ℕ)) IdFault → List (List ℕ) → Type 0
GivesFirst before (Ok (Some id)) after = before ≡ id ∷ after
GivesFirst before (Ok None) after = ⊥
GivesFirst before (Err UsedUp) after = (before ≡ []) × (after ≡ [])
GivesFirst before (Err NoMemory) after = ⊥

-- no id
abbrev pub GivesNone : Result (Option (List ℕ)) IdFault → Type 0
GivesNone answer = answer ≡ Ok None

-- the bag with the id, where there is one
abbrev pub with_id : ConfigBag → Option (List ℕ) → ConfigBag
with_id bag None = bag
with_id bag (Some id) = record bag { invocation_id = Some id }

-- the bag gets the id that was answered, where there is one; or the fault was answered, and the bag stays
abbrev pub StoresId : (Result (Option (List ℕ)) IdFault → Type 0) → ConfigBag → ConfigBag → Result (Unit {0}) IdFault → Type 0
StoresId Answers old new (Ok _) = (id : Option (List ℕ)) × Answers (Ok id) × (new ≡ with_id old id)
StoresId Answers old new (Err fault) = Answers (Err fault) × (new ≡ old)

-- the headers with the id after them, where there is one
abbrev pub with_id_header : List (List ℕ × List ℕ) → Option (List ℕ) → List (List ℕ × List ℕ)
with_id_header headers None = headers
with_id_header headers (Some id) = headers ++ (codes "amz-sdk-invocation-id", id) ∷ []
