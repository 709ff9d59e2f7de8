-- What contracts say of a source of events. What it has left is optional: it need not tell.
use Rattle.std.specs.Prelude.{◌≡◌, List, [], ◌∷◌, Option, Some, None, Result, Ok, Err}
use Rattle.event_io.specs.declared.event_source.EventPolled.{EventPolled}
use Rattle.event_io.specs.declared.event_source.EventPolled.TheVariants.{Item, NotYet, End}

-- the item was the first of what was left, and is gone
abbrev pub TakesItem : {X : Type 0} → X → Option (List X) → Option (List X) → Type 0
TakesItem item None now = now ≡ None
TakesItem item (Some before) None = ⊥
TakesItem item (Some before) (Some now) = before ≡ item ∷ now

-- no item is left
abbrev pub IsUsedUp : {X : Type 0} → Option (List X) → Type 0
IsUsedUp None = Unit {0}
IsUsedUp (Some items) = items ≡ []

-- an item is the first of what was left; the end comes with nothing left; a wait leaves what was left
abbrev pub GivesEvent : {T E : Type 0} → Option (List (Result T E)) → Option (List (Result T E)) → EventPolled T E → Type 0
GivesEvent before now (Item item) = TakesItem item before now
GivesEvent before now NotYet = now ≡ before
GivesEvent before now End = (now ≡ before) × IsUsedUp now

-- an item of the same kind, with a copy of what it holds
abbrev pub IsItemCopy : {T E : Type 0} → (T → T → Type 0) → (E → E → Type 0) → Result T E → Result T E → Type 0
IsItemCopy events errors (Ok event) (Ok copy) = events event copy
IsItemCopy events errors (Err error) (Err copy) = errors error copy
IsItemCopy events errors item copy = ⊥

-- the same answer, with a copy of the item
abbrev pub IsPolledCopy : {T E : Type 0} → (T → T → Type 0) → (E → E → Type 0) → EventPolled T E → EventPolled T E → Type 0
IsPolledCopy events errors (Item item) (Item copy) = IsItemCopy events errors item copy
IsPolledCopy events errors NotYet NotYet = Unit {0}
IsPolledCopy events errors End End = Unit {0}
IsPolledCopy events errors polled copy = ⊥
