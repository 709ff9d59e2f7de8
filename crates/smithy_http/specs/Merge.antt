-- What merging header maps promises.
use Rattle.std.specs.Prelude.{◌≡◌, ◌⊎◌, ℕ, List, [], ◌∷◌, codes, Result, Ok, Err}
use Rattle.http_header.specs.FieldValue.{FieldValue}
use Rattle.http_header.specs.HeaderMap.{Entries, RefusesAppend, append, append_all, pairs}
use Rattle.http_header.specs.declared.map.HeaderMapError.{HeaderMapError}
use Rattle.http_header.specs.declared.map.HeaderMapError.TheVariants as header
use Rattle.smithy_http.specs.declared.merge.MergeFault.{MergeFault}
use Rattle.smithy_http.specs.declared.merge.MergeFault.TheVariants.{MaxSizeReached, NoMemory}

-- of the values appended in order, one finds no room
abbrev pub IsFilled : Entries FieldValue → List (List ℕ × FieldValue) → Type 0
IsFilled headers [] = ⊥
IsFilled headers (pair ∷ more) = RefusesAppend headers pair.0 ⊎ IsFilled (append headers pair.0 pair.1) more

-- each pair appended in order, exactly where there is room for all
abbrev pub MergesPairs : Entries FieldValue → List (List ℕ × FieldValue) → Result (Entries FieldValue) MergeFault → Type 0
MergesPairs headers more (Ok merged) = ¬ (IsFilled headers more) × (merged ≡ append_all headers more)
MergesPairs headers more (Err MaxSizeReached) = IsFilled headers more
MergesPairs headers more (Err NoMemory) = Unit {0}

-- each value of the second map appended to the first, in order
abbrev pub Merges : Entries FieldValue → Entries FieldValue → Result (Entries FieldValue) MergeFault → Type 0
Merges headers more result = MergesPairs headers (pairs more) result

-- the fault of an error of `http_header`
abbrev pub merge_fault_of : HeaderMapError → MergeFault
merge_fault_of header.MaxSizeReached = MaxSizeReached
merge_fault_of header.OutOfMemory = NoMemory

-- what the fault of header maps that aren't merged prints
abbrev pub merge_fault_text : MergeFault → List ℕ
merge_fault_text MaxSizeReached = codes "too many headers"
merge_fault_text NoMemory = codes "no memory"
