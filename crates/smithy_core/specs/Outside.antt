-- What contracts say of I/O objects. What an object holds or has left is optional: it need not tell.
use Rattle.std.specs.Prelude.{◌≡◌, ℕ, ◌<◌, ◌≤◌, ◌⊎◌, ◌-◌, ◌^◌, List, [], ◌++◌, length, take, drop, Option, Some, None}
use Rattle.smithy_core.specs.TextPairs.{last_value}

-- the count rose, or is saturated: it stays at 2^64 - 1, the greatest number that it can have
abbrev pub RoseOrStands : ℕ → ℕ → Type 0
RoseOrStands before now = (before < now) ⊎ (now ≡ 2 ^ 64 - 1)

-- a count over a call that may fail for a fault: where it failed so the count rose, or is saturated; else it stayed; and it never falls
pub record CountsFault (failed : Type 0) (before now : ℕ) : Type 0 where
  pub rose : failed → RoseOrStands before now
  pub stayed : (failed → ⊥) → now ≡ before
  pub grew : before ≤ now

-- the first n bytes of what was left are the first n of the buffer, and are gone
abbrev pub TakesFront : ℕ → List ℕ → Option (List ℕ) → Option (List ℕ) → Type 0
TakesFront n into None now = now ≡ None
TakesFront n into (Some before) now = (take n before ≡ take n into) × (n ≤ length before) × (now ≡ Some (drop n before))

-- a source has nothing left
abbrev pub IsAtEnd : Option (List ℕ) → Type 0
IsAtEnd None = Unit {0}
IsAtEnd (Some bytes) = bytes ≡ []

-- these bytes are all that a source had left
abbrev pub IsAllOf : Option (List ℕ) → List ℕ → Type 0
IsAllOf None read = Unit {0}
IsAllOf (Some bytes) read = read ≡ bytes

-- a source had more bytes left than the limit
abbrev pub IsLongerThan : Option (List ℕ) → ℕ → Type 0
IsLongerThan None limit = Unit {0}
IsLongerThan (Some bytes) limit = limit < length bytes

-- the bytes read and those left are all there were
abbrev pub IsCutOf : Option (List ℕ) → List ℕ → Option (List ℕ) → Type 0
IsCutOf None read now = now ≡ None
IsCutOf (Some all) read now = (rest : List ℕ) × (now ≡ Some rest) × (all ≡ read ++ rest)

-- what a source has left now is a suffix of what it had
abbrev pub IsRestOf : Option (List ℕ) → Option (List ℕ) → Type 0
IsRestOf all now = (read : List ℕ) × IsCutOf all read now

-- what is held has gained the text
abbrev pub Gains : Option (List ℕ) → Option (List ℕ) → List ℕ → Type 0
Gains None now text = now ≡ None
Gains (Some before) now text = now ≡ Some (before ++ text)

-- what a sink holds has gained the first n bytes of the piece
abbrev pub GainsFront : ℕ → List ℕ → Option (List ℕ) → Option (List ℕ) → Type 0
GainsFront n piece before now = Gains before now (take n piece)

-- what is held has gained the text but for this rest of it
pub record GainsRest (before now : Option (List ℕ)) (rest text : List ℕ) : Type 0 where
  pub front : List ℕ
  pub gained : Gains before now front
  pub whole : text ≡ front ++ rest

-- what is held has gained a prefix of the text
abbrev pub GainsPrefix : Option (List ℕ) → Option (List ℕ) → List ℕ → Type 0
GainsPrefix before now text = (rest : List ℕ) × GainsRest before now rest text

-- what a sink holds has gained a prefix of the text, and not all of it
abbrev pub GainsProperPrefix : Option (List ℕ) → Option (List ℕ) → List ℕ → Type 0
GainsProperPrefix before now text = (rest : List ℕ) × (0 < length rest) × GainsRest before now rest text

-- the file at the path has these bytes
abbrev pub HasFile : Option (List (List ℕ × List ℕ)) → List ℕ → List ℕ → Type 0
HasFile None path bytes = Unit {0}
HasFile (Some files) path bytes = last_value files path ≡ Some bytes

-- there is no file at the path
abbrev pub LacksFile : Option (List (List ℕ × List ℕ)) → List ℕ → Type 0
LacksFile None path = Unit {0}
LacksFile (Some files) path = last_value files path ≡ None
