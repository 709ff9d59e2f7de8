-- Finite maps from texts, and values by their names.
use Rattle.std.specs.Prelude.{◌≡◌, ◌≤◌, ◌<◌, ◌+◌, ◌&&◌, ℕ, nat_lt, Bool, false, List, [], ◌∷◌, ◌++◌, length, take, drop, map, Option, Result, Ok, Err, is_some, if◌then◌else◌, bytes_eq, String, string_bytes}
use Rattle.std.specs.Borrow.{Bor}
use Rattle.std.specs.declared.alloc.Global.{Global}
use Rattle.std.specs.declared.cmp.Ordering.{Ordering}
use Rattle.std.specs.Ordering.{is_eq, nat_cmp}
use Rattle.std.specs.Cmp.Lexicographic.{pointwise, slice_cmp}
use Rattle.std.specs.BTreeMap.{insert_entry, is_at}
use Rattle.std.specs.List.{AllByRecursion, after_first, before_first, position_or_len}
use Rattle.std.specs.Map.{lookup}
use Rattle.env_config.specs.Line.{is_equals}

-- texts are compared byte by byte
abbrev pub text_cmp : List ℕ → List ℕ → Ordering
text_cmp text other = slice_cmp nat_cmp text other

-- the value at a key
abbrev pub value_under : {X : Type 0} → List (List ℕ × X) → List ℕ → Option X
value_under entries key = lookup (is_at (text_cmp key)) entries

-- the entries, in the order of their keys, with the value at the key
abbrev pub put : {X : Type 0} → List (List ℕ × X) → List ℕ → X → List (List ℕ × X)
put entries key value = insert_entry text_cmp entries key value

-- values by their names, and the names in the order of their first appearance
pub record Named (X : Type 0) : Type 0 where
  pub names : List (List ℕ)
  pub values : List (List ℕ × X)

abbrev pub nothing_named : {X : Type 0} → Named X
nothing_named = record { names = []; values = [] }

-- the value under the name; a new name comes last
abbrev pub put_named : {X : Type 0} → Named X → List ℕ → X → Named X
put_named named name value = record {
  names = if is_some (value_under named.values name) then named.names else named.names ++ name ∷ [];
  values = put named.values name value;
}

-- no name stands twice
abbrev pub IsApart : List (List ℕ) → Type 0
IsApart [] = Unit {0}
IsApart (name ∷ names) = AllByRecursion (λ other. is_eq (text_cmp other name) ≡ false) names × IsApart names

-- the texts of pairs
abbrev pub pairs_of : List (String Global × String Global) → List (List ℕ × List ℕ)
pairs_of entries = map (λ e. (string_bytes e.0, string_bytes e.1)) entries

-- the pair of a text: the key before the first `=`, and the value after it
abbrev pub one_pair : List ℕ → List (List ℕ × List ℕ)
one_pair text = if nat_lt (position_or_len is_equals text) (length text) then (before_first is_equals text, after_first is_equals text) ∷ [] else []

-- where the key's value is put: in place of the pair at an index, or as a new one before it
abbrev pub FindsPlace : List (List ℕ × List ℕ) → List ℕ → Result ℕ ℕ → Type 0
FindsPlace pairs key (Ok at) = (at < length pairs) × ((value : List ℕ) → put pairs key value ≡ take at pairs ++ (key, value) ∷ drop (at + 1) pairs)
FindsPlace pairs key (Err at) = (at ≤ length pairs) × ((value : List ℕ) → put pairs key value ≡ take at pairs ++ (key, value) ∷ drop at pairs)

-- the values under their names, which are borrowed
abbrev pub words_of : {X : Type 0} → List (Bor (List ℕ) × X) → List (List ℕ × X)
words_of entries = map (λ e. (e.0.now, e.1)) entries

-- the values under their names, as f sees them
abbrev pub named_as : {X Y : Type 0} → (X → Y) → Named X → Named Y
named_as f named = record { names = named.names; values = map (λ e. (e.0, f e.1)) named.values }

-- P holds of each value
abbrev pub EachValue : {X : Type 0} → (X → Type 0) → List (List ℕ × X) → Type 0
EachValue P entries = AllByRecursion (λ e. P e.1) entries

-- a copy of the value, under the same name
abbrev pub CopiedUnder : {X : Type 0} → (X → X → Type 0) → List ℕ × X → List ℕ × X → Type 0
CopiedUnder IsCopy entry copy = (copy.0 ≡ entry.0) × IsCopy entry.1 copy.1

-- equal values under equal names, by a test of values
abbrev pub same_values : {X : Type 0} → (X → X → Bool) → List (List ℕ × X) → List (List ℕ × X) → Bool
same_values same entries others = pointwise (λ e d. bytes_eq e.0 d.0 && same e.1 d.1) entries others
