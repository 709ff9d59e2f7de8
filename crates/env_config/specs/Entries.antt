-- The entries that are left of properties, as contracts see them.
use Rattle.std.specs.Prelude.{ℕ, List, [], ◌∷◌, map, Option, Some, None}
use Rattle.std.specs.Borrow.{Bor}
use Rattle.env_config.specs.declared.entries.Entries.{Entries}
use Rattle.env_config.specs.declared.entries.Entries.TheVariants.{OnePair, PairList, PairMap, Given}
use Rattle.env_config.specs.declared.entries.Entry.{Entry}
use Rattle.env_config.specs.SectionProperties.{contents_of, own}
use Rattle.env_config.specs.Texts.{pairs_of}

-- a key with the own key and the value that stand under it
abbrev pub entry_of : Entry → List ℕ × (List ℕ × List ℕ)
entry_of entry = (entry.key.now, (entry.own_key.now, entry.value.now))

-- one pair or none
abbrev pub one_left : Option (Bor (List ℕ) × Bor (List ℕ)) → List (List ℕ × List ℕ)
one_left None = []
one_left (Some pair) = (pair.0.now, pair.1.now) ∷ []

-- the entries that are left
abbrev pub left_in : Entries → List (List ℕ × (List ℕ × List ℕ))
left_in (OnePair pair) = map own (one_left pair)
left_in (PairList pairs) = map own (pairs_of pairs.now)
left_in (PairMap pairs) = map own (pairs_of pairs)
left_in (Given properties) = contents_of properties
