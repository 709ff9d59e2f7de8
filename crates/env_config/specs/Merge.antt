-- The pieces of a value that are left, and the sub-properties of one property among all.
use Rattle.std.specs.Prelude.{◌≡◌, ℕ, suc, zero, List, [], length, map, Option, Some, None}
use Rattle.std.specs.Borrow.{Bor}
use Rattle.std.specs.List.Sorted.{IsStrictlySortedBy}
use Rattle.env_config.specs.Properties.{Subs, key_at, put_named_sub, subs_under}
use Rattle.env_config.specs.Sections.{Key, put_at_key, value_pieces}
use Rattle.env_config.specs.Texts.{put, text_cmp}

abbrev pub pieces_left : Option (Bor (List ℕ)) → List (List ℕ)
pieces_left None = []
pieces_left (Some text) = value_pieces text.now

-- one more than the bytes that are left, or nothing
abbrev pub length_left : Option (Bor (List ℕ)) → ℕ
length_left None = zero
length_left (Some text) = suc (length text.now)

-- `whole` gives all values from the sub-properties of this property: what is put among these is put at its key
abbrev pub HoldsProperty : (Subs → List (Key × List ℕ)) → List ℕ → List ℕ → List ℕ → Type 0
HoldsProperty whole prefix name property =
    (subs : Subs) (sub : Option (List ℕ)) (value : List ℕ) → whole (put_named_sub subs sub value) ≡ put_at_key (whole subs) (key_at (prefix, name) (property, sub)) value

-- `whole` gives all values from the properties of this section, whose names ascend: what is put among the sub-properties
-- of a property is put at its key, and a property that is put back, or put with none of them, changes nothing
abbrev pub HoldsSection : (List (List ℕ × Subs) → List (Key × List ℕ)) → List ℕ → List ℕ → Type 0
HoldsSection whole prefix name =
    (properties : List (List ℕ × Subs)) (property : List ℕ) → IsStrictlySortedBy text_cmp (map (λ e. e.0) properties)
    → HoldsProperty (λ subs. whole (put properties property subs)) prefix name property × (whole (put properties property (subs_under properties property)) ≡ whole properties)
