-- Members of documents.
use Rattle.std.proofs.Common.{◌≡◌, ℕ, ◌<◌, ◌+◌, List, [], ◌∷◌, length, map, drop, get_or, Option, refl, sym, ap, ◌∙◌, add-one}
use Rattle.std.specs.Prelude.{String, string_bytes}
use Rattle.std.specs.Option.{option_or}
use Rattle.std.specs.declared.alloc.Global.{Global}
use Rattle.std.proofs.Math.Seq.{drop-cons}
use Rattle.smithy_core.specs.Document.{Data, Members, no_members, member, data_of, last_member, members_data, value_if_named}
use Rattle.smithy_core.specs.declared.document.Document.{Document}
use Rattle.smithy_core.proofs.PairLemmas.{option_or_assoc}

-- the name and the data of a member
abbrev pub named : String Global × Document → List ℕ × Data
named pair = (string_bytes pair.0, data_of pair.1)

abbrev members_from : List (List ℕ × Data) → Members
members_from [] = no_members
members_from (pair ∷ pairs) = member pair.0 pair.1 (members_from pairs)

members_are : (pairs : List (String Global × Document)) → members_data pairs ≡ members_from (map named pairs)
members_are [] = refl
members_are (pair ∷ pairs) = ap (member (string_bytes pair.0) (data_of pair.1)) (members_are pairs)

-- names and data determine the members
pub same_members : (copies pairs : List (String Global × Document)) → map named copies ≡ map named pairs → members_data copies ≡ members_data pairs
same_members copies pairs same = members_are copies ∙ ap members_from same ∙ sym (members_are pairs)

-- the member in front is used up: what the members to come have, or else what was found
pub last_member_more : (pairs : List (String Global × Document)) (i : ℕ) (pair : String Global × Document) (asked : List ℕ) (all found next : Option Data) → i < length pairs → pair ≡ get_or pairs i pair
    → all ≡ option_or (last_member (members_data (drop i pairs)) asked) found
    → next ≡ option_or (value_if_named (string_bytes pair.0) (data_of pair.1) asked) found
    → all ≡ option_or (last_member (members_data (drop (i + 1) pairs)) asked) next
last_member_more pairs i pair asked all found next within is before step =
    let front : drop i pairs ≡ pair ∷ drop (i + 1) pairs = drop-cons pairs i pair within ∙ rw (← is, add-one) refl in
    before ∙ ap (λ (rest : List (String Global × Document)). option_or (last_member (members_data rest) asked) found) front
    ∙ option_or_assoc (last_member (members_data (drop (i + 1) pairs)) asked) (value_if_named (string_bytes pair.0) (data_of pair.1) asked) found
    ∙ ap (λ (f : Option Data). option_or (last_member (members_data (drop (i + 1) pairs)) asked) f) (sym step)
