-- Lines of headers, value by value.
use Rattle.std.proofs.Common.{◌≡◌, ℕ, Bool, true, false, cond, List, [], ◌∷◌, ◌++◌, Some, refl, sym, ap, ◌∙◌, append_assoc, append-nil}
use Rattle.std.specs.Prelude.{bytes_eq, codes}
use Rattle.std.specs.List.{join_with_byte}
use Rattle.smithy_core.specs.TextPairs.{inserted, lower, named_values}
use Rattle.sigv4.specs.Canonical.{given_headers, joined_values, with_optional}
use Rattle.sigv4.specs.Query.{Pair}
use Rattle.sigv4.specs.Trim.{trim_all}
use Rattle.sigv4.proofs.InsertedLemmas.{named-inserted_other, named-inserted_same, same_name}
use Rattle.sigv4.proofs.SetLemmas.{bytes_eq-flipped}
use Rattle.request_check.specs.HeaderLines.{before_listed, values_to_come}

after_first : (value : List ℕ) (values : List (List ℕ)) → value ++ values_to_come false values ≡ join_with_byte 44 (value ∷ values)
after_first value [] = append-nil value
after_first value (next ∷ values) =
    ap (λ (rest : List ℕ). value ++ rest) (append_assoc (44 ∷ []) next (values_to_come false values) ∙ ap (λ (rest : List ℕ). 44 ∷ rest) (after_first next values))

-- all values, with `,` between
pub values_joined : (values : List (List ℕ)) → values_to_come true values ≡ join_with_byte 44 values
values_joined [] = refl
values_joined (value ∷ values) = after_first value values

-- and one of the name its value
pub one_more : (text new name key value : List ℕ) (rest : List Pair) (is_first : Bool) → bytes_eq name (lower key) ≡ true
    → new ≡ text ++ (before_listed is_first ++ trim_all value)
    → text ++ values_to_come is_first (named_values (given_headers ((key, value) ∷ rest)) name) ≡ new ++ values_to_come false (named_values (given_headers rest) name)
one_more text new name key value rest is_first same more =
    let values = named_values (given_headers rest) name in
    ap (λ (b : Bool). text ++ values_to_come is_first (cond b (trim_all value ∷ values) values)) (bytes_eq-flipped (lower key) name ∙ same)
    ∙ sym (append_assoc text (before_listed is_first ++ trim_all value) (values_to_come false values))
    ∙ ap (λ (front : List ℕ). front ++ values_to_come false values) (sym more)

-- the added host is the one value of its name
pub host_alone : (host : List ℕ) (headers : List Pair) (name : List ℕ) → bytes_eq name (codes "host") ≡ true
    → joined_values (with_optional (codes "host") (Some host) headers) name ≡ host
host_alone host headers name is =
    ap (λ (n : List ℕ). join_with_byte 44 (named_values (inserted headers (codes "host") host) n)) (same_name name (codes "host") is)
    ∙ ap (join_with_byte 44) (named-inserted_same headers (codes "host") host)

-- and leaves the values of the others
pub host_aside : (host : List ℕ) (headers : List Pair) (name : List ℕ) → bytes_eq name (codes "host") ≡ false
    → joined_values (with_optional (codes "host") (Some host) headers) name ≡ joined_values headers name
host_aside host headers name other =
    ap (join_with_byte 44) (named-inserted_other (codes "host") host name (bytes_eq-flipped (codes "host") name ∙ other) headers)
