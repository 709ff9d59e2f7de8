-- The headers of a signed request, as they are read again.
use Rattle.std.proofs.Common.{◌≡◌, ℕ, Bool, true, false, cond, not, List, [], ◌∷◌, Option, Some, None, refl, sym, ap, ◌∙◌, subst, true≢false}
use Rattle.std.proofs.lemmas.Bool.{false≢true}
use Rattle.std.specs.Prelude.{bytes_eq}
use Rattle.std.specs.List.{AllByRecursion}
use Rattle.std.specs.Option.{option_or}
use Rattle.smithy_core.specs.TextPairs.{AreLower, first_value, inserted, lower, named_values, without}
use Rattle.smithy_core.proofs.LowerLemmas.{lower_put}
use Rattle.sigv4.specs.Canonical.{given_headers, with_optional}
use Rattle.sigv4.specs.Query.{Pair}
use Rattle.sigv4.specs.Refusal.{is_name}
use Rattle.sigv4.specs.Trim.{trim_all}
use Rattle.sigv4.proofs.FitLemmas.{AreFit}
use Rattle.sigv4.proofs.InsertedLemmas.{itself, named-inserted_other, named-inserted_same, same_name}
use Rattle.sigv4.proofs.SetLemmas.{is_here}
use Rattle.request_check.specs.Recomputation.{IsTrimmed}

given : Pair → Pair
given header = (lower header.0, trim_all header.1)

-- ---- insertions into headers with names in lower case

given_without : (name : List ℕ) (headers : List Pair) → AreLower headers → given_headers (without headers name) ≡ without (given_headers headers) name
given_without name [] low = refl
given_without name (header ∷ headers) low = by (bytes_eq header.0 name) refl (given_without name headers low.1)
  where
    by : (b : Bool) → bytes_eq header.0 name ≡ b → given_headers (without headers name) ≡ without (given_headers headers) name
        → given_headers (cond (not b) (header ∷ without headers name) (without headers name))
        ≡ cond (not (bytes_eq (lower header.0) name)) ((lower header.0, trim_all header.1) ∷ without (given_headers headers) name) (without (given_headers headers) name)
    by true e more = more ∙ ap (λ (b : Bool). cond (not b) ((lower header.0, trim_all header.1) ∷ without (given_headers headers) name) (without (given_headers headers) name))
        (sym (ap (λ (n : List ℕ). bytes_eq n name) low.0 ∙ e))
    by false e more = ap (λ (rest : List Pair). (lower header.0, trim_all header.1) ∷ rest) more
        ∙ ap (λ (b : Bool). cond (not b) ((lower header.0, trim_all header.1) ∷ without (given_headers headers) name) (without (given_headers headers) name))
        (sym (ap (λ (n : List ℕ). bytes_eq n name) low.0 ∙ e))

pub given_inserted : (name value : List ℕ) (headers : List Pair) → lower name ≡ name → AreLower headers
    → given_headers (inserted headers name value) ≡ inserted (given_headers headers) name (trim_all value)
given_inserted name value [] plain low = ap (λ (n : List ℕ). (n, trim_all value) ∷ []) plain
given_inserted name value (header ∷ headers) plain low = by (bytes_eq header.0 name) refl (given_inserted name value headers plain low.1)
  where
    whole : Bool → List Pair
    whole b = cond b ((name, trim_all value) ∷ without (given_headers headers) name)
        ((lower header.0, trim_all header.1) ∷ inserted (given_headers headers) name (trim_all value))

    by : (b : Bool) → bytes_eq header.0 name ≡ b → given_headers (inserted headers name value) ≡ inserted (given_headers headers) name (trim_all value)
        → given_headers (cond b ((name, value) ∷ without headers name) (header ∷ inserted headers name value)) ≡ whole (bytes_eq (lower header.0) name)
    by true e more =
        ap (λ (n : List ℕ). (n, trim_all value) ∷ given_headers (without headers name)) plain
        ∙ ap (λ (rest : List Pair). (name, trim_all value) ∷ rest) (given_without name headers low.1)
        ∙ ap whole (sym (ap (λ (n : List ℕ). bytes_eq n name) low.0 ∙ e))
    by false e more = ap (λ (rest : List Pair). (lower header.0, trim_all header.1) ∷ rest) more
        ∙ ap whole (sym (ap (λ (n : List ℕ). bytes_eq n name) low.0 ∙ e))

pub lower_inserted : (name value : List ℕ) (headers : List Pair) → lower name ≡ name → AreLower headers → AreLower (inserted headers name value)
lower_inserted name value headers plain low = lower_put headers (inserted headers name value) name value name low (sym plain) refl

-- ---- first values after insertions

first_without : (name other : List ℕ) → bytes_eq name other ≡ false → (headers : List Pair) → first_value (without headers name) other ≡ first_value headers other
first_without name other differ [] = refl
first_without name other differ (header ∷ headers) = by (bytes_eq header.0 name) refl (first_without name other differ headers)
  where
    by : (b : Bool) → bytes_eq header.0 name ≡ b → first_value (without headers name) other ≡ first_value headers other
        → first_value (cond (not b) (header ∷ without headers name) (without headers name)) other
        ≡ option_or (cond (bytes_eq header.0 other) (Some header.1) None) (first_value headers other)
    by true e more = more ∙ ap (λ (b : Bool). option_or (cond b (Some header.1) None) (first_value headers other))
        (sym (ap (λ (n : List ℕ). bytes_eq n other) (same_name header.0 name e) ∙ differ))
    by false e more = ap (option_or (cond (bytes_eq header.0 other) (Some header.1) None)) more

pub first_inserted_other : (name value other : List ℕ) → bytes_eq name other ≡ false → (headers : List Pair) → first_value (inserted headers name value) other ≡ first_value headers other
first_inserted_other name value other differ [] = ap (λ (b : Bool). option_or (cond b (Some value) None) None) differ
first_inserted_other name value other differ (header ∷ headers) = by (bytes_eq header.0 name) refl (first_inserted_other name value other differ headers)
  where
    by : (b : Bool) → bytes_eq header.0 name ≡ b → first_value (inserted headers name value) other ≡ first_value headers other
        → first_value (cond b ((name, value) ∷ without headers name) (header ∷ inserted headers name value)) other
        ≡ option_or (cond (bytes_eq header.0 other) (Some header.1) None) (first_value headers other)
    by true e more =
        ap (λ (b : Bool). option_or (cond b (Some value) None) (first_value (without headers name) other)) differ ∙ first_without name other differ headers
        ∙ ap (λ (b : Bool). option_or (cond b (Some header.1) None) (first_value headers other)) (sym (ap (λ (n : List ℕ). bytes_eq n other) (same_name header.0 name e) ∙ differ))
    by false e more = ap (option_or (cond (bytes_eq header.0 other) (Some header.1) None)) more

pub first_inserted_same : (name value : List ℕ) (headers : List Pair) → first_value (inserted headers name value) name ≡ Some value
first_inserted_same name value [] = ap (λ (b : Bool). option_or (cond b (Some value) None) None) (itself name)
first_inserted_same name value (header ∷ headers) = by (bytes_eq header.0 name) refl (first_inserted_same name value headers)
  where
    by : (b : Bool) → bytes_eq header.0 name ≡ b → first_value (inserted headers name value) name ≡ Some value
        → first_value (cond b ((name, value) ∷ without headers name) (header ∷ inserted headers name value)) name ≡ Some value
    by true e more = ap (λ (b : Bool). option_or (cond b (Some value) None) (first_value (without headers name) name)) (itself name)
    by false e more = ap (λ (b : Bool). option_or (cond b (Some header.1) None) (first_value (inserted headers name value) name)) e ∙ more

-- ---- layers of headers, each in place of all of its name

-- the values of a name that is replaced, where it is this one
abbrev pub layer : Bool → Option (List ℕ) → List (List ℕ) → List (List ℕ)
layer is None values = values
layer is (Some value) values = cond is (value ∷ []) values

pub layered : (header : List ℕ) (value : Option (List ℕ)) (headers : List Pair) (name : List ℕ)
    → named_values (with_optional header value headers) name ≡ layer (bytes_eq header name) value (named_values headers name)
layered header None headers name = refl
layered header (Some value) headers name = by (bytes_eq header name) refl
  where
    by : (b : Bool) → bytes_eq header name ≡ b → named_values (inserted headers header value) name ≡ cond b (value ∷ []) (named_values headers name)
    by true e = ap (named_values (inserted headers header value)) (sym (same_name header name e)) ∙ named-inserted_same headers header value
    by false e = named-inserted_other header value name e headers

-- a layer of another name leaves the values
pub kept_values : (value : Option (List ℕ)) {values : List (List ℕ)} → layer false value values ≡ values
kept_values None = refl
kept_values (Some value) = refl

-- layers of names that differ can change places
pub swapped : (a b : Bool) (x y : Option (List ℕ)) (values : List (List ℕ)) → (a ≡ true → b ≡ true → ⊥) → layer a x (layer b y values) ≡ layer b y (layer a x values)
swapped a b None y values apart = refl
swapped a b (Some x) None values apart = refl
swapped true true (Some x) (Some y) values apart = absurd (apart refl refl)
swapped true false (Some x) (Some y) values apart = refl
swapped false true (Some x) (Some y) values apart = refl
swapped false false (Some x) (Some y) values apart = refl

-- a text isn't two that differ
pub two_names : (a b name : List ℕ) → bytes_eq a b ≡ false → bytes_eq a name ≡ true → bytes_eq b name ≡ true → ⊥
two_names a b name differ p q =
    true≢false (sym (itself name) ∙ (ap (λ (n : List ℕ). bytes_eq n name) (sym (same_name a name p)) ∙ (ap (bytes_eq a) (sym (same_name b name q)) ∙ differ)))

-- ---- optional headers

pub lower_optional : (name : List ℕ) (value : Option (List ℕ)) (headers : List Pair) → lower name ≡ name → AreLower headers → AreLower (with_optional name value headers)
lower_optional name None headers plain low = low
lower_optional name (Some value) headers plain low = lower_inserted name value headers plain low

pub given_lower : (headers : List Pair) → AreLower headers → AreLower (given_headers headers)
given_lower [] low = tt
given_lower (header ∷ headers) low = (ap lower low.0, given_lower headers low.1)

pub given_optional : (name : List ℕ) (value : Option (List ℕ)) (headers : List Pair) → lower name ≡ name → AreLower headers → IsTrimmed value
    → given_headers (with_optional name value headers) ≡ with_optional name value (given_headers headers)
given_optional name None headers plain low trimmed = refl
given_optional name (Some value) headers plain low trimmed =
    given_inserted name value headers plain low ∙ ap (inserted (given_headers headers) name) trimmed

pub first_optional_other : (name : List ℕ) (value : Option (List ℕ)) (other : List ℕ) → bytes_eq name other ≡ false → (headers : List Pair)
    → first_value (with_optional name value headers) other ≡ first_value headers other
first_optional_other name None other differ headers = refl
first_optional_other name (Some value) other differ headers = first_inserted_other name value other differ headers

-- ---- headers whose names are header names

abbrev pub AreNamed : List Pair → Type 0
AreNamed headers = AllByRecursion (λ header. is_name header.0 ≡ true) headers

named_without : (name : List ℕ) (headers : List Pair) → AreNamed headers → AreNamed (without headers name)
named_without name [] all = tt
named_without name (header ∷ headers) all =
    elim (bytes_eq header.0 name) as (λ (b : Bool). AreNamed (cond (not b) (header ∷ without headers name) (without headers name))) [
      | true ↦ named_without name headers all.1
      | false ↦ (all.0, named_without name headers all.1)
    ]

named_inserted : (name value : List ℕ) (headers : List Pair) → is_name name ≡ true → AreNamed headers → AreNamed (inserted headers name value)
named_inserted name value [] is all = (is, tt)
named_inserted name value (header ∷ headers) is all =
    elim (bytes_eq header.0 name) as (λ (b : Bool). AreNamed (cond b ((name, value) ∷ without headers name) (header ∷ inserted headers name value))) [
      | true ↦ (is, named_without name headers all.1)
      | false ↦ (all.0, named_inserted name value headers is all.1)
    ]

pub named_optional : (name : List ℕ) (value : Option (List ℕ)) (headers : List Pair) → is_name name ≡ true → AreNamed headers → AreNamed (with_optional name value headers)
named_optional name None headers is all = all
named_optional name (Some value) headers is all = named_inserted name value headers is all

pub named_given : (headers : List Pair) → AreLower headers → AreFit headers → AreNamed (given_headers headers)
named_given [] low fit = tt
named_given (header ∷ headers) low fit = (ap is_name low.0 ∙ fit.0.0, named_given headers low.1 fit.1)

-- a name with values among them is one
pub named_here : (headers : List Pair) (name : List ℕ) → AreNamed headers → is_here (named_values headers name) ≡ true → is_name name ≡ true
named_here [] name all here = absurd (false≢true here)
named_here (header ∷ headers) name all here = by (bytes_eq header.0 name) refl here (named_here headers name all.1)
  where
    by : (b : Bool) → bytes_eq header.0 name ≡ b → is_here (cond b (header.1 ∷ named_values headers name) (named_values headers name)) ≡ true
        → (is_here (named_values headers name) ≡ true → is_name name ≡ true) → is_name name ≡ true
    by true e here more = ap is_name (sym (same_name header.0 name e)) ∙ all.0
    by false e here more = more here

-- and it is in lower case where they all are
pub lower_here : (headers : List Pair) (name : List ℕ) → AreLower headers → is_here (named_values headers name) ≡ true → lower name ≡ name
lower_here [] name all here = absurd (false≢true here)
lower_here (header ∷ headers) name all here = by (bytes_eq header.0 name) refl here (lower_here headers name all.1)
  where
    by : (b : Bool) → bytes_eq header.0 name ≡ b → is_here (cond b (header.1 ∷ named_values headers name) (named_values headers name)) ≡ true
        → (is_here (named_values headers name) ≡ true → lower name ≡ name) → lower name ≡ name
    by true e here more = subst (λ (n : List ℕ). lower n ≡ n) (same_name header.0 name e) all.0
    by false e here more = more here
