-- Names in lower case.
use Rattle.std.proofs.Common.{◌≡◌, ℕ, Bool, true, false, cond, not, List, [], ◌∷◌, ◌++◌, refl, sym, ap, ◌∙◌, subst}
use Rattle.std.specs.Prelude.{String, bytes_eq, string_bytes}
use Rattle.std.specs.declared.alloc.Global.{Global}
use Rattle.std.proofs.lemmas.Str.Ascii.{lowercase-lowercase}
use Rattle.smithy_core.specs.TextPairs.{AreLower, all_inserted, inserted, lower, text_pairs, without}

pub lower_lower : (text : List ℕ) → lower (lower text) ≡ lower text
lower_lower [] = refl
lower_lower (byte ∷ bytes) = rw (lowercase-lowercase byte, lower_lower bytes) refl

-- a name that was put in lower case
is_lower : (key name : List ℕ) → key ≡ lower name → lower key ≡ key
is_lower key name is = ap lower is ∙ lower_lower name ∙ sym is

-- a pair more
pub lower_pushed : (items : List (String Global × String Global)) (pair : String Global × String Global) (name : List ℕ) → AreLower (text_pairs items) → string_bytes pair.0 ≡ lower name → AreLower (text_pairs (items ++ pair ∷ []))
lower_pushed [] pair name are is = (is_lower (string_bytes pair.0) name is, tt)
lower_pushed (item ∷ items) pair name are is = (are.0, lower_pushed items pair name are.1 is)

lower_without : (pairs : List (List ℕ × List ℕ)) (name : List ℕ) → AreLower pairs → AreLower (without pairs name)
lower_without [] name are = tt
lower_without (pair ∷ pairs) name are =
    elim (bytes_eq pair.0 name) as (λ (b : Bool). AreLower (cond (not b) (pair ∷ without pairs name) (without pairs name))) [
      | true ↦ lower_without pairs name are.1
      | false ↦ (are.0, lower_without pairs name are.1)
    ]

lower_inserted : (pairs : List (List ℕ × List ℕ)) (key value : List ℕ) → AreLower pairs → lower key ≡ key → AreLower (inserted pairs key value)
lower_inserted [] key value are is = (is, tt)
lower_inserted (pair ∷ pairs) key value are is =
    elim (bytes_eq pair.0 key) as (λ (b : Bool). AreLower (cond b ((key, value) ∷ without pairs key) (pair ∷ inserted pairs key value))) [
      | true ↦ (is, lower_without pairs key are.1)
      | false ↦ (are.0, lower_inserted pairs key value are.1 is)
    ]

-- a pair put at its place
pub lower_put : (before now : List (List ℕ × List ℕ)) (key value name : List ℕ) → AreLower before → key ≡ lower name → now ≡ inserted before key value → AreLower now
lower_put before now key value name are is put = subst AreLower (sym put) (lower_inserted before key value are (is_lower key name is))

-- pairs that were put in lower case, put at their places
lower_all : (more before : List (List ℕ × List ℕ)) → AreLower before → AreLower (all_inserted before more)
lower_all [] before are = are
lower_all (pair ∷ more) before are = lower_all more (inserted before (lower pair.0) pair.1) (lower_inserted before (lower pair.0) pair.1 are (lower_lower pair.0))

pub lower_put_all : (before now more : List (List ℕ × List ℕ)) → AreLower before → now ≡ all_inserted before more → AreLower now
lower_put_all before now more are put = subst AreLower (sym put) (lower_all more before are)

-- equal pairs
pub lower_copied : (before now : List (List ℕ × List ℕ)) → AreLower before → now ≡ before → AreLower now
lower_copied before now are same = subst AreLower (sym same) are
