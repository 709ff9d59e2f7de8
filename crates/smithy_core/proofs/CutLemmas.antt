-- A source that is read piece by piece.
use Rattle.std.proofs.Common.{◌≡◌, ℕ, ◌<◌, List, [], ◌++◌, length, take, drop, Option, Some, None, refl, sym, ◌∙◌, ap, append_assoc, append-nil, length-append, arith}
use Rattle.std.proofs.lemmas.List.{take-append-drop}
use Rattle.smithy_core.specs.Outside.{TakesFront, IsAtEnd, IsAllOf, IsCutOf, IsLongerThan, IsRestOf}

-- before any read
pub cut_at_start : (left : Option (List ℕ)) → IsCutOf left [] left
cut_at_start None = refl
cut_at_start (Some all) = (all, refl, refl)

-- after one read more
pub cut_more : (all : Option (List ℕ)) (read : List ℕ) (before now : Option (List ℕ)) (n : ℕ) (into : List ℕ)
    → IsCutOf all read before → TakesFront n into before now → IsCutOf all (read ++ take n into) now
cut_more None read None now n into cut taken = taken
cut_more None read (Some bytes) now n into cut taken = cc
cut_more (Some all) read None now n into cut taken = let none : None ≡ Some cut.0 = cut.1 in cc
cut_more (Some all) read (Some bytes) now n into cut taken =
    let same : bytes ≡ cut.0 = cc in
    let halves : bytes ≡ take n into ++ drop n bytes = rw (← taken.0) (sym (take-append-drop n bytes)) in
    (drop n bytes, taken.2, cut.2 ∙ ap (λ x. read ++ x) (sym same ∙ halves) ∙ sym (append_assoc read (take n into) (drop n bytes)))

-- at the end all was read
pub cut_at_end : (all : Option (List ℕ)) (read : List ℕ) (now : Option (List ℕ)) → IsCutOf all read now → IsAtEnd now → IsAllOf all read
cut_at_end None read now cut done = tt
cut_at_end (Some all) read None cut done = let none : None ≡ Some cut.0 = cut.1 in cc
cut_at_end (Some all) read (Some bytes) cut done =
    let same : bytes ≡ cut.0 = cc in
    sym (cut.2 ∙ ap (λ x. read ++ x) (sym same ∙ done) ∙ append-nil read)

-- what was read is longer than the limit
pub cut_too_long : (all : Option (List ℕ)) (read : List ℕ) (now : Option (List ℕ)) (limit : ℕ) → IsCutOf all read now → limit < length read → IsLongerThan all limit
cut_too_long None read now limit cut long = tt
cut_too_long (Some all) read now limit cut long = omega (arith, ap length cut.2, length-append read cut.0)

-- after any reads a rest is left
pub rest_of_cut : (all : Option (List ℕ)) (read : List ℕ) (now : Option (List ℕ)) → IsCutOf all read now → IsRestOf all now
rest_of_cut all read now cut = (read, cut)

-- after one read more a rest is left
pub rest_of_more : (all : Option (List ℕ)) (read : List ℕ) (before now : Option (List ℕ)) (n : ℕ) (into : List ℕ)
    → IsCutOf all read before → TakesFront n into before now → IsRestOf all now
rest_of_more all read before now n into cut taken = (read ++ take n into, cut_more all read before now n into cut taken)

pub ruleset cuts = (cut_at_start, cut_more, cut_at_end, cut_too_long, rest_of_cut, rest_of_more)
