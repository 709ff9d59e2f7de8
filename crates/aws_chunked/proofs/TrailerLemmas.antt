-- Trailers, and the lines of them.
use Rattle.std.proofs.Common.{◌≡◌, ℕ, ◌+◌, Bool, true, false, cond, ◌||◌, List, [], ◌∷◌, ◌++◌, length, refl, ◌∙◌, arith}
use Rattle.std.specs.Prelude.{◌↔◌, OnOk, Result, None, Some, IsSome, IsTrue, bytes_eq, codes, is_some}
use Rattle.std.specs.Option.{option_or}
use Rattle.std.proofs.lemmas.List.{length-append}
use Rattle.smithy_core.specs.TextPairs.{first_value, inserted}
use Rattle.sigv4.proofs.RefusalLemmas.{decides-some}
use Rattle.aws_chunked.specs.Body.{Trailer, is_named, put_after}
use Rattle.aws_chunked.specs.Text.{crlf, trailer_line}

pub line_length : (name value : List ℕ) → length (trailer_line (name, value)) ≡ length name + length value + 3
line_length name value =
    let a : length (trailer_line (name, value)) ≡ length (name ++ codes ":" ++ value) + 2 = length-append (name ++ codes ":" ++ value) crlf in
    let b : length (name ++ codes ":" ++ value) ≡ length (name ++ codes ":") + length value = length-append (name ++ codes ":") value in
    let d : length (name ++ codes ":") ≡ length name + 1 = length-append name (codes ":") in
    omega arith

-- a name has a value exactly where it is among the names
named_some : (name : List ℕ) (trailers : List Trailer) → is_some (first_value trailers name) ≡ is_named name trailers
named_some name [] = refl
named_some name (trailer ∷ trailers) = by (bytes_eq trailer.0 name) (named_some name trailers)
  where
    by : (b : Bool) → is_some (first_value trailers name) ≡ is_named name trailers
        → is_some (option_or (cond b (Some trailer.1) None) (first_value trailers name)) ≡ (b || is_named name trailers)
    by true same = refl
    by false same = same

pub found_named : (name : List ℕ) (trailers : List Trailer) (found : Bool) → (IsTrue found ↔ IsSome (first_value trailers name)) → found ≡ is_named name trailers
found_named name trailers found told = decides-some (first_value trailers name) found told ∙ named_some name trailers

-- a trailer whose name came before in its frame stands behind the others; another takes the place of all of its name
pub put_behind : {E : Type 0} (result : Result (Unit {0}) E) (before kept now : List Trailer) (name value : List ℕ) → is_named name before ≡ true
    → OnOk result (now ≡ kept ++ (name, value) ∷ []) → OnOk result (now ≡ put_after before kept name value)
put_behind result before kept now name value named is =
    rw named is

pub put_over : {E : Type 0} (result : Result (Unit {0}) E) (before kept now : List Trailer) (name value : List ℕ) → is_named name before ≡ false
    → OnOk result (now ≡ inserted kept name value) → OnOk result (now ≡ put_after before kept name value)
put_over result before kept now name value named is =
    rw named is
