-- Lemmas on the names of trailers.
use Rattle.std.proofs.Common.{◌≡◌, ◌∙◌, ◌++◌, ℕ, Bool, true, false, List, [], ◌∷◌, ap, append-nil, append_assoc, refl}
use Rattle.std.specs.Prelude.{codes}
use Rattle.std.specs.List.{join_with_byte}
use Rattle.smithy_core.specs.TextPairs.{inserted, lower}
use Rattle.aws_chunked.specs.Body.{Trailer}
use Rattle.aws_chunked.specs.Announcement.{names_to_come, next_trailer_name, trailer_names, with_trailer_names}

after_first : (name : List ℕ) (names : List (List ℕ)) → name ++ names_to_come false names ≡ join_with_byte 44 (name ∷ names)
after_first name [] = append-nil name
after_first name (next ∷ names) =
    ap (λ (rest : List ℕ). name ++ rest) (append_assoc (44 ∷ []) next (names_to_come false names) ∙ ap (λ (rest : List ℕ). 44 ∷ rest) (after_first next names))

-- all names, with `,` between
pub names_joined : (names : List (List ℕ)) → names_to_come true names ≡ join_with_byte 44 names
names_joined [] = refl
names_joined (name ∷ names) = after_first name names

-- one name more
pub name_more : (text name : List ℕ) (names : List (List ℕ)) (is_first : Bool)
    → (text ++ next_trailer_name is_first name) ++ names_to_come false names ≡ text ++ names_to_come is_first (name ∷ names)
name_more text name names is_first = append_assoc text (next_trailer_name is_first name) (names_to_come false names)

-- no names are inserted where no trailer is
pub without_names : (trailers headers : List Trailer) → trailers ≡ [] → headers ≡ with_trailer_names trailers headers
without_names [] headers none = refl
without_names (trailer ∷ trailers) headers none = absurd (elim_none none)
  where
    elim_none : trailer ∷ trailers ≡ [] → ⊥
    elim_none is = cc

-- and those of all trailers else
pub with_names : (trailers headers new : List Trailer) (names : List ℕ) → (trailers ≡ [] → ⊥) → names ≡ trailer_names trailers
    → new ≡ inserted headers (lower (codes "x-amz-trailer")) names → new ≡ with_trailer_names trailers headers
with_names [] headers new names some joined is = absurd (some refl)
with_names (trailer ∷ trailers) headers new names some joined is = is ∙ ap (λ (value : List ℕ). inserted headers (codes "x-amz-trailer") value) joined
