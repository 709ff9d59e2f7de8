-- Texts behind blanks and a label.
use Rattle.std.proofs.Common.{◌≡◌, ℕ, ◌≤◌, true, false, List, [], ◌∷◌, ◌++◌, length, Some, None, Bor, inl, inr, refl, sym, ap, ◌∙◌, arith, true≢false}
use Rattle.std.specs.List.{list_all}
use Rattle.std.proofs.lemmas.Bool.{and_parts, cases_lt}
use Rattle.std.proofs.lemmas.List.{append_cancel_left}
use Rattle.request_check.proofs.CutLemmas.{heads, tails}
use Rattle.request_door.specs.DoorAuthorization.{CutsFirst, CutsLabel, IsLabelled, begins_blank, is_optional_whitespace}

-- of two places of a label, the one with blanks alone before it isn't behind the other
pub same_label : (byte : ℕ) (label front back f b : List ℕ) → is_optional_whitespace byte ≡ false → list_all is_optional_whitespace f ≡ true → length front ≤ length f
    → f ++ ((byte ∷ label) ++ b) ≡ front ++ ((byte ∷ label) ++ back) → (f ≡ front) × (b ≡ back)
same_label byte label [] back [] b first blank le e = (refl, append_cancel_left (byte ∷ label) b back e)
same_label byte label [] back (x ∷ f) b first blank le e =
    absurd (true≢false (sym (and_parts (is_optional_whitespace x) (list_all is_optional_whitespace f) blank).0 ∙ (ap is_optional_whitespace (heads e) ∙ first)))
same_label byte label (y ∷ front) back [] b first blank le e = absurd (omega (arith, le))
same_label byte label (y ∷ front) back (x ∷ f) b first blank le e =
    let more = same_label byte label front back f b first (and_parts (is_optional_whitespace x) (list_all is_optional_whitespace f) blank).1 (omega (arith, le)) (tails e) in
    ((ap (λ z. z ∷ f) (heads e) ∙ ap (λ (zs : List ℕ). y ∷ zs) more.0), more.1)

-- a text has one reading behind a label
pub one_label : (byte : ℕ) (label text a b : List ℕ) → is_optional_whitespace byte ≡ false → IsLabelled (byte ∷ label) a text → IsLabelled (byte ∷ label) b text → a ≡ b
one_label byte label text a b first p q = elim (cases_lt (length p.blanks) (length q.blanks)) [
  | inl less ↦ sym (same_label byte label p.blanks a q.blanks b first q.are_blank (omega (arith, less)) (sym q.parts ∙ p.parts)).1
  | inr at_most ↦ (same_label byte label q.blanks b p.blanks a first p.are_blank at_most (sym p.parts ∙ q.parts)).1
]

pub label_absent : (label text : List ℕ) → CutsFirst label text None → CutsLabel label text None
label_absent label text none = λ labelled is. none is.blanks labelled is.parts

pub label_behind : (label text : List ℕ) (parts : Bor (List ℕ) × Bor (List ℕ)) → begins_blank label ≡ false → CutsFirst label text (Some parts)
    → list_all is_optional_whitespace parts.0.now ≡ false → CutsLabel label text None
label_behind [] text parts first cut other = absurd (true≢false first)
label_behind (byte ∷ label) text parts first cut other = λ labelled is.
    let same = same_label byte label parts.0.now parts.1.now is.blanks labelled first is.are_blank (cut.1 is.blanks labelled is.parts) (sym is.parts ∙ cut.0) in
    true≢false (sym is.are_blank ∙ (ap (list_all is_optional_whitespace) same.0 ∙ other))

pub label_there : (label text : List ℕ) (parts : Bor (List ℕ) × Bor (List ℕ)) → CutsFirst label text (Some parts) → list_all is_optional_whitespace parts.0.now ≡ true
    → CutsLabel label text (Some parts.1)
label_there label text parts cut blank = record { blanks = parts.0.now; are_blank = blank; parts = cut.0 }
