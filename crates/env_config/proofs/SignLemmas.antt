-- Where a search for signs stops, as the pattern of a few ASCII signs finds them.
use Rattle.std.proofs.Common.{◌≡◌, ℕ, ◌+◌, ◌<◌, ◌≤◌, Bool, true, false, cond, inl, inr, List, [], ◌∷◌, length, take, drop, get_or, refl, sym, ap, ap₂, ◌∙◌, arith, length-drop, lt-ltb, le-ltb}
use Rattle.std.specs.Prelude.{Option, Some, None}
use Rattle.std.specs.Char.{char_set_contains}
use Rattle.std.specs.List.{position_or_len, before_first, after_first}
use Rattle.std.specs.Str.{NoCharPasses}
use Rattle.std.specs.Str.Pattern.{FindsBy}
use Rattle.std.proofs.lemmas.Bool.{cases_lt, false_from_ne_true}
use Rattle.std.proofs.lemmas.Bool.Decides.{nat_tests}
use Rattle.std.proofs.lemmas.List.{get_or-take, length-take-le, take_all}
use Rattle.std.proofs.lemmas.List.Sums.{position_or_len_is}
use Rattle.std.proofs.lemmas.Str.{NoCharPasses-byte, len_utf8_ascii}
use Rattle.std.proofs.lemmas.Str.Pattern.{drop_at_char}
use Rattle.env_config.specs.Line.{is_blank, is_comment_sign, trimmed}
use Rattle.env_config.specs.Sections.{Heading, heading_of, split_heading}
use Rattle.env_config.proofs.TrimLemmas.{blank_small}

module _ (signs : List ℕ) (small : (c : ℕ) → char_set_contains signs c ≡ true → c < 128) where
  -- what the pattern of the signs finds in a text
  abbrev pub Finds : List ℕ → Option (ℕ × ℕ) → Type 0
  Finds text found = (test : ℕ → Bool) → ((c : ℕ) → char_set_contains signs c ≡ test c) → FindsBy test text found

  -- no byte of a text without the signs is one
  no_sign : (text : List ℕ) (i : ℕ) → NoCharPasses (char_set_contains signs) text → i < length text → char_set_contains signs (get_or text i 0) ≡ false
  no_sign text i none within =
      elim (cases_lt (get_or text i 0) 128) [
        | inl under ↦ NoCharPasses-byte (char_set_contains signs) text i none within under
        | inr over ↦ false_from_ne_true (char_set_contains signs (get_or text i 0)) (λ is. omega (arith, over, small (get_or text i 0) is))
      ]

  pub found_at : (text : List ℕ) (i j : ℕ) → Finds text (Some (i, j)) → i ≤ length text → (position_or_len (char_set_contains signs) text ≡ i) × (i < length text) × (j ≡ i + 1)
  found_at text i j finds within =
      let found = finds (char_set_contains signs) (λ c. refl) in
      let has = found.1 in
      let under = small has.0 has.1 in
      let at : drop i text ≡ has.0 ∷ drop j text = drop_at_char has.0 text i j has.2 under in
      let inside : i < length text = omega (arith, length-drop i text, ap length at) in
      let byte : get_or text i 0 ≡ has.0 = has.2.byte under in (
        position_or_len_is (char_set_contains signs) text i 0 within
            (λ k below. ap (char_set_contains signs) (sym (get_or-take i text k 0 below)) ∙ no_sign (take i text) k found.0 (omega (arith, length-take-le i text within)))
            (λ _. ap (char_set_contains signs) byte ∙ has.1),
        inside,
        has.2.ends ∙ ap (λ n. i + n) (len_utf8_ascii has.0 under),
      )

  pub sign_found : (text : List ℕ) (i j : ℕ) → Finds text (Some (i, j)) → i ≤ length text → take i text ≡ before_first (char_set_contains signs) text
  sign_found text i j finds within = ap (λ n. take n text) (sym (found_at text i j finds within).0)

  none_at : (text : List ℕ) → Finds text None → position_or_len (char_set_contains signs) text ≡ length text
  none_at text finds =
      let none = finds (char_set_contains signs) (λ c. refl) in
      position_or_len_is (char_set_contains signs) text (length text) 0 (omega arith) (λ k below. no_sign text k none below) (λ over. absurd (omega arith))

  pub sign_absent : (text : List ℕ) → Finds text None → text ≡ before_first (char_set_contains signs) text
  sign_absent text finds =
      let place = none_at text finds in
      sym (take_all (position_or_len (char_set_contains signs) text) text (omega (arith, place)))

pub comment_small : (c : ℕ) → is_comment_sign c ≡ true → c < 128
comment_small c is = grind (arith, nat_tests)

abbrev pub blanks : List ℕ
blanks = 32 ∷ 9 ∷ []

-- a heading with a prefix
pub heading_found : (line text front back prefix name : List ℕ) (i j : ℕ) → text ≡ trimmed line → Finds blanks blank_small text (Some (i, j)) → front ≡ take i text → back ≡ drop j text
    → i ≤ j → length back + j ≡ length text → prefix ≡ trimmed front → name ≡ trimmed back → record { prefix = Some prefix; name = name } ≡ heading_of line
unfolding heading_of
heading_found line text front back prefix name i j text_is finds front_is back_is ordered fits prefix_is name_is =
    let at = found_at blanks blank_small text i j finds (omega arith) in
    let before : prefix ≡ trimmed (before_first is_blank text) = prefix_is ∙ ap trimmed (front_is ∙ ap (λ n. take n text) (sym at.0)) in
    let after : name ≡ trimmed (after_first is_blank text) = name_is ∙ ap trimmed (back_is ∙ ap (λ n. drop n text) (at.2 ∙ ap (λ n. n + 1) (sym at.0))) in
    let make : List ℕ → List ℕ → Heading = λ p n. record { prefix = Some p; name = n } in
    let other : Heading = record { prefix = None; name = text } in
    ap₂ make before after
    ∙ sym (ap (λ (b : Bool). cond b (make (trimmed (before_first is_blank text)) (trimmed (after_first is_blank text))) other) (lt-ltb (position_or_len is_blank text) (length text) (omega (arith, at.0, at.1))))
    ∙ ap split_heading text_is

-- a heading without
pub heading_absent : (line text : List ℕ) → text ≡ trimmed line → Finds blanks blank_small text None → record { prefix = None; name = text } ≡ heading_of line
unfolding heading_of
heading_absent line text text_is finds =
    let place = none_at blanks blank_small text finds in
    let with_prefix : Heading = record { prefix = Some (trimmed (before_first is_blank text)); name = trimmed (after_first is_blank text) } in
    let other : Heading = record { prefix = None; name = text } in
    sym (ap (λ (b : Bool). cond b with_prefix other) (le-ltb (position_or_len is_blank text) (length text) (omega (arith, place))))
    ∙ ap split_heading text_is
