-- A pair that is kept as one text.
use Rattle.std.proofs.Common.{◌≡◌, ℕ, ◌+◌, ◌<◌, suc, Bool, true, false, cond, List, [], ◌∷◌, ◌++◌, length, take, drop, refl, sym, ap, ap₂, ◌∙◌, arith}
use Rattle.std.specs.Prelude.{Option, Some, None, nat_lt, not}
use Rattle.std.specs.Borrow.{Bor}
use Rattle.std.specs.List.{after_first, before_first, position_or_len}
use Rattle.std.specs.Ordering.{match_ordering}
use Rattle.env_config.specs.Line.{equals_sign, is_equals}
use Rattle.env_config.specs.Texts.{one_pair, put}
use Rattle.env_config.proofs.TextsLemmas.{itself}

abbrev pub Both : Type 0
Both = Bor (List ℕ) × Bor (List ℕ)

-- what cutting a text at its first `=` tells
abbrev pub CutsAtFirst : List ℕ → Option Both → Type 0
CutsAtFirst text None = position_or_len is_equals text ≡ length text
CutsAtFirst text (Some both) = (position_or_len is_equals text < length text) × (both.0.now ≡ before_first is_equals text) × (both.1.now ≡ after_first is_equals text)

-- the pair that the text is cut into
pub cut_pair : (text key value : List ℕ) → position_or_len is_equals text < length text → key ≡ before_first is_equals text → value ≡ after_first is_equals text → one_pair text ≡ (key, value) ∷ []
cut_pair text key value within key_is value_is =
    ap (λ (b : Bool). cond b ((before_first is_equals text, after_first is_equals text) ∷ []) []) (under (position_or_len is_equals text) (length text) within)
    ∙ ap₂ (λ (k v : List ℕ). (k, v) ∷ []) (sym key_is) (sym value_is)
  where
    under : (m n : ℕ) → m < n → nat_lt m n ≡ true
    under m n less = grind arith

-- ## Joining

joined_at : (key value : List ℕ) → position_or_len is_equals key ≡ length key → position_or_len is_equals (key ++ equals_sign ∷ value) ≡ length key
joined_at [] value none = refl
joined_at (b ∷ key) value none = by (is_equals b) none (joined_at key value)
  where
    by : (e : Bool) → cond (not e) (1 + position_or_len is_equals key) 0 ≡ suc (length key) → (position_or_len is_equals key ≡ length key → position_or_len is_equals (key ++ equals_sign ∷ value) ≡ length key)
        → cond (not e) (1 + position_or_len is_equals (key ++ equals_sign ∷ value)) 0 ≡ suc (length key)
    by true none more = none
    by false none more = let at : position_or_len is_equals (key ++ equals_sign ∷ value) ≡ length key = more (omega (arith, none)) in omega (arith, at)

front_is : (key rest : List ℕ) → take (length key) (key ++ rest) ≡ key
front_is [] rest = refl
front_is (b ∷ key) rest = ap (λ (xs : List ℕ). b ∷ xs) (front_is key rest)

back_is : (key value : List ℕ) (c : ℕ) → drop (suc (length key)) (key ++ c ∷ value) ≡ value
back_is [] value c = refl
back_is (b ∷ key) value c = back_is key value c

-- a key with no `=` and a value, joined by one
pub joined_one : (text key value : List ℕ) → position_or_len is_equals key ≡ length key → text ≡ key ++ equals_sign ∷ value → one_pair text ≡ (key, value) ∷ []
joined_one text key value none is =
    let joined = key ++ equals_sign ∷ value in
    let at = joined_at key value none in
    ap one_pair is
    ∙ cut_pair joined key value (within at)
    (sym (ap (λ (n : ℕ). take n joined) at ∙ front_is key (equals_sign ∷ value)))
    (sym (ap (λ (n : ℕ). drop n joined) (behind at) ∙ back_is key value equals_sign))
  where
    longer : (xs : List ℕ) → length xs < length (xs ++ equals_sign ∷ value)
    longer [] = omega arith
    longer (b ∷ xs) = omega (arith, longer xs)

    behind : position_or_len is_equals (key ++ equals_sign ∷ value) ≡ length key → position_or_len is_equals (key ++ equals_sign ∷ value) + 1 ≡ suc (length key)
    behind at = omega (arith, at)

    within : position_or_len is_equals (key ++ equals_sign ∷ value) ≡ length key → position_or_len is_equals (key ++ equals_sign ∷ value) < length (key ++ equals_sign ∷ value)
    within at = omega (arith, at, longer key)

-- ## Putting

-- the value stands in place of that of the same key
pub put_over_one : (text key : List ℕ) (both : Both) → CutsAtFirst text (Some both) → both.0.now ≡ key → (value : List ℕ) → put (one_pair text) key value ≡ (key, value) ∷ []
put_over_one text key both cut same value =
    ap (λ (pairs : List (List ℕ × List ℕ)). put pairs key value) (cut_pair text key both.1.now cut.0 (sym same ∙ cut.1) cut.2)
    ∙ ap (λ o. match_ordering o ((key, value) ∷ (key, both.1.now) ∷ []) ((key, value) ∷ []) ((key, both.1.now) ∷ (key, value) ∷ [])) (itself key)
