-- The digits of a length, from the first to the last.
use Rattle.std.proofs.Common.{◌≡◌, ℕ, zero, suc, ◌+◌, ◌*◌, ◌/◌, ◌%◌, ◌^◌, ◌<◌, ◌≤◌, Bool, true, false, cond, nat_eq, inl, inr, List, [], ◌∷◌, ◌++◌, length, refl, ap, sym, subst, ◌∙◌, arith, append_assoc}
use Rattle.std.specs.Prelude.{◌⊎◌}
use Rattle.std.specs.Char.{digit_value}
use Rattle.std.specs.Fmt.{digit_glyph, digits, digits_onto}
use Rattle.std.specs.Str.Parse.{digits_value_after}
use Rattle.std.proofs.lemmas.Bool.{agree_below_at, eqb-false, eqb-true, false≢true}
use Rattle.std.proofs.lemmas.Fmt.{digits_is_IsNumeral, hex_one_digit}
use Rattle.std.proofs.lemmas.List.{append-nil, length-append, nil_from_length}
use Rattle.std.proofs.lemmas.Nat.{div-mul-add, mod-mul-add}
use Rattle.aws_chunked.specs.Decoded.{CanGoOn}
use Rattle.aws_chunked.specs.Reading.{IsEndedLength, IsLength, Led, RefusesNext, StopsWhere, is_length_digit}
use Rattle.aws_chunked.specs.Text.{length_text}
use Rattle.aws_chunked.specs.declared.decode.fault.PartFault.{PartFault}
use Rattle.aws_chunked.specs.declared.decode.fault.PartFault.TheVariants.{Bad}
use Rattle.aws_chunked.proofs.DigitLemmas.{power}
use Rattle.aws_chunked.proofs.StopLemmas.{stops_behind}

-- what stands behind the digits stays there
onto_behind : (k n : ℕ) (behind : List ℕ) → digits_onto k 16 true n behind ≡ digits_onto k 16 true n [] ++ behind
onto_behind zero n behind = refl
onto_behind (suc k) n behind =
    let digit = digit_glyph true (n % 16) in
    by (nat_eq (n / 16) 0)
    (onto_behind k (n / 16) (digit ∷ behind)
    ∙ sym (append_assoc (digits_onto k 16 true (n / 16) []) (digit ∷ []) behind)
    ∙ ap (λ (ds : List ℕ). ds ++ behind) (sym (onto_behind k (n / 16) (digit ∷ []))))
  where
    by : (b : Bool) → digits_onto k 16 true (n / 16) (digit_glyph true (n % 16) ∷ behind) ≡ digits_onto k 16 true (n / 16) (digit_glyph true (n % 16) ∷ []) ++ behind
        → cond b (digit_glyph true (n % 16) ∷ behind) (digits_onto k 16 true (n / 16) (digit_glyph true (n % 16) ∷ behind))
        ≡ cond b (digit_glyph true (n % 16) ∷ []) (digits_onto k 16 true (n / 16) (digit_glyph true (n % 16) ∷ [])) ++ behind
    by true long = refl
    by false long = long

-- a greater bound changes nothing
onto_enough : (k n : ℕ) (behind : List ℕ) → n < power (suc k) → digits_onto (suc k) 16 true n behind ≡ digits_onto (suc (suc k)) 16 true n behind
onto_enough zero n behind small = by (nat_eq (n / 16) 0) refl
  where
    by : (b : Bool) → nat_eq (n / 16) 0 ≡ b → cond b (digit_glyph true (n % 16) ∷ behind) (digits_onto zero 16 true (n / 16) (digit_glyph true (n % 16) ∷ behind))
        ≡ cond b (digit_glyph true (n % 16) ∷ behind) (digits_onto (suc zero) 16 true (n / 16) (digit_glyph true (n % 16) ∷ behind))
    by true is = refl
    by false is = absurd (eqb-false (n / 16) 0 is (omega (arith, small)))
onto_enough (suc k) n behind small = by (nat_eq (n / 16) 0) (onto_enough k (n / 16) (digit_glyph true (n % 16) ∷ behind) (omega (arith, small)))
  where
    by : (b : Bool)
        → digits_onto (suc k) 16 true (n / 16) (digit_glyph true (n % 16) ∷ behind) ≡ digits_onto (suc (suc k)) 16 true (n / 16) (digit_glyph true (n % 16) ∷ behind)
        → cond b (digit_glyph true (n % 16) ∷ behind) (digits_onto (suc k) 16 true (n / 16) (digit_glyph true (n % 16) ∷ behind))
        ≡ cond b (digit_glyph true (n % 16) ∷ behind) (digits_onto (suc (suc k)) 16 true (n / 16) (digit_glyph true (n % 16) ∷ behind))
    by true same = refl
    by false same = same

-- a digit more
pub length_text_more : (n digit : ℕ) → 0 < n → n < 2 ^ 36 → digit < 16 → length_text (n * 16 + digit) ≡ length_text n ++ digit_glyph true digit ∷ []
unfolding digits
length_text_more n digit some small low = by (nat_eq ((n * 16 + digit) / 16) 0) refl
  where
    by : (b : Bool) → nat_eq ((n * 16 + digit) / 16) 0 ≡ b
        → cond b (digit_glyph true ((n * 16 + digit) % 16) ∷ []) (digits_onto 63 16 true ((n * 16 + digit) / 16) (digit_glyph true ((n * 16 + digit) % 16) ∷ []))
        ≡ digits_onto 64 16 true n [] ++ digit_glyph true digit ∷ []
    by true is = absurd (omega (arith, eqb-true ((n * 16 + digit) / 16) 0 is, div-mul-add n 16 digit low, some))
    by false is =
        (λ i. digits_onto 63 16 true (div-mul-add n 16 digit low i) (digit_glyph true (mod-mul-add n 16 digit low i) ∷ []))
        ∙ onto_enough 62 n (digit_glyph true digit ∷ []) (omega (arith, small))
        ∙ onto_behind 64 n (digit_glyph true digit ∷ [])

-- ## What the digits are

unfoldable pub AreDigits : List ℕ → Type 0
AreDigits [] = Unit {0}
AreDigits (byte ∷ bytes) = (is_length_digit byte ≡ true) × AreDigits bytes

pub glyph_digit : (d : ℕ) → d < 16 → is_length_digit (digit_glyph true d) ≡ true
glyph_digit d low = agree_below_at (λ (n : ℕ). is_length_digit (digit_glyph true n)) (λ (n : ℕ). true) 16 d refl low

glyph_value : (d : ℕ) → d < 16 → digit_value (digit_glyph true d) ≡ d
glyph_value d low = eqb-true (digit_value (digit_glyph true d)) d
    (agree_below_at (λ (n : ℕ). nat_eq (digit_value (digit_glyph true n)) n) (λ (n : ℕ). true) 16 d refl low)

onto_digits : (k n : ℕ) (behind : List ℕ) → AreDigits behind → AreDigits (digits_onto k 16 true n behind)
unfolding AreDigits
onto_digits zero n behind are = are
onto_digits (suc k) n behind are =
    let more : AreDigits (digit_glyph true (n % 16) ∷ behind) = (glyph_digit (n % 16) (omega arith), are) in
    by (nat_eq (n / 16) 0) more (onto_digits k (n / 16) (digit_glyph true (n % 16) ∷ behind) more)
  where
    by : (b : Bool) → AreDigits (digit_glyph true (n % 16) ∷ behind) → AreDigits (digits_onto k 16 true (n / 16) (digit_glyph true (n % 16) ∷ behind))
        → AreDigits (cond b (digit_glyph true (n % 16) ∷ behind) (digits_onto k 16 true (n / 16) (digit_glyph true (n % 16) ∷ behind)))
    by true last all = last
    by false last all = all

pub text_digits : (n : ℕ) → AreDigits (length_text n)
unfolding digits AreDigits
text_digits n = onto_digits 64 n [] tt

-- the first digit of a number that isn't 0
IsFirst : List ℕ → Type 0
IsFirst digits_ = (d : ℕ) × (ds : List ℕ) × (0 < d) × (d < 16) × (digits_ ≡ digit_glyph true d ∷ ds)

onto_first : (k n : ℕ) (behind : List ℕ) → 0 < n → n < power k → IsFirst (digits_onto k 16 true n behind)
unfolding IsFirst
onto_first zero n behind some small = absurd (omega (arith, some, small))
onto_first (suc k) n behind some small = by (nat_eq (n / 16) 0) refl
    (λ rest. onto_first k (n / 16) (digit_glyph true (n % 16) ∷ behind) rest (omega (arith, small)))
  where
    by : (b : Bool) → nat_eq (n / 16) 0 ≡ b → (0 < n / 16 → IsFirst (digits_onto k 16 true (n / 16) (digit_glyph true (n % 16) ∷ behind)))
        → IsFirst (cond b (digit_glyph true (n % 16) ∷ behind) (digits_onto k 16 true (n / 16) (digit_glyph true (n % 16) ∷ behind)))
    by true is more = (n % 16, behind, omega (arith, some, eqb-true (n / 16) 0 is), omega arith, refl)
    by false is more = more (by_zero (n / 16) (eqb-false (n / 16) 0 is))
      where
        by_zero : (m : ℕ) → (m ≡ 0 → ⊥) → 0 < m
        by_zero zero not = absurd (not refl)
        by_zero (suc m) not = omega arith

text_first : (n : ℕ) → 0 < n → n < 2 ^ 36 → IsFirst (length_text n)
unfolding digits
text_first n some small = onto_first 64 n [] some (omega (arith, small))

-- ## What the digits are worth

value_grows : (n : ℕ) (ds : List ℕ) → n ≤ digits_value_after 16 n ds
value_grows n [] = omega arith
value_grows n (d ∷ ds) = omega (arith, value_grows (n * 16 + digit_value d) ds)

value_append : (n : ℕ) (xs ys : List ℕ) → digits_value_after 16 n (xs ++ ys) ≡ digits_value_after 16 (digits_value_after 16 n xs) ys
value_append n [] ys = refl
value_append n (x ∷ xs) ys = value_append (n * 16 + digit_value x) xs ys

pub text_value : (n : ℕ) → n < 2 ^ 36 → digits_value_after 16 0 (length_text n) ≡ n
text_value n small = (digits_is_IsNumeral 16 true (omega arith) (omega arith) n (omega (arith, small))).1

-- a number whose digits begin with those of another and one more is at least so great
text_grows : (m n digit : ℕ) (ds : List ℕ) → m < 2 ^ 36 → n < 2 ^ 36 → digit < 16 → length_text m ≡ (length_text n ++ digit_glyph true digit ∷ []) ++ ds
    → n * 16 + digit ≤ m
text_grows m n digit ds low small few is =
    omega (
      arith,
      text_value m low,
      text_value n small,
      glyph_value digit few,
      ap (digits_value_after 16 0) is,
      value_append 0 (length_text n ++ digit_glyph true digit ∷ []) ds,
      value_append 0 (length_text n) (digit_glyph true digit ∷ []),
      value_grows (digits_value_after 16 0 (length_text n ++ digit_glyph true digit ∷ [])) ds,
    )

-- ## Where a length stops

-- the first digit of a length
pub first_read : (most digit byte : ℕ) (bytes rest : List ℕ) → digit < 16 → byte ≡ digit_glyph true digit → bytes ≡ byte ∷ rest → bytes ≡ length_text digit ++ rest
first_read most digit byte bytes rest low is first = first ∙ (λ i. is i ∷ rest) ∙ ap (λ (ds : List ℕ). ds ++ rest) (sym (hex_one_digit true digit low))

-- one digit more of a length
pub more_read : (length_ digit byte longer : ℕ) (bytes rest others : List ℕ) → bytes ≡ length_text length_ ++ rest → rest ≡ byte ∷ others
    → digit < 16 → byte ≡ digit_glyph true digit → 0 < length_ → length_ < 2 ^ 36 → longer ≡ length_ * 16 + digit → bytes ≡ length_text longer ++ others
more_read n digit byte longer bytes rest others read first low is some small more =
    read ∙ ap (λ (r : List ℕ). length_text n ++ r) (first ∙ (λ i. is i ∷ others))
    ∙ sym (append_assoc (length_text n) (digit_glyph true digit ∷ []) others)
    ∙ ap (λ (ds : List ℕ). ds ++ others) (sym (length_text_more n digit some small low) ∙ ap length_text (sym more))

-- ## What no length goes on with

-- digits that begin the bytes are among the digits before another byte
within : (xs ys : List ℕ) (c : ℕ) (rest more : List ℕ) → AreDigits xs → is_length_digit c ≡ false → xs ++ rest ≡ ys ++ c ∷ more → (zs : List ℕ) × (ys ≡ xs ++ zs)
unfolding AreDigits
within [] ys c rest more are other same = (ys, refl)
within (x ∷ xs) [] c rest more are other same = let first : x ≡ c = cc in absurd (false≢true (sym other ∙ ap is_length_digit (sym first) ∙ are.0))
within (x ∷ xs) (y ∷ ys) c rest more are other same =
    let first : y ≡ x = cc in
    let others : xs ++ rest ≡ ys ++ c ∷ more = cc in
    let found = within xs ys c rest more are.1 other others in
    (found.0, λ i. first i ∷ found.1 i)

-- the digits of an ended length go on as these digits do
led_within : (most : ℕ) (xs rest : List ℕ) → AreDigits xs → Led (IsEndedLength most) (xs ++ rest)
    → (m : ℕ) × (zs : List ℕ) × (m ≤ most) × (length_text m ≡ xs ++ zs)
led_within most xs rest are led =
    let word = led.2 in
    let found = within xs (length_text word.0) word.1 rest led.1 are word.3
    (led.3 ∙ ap (λ (w : List ℕ). w ++ led.1) word.4 ∙ append_assoc (length_text word.0) (word.1 ∷ []) led.1) in
    (word.0, found.0, word.2, found.1)

digits_more : (xs : List ℕ) (byte : ℕ) → AreDigits xs → is_length_digit byte ≡ true → AreDigits (xs ++ byte ∷ [])
unfolding AreDigits
digits_more [] byte are is = (is, tt)
digits_more (x ∷ xs) byte are is = (are.0, digits_more xs byte are.1 is)

-- no zero stands before other digits
no_zero_before : (m digit : ℕ) (zs : List ℕ) → m < 2 ^ 36 → length_text m ≡ digit_glyph true 0 ∷ digit ∷ zs → ⊥
unfolding IsFirst
no_zero_before zero digit zs small is = absurd (omega (arith, ap length (sym (hex_one_digit true 0 (omega arith)) ∙ is)))
no_zero_before (suc m) digit zs small is =
    let first = text_first (suc m) (omega arith) small in
    let same : digit_glyph true first.0 ∷ first.1 ≡ digit_glyph true 0 ∷ digit ∷ zs = sym first.4 ∙ is in
    let glyphs : digit_glyph true first.0 ≡ digit_glyph true 0 = cc in
    omega (arith, first.2, glyph_value first.0 first.3, glyph_value 0 (omega arith), ap digit_value glyphs)

not_longer : (most n m digit : ℕ) (zs : List ℕ) → most < 2 ^ 36 → n ≤ most → m ≤ most → digit < 16 → (n ≡ 0) ⊎ (most < n * 16 + digit)
    → length_text m ≡ (length_text n ++ digit_glyph true digit ∷ []) ++ zs → ⊥
not_longer most n m digit zs bound low small few (inl zero_) is =
    no_zero_before m (digit_glyph true digit) zs (omega (arith, small, bound))
    (is ∙ ap (λ (k : ℕ). (length_text k ++ digit_glyph true digit ∷ []) ++ zs) zero_
    ∙ ap (λ (ds : List ℕ). (ds ++ digit_glyph true digit ∷ []) ++ zs) (hex_one_digit true 0 (omega arith)))
not_longer most n m digit zs bound low small few (inr over) is =
    omega (arith, text_grows m n digit zs (omega (arith, small, bound)) (omega (arith, low, bound)) few is, small, over)

-- behind a length: no digit that makes it too long, or that stands behind a zero
pub refuses_digit : (most n digit : ℕ) (back : List ℕ) → most < 2 ^ 36 → n ≤ most → digit < 16 → (n ≡ 0) ⊎ (most < n * 16 + digit)
    → RefusesNext (Led (IsEndedLength most)) (length_text n) (digit_glyph true digit ∷ back)
refuses_digit most n digit back bound low few why = λ begins.
    let found = led_within most (length_text n ++ digit_glyph true digit ∷ []) begins.0
    (digits_more (length_text n) (digit_glyph true digit) (text_digits n) (glyph_digit digit few)) begins.1 in
    not_longer most n found.0 digit found.1 bound low found.2 few why found.3

-- and not its end
pub refuses_end : (most n : ℕ) → RefusesNext (Led (IsEndedLength most)) (length_text n) []
refuses_end most n = λ led.
    let word = led.2 in
    let found = within (length_text n) (length_text word.0) word.1 [] led.1 (text_digits n) word.3
    (append-nil (length_text n) ∙ led.3 ∙ ap (λ (w : List ℕ). w ++ led.1) word.4 ∙ append_assoc (length_text word.0) (word.1 ∷ []) led.1) in
    absurd (omega (
      arith,
      ap length found.1,
      length-append (length_text n) found.0,
      ap length (led.3 ∙ ap (λ (w : List ℕ). w ++ led.1) word.4),
      length-append (length_text word.0 ++ word.1 ∷ []) led.1,
      length-append (length_text word.0) (word.1 ∷ []),
    ))

begins_length : (most n : ℕ) → n ≤ most → CanGoOn (IsLength most) (length_text n)
begins_length most n low = ([], (n, low, append-nil (length_text n)))

-- what reading tells of a length that goes on with such a digit, or ends
pub stops_at_digit : (most n digit byte : ℕ) (bytes rest others : List ℕ) (fault : PartFault) → most ≤ 4294967295 → n ≤ most → digit < 16 → byte ≡ digit_glyph true digit
    → (n ≡ 0) ⊎ (most < n * 16 + digit) → bytes ≡ length_text n ++ rest → rest ≡ byte ∷ others → fault ≡ Bad (length rest)
    → StopsWhere (IsLength most) (Led (IsEndedLength most)) bytes fault
stops_at_digit most n digit byte bytes rest others fault bound low few is why read first told =
    stops_behind (IsLength most) (Led (IsEndedLength most)) bytes (length_text n) rest fault told read (begins_length most n low)
    (subst (RefusesNext (Led (IsEndedLength most)) (length_text n)) (sym (first ∙ (λ i. is i ∷ others))) (refuses_digit most n digit others (omega (arith, bound)) low few why))

pub stops_at_end : (most n : ℕ) (bytes rest : List ℕ) (fault : PartFault) → n ≤ most → bytes ≡ length_text n ++ rest → length rest ≡ 0 → fault ≡ Bad (length rest)
    → StopsWhere (IsLength most) (Led (IsEndedLength most)) bytes fault
stops_at_end most n bytes rest fault low read none told =
    stops_behind (IsLength most) (Led (IsEndedLength most)) bytes (length_text n) rest fault told read (begins_length most n low)
    (subst (RefusesNext (Led (IsEndedLength most)) (length_text n)) (sym (nil_from_length rest none)) (refuses_end most n))

-- ## What no length begins with

begins_any : (most : ℕ) → CanGoOn (IsLength most) []
begins_any most = (length_text 0, (0, omega arith, refl))

text_some : (n : ℕ) → n < 2 ^ 36 → 0 < length (length_text n)
text_some n small = (digits_is_IsNumeral 16 true (omega arith) (omega arith) n (omega (arith, small))).0.0

first_is_digit : (xs : List ℕ) (byte : ℕ) (rest more : List ℕ) → AreDigits xs → 0 < length xs → byte ∷ rest ≡ xs ++ more → is_length_digit byte ≡ true
unfolding AreDigits
first_is_digit [] byte rest more are some same = absurd (omega (arith, some))
first_is_digit (x ∷ xs) byte rest more are some same = let first : byte ≡ x = cc in ap is_length_digit first ∙ are.0

-- the bytes of an ended length begin with its digits
led_text : (most : ℕ) (bytes : List ℕ) → Led (IsEndedLength most) bytes → (m : ℕ) × (more : List ℕ) × (m ≤ most) × (bytes ≡ length_text m ++ more) × (0 < length more)
led_text most bytes led =
    let word = led.2 in (
      word.0,
      word.1 ∷ led.1,
      word.2,
      led.3 ∙ ap (λ (w : List ℕ). w ++ led.1) word.4 ∙ append_assoc (length_text word.0) (word.1 ∷ []) led.1,
      omega arith,
    )

pub first_stops_end : (most : ℕ) (bytes : List ℕ) (fault : PartFault) → length bytes ≡ 0 → fault ≡ Bad (length bytes)
    → StopsWhere (IsLength most) (Led (IsEndedLength most)) bytes fault
first_stops_end most bytes fault none told =
    stops_behind (IsLength most) (Led (IsEndedLength most)) bytes [] bytes fault told refl (begins_any most)
    (subst (RefusesNext (Led (IsEndedLength most)) []) (sym (nil_from_length bytes none)) (λ led.
    let found = led_text most [] led in
    omega (arith, ap length found.3, length-append (length_text found.0) found.1, found.4)))

pub first_stops_other : (most byte : ℕ) (bytes rest : List ℕ) (fault : PartFault) → most ≤ 4294967295 → is_length_digit byte ≡ false → bytes ≡ byte ∷ rest
    → fault ≡ Bad (length bytes) → StopsWhere (IsLength most) (Led (IsEndedLength most)) bytes fault
first_stops_other most byte bytes rest fault bound other first told =
    stops_behind (IsLength most) (Led (IsEndedLength most)) bytes [] bytes fault told refl (begins_any most)
    (subst (RefusesNext (Led (IsEndedLength most)) []) (sym first) (λ begins.
    let found = led_text most (byte ∷ begins.0) begins.1 in
    false≢true (sym other
    ∙ first_is_digit (length_text found.0) byte begins.0 found.1 (text_digits found.0) (text_some found.0 (omega (arith, found.2, bound))) found.3)))

pub first_stops_great : (most digit byte : ℕ) (bytes rest : List ℕ) (fault : PartFault) → most ≤ 4294967295 → digit < 16 → byte ≡ digit_glyph true digit → most < digit
    → bytes ≡ byte ∷ rest → fault ≡ Bad (length bytes) → StopsWhere (IsLength most) (Led (IsEndedLength most)) bytes fault
unfolding AreDigits
first_stops_great most digit byte bytes rest fault bound few is great first told =
    stops_behind (IsLength most) (Led (IsEndedLength most)) bytes [] bytes fault told refl (begins_any most)
    (subst (RefusesNext (Led (IsEndedLength most)) []) (sym (first ∙ (λ i. is i ∷ rest))) (λ begins.
    let found = led_within most (digit_glyph true digit ∷ []) begins.0 (glyph_digit digit few, tt) begins.1 in
    omega (
      arith,
      found.2,
      great,
      bound,
      glyph_value digit few,
      text_value found.0 (omega (arith, found.2, bound)),
      ap (digits_value_after 16 0) found.3,
      value_grows (0 * 16 + digit_value (digit_glyph true digit)) found.1,
    )))
