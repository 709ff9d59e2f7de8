-- What `parse` and `try_from` give at the texts that spell a number.
use Rattle.std.proofs.Common.{◌≡◌, ℕ, ◌<◌, ◌≤◌, ◌^◌, Bool, true, false, ◌||◌, List, [], ◌∷◌, length, drop, get_or, Some, None, Result, Ok, Err, refl, sym, arith, rules, suc, ℤ, pos, negsuc, neg_ℤ, w64}
use Rattle.std.specs.Prelude.{FitsSigned, Option, option_and_then}
use Rattle.std.specs.Int.{Width, saturate_signed}
use Rattle.std.specs.Ordering.{int_eq}
use Rattle.std.specs.List.{list_all}
use Rattle.std.specs.Result.{OkIff, result_ok}
use Rattle.std.specs.Str.Parse.{ParsesSigned, ParsesUnsigned}
use Rattle.std.proofs.lemmas.Nat.{pow_pos}
use Rattle.std.proofs.lemmas.Str.Parse.{IsNumeralModel, numerals_by_fold, parse_digits, parse_signed_digits, parse_signed_minus}
use Rattle.std.proofs.lemmas.Bool.{or_parts}
use Rattle.std.proofs.lemmas.Bool.Decides.{nat_tests}
use Rattle.std.proofs.lemmas.Option.{cond_some}
use mir.Val.{hbits}
use Rattle.job_text.specs.Numbers.{is_digit, is_natural, is_negative, number_on, if_fits, number, natural_below, spelled}

pub numerals : IsNumeralModel (λ digits. list_all is_digit digits ≡ true) (number_on 0)
numerals = numerals_by_fold _ (search rules) number_on (search rules)

natural_digits : (text : List ℕ) → is_natural text ≡ true → list_all is_digit text ≡ true
natural_digits [] h = cc
natural_digits (digit ∷ digits) h = grind arith

natural_length : (text : List ℕ) → is_natural text ≡ true → 0 < length text
natural_length [] h = cc
natural_length (digit ∷ digits) h = omega arith

negative_parts : (text : List ℕ) → is_negative text ≡ true → (get_or text 0 0 ≡ 45) × (is_natural (drop 1 text) ≡ true)
negative_parts text h = (grind (arith, nat_tests), grind (arith, nat_tests))

-- ## Which numbers fit

fits_pos : (w : Width) (n : ℕ) → n < 2 ^ hbits w → if_fits w (pos n) ≡ Some (pos n)
fits_pos w n h = grind (arith, nat_tests)

fits_not_pos : (w : Width) (n : ℕ) → (n < 2 ^ hbits w → ⊥) → if_fits w (pos n) ≡ None
fits_not_pos w n h = let some = pow_pos (hbits w) in grind (arith, nat_tests)

fits_neg : (w : Width) (n : ℕ) → n ≤ 2 ^ hbits w → if_fits w (neg_ℤ (pos n)) ≡ Some (neg_ℤ (pos n))
fits_neg w n h = grind (arith, nat_tests)

fits_not_neg : (w : Width) (n : ℕ) → (n ≤ 2 ^ hbits w → ⊥) → if_fits w (neg_ℤ (pos n)) ≡ None
fits_not_neg w n h = let some = pow_pos (hbits w) in grind (arith, nat_tests)

-- ## What `parse` gives

-- an answer that is exactly a number is the number where it fits
ok_if_fits : {E : Type 0} (w : Width) (r : Result ℤ E) (P : Type 0) (z : ℤ) → OkIff r P z → (P → if_fits w z ≡ Some z) → ((P → ⊥) → if_fits w z ≡ None) → result_ok r ≡ if_fits w z
ok_if_fits w (Ok x) P z h fits other = let e = h.1 in let f = fits h.0 in cc
ok_if_fits w (Err e) P z h fits other = sym (other h)

natural_parsed : {E : Type 0} (w : Width) (text : List ℕ) (r : Result ℤ E) → ParsesSigned w 10 text r → is_natural text ≡ true → result_ok r ≡ if_fits w (pos (number_on 0 text))
natural_parsed w text r h natural =
    let some = natural_length text natural in
    ok_if_fits w r _ _ (parse_signed_digits numerals w text r h (natural_digits text natural))
    (λ p. fits_pos w (number_on 0 text) p.1) (λ no. fits_not_pos w (number_on 0 text) (λ lt. no (some, lt)))

negative_parsed : {E : Type 0} (w : Width) (text : List ℕ) (r : Result ℤ E) → ParsesSigned w 10 text r → is_negative text ≡ true → result_ok r ≡ if_fits w (neg_ℤ (pos (number_on 0 (drop 1 text))))
negative_parsed w text r h negative =
    let parts = negative_parts text negative in
    let digits = natural_digits (drop 1 text) parts.1 in
    let some = natural_length (drop 1 text) parts.1 in
    ok_if_fits w r _ _ (parse_signed_minus numerals w text r h parts.0)
    (λ p. fits_neg w (number_on 0 (drop 1 text)) p.2) (λ no. fits_not_neg w (number_on 0 (drop 1 text)) (λ le. no (digits, some, le)))

pub parsed : {E : Type 0} (w : Width) (text : List ℕ) (r : Result ℤ E) → ParsesSigned w 10 text r → (is_natural text || is_negative text) ≡ true → result_ok r ≡ number w text
unfolding number spelled
parsed w text r h numeral = go (is_natural text) (is_negative text) refl refl numeral
  where
    go : (natural negative : Bool) → is_natural text ≡ natural → is_negative text ≡ negative → (natural || negative) ≡ true → result_ok r ≡ number w text
    go true negative e f n = rw e (natural_parsed w text r h e)
    go false true e f n = rw (e, f) (negative_parsed w text r h f)
    go false false e f n = cc

pub unparsed : (w : Width) (text : List ℕ) → (is_natural text || is_negative text) ≡ false → number w text ≡ None
unfolding number spelled
unparsed w text n = let parts = or_parts (is_natural text) (is_negative text) n in rw (parts.0, parts.1) refl

-- the number, where 32 bits hold it
pub parsed_within_32 : {E : Type 0} (text : List ℕ) (r : Result ℕ E) → ParsesUnsigned 32 10 text r → is_natural text ≡ true → result_ok r ≡ natural_below 4294967296 text
unfolding natural_below
parsed_within_32 {E} text (Ok n) h natural =
    let parts = parse_digits numerals {E = E} 32 text (Ok n) h (natural_digits text natural) in grind (arith, nat_tests)
parsed_within_32 {E} text (Err e) h natural =
    let parts = parse_digits numerals {E = E} 32 text (Err e) h (natural_digits text natural) in
    let some = natural_length text natural in
    let past = λ (lt : number_on 0 text < 2 ^ 32). parts (some, lt) in
    grind (arith, nat_tests)

-- the number, where 64 bits hold it
pub parsed_within_64 : {E : Type 0} (text : List ℕ) (r : Result ℕ E) → ParsesUnsigned 64 10 text r → is_natural text ≡ true → result_ok r ≡ natural_below 18446744073709551616 text
unfolding natural_below
parsed_within_64 {E} text (Ok n) h natural =
    let parts = parse_digits numerals {E = E} 64 text (Ok n) h (natural_digits text natural) in grind (arith, nat_tests)
parsed_within_64 {E} text (Err e) h natural =
    let parts = parse_digits numerals {E = E} 64 text (Err e) h (natural_digits text natural) in
    let some = natural_length text natural in
    let past = λ (lt : number_on 0 text < 2 ^ 64). parts (some, lt) in
    grind (arith, nat_tests)

-- a text that spells no natural number
pub none_within : (bound : ℕ) (text : List ℕ) → is_natural text ≡ false → natural_below bound text ≡ None
unfolding natural_below
none_within bound text none = rw none refl

-- a number that isn't below a bound isn't below a smaller one
pub below_less : (less more : ℕ) (text : List ℕ) → natural_below more text ≡ None → less ≤ more → natural_below less text ≡ None
unfolding natural_below
below_less less more text none le = grind (arith, nat_tests)

-- ## What `try_from` gives

fits_signed : (w : Width) (z : ℤ) → FitsSigned w z → if_fits w z ≡ Some z
fits_signed w (pos n) h = fits_pos w n (omega arith)
fits_signed w (negsuc n) h = fits_neg w (suc n) (omega arith)

fits_not_signed : (w : Width) (z : ℤ) → (FitsSigned w z → ⊥) → if_fits w z ≡ None
fits_not_signed w (pos n) h = fits_not_pos w n (λ lt. h (record { sfits = lt }))
fits_not_signed w (negsuc n) h = fits_not_neg w (suc n) (λ le. h (record { sfits = omega arith }))

-- a number that fits is itself
some_is : (w : Width) (z n : ℤ) → if_fits w z ≡ Some n → z ≡ n
some_is w z n e = (cond_some (int_eq (saturate_signed w z) z) z n e).1

-- what doesn't fit 64 bits fits no narrower width
none_narrower : (w : Width) (z : ℤ) → 2 ^ hbits w ≤ 2 ^ 63 → if_fits w64 z ≡ None → if_fits w z ≡ None
none_narrower w (pos n) narrow e = grind (arith, nat_tests)
none_narrower w (negsuc n) narrow e = grind (arith, nat_tests)

pub narrowed_some : {E : Type 0} (w : Width) (text : List ℕ) (n : ℤ) (r : Result ℤ E) → number w64 text ≡ Some n → OkIff r (FitsSigned w n) n → result_ok r ≡ number w text
unfolding number
narrowed_some w text n r wide h = go (spelled text) wide
  where
    go : (o : Option ℤ) → option_and_then (if_fits w64) o ≡ Some n → result_ok r ≡ option_and_then (if_fits w) o
    go None some = cc
    go (Some z) some = rw (some_is w64 z n some) (ok_if_fits w r (FitsSigned w n) n h (fits_signed w n) (fits_not_signed w n))

pub narrowed_none : (w : Width) (text : List ℕ) → number w64 text ≡ None → 2 ^ hbits w ≤ 2 ^ 63 → number w text ≡ None
unfolding number
narrowed_none w text wide narrow = go (spelled text) wide
  where
    go : (o : Option ℤ) → option_and_then (if_fits w64) o ≡ None → option_and_then (if_fits w) o ≡ None
    go None none = refl
    go (Some z) none = none_narrower w z narrow none

pub ruleset below = (parsed_within_32, parsed_within_64, none_within, below_less)

pub ruleset narrowed = (narrowed_some, narrowed_none)
