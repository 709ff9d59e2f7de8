-- The texts of time are ASCII.
use Rattle.std.proofs.Common.{ℕ, ◌+◌, ◌/◌, ◌%◌, [], ◌∷◌, ◌++◌, IsUtf8, arith, codes}
use Rattle.std.specs.Str.{IsAscii}
use Rattle.std.proofs.lemmas.Str.{IsAscii-append, IsUtf8-from_ascii}
use Rattle.std.proofs.lemmas.Str.Ascii.{IsAscii-cons, IsAscii-nil}
use Rattle.smithy_core.specs.CivilText.{date_of, stamp_of, two_digits}
use Rattle.smithy_core.specs.declared.civil_text.Civil.{Civil}

digits_ascii : (n m : ℕ) → IsAscii ((48 + n % 10) ∷ (48 + m % 10) ∷ [])
digits_ascii n m = IsAscii-cons (48 + n % 10) ((48 + m % 10) ∷ []) (omega arith) (IsAscii-cons (48 + m % 10) [] (omega arith) IsAscii-nil)

two_digits_ascii : (n : ℕ) → IsAscii (two_digits n)
two_digits_ascii n = digits_ascii (n / 10) n

pub date_ascii : (c : Civil) → IsAscii (date_of c)
unfolding date_of
date_ascii c =
    let year = two_digits (c.year / 100) ++ two_digits c.year in
    let year_ascii = IsAscii-append (two_digits (c.year / 100)) (two_digits c.year) (two_digits_ascii (c.year / 100)) (two_digits_ascii c.year) in
    let month_ascii = IsAscii-append year (two_digits c.month) year_ascii (two_digits_ascii c.month) in
    IsAscii-append (year ++ two_digits c.month) (two_digits c.day) month_ascii (two_digits_ascii c.day)

pub date_utf8 : (c : Civil) → IsUtf8 (date_of c)
date_utf8 c = IsUtf8-from_ascii (date_of c) (date_ascii c)

pub stamp_utf8 : (c : Civil) → IsUtf8 (stamp_of c)
unfolding stamp_of
stamp_utf8 c =
    let hour = two_digits c.hour in
    let minute = two_digits c.minute in
    let second = two_digits c.second in
    let letter_t = IsAscii-append (date_of c) (codes "T") (date_ascii c) (IsAscii-cons 84 [] (omega arith) IsAscii-nil) in
    let to_hour = IsAscii-append (date_of c ++ codes "T") hour letter_t (two_digits_ascii c.hour) in
    let to_minute = IsAscii-append (date_of c ++ codes "T" ++ hour) minute to_hour (two_digits_ascii c.minute) in
    let to_second = IsAscii-append (date_of c ++ codes "T" ++ hour ++ minute) second to_minute (two_digits_ascii c.second) in
    IsUtf8-from_ascii (stamp_of c) (IsAscii-append (date_of c ++ codes "T" ++ hour ++ minute ++ second) (codes "Z") to_second (IsAscii-cons 90 [] (omega arith) IsAscii-nil))
