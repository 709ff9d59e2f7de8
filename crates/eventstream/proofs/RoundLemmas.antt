-- Values and headers, read back from their spellings.
use Rattle.std.proofs.Common.{◌≡◌, ℕ, ◌+◌, ◌/◌, ◌%◌, ◌*◌, ◌<◌, ◌≤◌, ◌^◌, ℤ, List, [], ◌∷◌, ◌++◌, length, drop, true, false, nat_le, nat_lt, map, ◌-◌, zero, suc, Option, Some, None, Ok, if◌then◌else◌, FitsSigned, IsUtf8, refl, sym, ap, ◌∙◌, append_assoc, arith, length-append, slice_index}
use Rattle.std.specs.Int.{Width, w8, w16, w32, w64, w128, byte_at, byte_len, byte_worth, cast_signed, cast_unsigned, from_be_bytes, to_be_bytes, saturate_signed}
use Rattle.std.specs.List.{AllByRecursion}
use Rattle.std.specs.Option.{option_or}
use Rattle.std.specs.Ordering.{int_eq}
use Rattle.std.proofs.Math.Nat.{add-mul, div-div-eq-div-mul, mod-add-div', mul_assoc, mul_comm, pow-suc}
use Rattle.std.proofs.lemmas.Bool.{le-ltb, lt-leb}
use Rattle.std.proofs.lemmas.Bool.Decides.{nat_tests}
use Rattle.std.proofs.lemmas.Int.{ints, to_z-of_z}
use Rattle.std.proofs.lemmas.List.{take_at, drop_at}
use Rattle.std.proofs.lemmas.Nat.{from_be_bytes-to_be_bytes_2, from_be_bytes-to_be_bytes_4, from_be_bytes-to_be_bytes_8}
use Rattle.smithy_core.proofs.InstantLemmas.{at_ms-floor_ms}
use Rattle.smithy_core.proofs.TextLemmas.{is_text}
use Rattle.smithy_core.specs.Moment.{Instant, at_ms, floor_ms}
use Rattle.smithy_core.specs.Header.{Header}
use Rattle.smithy_core.specs.declared.header.HeaderValue.{HeaderValue}
use Rattle.smithy_core.specs.declared.header.HeaderValue.TheVariants.{Bool as Truth, Byte, Int16, Int32, Int64, ByteArray, String as Text, Timestamp, Uuid}
use Rattle.eventstream.specs.declared.error.ErrorKind.{ErrorKind}
use Rattle.eventstream.specs.declared.error.ErrorKind.TheVariants.{HeaderValueTooLong, TimestampValueTooLarge}
use Rattle.eventstream.specs.Frame.{block, first_unspelled, spelling, unspelled, unspelled_value, value_spelling}
use Rattle.eventstream.specs.Laws.{IsProperHeader, IsProperValue, floored_header, floored_value}
use Rattle.eventstream.specs.Read.{array_of, big_endian, counted_of, front_of, header_of, header_within, headers_within, header_name_of, number_of, text_value_of, value_of}

-- ## Numbers

-- a sum, and what the bytes of a number from byte k down are worth
abbrev with_low : ℕ → ℕ → ℕ → ℕ
with_low n sum zero = sum + byte_worth 0 (byte_at 0 n)
with_low n sum (suc k) = with_low n (sum + byte_worth (suc k) (byte_at (suc k) n)) k

-- with what is above them they make up the number
low_again : (n sum k : ℕ) → with_low n sum k + n / 256 ^ suc k * 256 ^ suc k ≡ sum + n
low_again n sum zero = omega arith
low_again n sum (suc k) =
    let worth = 256 ^ suc k in
    let high = n / worth in
    let below = low_again n (sum + high % 256 * worth) k in
    let split : high * worth ≡ high % 256 * worth + high / 256 * 256 * worth =
    ap (λ (x : ℕ). x * worth) (sym (mod-add-div' high 256)) ∙ add-mul (high % 256) (high / 256 * 256) worth in
    let above : n / 256 ^ suc (suc k) * 256 ^ suc (suc k) ≡ high / 256 * 256 * worth =
    rw (pow-suc 256 (suc k), ← div-div-eq-div-mul n worth 256) (ap (λ (x : ℕ). high / 256 * x) (mul_comm worth 256) ∙ sym (mul_assoc (high / 256) 256 worth)) in
    omega (arith, below, split, above)

cancelled : (low high above n : ℕ) → low + above ≡ high + n → high ≡ above → low ≡ n
cancelled low high above n sum same = omega arith

from_be_bytes-to_be_bytes_16 : (n : ℕ) → n < 2 ^ 128 → from_be_bytes w128 (to_be_bytes w128 n) ≡ n
from_be_bytes-to_be_bytes_16 n fits =
    cancelled _ (byte_worth 15 (byte_at 15 n)) (n / 256 ^ 15 * 256 ^ 15) n (low_again n (byte_worth 15 (byte_at 15 n)) 14) (omega arith)

-- a number of this width is read back from its bytes
pub record IsWide (w : Width) (limit : ℕ) : Type 0 where
  pub len : (n : ℕ) → length (to_be_bytes w n) ≡ byte_len w
  pub again : (n : ℕ) → n < limit → big_endian w (to_be_bytes w n) ≡ n
  pub signed : (z : ℤ) → FitsSigned w z → cast_unsigned w z < limit

wide8 : IsWide w8 (2 ^ 8)
unfolding big_endian
wide8 = record { len = λ n. refl; again = λ n fits. omega arith; signed = λ z fits. omega (arith, ints) }

wide16 : IsWide w16 (2 ^ 16)
unfolding big_endian
wide16 = record { len = λ n. refl; again = from_be_bytes-to_be_bytes_2; signed = λ z fits. omega (arith, ints) }

pub wide32 : IsWide w32 (2 ^ 32)
unfolding big_endian
wide32 = record { len = λ n. refl; again = from_be_bytes-to_be_bytes_4; signed = λ z fits. omega (arith, ints) }

wide64 : IsWide w64 (2 ^ 64)
unfolding big_endian
wide64 = record { len = λ n. refl; again = from_be_bytes-to_be_bytes_8; signed = λ z fits. omega (arith, ints) }

wide128 : IsWide w128 (2 ^ 128)
unfolding big_endian
wide128 = record { len = λ n. refl; again = from_be_bytes-to_be_bytes_16; signed = λ z fits. omega (arith, ints) }

-- ## Values

-- so many bytes are the front, whatever follows them
front_again : (front rest : List ℕ) (n : ℕ) → length front ≡ n → front_of n (front ++ rest) ≡ Ok (front, rest)
unfolding front_of
front_again front rest n len =
    let long : nat_lt (length (front ++ rest)) n ≡ false = le-ltb _ _ (omega (arith, length-append front rest)) in
    rw (long, take_at front rest n len, drop_at front rest n len) refl

number_again : (w : Width) (limit n : ℕ) (value : ℕ → HeaderValue) (rest : List ℕ) → IsWide w limit → n < limit
    → number_of w value (to_be_bytes w n ++ rest) ≡ Ok (value n, rest)
unfolding number_of
number_again w limit n value rest wide fits =
    rw (front_again (to_be_bytes w n) rest (byte_len w) (wide.len n), wide.again n fits) refl

signed_again : (w : Width) (limit : ℕ) (z : ℤ) (value : ℤ → HeaderValue) (rest : List ℕ) → IsWide w limit → FitsSigned w z
    → number_of w (λ n. value (cast_signed w n)) (to_be_bytes w (cast_unsigned w z) ++ rest) ≡ Ok (value z, rest)
signed_again w limit z value rest wide fits =
    number_again w limit (cast_unsigned w z) (λ n. value (cast_signed w n)) rest wide (wide.signed z fits)
    ∙ ap (λ (back : ℤ). Ok (value back, rest)) (to_z-of_z w z fits)

counted_again : (bytes rest : List ℕ) → length bytes < 2 ^ 16 → 1 ≤ length rest
    → counted_of (to_be_bytes w16 (length bytes) ++ bytes ++ rest) ≡ Ok (bytes, rest)
unfolding counted_of
counted_again bytes rest short more =
    let long : nat_lt (length (to_be_bytes w16 (length bytes) ++ bytes ++ rest)) 3 ≡ false = le-ltb _ _ (omega (arith, length-append bytes rest)) in
    rw (long, wide16.again (length bytes) short) (front_again bytes rest (length bytes) refl)

array_again : (bytes rest : List ℕ) → length bytes < 2 ^ 16 → 1 ≤ length rest
    → array_of (to_be_bytes w16 (length bytes) ++ bytes ++ rest) ≡ Ok (ByteArray bytes, rest)
unfolding array_of
array_again bytes rest short more = rw (counted_again bytes rest short more) refl

text_again : (text rest : List ℕ) → length text < 2 ^ 16 → IsUtf8 text → 1 ≤ length rest
    → text_value_of (to_be_bytes w16 (length text) ++ text ++ rest) ≡ Ok (Text text, rest)
unfolding text_value_of
text_again text rest short utf8 more = rw (counted_again text rest short more, is_text text utf8) refl

-- a byte array or a text with a spelling isn't too long
short_again : (n : ℕ) (kind : ErrorKind) → (if nat_lt 32767 n then Some kind else None) ≡ None → n < 2 ^ 16
short_again n kind spelled = grind (arith, nat_tests)

-- the whole milliseconds of a moment with a spelling fit 64 bits
fits_again : (ms : ℤ) (kind : ErrorKind) → (if int_eq (saturate_signed w64 ms) ms then None else Some kind) ≡ None → FitsSigned w64 ms
fits_again ms kind spelled = grind (arith, ints)

-- a value is read back from its spelling, a moment floored
pub value_again : (value : HeaderValue) (rest : List ℕ) → IsProperValue value → unspelled_value value ≡ None → 1 ≤ length rest
    → value_of (slice_index (value_spelling value ++ rest) 0) (drop 1 (value_spelling value ++ rest)) ≡ Ok (floored_value value, rest)
unfolding value_of value_spelling unspelled_value
value_again (Truth true) rest proper spelled more = refl
value_again (Truth false) rest proper spelled more = refl
value_again (Byte n) rest proper spelled more = signed_again w8 (2 ^ 8) n Byte rest wide8 proper
value_again (Int16 n) rest proper spelled more = signed_again w16 (2 ^ 16) n Int16 rest wide16 proper
value_again (Int32 n) rest proper spelled more = signed_again w32 (2 ^ 32) n Int32 rest wide32 proper
value_again (Int64 n) rest proper spelled more = signed_again w64 (2 ^ 64) n Int64 rest wide64 proper
value_again (ByteArray bytes) rest proper spelled more = array_again bytes rest (short_again (length bytes) HeaderValueTooLong spelled) more
value_again (Text text) rest proper spelled more = text_again text rest (short_again (length text) HeaderValueTooLong spelled) proper more
value_again (Timestamp t) rest proper spelled more =
    signed_again w64 (2 ^ 64) (floor_ms t) (λ ms. Timestamp (at_ms ms)) rest wide64 (fits_again (floor_ms t) (TimestampValueTooLarge t) spelled)
    ∙ ap (λ (back : Instant). Ok (Timestamp back, rest)) (at_ms-floor_ms t proper)
value_again (Uuid n) rest proper spelled more = number_again w128 (2 ^ 128) n Uuid rest wide128 proper

-- ## Headers

-- with neither of two faults
pub both_none : (first second : Option ErrorKind) → option_or first second ≡ None → (first ≡ None) × (second ≡ None)
both_none None second none = (refl, none)
both_none (Some kind) second none = absurd cc

name_again : (name rest : List ℕ) → IsUtf8 name → 1 ≤ length rest → header_name_of (length name ∷ name ++ rest) ≡ Ok (name, rest)
unfolding header_name_of
name_again name rest utf8 more =
    let two : nat_lt (length (length name ∷ name ++ rest)) 2 ≡ false = le-ltb _ _ (omega (arith, length-append name rest)) in
    let room : nat_le (length (length name ∷ name ++ rest) - 1) (length name) ≡ false = lt-leb _ _ (omega (arith, length-append name rest)) in
    rw (two, room, take_at name rest (length name) refl, drop_at name rest (length name) refl, is_text name utf8) refl

header_again : (h : Header) (rest : List ℕ) → IsProperHeader h → unspelled h ≡ None → 1 ≤ length rest → header_of (spelling h ++ rest) ≡ Ok (floored_header h, rest)
unfolding header_of
header_again h rest proper spelled more =
    let parts : spelling h ++ rest ≡ length h.name ∷ h.name ++ (value_spelling h.value ++ rest) =
    ap (λ (bytes : List ℕ). length h.name ∷ bytes) (append_assoc h.name (value_spelling h.value) rest) in
    let longer : 1 ≤ length (value_spelling h.value ++ rest) = omega (arith, length-append (value_spelling h.value) rest) in
    ap header_of parts ∙ rw (name_again h.name (value_spelling h.value ++ rest) proper.name longer, value_again h.value rest proper.value (both_none _ (unspelled_value h.value) spelled).1 more) refl

-- a header within a block takes its spelling
within_again : (left : ℕ) (h : Header) (rest : List ℕ) → IsProperHeader h → unspelled h ≡ None → 1 ≤ length rest → length (spelling h) ≤ left
    → header_within left (spelling h ++ rest) ≡ Ok (floored_header h, rest)
unfolding header_within
within_again left h rest proper spelled more enough =
    let inside : nat_lt left (length (spelling h ++ rest) - length rest) ≡ false = le-ltb _ _ (omega (arith, length-append (spelling h) rest)) in
    rw (header_again h rest proper spelled more, inside) refl

-- the headers of a block are read back from it, whatever follows it
pub headers_again : (most : ℕ) (headers : List Header) (tail : List ℕ) → AllByRecursion IsProperHeader headers → first_unspelled headers ≡ None
    → 1 ≤ length tail → length (block headers) ≤ most → headers_within most (length (block headers)) (block headers ++ tail) ≡ Ok (map floored_header headers)
unfolding headers_within
headers_again zero [] tail proper spelled more enough = refl
headers_again (suc most) [] tail proper spelled more enough = refl
headers_again zero (h ∷ hs) tail proper spelled more enough = absurd (omega arith)
headers_again (suc most) (h ∷ hs) tail proper spelled more enough =
    let none = both_none (unspelled h) (first_unspelled hs) spelled in
    let parts : block (h ∷ hs) ++ tail ≡ spelling h ++ (block hs ++ tail) = append_assoc (spelling h) (block hs) tail in
    let whole = length-append (spelling h) (block hs) in
    let longer : 1 ≤ length (block hs ++ tail) = omega (arith, length-append (block hs) tail) in
    let one = within_again (length (block (h ∷ hs))) h (block hs ++ tail) proper.0 none.0 longer (omega arith) in
    let left : length (block (h ∷ hs)) - (length (spelling h ++ (block hs ++ tail)) - length (block hs ++ tail)) ≡ length (block hs) =
    omega (arith, length-append (spelling h) (block hs ++ tail)) in
    let others = headers_again most hs tail proper.1 none.1 more (omega arith) in
    ap (headers_within (suc most) (length (block (h ∷ hs)))) parts ∙ rw (one, left, others) refl
