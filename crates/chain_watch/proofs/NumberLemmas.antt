-- Bytes, written again from the number that they spell.
use Rattle.std.proofs.Common.{◌≡◌, ℕ, zero, suc, ◌+◌, ◌-◌, ◌*◌, ◌/◌, ◌%◌, ◌<◌, ◌≤◌, ◌^◌, ℤ, List, [], ◌∷◌, length, All, refl, sym, ap, ◌∙◌, arith, slice_index}
use mir.Val.{bits}
use Rattle.std.specs.Int.{Width, w8, w16, w32, w64, w128, byte_at, byte_len, byte_worth, bytes_high_first, from_be_bytes, sum_through, to_be_bytes}
use Rattle.std.proofs.Math.Nat.{add-mul, mul_assoc, mul_comm, pow-suc}
use Rattle.std.proofs.lemmas.Nat.{div-mul-add, mod-mul-add}
use Rattle.std.proofs.lemmas.List.Elements.{All-head, All-tail}
use Rattle.jiff_core.proofs.SignedLemmas.{signed_arith}
use Rattle.smithy_core.specs.Moment.{at_ms, floor_ms}
use Rattle.eventstream.specs.Read.{big_endian}
use Rattle.chain_watch.specs.Chain.{IsByte}

-- what bytes are worth, the highest first
abbrev worth : List ℕ → ℕ
worth [] = 0
worth (b ∷ bytes) = b * 256 ^ length bytes + worth bytes

worth_below : (bytes : List ℕ) → All IsByte bytes → worth bytes < 256 ^ length bytes
worth_below [] small = omega arith
worth_below (b ∷ bytes) small =
    let head : b < 256 = All-head IsByte b bytes small in
    let others = worth_below bytes (All-tail IsByte b bytes small) in
    let power = pow-suc 256 (length bytes) in
    let most : 255 - b + b ≡ 255 = omega arith in
    let scaled : b * 256 ^ length bytes ≤ 255 * 256 ^ length bytes =
    omega (arith, add-mul (255 - b) b (256 ^ length bytes), ap (λ (x : ℕ). x * 256 ^ length bytes) most) in
    omega (arith, others, power, scaled)

byte_is : (low p b high n : ℕ) → low < p → b < 256 → n ≡ (high * 256 + b) * p + low → n / p % 256 ≡ b
byte_is low p b high n below small is =
    ap (λ (m : ℕ). m / p % 256) is ∙ ap (λ (m : ℕ). m % 256) (div-mul-add (high * 256 + b) p low below) ∙ mod-mul-add high 256 b small

by_place : (k n : ℕ) → byte_at k n ≡ n / 256 ^ k % 256
by_place zero n = ap (λ (m : ℕ). m % 256) (omega arith)
by_place (suc k) n = refl

-- bytes are those of their worth, whatever stands above them
bytes_again : (bytes : List ℕ) (high n : ℕ) → All IsByte bytes → n ≡ high * 256 ^ length bytes + worth bytes → bytes_high_first (length bytes) n ≡ bytes
bytes_again [] high n small is = refl
bytes_again (b ∷ bytes) high n small is =
    let p = 256 ^ length bytes in
    let head : b < 256 = All-head IsByte b bytes small in
    let tail = All-tail IsByte b bytes small in
    let whole : n ≡ high * 256 ^ suc (length bytes) + (b * p + worth bytes) = is in
    let above : high * 256 ^ suc (length bytes) ≡ high * 256 * p =
    rw (pow-suc 256 (length bytes)) (ap (λ (x : ℕ). high * x) (mul_comm p 256) ∙ sym (mul_assoc high 256 p)) in
    let split : n ≡ (high * 256 + b) * p + worth bytes = omega (arith, whole, above, add-mul (high * 256) b p) in
    let first : byte_at (length bytes) n ≡ b = by_place (length bytes) n ∙ byte_is (worth bytes) p b high n (worth_below bytes tail) head split in
    rw (first, bytes_again bytes (high * 256 + b) n tail split) refl

sum_alike : (f g : ℕ → ℕ) (k : ℕ) → ((i : ℕ) → f i ≡ g i) → sum_through f k ≡ sum_through g k
sum_alike f g zero same = same 0
sum_alike f g (suc k) same = rw (sum_alike f g k same, same (suc k)) refl

sum_first : (f : ℕ → ℕ) (k : ℕ) → sum_through f (suc k) ≡ f 0 + sum_through (λ i. f (suc i)) k
sum_first f zero = refl
sum_first f (suc k) = rw (sum_first f k) (omega arith)

worth_at : (k b : ℕ) → byte_worth k b ≡ b * 256 ^ k
worth_at zero b = omega arith
worth_at (suc k) b = refl

-- the number that bytes spell is what they are worth
sum_worth : (b : ℕ) (bytes : List ℕ) → sum_through (λ i. byte_worth (length bytes - i) (slice_index (b ∷ bytes) i)) (length bytes) ≡ worth (b ∷ bytes)
sum_worth b [] = omega arith
sum_worth b (c ∷ bytes) =
    let later : (i : ℕ) → byte_worth (suc (length bytes) - suc i) (slice_index (c ∷ bytes) i) ≡ byte_worth (length bytes - i) (slice_index (c ∷ bytes) i) =
    λ i. ap (λ (k : ℕ). byte_worth k (slice_index (c ∷ bytes) i)) (omega arith) in
    let at = λ (i : ℕ). byte_worth (suc (length bytes) - i) (slice_index (b ∷ c ∷ bytes) i) in
    let place : suc (length bytes) - 0 ≡ suc (length bytes) = omega arith in
    let head : at 0 ≡ b * 256 ^ suc (length bytes) = ap (λ (k : ℕ). byte_worth k b) place ∙ worth_at (suc (length bytes)) b in
    let others : sum_through (λ i. at (suc i)) (length bytes) ≡ worth (c ∷ bytes) =
    sum_alike (λ i. at (suc i)) (λ i. byte_worth (length bytes - i) (slice_index (c ∷ bytes) i)) (length bytes) later ∙ sum_worth c bytes in
    sum_first at (length bytes) ∙ ap (λ (first : ℕ). first + sum_through (λ i. at (suc i)) (length bytes)) head
    ∙ ap (λ (rest : ℕ). b * 256 ^ suc (length bytes) + rest) others

from_worth : (w : Width) (bytes : List ℕ) → length bytes ≡ byte_len w → 1 ≤ length bytes → from_be_bytes w bytes ≡ worth bytes
from_worth w [] len some = absurd (omega arith)
from_worth w (b ∷ bytes) len some =
    let less : byte_len w - 1 ≡ length bytes = omega (arith, len) in
    rw less (sum_worth b bytes)

some_bytes : (w : Width) → 1 ≤ byte_len w
some_bytes w8 = omega arith
some_bytes w16 = omega arith
some_bytes w32 = omega arith
some_bytes w64 = omega arith
some_bytes w128 = omega arith

all_bits : (w : Width) → 256 ^ byte_len w ≡ 2 ^ bits w
all_bits w8 = refl
all_bits w16 = refl
all_bits w32 = refl
all_bits w64 = refl
all_bits w128 = refl

-- bytes are written again from the number that they spell
pub bytes_spelled : (w : Width) (bytes : List ℕ) → length bytes ≡ byte_len w → All IsByte bytes → to_be_bytes w (big_endian w bytes) ≡ bytes
unfolding big_endian
bytes_spelled w bytes len small =
    let some : 1 ≤ length bytes = omega (arith, len, some_bytes w) in
    rw (from_worth w bytes len some, ← len) (bytes_again bytes 0 (worth bytes) small (omega arith))

-- the number fits the width
pub number_fits : (w : Width) (bytes : List ℕ) → length bytes ≡ byte_len w → All IsByte bytes → big_endian w bytes < 2 ^ bits w
unfolding big_endian
number_fits w bytes len small =
    let some : 1 ≤ length bytes = omega (arith, len, some_bytes w) in
    let below = worth_below bytes small in
    rw (from_worth w bytes len some, ← all_bits w, ← len) below

-- the whole milliseconds of the moment of a number of them
pub ms_again : (ms : ℤ) → floor_ms (at_ms ms) ≡ ms
ms_again ms = omega (arith, signed_arith)
