-- The text of a UUID.
use Rattle.std.proofs.Common.{◌≡◌, ℕ, zero, suc, ◌+◌, ◌-◌, ◌/◌, ◌%◌, ◌<◌, ◌==◌, Bool, true, false, if◌then◌else◌, List, [], ◌∷◌, IsTrue, arith, length, nat_lt, refl, slice_index}
use Rattle.std.proofs.lemmas.Bool.Decides.{nat_tests}
use Rattle.std.proofs.lemmas.List.Elements.{All-append}
use Rattle.http_header.specs.Token.{AllPass, is_value_byte}
use Rattle.smithy_core.specs.HeaderGrammar.{IsHeaderValue}
use Rattle.uuid.specs.Text.{by_index, digit_place, hex_digit, hyphen, hyphenated_text, is_hyphen_place, lower, nibble}
use Rattle.uuid.proofs.TextLemmas.{by_index_length}

-- it has 36 characters
pub id_length : (letter : ℕ) (xs : List ℕ) → length (hyphenated_text letter xs) ≡ 36
id_length letter xs = by_index_length 36 _

-- a digit in lower case, or a hyphen
digit_passes : (d : ℕ) → d < 16 → IsTrue (is_value_byte (hex_digit lower d))
digit_passes d small = by_size (nat_lt d 10) refl
  where
    by_size : (low : Bool) → nat_lt d 10 ≡ low → IsTrue (is_value_byte (if low then 48 + d else lower + d - 10))
    by_size true is_low = grind (arith, nat_tests)
    by_size false is_low = grind (arith, nat_tests)

one_passes : (b : ℕ) → IsTrue (is_value_byte b) → AllPass is_value_byte (b ∷ [])
one_passes b passes zero d below = passes
one_passes b passes (suc k) d below = absurd (omega arith)

all_by_index : (n : ℕ) (f : ℕ → ℕ) → ((k : ℕ) → IsTrue (is_value_byte (f k))) → AllPass is_value_byte (by_index n f)
unfolding by_index
all_by_index zero f each = λ k d below. absurd (omega arith)
all_by_index (suc n) f each =
    All-append (λ b. IsTrue (is_value_byte b)) (by_index n f) (f n ∷ []) (all_by_index n f each) (one_passes (f n) (each n))

nibble_small : (xs : List ℕ) (k : ℕ) → nibble xs k < 16
nibble_small xs k = by_half (k % 2 == 0)
  where
    by_half : (high : Bool) → (if high then slice_index xs (k / 2) / 16 % 16 else slice_index xs (k / 2) % 16) < 16
    by_half true = omega arith
    by_half false = omega arith

place_passes : (xs : List ℕ) (k : ℕ) (here : Bool)
    → IsTrue (is_value_byte (if here then hyphen else hex_digit lower (nibble xs (digit_place k))))
place_passes xs k true = refl
place_passes xs k false = digit_passes (nibble xs (digit_place k)) (nibble_small xs (digit_place k))

-- it is a header's value
pub id_is_value : (xs : List ℕ) → IsHeaderValue (hyphenated_text lower xs)
id_is_value xs = all_by_index 36 _ (λ k. place_passes xs k (is_hyphen_place k))
