-- Steps of the checksum are linear: what they leave of a xor is the xor of what they leave.
use Rattle.std.proofs.Common.{◌≡◌, ℕ, zero, suc, ◌+◌, ◌-◌, ◌*◌, ◌/◌, ◌%◌, ◌<◌, ◌^◌, List, [], ◌∷◌, length, refl, sym, ap, ◌∙◌, inl, inr, ◌⊎◌, arith}
use Rattle.std.specs.Prelude.{bit_xor}
use Rattle.std.proofs.lemmas.Bool.{cases_lt}
use Rattle.std.proofs.lemmas.Nat.{xor_comm, xor_shr, xor_block, xor_lt}
use Rattle.std.proofs.lemmas.Nat.Bits.{bit_at_xor}
use lib.Bits.{xor_assoc, xor_self, xor_zero_r}
use Rattle.mac_core.specs.Crc.{after_bit, after_bits, after_bytes}

xor_swap : (a b c : ℕ) → bit_xor (bit_xor a b) c ≡ bit_xor (bit_xor a c) b
xor_swap a b c = xor_assoc a b c ∙ ap (bit_xor a) (xor_comm b c) ∙ sym (xor_assoc a c b)

xor_zero_l : (a : ℕ) → bit_xor 0 a ≡ a
xor_zero_l a = xor_comm 0 a ∙ xor_zero_r a

xor_twice : (a b p : ℕ) → bit_xor (bit_xor a p) (bit_xor b p) ≡ bit_xor a b
xor_twice a b p = sym (xor_assoc (bit_xor a p) b p) ∙ ap (λ (x : ℕ). bit_xor x p) (xor_swap a p b) ∙ xor_assoc (bit_xor a b) p p ∙ ap (bit_xor (bit_xor a b)) (xor_self p) ∙ xor_zero_r (bit_xor a b)

pub parity : (n : ℕ) → (n % 2 ≡ 0) ⊎ (n % 2 ≡ 1)
parity n = elim (cases_lt (n % 2) 1) [ inl l ↦ inl (omega arith) | inr l ↦ inr (omega arith) ]

lowest : (a b : ℕ) → bit_xor a b % 2 ≡ (a + b) % 2
lowest a b = omega (arith, bit_at_xor a b 0)

halved : (a b : ℕ) → bit_xor a b / 2 ≡ bit_xor (a / 2) (b / 2)
halved a b = xor_shr a b 1

pub even_bit : (r byte : ℕ) → (byte + r) % 2 ≡ 0 → after_bit r byte ≡ r / 2
even_bit r byte e = rw e refl

pub odd_bit : (r byte : ℕ) → (byte + r) % 2 ≡ 1 → after_bit r byte ≡ bit_xor (r / 2) 0xEDB88320
odd_bit r byte e = rw e refl

pub in_place : {a b c a' b' c' : ℕ} → a ≡ a' → b ≡ b' → c ≡ c' → a' ≡ bit_xor b' c' → a ≡ bit_xor b c
in_place e f g h = rw (e, f, g) h

bit_linear : (x y b : ℕ) → after_bit (bit_xor x y) b ≡ bit_xor (after_bit x 0) (after_bit y b)
bit_linear x y b = elim (parity x) [
  | inl i ↦ elim (parity (b + y)) [
    | inl j ↦ in_place (even_bit (bit_xor x y) b (omega (arith, lowest x y))) (even_bit x 0 (omega arith)) (even_bit y b j) (halved x y)
    | inr j ↦ in_place (odd_bit (bit_xor x y) b (omega (arith, lowest x y))) (even_bit x 0 (omega arith)) (odd_bit y b j) (ap (λ (z : ℕ). bit_xor z 0xEDB88320) (halved x y) ∙ xor_assoc (x / 2) (y / 2) 0xEDB88320)
  ]
  | inr i ↦ elim (parity (b + y)) [
    | inl j ↦ in_place (odd_bit (bit_xor x y) b (omega (arith, lowest x y))) (odd_bit x 0 (omega arith)) (even_bit y b j) (ap (λ (z : ℕ). bit_xor z 0xEDB88320) (halved x y) ∙ xor_swap (x / 2) (y / 2) 0xEDB88320)
    | inr j ↦ in_place (even_bit (bit_xor x y) b (omega (arith, lowest x y))) (odd_bit x 0 (omega arith)) (odd_bit y b j) (halved x y ∙ sym (xor_twice (x / 2) (y / 2) 0xEDB88320))
  ]
]

pub linear : (k x y b : ℕ) → after_bits k (bit_xor x y) b ≡ bit_xor (after_bits k x 0) (after_bits k y b)
unfolding after_bits
linear zero x y b = refl
linear (suc k) x y b = ap (λ (z : ℕ). after_bits k z (b / 2)) (bit_linear x y b) ∙ linear k (after_bit x 0) (after_bit y b) (b / 2)

-- a bit of the byte xored into the register in advance
into_register : (r b : ℕ) → after_bit (bit_xor r b) 0 ≡ bit_xor (after_bit r b) (b / 2)
into_register r b = elim (parity (b + r)) [
  | inl i ↦ in_place (even_bit (bit_xor r b) 0 (omega (arith, lowest r b))) (even_bit r b i) refl (halved r b)
  | inr i ↦ in_place (odd_bit (bit_xor r b) 0 (omega (arith, lowest r b))) (odd_bit r b i) refl (ap (λ (z : ℕ). bit_xor z 0xEDB88320) (halved r b) ∙ xor_swap (r / 2) (b / 2) 0xEDB88320)
]

merged : (k r b : ℕ) → b < 2 ^ k → after_bits k r b ≡ after_bits k (bit_xor r b) 0
unfolding after_bits
merged zero r b l = let e : b ≡ 0 = omega arith in rw e (sym (xor_zero_r r))
merged (suc k) r b l = merged k (after_bit r b) (b / 2) (omega arith) ∙ ap (λ (z : ℕ). after_bits k z 0) (sym (into_register r b))

-- what k bits of 0 leave of a number whose lowest k bits are 0
shifted_out : (k a : ℕ) → after_bits k (a * 2 ^ k) 0 ≡ a
unfolding after_bits
shifted_out zero a = omega arith
shifted_out (suc k) a = ap (λ (z : ℕ). after_bits k z 0) (twice (a * 2 ^ k) (a * 2 ^ suc k) (times a (2 ^ k) (2 ^ suc k) (omega arith))) ∙ shifted_out k a
  where
    twice : (m n : ℕ) → n ≡ 2 * m → after_bit n 0 ≡ m
    twice m n e = even_bit n 0 (omega arith) ∙ omega arith

    times : (a p q : ℕ) → q ≡ 2 * p → a * q ≡ 2 * (a * p)
    times a p q e = rw e (omega arith)

pub none_left : (x : ℕ) → after_bits 0 x 0 ≡ x
unfolding after_bits
none_left x = refl

pub joined : (n j k x : ℕ) → n ≡ j + k → after_bits n x 0 ≡ after_bits k (after_bits j x 0) 0
unfolding after_bits
joined n zero k x e = let same : n ≡ k = omega arith in rw same refl
joined zero (suc j) k x e = absurd (omega arith)
joined (suc n) (suc j) k x e = joined n j k (after_bit x 0) (omega arith)

split_low : (x : ℕ) → x ≡ bit_xor (x / 256 * 256) (x % 256)
split_low x =
    in_place {b = x / 256 * 256} {c = x % 256} {b' = x / 256 * 2 ^ 8 + 0} {c' = 0 * 2 ^ 8 + x % 256} (parts x) (omega arith) (omega arith)
    (sym (xor_block 8 (x / 256) 0 0 (x % 256) (omega arith) (omega arith)))
  where
    parts : (x : ℕ) → x ≡ bit_xor (x / 256) 0 * 2 ^ 8 + bit_xor 0 (x % 256)
    parts x = omega (arith, xor_zero_r (x / 256), xor_zero_l (x % 256))

-- of a register, the lowest byte alone meets the byte; the others move down
byte_in : (r b : ℕ) → after_bits 8 (bit_xor r b) 0 ≡ bit_xor (after_bits 8 (bit_xor (r % 256) b) 0) (r / 256)
byte_in r b =
    ap (λ (z : ℕ). after_bits 8 z 0) (ap (λ (z : ℕ). bit_xor z b) (split_low r) ∙ xor_assoc (r / 256 * 256) (r % 256) b)
    ∙ linear 8 (r / 256 * 256) (bit_xor (r % 256) b) 0
    ∙ ap (λ (z : ℕ). bit_xor z (after_bits 8 (bit_xor (r % 256) b) 0)) (shifted_out 8 (r / 256))
    ∙ xor_comm (r / 256) (after_bits 8 (bit_xor (r % 256) b) 0)

pub byte_by_entry : (r b : ℕ) → b < 256 → after_bits 8 r b ≡ bit_xor (after_bits 8 (bit_xor (r % 256) b) 0) (r / 256)
byte_by_entry r b l = merged 8 r b l ∙ byte_in r b

-- the lowest byte of the register may be xored into the next byte in advance
absorbed : (s r b : ℕ) → b < 256 → after_bits 8 (bit_xor s r) b ≡ bit_xor (after_bits 8 s (bit_xor (r % 256) b)) (r / 256)
absorbed s r b l =
    let low : ℕ = bit_xor (r % 256) b in
    let first : ℕ = after_bits 8 s 0 in
    linear 8 s r b ∙ ap (bit_xor first) (byte_by_entry r b l) ∙ sym (xor_assoc first (after_bits 8 low 0) (r / 256))
    ∙ ap (λ (z : ℕ). bit_xor z (r / 256)) (sym (linear 8 s low 0) ∙ sym (merged 8 s low (xor_lt 8 (r % 256) b (omega arith) l)))

pub bytes_linear : (n x y : ℕ) (bytes : List ℕ) → n ≡ 8 * length bytes → after_bytes (bit_xor x y) bytes ≡ bit_xor (after_bits n x 0) (after_bytes y bytes)
bytes_linear n x y [] e = let none : n ≡ 0 = omega arith in rw none (ap (λ (z : ℕ). bit_xor z y) (sym (none_left x)))
bytes_linear n x y (b ∷ bytes) e =
    ap (λ (z : ℕ). after_bytes z bytes) (linear 8 x y b) ∙ bytes_linear (n - 8) (after_bits 8 x 0) (after_bits 8 y b) bytes (omega arith)
    ∙ ap (λ (z : ℕ). bit_xor z (after_bytes (after_bits 8 y b) bytes)) (sym (joined n 8 (n - 8) x (omega arith)))

-- the first byte, followed by zeros, and the others, from a register of 0
first_alone : (n b : ℕ) (bytes : List ℕ) → b < 256 → n ≡ 8 * length bytes + 8 → after_bytes 0 (b ∷ bytes) ≡ bit_xor (after_bits n b 0) (after_bytes 0 bytes)
first_alone n b bytes l e =
    ap (λ (z : ℕ). after_bytes z bytes) (merged 8 0 b l ∙ ap (λ (z : ℕ). after_bits 8 z 0) (xor_zero_l b) ∙ sym (xor_zero_r (after_bits 8 b 0)))
    ∙ bytes_linear (n - 8) (after_bits 8 b 0) 0 bytes (omega arith)
    ∙ ap (λ (z : ℕ). bit_xor z (after_bytes 0 bytes)) (sym (joined n 8 (n - 8) b (omega arith)))

-- a register may be xored into the first four bytes in advance
into_front : (r a b c d : ℕ) (bytes : List ℕ) → r < 2 ^ 32 → a < 256 → b < 256 → c < 256 → d < 256 → after_bytes r (a ∷ b ∷ c ∷ d ∷ bytes) ≡ after_bytes 0 (bit_xor (r % 256) a ∷ bit_xor (r / 256 % 256) b ∷ bit_xor (r / 65536 % 256) c ∷ bit_xor (r / 16777216 % 256) d ∷ bytes)
into_front r a b c d bytes short la lb lc ld =
    let s₁ : ℕ = after_bits 8 0 (bit_xor (r % 256) a) in
    let s₂ : ℕ = after_bits 8 s₁ (bit_xor (r / 256 % 256) b) in
    let s₃ : ℕ = after_bits 8 s₂ (bit_xor (r / 65536 % 256) c) in
    let s₄ : ℕ = after_bits 8 s₃ (bit_xor (r / 16777216 % 256) d) in
    let second : r / 256 / 256 ≡ r / 65536 = omega arith in
    let third : r / 65536 / 256 ≡ r / 16777216 = omega arith in
    let none : r / 16777216 / 256 ≡ 0 = omega arith in
    ap (λ (z : ℕ). after_bytes z (a ∷ b ∷ c ∷ d ∷ bytes)) (sym (xor_zero_l r))
    ∙ ap (λ (z : ℕ). after_bytes z (b ∷ c ∷ d ∷ bytes)) (absorbed 0 r a la)
    ∙ ap (λ (z : ℕ). after_bytes z (c ∷ d ∷ bytes)) (absorbed s₁ (r / 256) b lb ∙ ap (bit_xor s₂) second)
    ∙ ap (λ (z : ℕ). after_bytes z (d ∷ bytes)) (absorbed s₂ (r / 65536) c lc ∙ ap (bit_xor s₃) third)
    ∙ ap (λ (z : ℕ). after_bytes z bytes) (absorbed s₃ (r / 16777216) d ld ∙ ap (bit_xor s₄) none ∙ xor_zero_r s₄)

next_alone : (s n b : ℕ) (bytes : List ℕ) → b < 256 → n ≡ 8 * length bytes + 8 → bit_xor s (after_bytes 0 (b ∷ bytes)) ≡ bit_xor (bit_xor s (after_bits n b 0)) (after_bytes 0 bytes)
next_alone s n b bytes l e = ap (bit_xor s) (first_alone n b bytes l e) ∙ sym (xor_assoc s (after_bits n b 0) (after_bytes 0 bytes))

-- four bytes from a register of 0, each with as many zero bytes after it as there are bytes to come
four_alone : (a b c d : ℕ) → a < 256 → b < 256 → c < 256 → d < 256 → after_bytes 0 (a ∷ b ∷ c ∷ d ∷ []) ≡ bit_xor (bit_xor (bit_xor (after_bits 32 a 0) (after_bits 24 b 0)) (after_bits 16 c 0)) (after_bits 8 d 0)
four_alone a b c d la lb lc ld =
    first_alone 32 a (b ∷ c ∷ d ∷ []) la refl
    ∙ next_alone _ 24 b (c ∷ d ∷ []) lb refl
    ∙ next_alone _ 16 c (d ∷ []) lc refl
    ∙ next_alone _ 8 d [] ld refl
    ∙ xor_zero_r _

-- so many bits of 0 after four numbers, and after their xor
each_after : (k x y z w : ℕ) → after_bits k (bit_xor (bit_xor (bit_xor x y) z) w) 0 ≡ bit_xor (bit_xor (bit_xor (after_bits k x 0) (after_bits k y 0)) (after_bits k z 0)) (after_bits k w 0)
each_after k x y z w =
    linear k (bit_xor (bit_xor x y) z) w 0
    ∙ ap (λ (t : ℕ). bit_xor t (after_bits k w 0)) (linear k (bit_xor x y) z 0 ∙ ap (λ (t : ℕ). bit_xor t (after_bits k z 0)) (linear k x y 0))

pub four_by_entries : (r a b c d zeros : ℕ) → r < 2 ^ 32 → a < 256 → b < 256 → c < 256 → d < 256
    → after_bits (8 * zeros) (after_bytes r (a ∷ b ∷ c ∷ d ∷ [])) 0
    ≡ bit_xor (bit_xor (bit_xor (after_bits (8 * (zeros + 3) + 8) (bit_xor (r % 256) a) 0) (after_bits (8 * (zeros + 2) + 8) (bit_xor (r / 256 % 256) b) 0)) (after_bits (8 * (zeros + 1) + 8) (bit_xor (r / 65536 % 256) c) 0)) (after_bits (8 * zeros + 8) (bit_xor (r / 16777216 % 256) d) 0)
four_by_entries r a b c d zeros short la lb lc ld =
    let a' : ℕ = bit_xor (r % 256) a in
    let b' : ℕ = bit_xor (r / 256 % 256) b in
    let c' : ℕ = bit_xor (r / 65536 % 256) c in
    let d' : ℕ = bit_xor (r / 16777216 % 256) d in
    ap (λ (z : ℕ). after_bits (8 * zeros) z 0) (into_front r a b c d [] short la lb lc ld
    ∙ four_alone a' b' c' d' (xor_lt 8 (r % 256) a (omega arith) la) (xor_lt 8 (r / 256 % 256) b (omega arith) lb) (xor_lt 8 (r / 65536 % 256) c (omega arith) lc) (xor_lt 8 (r / 16777216 % 256) d (omega arith) ld))
    ∙ each_after (8 * zeros) (after_bits 32 a' 0) (after_bits 24 b' 0) (after_bits 16 c' 0) (after_bits 8 d' 0)
    ∙ sym (joined_four (joined (8 * (zeros + 3) + 8) 32 (8 * zeros) a' (omega arith)) (joined (8 * (zeros + 2) + 8) 24 (8 * zeros) b' (omega arith)) (joined (8 * (zeros + 1) + 8) 16 (8 * zeros) c' (omega arith)) (joined (8 * zeros + 8) 8 (8 * zeros) d' (omega arith)))
  where
    joined_four : {x y z w x' y' z' w' : ℕ} → x ≡ x' → y ≡ y' → z ≡ z' → w ≡ w' → bit_xor (bit_xor (bit_xor x y) z) w ≡ bit_xor (bit_xor (bit_xor x' y') z') w'
    joined_four e f g h = rw (e, f, g, h) refl

-- four bytes and those behind them: what the four leave with zeros in place of the others, and what the others leave of 0
four_in_front : (n r a b c d : ℕ) (bytes : List ℕ) → n ≡ 8 * length bytes → after_bytes r (a ∷ b ∷ c ∷ d ∷ bytes) ≡ bit_xor (after_bytes 0 bytes) (after_bits n (after_bytes r (a ∷ b ∷ c ∷ d ∷ [])) 0)
four_in_front n r a b c d bytes e =
    let left : ℕ = after_bytes r (a ∷ b ∷ c ∷ d ∷ []) in
    ap (λ (z : ℕ). after_bytes z bytes) (sym (xor_zero_r left)) ∙ bytes_linear n left 0 bytes e ∙ xor_comm (after_bits n left 0) (after_bytes 0 bytes)

pub sixteen_by_fours : (r a b c d e f g h i j k l m n o p : ℕ) → after_bytes r (a ∷ b ∷ c ∷ d ∷ e ∷ f ∷ g ∷ h ∷ i ∷ j ∷ k ∷ l ∷ m ∷ n ∷ o ∷ p ∷ [])
    ≡ bit_xor (bit_xor (bit_xor (after_bits 0 (after_bytes 0 (m ∷ n ∷ o ∷ p ∷ [])) 0) (after_bits 32 (after_bytes 0 (i ∷ j ∷ k ∷ l ∷ [])) 0)) (after_bits 64 (after_bytes 0 (e ∷ f ∷ g ∷ h ∷ [])) 0)) (after_bits 96 (after_bytes r (a ∷ b ∷ c ∷ d ∷ [])) 0)
sixteen_by_fours r a b c d e f g h i j k l m n o p =
    four_in_front 96 r a b c d (e ∷ f ∷ g ∷ h ∷ i ∷ j ∷ k ∷ l ∷ m ∷ n ∷ o ∷ p ∷ []) refl
    ∙ ap (λ (z : ℕ). bit_xor z (after_bits 96 (after_bytes r (a ∷ b ∷ c ∷ d ∷ [])) 0)) (four_in_front 64 0 e f g h (i ∷ j ∷ k ∷ l ∷ m ∷ n ∷ o ∷ p ∷ []) refl
    ∙ ap (λ (z : ℕ). bit_xor z (after_bits 64 (after_bytes 0 (e ∷ f ∷ g ∷ h ∷ [])) 0)) (four_in_front 32 0 i j k l (m ∷ n ∷ o ∷ p ∷ []) refl
    ∙ ap (λ (z : ℕ). bit_xor z (after_bits 32 (after_bytes 0 (i ∷ j ∷ k ∷ l ∷ [])) 0)) (sym (none_left (after_bytes 0 (m ∷ n ∷ o ∷ p ∷ []))))))
