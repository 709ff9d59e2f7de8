-- What bytes begin with stays, however they go on.
use Rattle.std.proofs.Common.{◌≡◌, ℕ, ◌+◌, ◌<◌, ◌≤◌, ◌==◌, Bool, true, false, cond, List, [], ◌∷◌, ◌++◌, Option, Some, None, take, drop, length, refl, sym, ap, ◌∙◌, subst, arith, length-append, length-drop}
use Rattle.std.specs.Prelude.{bytes_eq, nat_lt}
use Rattle.std.specs.List.{prefix_len}
use Rattle.std.specs.Str.Parse.{digits_value}
use Rattle.std.proofs.lemmas.Bool.Decides.{nat_tests}
use Rattle.std.proofs.lemmas.List.{take-append-le, drop-append-le}
use Rattle.std.proofs.lemmas.List.Sums.{prefix_len-le-length}
use Rattle.aws_chunked.specs.Text.{crlf}
use Rattle.chunk_watch.specs.Front.{Begun, front_begun, begun_behind, begun_line, begun_with, short, bad, chunk, empty, is_hex_digit, line_signature}
use Rattle.chunk_watch.specs.declared.fault.ChunkFault.TheVariants.{BadEnd, BadLine, LongChunk}

-- what was begun is the same again, and lies within so many bytes
abbrev pub IsStable : Begun → Begun → ℕ → Type 0
IsStable short other n = Unit {0}
IsStable (bad fault) other n = other ≡ bad fault
IsStable (chunk signature bytes len) other n = (other ≡ chunk signature bytes len) × (len ≤ n) × (0 < len)
IsStable (empty signature len) other n = (other ≡ empty signature len) × (len ≤ n)

long-more : (xs m : List ℕ) (n : ℕ) → nat_lt (length xs) n ≡ false → nat_lt (length (xs ++ m)) n ≡ false
long-more xs m n e = grind (arith, nat_tests, length-append {A = ℕ})

is-long : (xs : List ℕ) (n : ℕ) → n ≤ length xs → nat_lt (length xs) n ≡ false
is-long xs n h = grind (arith, nat_tests)

room : (xs : List ℕ) (n : ℕ) → nat_lt (length xs) n ≡ false → n ≤ length xs
room xs n e = grind (arith, nat_tests)

-- ---- behind a line

module _ (most place size line_len : ℕ) (bytes m signature : List ℕ) where
  long : Bool
  long = nat_lt (length bytes) (size + 2)

  behind : (b1 b2 b3 b3' b4 b4' : Bool) (t t' : List ℕ) → (b3 ≡ false → b3' ≡ false) → (b3 ≡ false → b4' ≡ b4) → (b3 ≡ false → t' ≡ t)
      → (b3 ≡ false → size + 2 ≤ length bytes)
      → IsStable (cond b1 (bad (LongChunk place)) (cond b2 (empty signature line_len) (cond b3 short (cond b4 (chunk signature t (line_len + size + 2)) (bad (BadEnd place))))))
      (cond b1 (bad (LongChunk place)) (cond b2 (empty signature line_len) (cond b3' short (cond b4' (chunk signature t' (line_len + size + 2)) (bad (BadEnd place))))))
      (line_len + length bytes)
  behind true b2 b3 b3' b4 b4' t t' p q r s = refl
  behind false true b3 b3' b4 b4' t t' p q r s = (refl, omega arith)
  behind false false true b3' b4 b4' t t' p q r s = tt
  behind false false false b3' b4 b4' t t' p q r s =
      let fits = s refl in
      let same : cond b3' short (cond b4' (chunk signature t' (line_len + size + 2)) (bad (BadEnd place))) ≡ cond b4 (chunk signature t (line_len + size + 2)) (bad (BadEnd place)) =
      λ i. cond (p refl i) short (cond (q refl i) (chunk signature (r refl i) (line_len + size + 2)) (bad (BadEnd place))) in
      by b4 same fits
    where
      by : (b4 : Bool) → cond b3' short (cond b4' (chunk signature t' (line_len + size + 2)) (bad (BadEnd place))) ≡ cond b4 (chunk signature t (line_len + size + 2)) (bad (BadEnd place))
          → size + 2 ≤ length bytes
          → IsStable (cond b4 (chunk signature t (line_len + size + 2)) (bad (BadEnd place)))
          (cond b3' short (cond b4' (chunk signature t' (line_len + size + 2)) (bad (BadEnd place)))) (line_len + length bytes)
      by true e fits = (e, omega arith, omega arith)
      by false e fits = e

  behind_stable : IsStable (begun_behind most place size line_len bytes signature) (begun_behind most place size line_len (bytes ++ m) signature) (line_len + length bytes)
  behind_stable =
      behind (nat_lt most size) (size == 0) (nat_lt (length bytes) (size + 2)) (nat_lt (length (bytes ++ m)) (size + 2))
      (bytes_eq (take 2 (drop size bytes)) crlf) (bytes_eq (take 2 (drop size (bytes ++ m))) crlf) (take size bytes) (take size (bytes ++ m))
      (long-more bytes m (size + 2))
      (λ e. let fits = room bytes (size + 2) e in ap (λ end. bytes_eq end crlf) (two fits))
      (λ e. let fits : size ≤ length bytes = le-less (room bytes (size + 2) e) in take-append-le size bytes m fits)
      (room bytes (size + 2))
    where
      le-less : size + 2 ≤ length bytes → size ≤ length bytes
      le-less h = omega arith

      two-left : size + 2 ≤ length bytes → 2 ≤ length (drop size bytes)
      two-left h = omega (arith, length-drop size bytes)

      two : size + 2 ≤ length bytes → take 2 (drop size (bytes ++ m)) ≡ take 2 (drop size bytes)
      two fits = ap (take 2) (drop-append-le size bytes m (le-less fits)) ∙ take-append-le 2 (drop size bytes) m (two-left fits)

-- ---- digits

digits-more : (xs m : List ℕ) → prefix_len is_hex_digit xs ≤ prefix_len is_hex_digit (xs ++ m)
digits-more [] m = omega arith
digits-more (x ∷ xs) m = by (is_hex_digit x) (digits-more xs m)
  where
    by : (b : Bool) → prefix_len is_hex_digit xs ≤ prefix_len is_hex_digit (xs ++ m) → cond b (1 + prefix_len is_hex_digit xs) 0 ≤ cond b (1 + prefix_len is_hex_digit (xs ++ m)) 0
    by true h = omega arith
    by false h = omega arith

digits-same : (xs m : List ℕ) → prefix_len is_hex_digit xs < length xs → prefix_len is_hex_digit (xs ++ m) ≡ prefix_len is_hex_digit xs
digits-same [] m h = absurd (omega arith)
digits-same (x ∷ xs) m h = by (is_hex_digit x) h (digits-same xs m)
  where
    by : (b : Bool) → cond b (1 + prefix_len is_hex_digit xs) 0 < length (x ∷ xs) → (prefix_len is_hex_digit xs < length xs → prefix_len is_hex_digit (xs ++ m) ≡ prefix_len is_hex_digit xs)
        → cond b (1 + prefix_len is_hex_digit (xs ++ m)) 0 ≡ cond b (1 + prefix_len is_hex_digit xs) 0
    by true lt more = let less : prefix_len is_hex_digit xs < length xs = omega arith in ap (λ n. 1 + n) (more less)
    by false lt more = refl

-- ---- a line

line_stable : (most place size line_len : ℕ) (bytes m : List ℕ) (signature : Option (List ℕ))
    → IsStable (begun_line most place size line_len bytes signature) (begun_line most place size line_len (bytes ++ m) signature) (line_len + length bytes)
line_stable most place size line_len bytes m None = refl
line_stable most place size line_len bytes m (Some signature) = behind_stable most place size line_len bytes m signature

module _ (most place : ℕ) (bytes m : List ℕ) where
  stable : (n n' : ℕ) → n ≤ n' → (n < length bytes → n' ≡ n) → n ≤ length bytes → IsStable (begun_with most place bytes n) (begun_with most place (bytes ++ m) n') (length bytes)
  stable n n' le same low = by_digits (nat_lt 8 n) refl
    where
      more-true : nat_lt 8 n ≡ true → nat_lt 8 n' ≡ true
      more-true e = grind (arith, nat_tests)

      shorter : n' ≡ n → 83 ≤ length (drop n bytes) → cond (nat_lt 8 n') (bad (BadLine place)) (cond (nat_lt (length (drop n' (bytes ++ m))) 83) short (cond (n' == 0) (bad (BadLine place))
          (begun_line most place (digits_value 16 (take n' (bytes ++ m))) (n' + 83) (drop 83 (drop n' (bytes ++ m))) (line_signature (take 83 (drop n' (bytes ++ m)))))))
          ≡ cond (nat_lt 8 n) (bad (BadLine place)) (cond false short (cond (n == 0) (bad (BadLine place))
          (begun_line most place (digits_value 16 (take n bytes)) (n + 83) (drop 83 (drop n bytes) ++ m) (line_signature (take 83 (drop n bytes))))))
      shorter e fits =
          let rest : drop n (bytes ++ m) ≡ drop n bytes ++ m = drop-append-le n bytes m low in
          let is_long : nat_lt (length (drop n bytes ++ m)) 83 ≡ false = long-more (drop n bytes) m 83 (is-long (drop n bytes) 83 fits) in
          let behind : drop 83 (drop n bytes ++ m) ≡ drop 83 (drop n bytes) ++ m = drop-append-le 83 (drop n bytes) m fits in
          let front : take 83 (drop n bytes ++ m) ≡ take 83 (drop n bytes) = take-append-le 83 (drop n bytes) m fits in
          let number : take n (bytes ++ m) ≡ take n bytes = take-append-le n bytes m low in
          (λ i. begun_with most place (bytes ++ m) (e i))
          ∙ (λ i. cond (nat_lt 8 n) (bad (BadLine place)) (cond (nat_lt (length (rest i)) 83) short (cond (n == 0) (bad (BadLine place))
          (begun_line most place (digits_value 16 (number i)) (n + 83) (drop 83 (rest i)) (line_signature (take 83 (rest i)))))))
          ∙ (λ i. cond (nat_lt 8 n) (bad (BadLine place)) (cond (is_long i) short (cond (n == 0) (bad (BadLine place))
          (begun_line most place (digits_value 16 (take n bytes)) (n + 83) (behind i) (line_signature (front i))))))

      by_zero : (b : Bool) → 83 ≤ length (drop n bytes)
          → IsStable (cond b (bad (BadLine place)) (begun_line most place (digits_value 16 (take n bytes)) (n + 83) (drop 83 (drop n bytes)) (line_signature (take 83 (drop n bytes)))))
          (cond b (bad (BadLine place)) (begun_line most place (digits_value 16 (take n bytes)) (n + 83) (drop 83 (drop n bytes) ++ m) (line_signature (take 83 (drop n bytes)))))
          (length bytes)
      by_zero true fits = refl
      by_zero false fits =
          let whole : n + 83 + length (drop 83 (drop n bytes)) ≡ length bytes = omega (arith, length-drop 83 (drop n bytes), length-drop n bytes) in
          subst (λ k. IsStable (begun_line most place (digits_value 16 (take n bytes)) (n + 83) (drop 83 (drop n bytes)) (line_signature (take 83 (drop n bytes))))
          (begun_line most place (digits_value 16 (take n bytes)) (n + 83) (drop 83 (drop n bytes) ++ m) (line_signature (take 83 (drop n bytes)))) k) whole
          (line_stable most place (digits_value 16 (take n bytes)) (n + 83) (drop 83 (drop n bytes)) m (line_signature (take 83 (drop n bytes))))

      by_room : (b : Bool) → nat_lt (length (drop n bytes)) 83 ≡ b → nat_lt 8 n ≡ false
          → IsStable (cond b short (cond (n == 0) (bad (BadLine place))
          (begun_line most place (digits_value 16 (take n bytes)) (n + 83) (drop 83 (drop n bytes)) (line_signature (take 83 (drop n bytes))))))
          (begun_with most place (bytes ++ m) n') (length bytes)
      by_room true e few = tt
      by_room false e few =
          let fits : 83 ≤ length (drop n bytes) = room (drop n bytes) 83 e in
          let less : n < length bytes = omega (arith, length-drop n bytes) in
          let other : begun_with most place (bytes ++ m) n' ≡ cond (n == 0) (bad (BadLine place))
          (begun_line most place (digits_value 16 (take n bytes)) (n + 83) (drop 83 (drop n bytes) ++ m) (line_signature (take 83 (drop n bytes)))) =
          shorter (same less) fits ∙ ap (λ (b : Bool). cond b (bad (BadLine place)) (cond (n == 0) (bad (BadLine place))
          (begun_line most place (digits_value 16 (take n bytes)) (n + 83) (drop 83 (drop n bytes) ++ m) (line_signature (take 83 (drop n bytes)))))) few in
          subst (λ (o : Begun). IsStable (cond (n == 0) (bad (BadLine place))
          (begun_line most place (digits_value 16 (take n bytes)) (n + 83) (drop 83 (drop n bytes)) (line_signature (take 83 (drop n bytes))))) o (length bytes))
          (sym other) (by_zero (n == 0) fits)

      by_digits : (b : Bool) → nat_lt 8 n ≡ b
          → IsStable (cond b (bad (BadLine place)) (cond (nat_lt (length (drop n bytes)) 83) short (cond (n == 0) (bad (BadLine place))
          (begun_line most place (digits_value 16 (take n bytes)) (n + 83) (drop 83 (drop n bytes)) (line_signature (take 83 (drop n bytes)))))))
          (begun_with most place (bytes ++ m) n') (length bytes)
      by_digits true e =
          ap (λ (b : Bool). cond b (bad (BadLine place)) (cond (nat_lt (length (drop n' (bytes ++ m))) 83) short (cond (n' == 0) (bad (BadLine place))
          (begun_line most place (digits_value 16 (take n' (bytes ++ m))) (n' + 83) (drop 83 (drop n' (bytes ++ m))) (line_signature (take 83 (drop n' (bytes ++ m)))))))) (more-true e)
      by_digits false e = by_room (nat_lt (length (drop n bytes)) 83) refl e

-- what bytes begin with stays, however they go on
pub begun_stable : (most place : ℕ) (bytes m : List ℕ) → IsStable (front_begun most place bytes) (front_begun most place (bytes ++ m)) (length bytes)
unfolding front_begun
begun_stable most place bytes m =
    stable most place bytes m (prefix_len is_hex_digit bytes) (prefix_len is_hex_digit (bytes ++ m)) (digits-more bytes m) (digits-same bytes m) (prefix_len-le-length is_hex_digit bytes)
