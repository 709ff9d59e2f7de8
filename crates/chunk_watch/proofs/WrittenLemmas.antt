-- What is handed out is the data of a chunk as it is written.
use Rattle.std.proofs.Common.{◌≡◌, ℕ, ◌+◌, ◌<◌, ◌≤◌, ◌==◌, ◌&&◌, ◌⊎◌, Bool, true, false, cond, List, [], ◌++◌, Option, Some, None, take, drop, length, inl, inr, refl, sym, ap, ◌∙◌, subst, arith, append_assoc}
use Rattle.std.specs.Prelude.{bytes_eq, codes, nat_lt}
use Rattle.std.specs.List.{prefix_len}
use Rattle.std.specs.Str.Parse.{AllDigits, digits_value}
use Rattle.std.proofs.lemmas.Bool.{and_parts}
use Rattle.std.proofs.lemmas.Bool.Decides.{nat_tests}
use Rattle.std.proofs.lemmas.List.{drop-drop, length-take-le, take-append-drop}
use Rattle.std.proofs.lemmas.List.Sums.{prefix_len-le-length}
use Rattle.sigv4.proofs.InsertedLemmas.{same_name}
use Rattle.aws_chunked.specs.Text.{crlf}
use Rattle.chunk_watch.specs.Front.{Begun, bad, begun_behind, begun_line, begun_with, chunk, empty, front_begun, is_hex_digit, line_signature, short}
use Rattle.chunk_watch.specs.Walk.{ChunkPoint, Rules, at_end, chunk_compared, in_chunks, next_place, step_over}
use Rattle.chunk_watch.specs.Written.{BeginsChunk, HandsSigned}
use Rattle.chunk_watch.specs.declared.fault.ChunkFault.TheVariants.{BadEnd, BadLine, LongChunk}
use Rattle.chunk_watch.proofs.DigitLemmas.{first_digits}
use Rattle.chunk_watch.proofs.WalkLemmas.{same_step}

abbrev mark : List ℕ
mark = codes ";chunk-signature="

-- ---- behind a line

-- data of this length, and the end of its line, stand first, and the whole has this length
record IsData (most size line_len : ℕ) (bytes given : List ℕ) (len : ℕ) : Type 0 where
  within : size ≤ most
  some : 0 < size
  long : size + 2 ≤ length bytes
  end : take 2 (drop size bytes) ≡ crlf
  given_is : given ≡ take size bytes
  len_is : len ≡ line_len + size + 2

module _ (most place size line_len : ℕ) (bytes signature carried given : List ℕ) (len : ℕ) where
  behind : (b1 b2 b3 b4 : Bool)
      → cond b1 (bad (LongChunk place)) (cond b2 (empty signature line_len) (cond b3 short (cond b4 (chunk signature (take size bytes) (line_len + size + 2)) (bad (BadEnd place)))))
      ≡ chunk carried given len
      → (b1 ≡ false) × (b2 ≡ false) × (b3 ≡ false) × (b4 ≡ true) × (carried ≡ signature) × (given ≡ take size bytes) × (len ≡ line_len + size + 2)
  behind true b2 b3 b4 e = absurd (cc)
  behind false true b3 b4 e = absurd (cc)
  behind false false true b4 e = absurd (cc)
  behind false false false false e = absurd (cc)
  behind false false false true e = (refl, refl, refl, refl, (cc), (cc), (cc))

  data_there : begun_behind most place size line_len bytes signature ≡ chunk carried given len → (carried ≡ signature) × IsData most size line_len bytes given len
  data_there e =
      let parts = behind (nat_lt most size) (size == 0) (nat_lt (length bytes) (size + 2)) (bytes_eq (take 2 (drop size bytes)) crlf) e in (
        parts.4,
        record {
          within = low parts.0;
          some = more parts.1;
          long = room parts.2;
          end = same_name (take 2 (drop size bytes)) crlf parts.3;
          given_is = parts.5;
          len_is = parts.6;
        },
      )
    where
      low : nat_lt most size ≡ false → size ≤ most
      low h = grind (arith, nat_tests)

      more : (size == 0) ≡ false → 0 < size
      more h = grind (arith, nat_tests)

      room : nat_lt (length bytes) (size + 2) ≡ false → size + 2 ≤ length bytes
      room h = grind (arith, nat_tests)

-- ---- a line

record IsLine (line signature : List ℕ) : Type 0 where
  marked : take 17 line ≡ mark
  ended : drop 81 line ≡ crlf
  signature_is : signature ≡ take 64 (drop 17 line)

line_there : (line signature : List ℕ) → line_signature line ≡ Some signature → IsLine line signature
line_there line signature e = by (bytes_eq (take 17 line) mark && bytes_eq (drop 81 line) crlf) refl e
  where
    by : (b : Bool) → (bytes_eq (take 17 line) mark && bytes_eq (drop 81 line) crlf) ≡ b
        → cond {A = Option (List ℕ)} b (Some (take 64 (drop 17 line))) None ≡ Some signature → IsLine line signature
    by true is e =
        let both = and_parts (bytes_eq (take 17 line) mark) (bytes_eq (drop 81 line) crlf) is in
        record { marked = same_name (take 17 line) mark both.0; ended = same_name (drop 81 line) crlf both.1; signature_is = cc }
    by false is e = absurd (cc)

-- ---- the whole

record Found (most : ℕ) (bytes signature given : List ℕ) (len n : ℕ) : Type 0 where
  few : n ≤ 8
  long : 83 ≤ length (drop n bytes)
  line : IsLine (take 83 (drop n bytes)) signature
  found : IsData most (digits_value 16 (take n bytes)) (n + 83) (drop 83 (drop n bytes)) given len

module _ (most place : ℕ) (bytes signature given : List ℕ) (len : ℕ) where
  lined : (n : ℕ) (o : Option (List ℕ)) → line_signature (take 83 (drop n bytes)) ≡ o
      → begun_line most place (digits_value 16 (take n bytes)) (n + 83) (drop 83 (drop n bytes)) o ≡ chunk signature given len
      → IsLine (take 83 (drop n bytes)) signature × IsData most (digits_value 16 (take n bytes)) (n + 83) (drop 83 (drop n bytes)) given len
  lined n None is e = absurd (cc)
  lined n (Some carried) is e =
      let there = data_there most place (digits_value 16 (take n bytes)) (n + 83) (drop 83 (drop n bytes)) carried signature given len e in
      (subst (λ (s : List ℕ). IsLine (take 83 (drop n bytes)) s) (sym there.0) (line_there (take 83 (drop n bytes)) carried is), there.1)

  found_with : (n : ℕ) → begun_with most place bytes n ≡ chunk signature given len → Found most bytes signature given len n
  found_with n e = by (nat_lt 8 n) (nat_lt (length (drop n bytes)) 83) (n == 0) refl refl e
    where
      low : nat_lt 8 n ≡ false → n ≤ 8
      low h = grind (arith, nat_tests)

      room : nat_lt (length (drop n bytes)) 83 ≡ false → 83 ≤ length (drop n bytes)
      room h = grind (arith, nat_tests)

      by : (b1 b2 b3 : Bool) → nat_lt 8 n ≡ b1 → nat_lt (length (drop n bytes)) 83 ≡ b2
          → cond b1 (bad (BadLine place)) (cond b2 short (cond b3 (bad (BadLine place))
          (begun_line most place (digits_value 16 (take n bytes)) (n + 83) (drop 83 (drop n bytes)) (line_signature (take 83 (drop n bytes)))))) ≡ chunk signature given len
          → Found most bytes signature given len n
      by true b2 b3 p q e = absurd (cc)
      by false true b3 p q e = absurd (cc)
      by false false true p q e = absurd (cc)
      by false false false p q e =
          let both = lined n (line_signature (take 83 (drop n bytes))) refl e in
          record { few = low p; long = room q; line = both.0; found = both.1 }

  begins : (n : ℕ) → n ≡ prefix_len is_hex_digit bytes → n ≤ length bytes → Found most bytes signature given len n → BeginsChunk most signature given (drop len bytes) bytes
  begins n n_is within there =
      let rest = drop n bytes in
      let line = take 83 rest in
      let behind = drop 83 rest in
      let size = digits_value 16 (take n bytes) in
      let counted : length given ≡ size = ap length there.found.given_is ∙ length-take-le size behind (less size (length behind) there.found.long) in
      let after : drop 81 line ≡ drop 64 (drop 17 line) = sym (drop-drop 64 17 line) in
      let whole_line : line ≡ mark ++ (signature ++ crlf) =
      sym (take-append-drop 17 line) ∙ (λ i. there.line.marked i ++ drop 17 line)
      ∙ ap (λ (t : List ℕ). mark ++ t) (sym (take-append-drop 64 (drop 17 line)) ∙ (λ i. sym there.line.signature_is i ++ (sym after ∙ there.line.ended) i)) in
      let tail : drop size behind ≡ crlf ++ drop 2 (drop size behind) = sym (take-append-drop 2 (drop size behind)) ∙ ap (λ (t : List ℕ). t ++ drop 2 (drop size behind)) there.found.end in
      let left : drop 2 (drop size behind) ≡ drop len bytes =
      drop-drop 2 size behind ∙ (drop-drop (size + 2) 83 rest ∙ (drop-drop (83 + (size + 2)) n bytes ∙ ap (λ (k : ℕ). drop k bytes) (sum n size len there.found.len_is))) in
      let data_text : behind ≡ given ++ (crlf ++ drop len bytes) =
      sym (take-append-drop size behind) ∙ (λ i. sym there.found.given_is i ++ (tail ∙ ap (λ (t : List ℕ). crlf ++ t) left) i) in
      record {
        digits = take n bytes;
        few = short_enough n (length-take-le n bytes within) there.few;
        hexadecimal = subst (λ (k : ℕ). AllDigits 16 (take k bytes)) (sym n_is) (first_digits bytes);
        counted = sym counted;
        some = subst (λ (k : ℕ). 0 < k) (sym counted) there.found.some;
        within = subst (λ (k : ℕ). k ≤ most) (sym counted) there.found.within;
        text =
            sym (take-append-drop n bytes)
            ∙ ap (λ (t : List ℕ). take n bytes ++ t) (sym (take-append-drop 83 rest) ∙ (λ i. whole_line i ++ data_text i)
            ∙ (append_assoc mark (signature ++ crlf) (given ++ (crlf ++ drop len bytes))
            ∙ ap (λ (t : List ℕ). mark ++ t) (append_assoc signature crlf (given ++ (crlf ++ drop len bytes)))));
      }
    where
      less : (a b : ℕ) → a + 2 ≤ b → a ≤ b
      less a b h = omega arith

      short_enough : (n : ℕ) → length (take n bytes) ≡ n → n ≤ 8 → length (take n bytes) ≤ 8
      short_enough n e h = omega arith

      sum : (n size len : ℕ) → len ≡ n + 83 + size + 2 → n + (83 + (size + 2)) ≡ len
      sum n size len e = omega arith

  pub begins_chunk : front_begun most place bytes ≡ chunk signature given len → BeginsChunk most signature given (drop len bytes) bytes
  unfolding front_begun
  begins_chunk e = begins (prefix_len is_hex_digit bytes) refl (prefix_len-le-length is_hex_digit bytes) (found_with (prefix_len is_hex_digit bytes) e)

-- ---- a step

abbrev Step : Type 0
Step = List ℕ × ChunkPoint

pub hands_signed : (rules : Rules) → HandsSigned rules
hands_signed rules = λ before left given place next e. by before left given place next (front_begun rules.most place left) refl e
  where
    passed : (before left given : List ℕ) (place : ℕ) (next : ChunkPoint) (signature bytes : List ℕ) (len : ℕ) → front_begun rules.most place left ≡ chunk signature bytes len
        → (b : Bool) → bytes_eq (rules.own before bytes) signature ≡ b
        → chunk_compared b place bytes (in_chunks (rules.own before bytes) (next_place place) (drop len left)) ≡ (given, next)
        → (given ≡ []) ⊎ ((rest : List ℕ) × BeginsChunk rules.most (rules.own before given) given rest left × (next ≡ in_chunks (rules.own before given) (next_place place) rest))
    passed before left given place next signature bytes len is true same e =
        let data_is : bytes ≡ given = ap (λ (s : Step). s.0) e in
        let next_is : in_chunks (rules.own before bytes) (next_place place) (drop len left) ≡ next = ap (λ (s : Step). s.1) e in
        let own : signature ≡ rules.own before bytes = sym (same_name (rules.own before bytes) signature same) in
        inr (
          drop len left,
          subst (λ (g : List ℕ). BeginsChunk rules.most (rules.own before g) g (drop len left) left) data_is
              (subst (λ (s : List ℕ). BeginsChunk rules.most s bytes (drop len left) left) own (begins_chunk rules.most place left signature bytes len is)),
          sym next_is ∙ ap (λ (g : List ℕ). in_chunks (rules.own before g) (next_place place) (drop len left)) data_is,
        )
    passed before left given place next signature bytes len is false same e = inl (sym (ap (λ (s : Step). s.0) e))

    ended : (before left given : List ℕ) (place : ℕ) (next : ChunkPoint) (len : ℕ) (b : Bool)
        → chunk_compared b place [] (at_end (rules.own before []) (drop len left)) ≡ (given, next)
        → (given ≡ []) ⊎ ((rest : List ℕ) × BeginsChunk rules.most (rules.own before given) given rest left × (next ≡ in_chunks (rules.own before given) (next_place place) rest))
    ended before left given place next len true e = inl (sym (ap (λ (s : Step). s.0) e))
    ended before left given place next len false e = inl (sym (ap (λ (s : Step). s.0) e))

    by : (before left given : List ℕ) (place : ℕ) (next : ChunkPoint) (f : Begun) → front_begun rules.most place left ≡ f → step_over rules before place left f ≡ Some (given, next)
        → (given ≡ []) ⊎ ((rest : List ℕ) × BeginsChunk rules.most (rules.own before given) given rest left × (next ≡ in_chunks (rules.own before given) (next_place place) rest))
    by before left given place next short is e = absurd (cc)
    by before left given place next (bad fault) is e = inl (sym (ap (λ (s : Step). s.0) (same_step e)))
    by before left given place next (chunk signature bytes len) is e =
        passed before left given place next signature bytes len is (bytes_eq (rules.own before bytes) signature) refl (same_step e)
    by before left given place next (empty signature len) is e = ended before left given place next len (bytes_eq (rules.own before []) signature) (same_step e)
