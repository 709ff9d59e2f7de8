-- What a text that is written begins with.
use Rattle.std.proofs.Common.{◌≡◌, ℕ, ◌+◌, ◌<◌, ◌≤◌, ◌==◌, ◌&&◌, false, cond, List, ◌++◌, Option, Some, None, take, drop, length, refl, sym, ap, ◌∙◌, arith, append_assoc, length-append}
use Rattle.std.specs.Prelude.{bytes_eq, codes, nat_lt}
use Rattle.std.specs.Str.Parse.{AllDigits, digits_value}
use Rattle.std.proofs.Math.Seq.{drop-append_seam, take-append_seam}
use Rattle.std.proofs.lemmas.Bool.Decides.{nat_tests}
use Rattle.aws_chunked.specs.Text.{chunk_text, crlf, head_text, length_text}
use Rattle.chunk_watch.specs.Front.{bad, begun_behind, begun_line, begun_with, chunk, empty, front_begun, line_signature, short}
use Rattle.chunk_watch.specs.declared.fault.ChunkFault.TheVariants.{BadEnd, BadLine, LongChunk}
use Rattle.chunk_watch.proofs.LengthLemmas.{counted_digits, digits_written, few_written, some_written, value_written}

abbrev mark : List ℕ
mark = codes ";chunk-signature="

-- ---- a line

module _ (most place : ℕ) (ds signature : List ℕ) (are : AllDigits 16 ds) (few : length ds ≤ 8) (some : 0 < length ds) (long : length signature ≡ 64) where
  abbrev line : List ℕ
  line = mark ++ (signature ++ crlf)

  line_long : length line ≡ 83
  line_long = omega (arith, long, length-append signature crlf)

  signed : line_signature line ≡ Some signature
  signed =
      let end : drop 64 (signature ++ crlf) ≡ crlf = (λ i. drop (sym long i) (signature ++ crlf)) ∙ drop-append_seam signature crlf in
      let front : take 64 (signature ++ crlf) ≡ signature = (λ i. take (sym long i) (signature ++ crlf)) ∙ take-append_seam signature crlf in
      λ i. cond {A = Option (List ℕ)} (bytes_eq (take 17 line) mark && bytes_eq (end i) crlf) (Some (front i)) None

  module _ (behind : List ℕ) where
    abbrev text : List ℕ
    text = ds ++ (line ++ behind)

    not_many : nat_lt 8 (length ds) ≡ false
    not_many = grind (arith, nat_tests)

    whole : nat_lt (length (line ++ behind)) 83 ≡ false
    whole = let all : length (line ++ behind) ≡ 83 + length behind = length-append line behind ∙ ap (λ (n : ℕ). n + length behind) line_long in grind (arith, nat_tests)

    not_none : (length ds == 0) ≡ false
    not_none = grind (arith, nat_tests)

    lined : begun_with most place text (length ds) ≡ begun_behind most place (digits_value 16 ds) (length ds + 83) behind signature
    lined =
        let rest_is : drop (length ds) text ≡ line ++ behind = drop-append_seam ds (line ++ behind) in
        let number_is : take (length ds) text ≡ ds = take-append_seam ds (line ++ behind) in
        let line_at : take 83 (line ++ behind) ≡ line = (λ i. take (sym line_long i) (line ++ behind)) ∙ take-append_seam line behind in
        let behind_at : drop 83 (line ++ behind) ≡ behind = (λ i. drop (sym line_long i) (line ++ behind)) ∙ drop-append_seam line behind in
        (λ i. cond (not_many i) (bad (BadLine place)) (cond (nat_lt (length (rest_is i)) 83) short (cond (not_none i) (bad (BadLine place))
        (begun_line most place (digits_value 16 (number_is i)) (length ds + 83) (drop 83 (rest_is i)) (line_signature (take 83 (rest_is i)))))))
        ∙ (λ i. cond (whole i) short (begun_line most place (digits_value 16 ds) (length ds + 83) (behind_at i) (line_signature (line_at i))))
        ∙ ap (begun_line most place (digits_value 16 ds) (length ds + 83) behind) signed

    fronted : front_begun most place text ≡ begun_behind most place (digits_value 16 ds) (length ds + 83) behind signature
    unfolding front_begun
    fronted = ap (begun_with most place text) (counted_digits ds 59 _ are refl) ∙ lined

-- ---- data, and the empty chunk

module _ (most place line_len : ℕ) (given rest signature : List ℕ) where
  data_behind : 0 < length given → length given ≤ most → begun_behind most place (length given) line_len (given ++ (crlf ++ rest)) signature ≡ chunk signature given (line_len + length given + 2)
  data_behind some low =
      let behind = given ++ (crlf ++ rest) in
      let end : take 2 (drop (length given) behind) ≡ crlf = ap (take 2) (drop-append_seam given (crlf ++ rest)) in
      let data_is : take (length given) behind ≡ given = take-append_seam given (crlf ++ rest) in
      λ i. cond (not_long i) (bad (LongChunk place)) (cond (not_none i) (empty signature line_len) (cond (whole i) short
      (cond (bytes_eq (end i) crlf) (chunk signature (data_is i) (line_len + length given + 2)) (bad (BadEnd place)))))
    where
      not_long : nat_lt most (length given) ≡ false
      not_long = grind (arith, nat_tests)

      not_none : (length given == 0) ≡ false
      not_none = grind (arith, nat_tests)

      whole : nat_lt (length (given ++ (crlf ++ rest))) (length given + 2) ≡ false
      whole = let all = length-append given (crlf ++ rest) in grind (arith, nat_tests)

  none_behind : (bytes : List ℕ) → begun_behind most place 0 line_len bytes signature ≡ empty signature line_len
  none_behind bytes = λ i. cond (not_long i) (bad (LongChunk place)) (empty signature line_len)
    where
      not_long : nat_lt most 0 ≡ false
      not_long = grind (arith, nat_tests)

-- ---- written

-- the texts in one list
head_nested : (ds signature rest : List ℕ) → ((ds ++ (mark ++ signature)) ++ crlf) ++ rest ≡ ds ++ ((mark ++ (signature ++ crlf)) ++ rest)
head_nested ds signature rest =
    append_assoc (ds ++ (mark ++ signature)) crlf rest
    ∙ (append_assoc ds (mark ++ signature) (crlf ++ rest)
    ∙ ap (λ (t : List ℕ). ds ++ t) (sym (append_assoc (mark ++ signature) crlf rest) ∙ ap (λ (t : List ℕ). t ++ rest) (append_assoc mark signature crlf)))

chunk_nested : (ds signature given rest : List ℕ)
    → ((((ds ++ (mark ++ signature)) ++ crlf) ++ given) ++ crlf) ++ rest ≡ ds ++ ((mark ++ (signature ++ crlf)) ++ (given ++ (crlf ++ rest)))
chunk_nested ds signature given rest =
    let head = (ds ++ (mark ++ signature)) ++ crlf in
    append_assoc (head ++ given) crlf rest
    ∙ (append_assoc head given (crlf ++ rest) ∙ head_nested ds signature (given ++ (crlf ++ rest)))

head_long : (ds signature : List ℕ) → length signature ≡ 64 → length ((ds ++ (mark ++ signature)) ++ crlf) ≡ length ds + 83
head_long ds signature long = omega (arith, long, length-append (ds ++ (mark ++ signature)) crlf, length-append ds (mark ++ signature))

module _ (most place : ℕ) (signature given rest : List ℕ) (long : length signature ≡ 64) (low : length given ≤ 4294967295) where
  abbrev ds : List ℕ
  ds = length_text (length given)

  abbrev chunk_len : ℕ
  chunk_len = length (chunk_text (Some signature) given)

  chunk_long : length ds + 83 + length given + 2 ≡ chunk_len
  unfolding chunk_text
  chunk_long =
      let head = head_text (length given) (Some signature) in
      let head_is : length head ≡ length ds + 83 = head_long ds signature long in
      omega (arith, head_is, length-append (head ++ given) crlf, length-append head given)

  pub chunk_written : 0 < length given → length given ≤ most → front_begun most place (chunk_text (Some signature) given ++ rest) ≡ chunk signature given chunk_len
  unfolding chunk_text
  chunk_written some within =
      ap (front_begun most place) (chunk_nested ds signature given rest)
      ∙ (fronted most place ds signature (digits_written (length given) low) (few_written (length given) low) (some_written (length given) low) long (given ++ (crlf ++ rest))
      ∙ ((λ i. begun_behind most place (value_written (length given) low i) (length ds + 83) (given ++ (crlf ++ rest)) signature)
      ∙ (data_behind most place (length ds + 83) given rest signature some within ∙ ap (chunk signature given) chunk_long)))

pub empty_written : (most place : ℕ) (signature rest : List ℕ) → length signature ≡ 64
    → front_begun most place (head_text 0 (Some signature) ++ rest) ≡ empty signature (length (head_text 0 (Some signature)))
empty_written most place signature rest long =
    let low : 0 ≤ 4294967295 = omega arith in
    let ds = length_text 0 in
    ap (front_begun most place) (head_nested ds signature rest)
    ∙ (fronted most place ds signature (digits_written 0 low) (few_written 0 low) (some_written 0 low) long rest
    ∙ ((λ i. begun_behind most place (value_written 0 low i) (length ds + 83) rest signature)
    ∙ (none_behind most place (length ds + 83) rest rest signature rest ∙ ap (empty signature) (sym (head_long ds signature long)))))
