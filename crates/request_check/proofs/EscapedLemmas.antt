-- Pairs that are escaped and added to a query are read as they were.
use Rattle.std.proofs.Common.{◌≡◌, ◌≢◌, ℕ, ◌+◌, ◌/◌, ◌<◌, ◌==◌, Bool, true, false, cond, All, IsUtf8, List, [], ◌∷◌, ◌++◌, map, length, Option, Some, None, unwrap_or, refl, sym, ap, ◌∙◌, subst, inl, inr, arith, length-append, append_assoc, true≢false, lt-ltb, le-ltb}
use Rattle.std.specs.Prelude.{filter}
use Rattle.std.specs.List.{AllByRecursion, join_with_byte}
use Rattle.std.specs.Str.Lossy.{utf8_lossy}
use Rattle.std.proofs.lemmas.Bool.{and_parts, cases_lt}
use Rattle.std.proofs.lemmas.List.{map-append}
use Rattle.std.proofs.lemmas.List.Elements.{All-append, All-cons, All-from_get_or, All-head, All-nil, All-tail, filter-append}
use Rattle.std.proofs.lemmas.Str.{utf8_lossy-IsUtf8}
use lib.Utf8.{encode, encodes, next, scalar, scalars, scalar_cases}
use Rattle.percent_encoding.specs.Percent.{percent_decode, percent_encode_byte}
use Rattle.percent_encoding.proofs.PercentLemmas.{IsByte, percent_decode-nil, percent_decode-percent_encode_byte, percent_decode_not_percent}
use Rattle.form_urlencoded.specs.Form.{is_nonempty, onto_first, raw_pairs, split, split_once, split_pair}
use Rattle.form_urlencoded.proofs.FormLemmas.{map-plus_to_space, raw_pairs-nil, raw_pairs_first, split_once_after_at, split_once_after_none, split_once_before_at, split_once_before_none}
use Rattle.http_uri.proofs.RunLemmas.{AllPass-at}
use Rattle.smithy_http.specs.Escape.{base_set, escaped}
use Rattle.smithy_http.specs.Query.{pair_text}
use Rattle.smithy_http.specs.QueryWriter.{before_pair, escaped_pair}
use Rattle.smithy_http.specs.Target.{Target}
use Rattle.smithy_http.proofs.FitLemmas.{base_harmless, is_harmless}
use Rattle.smithy_http.proofs.QueryLemmas.{pairs_joined}
use Rattle.sigv4.specs.Parameters.{with_params}
use Rattle.sigv4.specs.Query.{Pair, decoded, decoded_pair, decoded_pairs, decoded_text}

-- ---- UTF-8 is of bytes

below_last : (c : ℕ) → scalar c ≡ true → c < 1114112
below_last c is = elim (scalar_cases c is) [ inl low ↦ omega (arith, low) | inr high ↦ high.1 ]

-- each byte after the first has six bits
next_bytes : (bits : ℕ) (bytes : List ℕ) → All IsByte bytes → All IsByte (next bits ∷ bytes)
next_bytes bits bytes are = All-cons IsByte (next bits) bytes (omega arith) are

char_bytes : (c : ℕ) → scalar c ≡ true → All IsByte (encode c)
unfolding encode
char_bytes c is = elim (cases_lt c 128) [
  | inl one ↦ rw (lt-ltb c 128 one) (All-cons IsByte c [] (omega (arith, one)) none)
  | inr past ↦ rw (le-ltb c 128 past) (elim (cases_lt c 2048) [
    | inl two ↦ rw (lt-ltb c 2048 two) (All-cons IsByte (192 + c / 64) (next c ∷ []) (omega (arith, two)) (next_bytes c [] none))
    | inr more ↦ rw (le-ltb c 2048 more) (elim (cases_lt c 65536) [
      | inl three ↦ rw (lt-ltb c 65536 three)
          (All-cons IsByte (224 + c / 4096) (next (c / 64) ∷ next c ∷ []) (omega (arith, three)) (next_bytes (c / 64) (next c ∷ []) (next_bytes c [] none)))
      | inr four ↦ rw (le-ltb c 65536 four)
          (All-cons IsByte (240 + c / 262144) (next (c / 4096) ∷ next (c / 64) ∷ next c ∷ []) (omega (arith, below_last c is))
          (next_bytes (c / 4096) (next (c / 64) ∷ next c ∷ []) (next_bytes (c / 64) (next c ∷ []) (next_bytes c [] none))))
    ])
  ])
]
  where
    none : All IsByte []
    none = All-nil IsByte

chars_bytes : (cs : List ℕ) → scalars cs ≡ true → All IsByte (encodes cs)
chars_bytes [] is = All-nil IsByte
chars_bytes (c ∷ cs) is =
    let parts = and_parts (scalar c) (scalars cs) is in
    All-append IsByte (encode c) (encodes cs) (char_bytes c parts.0) (chars_bytes cs parts.1)

utf8_bytes : (text : List ℕ) → IsUtf8 text → All IsByte text
utf8_bytes text is = subst (All IsByte) is.1.1 (chars_bytes is.0 is.1.0)

-- ---- escaped texts

-- an escaped text lacks the marks of a query
unmarked : (mark : ℕ) → is_harmless mark ≡ false → (text : List ℕ) → All (λ b. b ≢ mark) (escaped base_set text)
unmarked mark other text = All-from_get_or (λ b. b ≢ mark) (escaped base_set text) 0
    (λ i h same. true≢false (sym (AllPass-at is_harmless (escaped base_set text) (base_harmless text) i h) ∙ (ap is_harmless same ∙ other)))

-- an escaped text is read as the text
read_escaped : (text : List ℕ) → All IsByte text → percent_decode (escaped base_set text) ≡ text
unfolding escaped
read_escaped [] bytes = percent_decode-nil
read_escaped (b ∷ text) bytes = by (base_set b) refl (read_escaped text (All-tail IsByte b text bytes))
  where
    by : (is : Bool) → base_set b ≡ is → percent_decode (escaped base_set text) ≡ text
        → percent_decode (cond is (percent_encode_byte b) (b ∷ []) ++ escaped base_set text) ≡ b ∷ text
    by true e rest = percent_decode-percent_encode_byte b (escaped base_set text) (All-head IsByte b text bytes) ∙ ap (λ (t : List ℕ). b ∷ t) rest
    by false e rest = percent_decode_not_percent b (escaped base_set text) (λ same. true≢false (sym (ap base_set same) ∙ e)) ∙ ap (λ (t : List ℕ). b ∷ t) rest

decoded_escaped : (text : List ℕ) → IsUtf8 text → decoded_text (escaped base_set text) ≡ text
decoded_escaped text utf8 =
    let plain = map-plus_to_space (escaped base_set text) (unmarked 43 refl text) in
    ap (λ (bytes : List ℕ). utf8_lossy (percent_decode bytes)) plain
    ∙ (ap utf8_lossy (read_escaped text (utf8_bytes text utf8)) ∙ utf8_lossy-IsUtf8 text utf8)

-- pairs of UTF-8
abbrev pub AreTexts : List Pair → Type 0
AreTexts pairs = AllByRecursion (λ pair. IsUtf8 pair.0 × IsUtf8 pair.1) pairs

decoded_again : (pairs : List Pair) → AreTexts pairs → map decoded_pair (map escaped_pair pairs) ≡ pairs
decoded_again [] are = refl
decoded_again (pair ∷ pairs) are = λ i. (decoded_escaped pair.0 are.0.0 i, decoded_escaped pair.1 are.0.1 i) ∷ decoded_again pairs are.1 i

-- ---- pairs of a query

abbrev piece : Pair → List ℕ
piece pair = pair_text (escaped_pair pair)

piece_some : (pair : Pair) → 0 < length (piece pair)
piece_some pair = omega (arith, length-append (escaped base_set pair.0) (61 ∷ escaped base_set pair.1))

piece_unmarked : (pair : Pair) → All (λ b. b ≢ 38) (piece pair)
piece_unmarked pair =
    All-append (λ b. b ≢ 38) (escaped base_set pair.0) (61 ∷ escaped base_set pair.1) (unmarked 38 refl pair.0)
    (All-cons (λ b. b ≢ 38) 61 (escaped base_set pair.1) (omega arith) (unmarked 38 refl pair.1))

piece_cut : (pair : Pair) → split_pair (piece pair) ≡ escaped_pair pair
piece_cut pair =
    let none = unmarked 61 refl pair.0 in
    λ i. (split_once_before_at 61 (escaped base_set pair.0) (escaped base_set pair.1) none i, split_once_after_at 61 (escaped base_set pair.0) (escaped base_set pair.1) none i)

-- the first pair of a query, which ends at `&` or with it
first_pair : (query rest : List ℕ) (pair : Pair) → (split_once 38 query).0 ≡ piece pair → (split_once 38 query).1 ≡ rest
    → raw_pairs query ≡ escaped_pair pair ∷ raw_pairs rest
first_pair query rest pair before after =
    raw_pairs_first query (subst (λ (front : List ℕ). 0 < length front) (sym before) (piece_some pair))
    ∙ ((λ i. split_pair (before i) ∷ raw_pairs (after i)) ∙ ap (λ (p : Pair). p ∷ raw_pairs rest) (piece_cut pair))

raw_joined : (pairs : List Pair) → raw_pairs (join_with_byte 38 (map pair_text (map escaped_pair pairs))) ≡ map escaped_pair pairs
raw_joined [] = raw_pairs-nil
raw_joined (pair ∷ []) =
    first_pair (piece pair) [] pair (split_once_before_none 38 (piece pair) (piece_unmarked pair)) (split_once_after_none 38 (piece pair) (piece_unmarked pair))
    ∙ ap (λ (rest : List Pair). escaped_pair pair ∷ rest) raw_pairs-nil
raw_joined (pair ∷ next ∷ pairs) =
    let rest = join_with_byte 38 (map pair_text (map escaped_pair (next ∷ pairs))) in
    first_pair (piece pair ++ 38 ∷ rest) rest pair (split_once_before_at 38 (piece pair) rest (piece_unmarked pair)) (split_once_after_at 38 (piece pair) rest (piece_unmarked pair))
    ∙ ap (λ (more : List Pair). escaped_pair pair ∷ more) (raw_joined (next ∷ pairs))

-- ---- a query after another

abbrev IsSplit : List (List ℕ) → Type 0
IsSplit pieces = (first : List ℕ) × (more : List (List ℕ)) × (pieces ≡ first ∷ more)

splits : (text : List ℕ) → IsSplit (split 38 text)
unfolding split
splits [] = ([], [], refl)
splits (b ∷ text) = by (b == 38) (splits text)
  where
    by : (is : Bool) → IsSplit (split 38 text) → IsSplit (cond is ([] ∷ split 38 text) (onto_first b (split 38 text)))
    by true rest = ([], split 38 text, refl)
    by false rest = (b ∷ rest.0, rest.1, ap (onto_first b) rest.2)

onto_front : (b : ℕ) (pieces rest : List (List ℕ)) → IsSplit pieces → onto_first b (pieces ++ rest) ≡ onto_first b pieces ++ rest
onto_front b [] rest is = absurd (omega (arith, ap length is.2))
onto_front b (first ∷ pieces) rest is = refl

split_at : (front back : List ℕ) → split 38 (front ++ 38 ∷ back) ≡ split 38 front ++ split 38 back
unfolding split
split_at [] back = refl
split_at (b ∷ front) back = by (b == 38) (split_at front back)
  where
    by : (is : Bool) → split 38 (front ++ 38 ∷ back) ≡ split 38 front ++ split 38 back
        → cond is ([] ∷ split 38 (front ++ 38 ∷ back)) (onto_first b (split 38 (front ++ 38 ∷ back)))
        ≡ cond is ([] ∷ split 38 front) (onto_first b (split 38 front)) ++ split 38 back
    by true same = ap (λ (pieces : List (List ℕ)). [] ∷ pieces) same
    by false same = ap (onto_first b) same ∙ onto_front b (split 38 front) (split 38 back) (splits front)

raw_at : (front back : List ℕ) → raw_pairs (front ++ 38 ∷ back) ≡ raw_pairs front ++ raw_pairs back
unfolding raw_pairs
raw_at front back =
    ap (λ (pieces : List (List ℕ)). map split_pair (filter is_nonempty pieces)) (split_at front back)
    ∙ (ap (map split_pair) (filter-append is_nonempty (split 38 front) (split 38 back))
    ∙ map-append split_pair (filter is_nonempty (split 38 front)) (filter is_nonempty (split 38 back)))

-- escaped pairs, joined
abbrev joined : List Pair → List ℕ
joined pairs = join_with_byte 38 (map pair_text (map escaped_pair pairs))

-- the pairs of a target with more of them are its own, and then these
pub decoded_with : (target : Target) (pair : Pair) (pairs : List Pair) → AreTexts (pair ∷ pairs)
    → decoded (with_params target (pair ∷ pairs)) ≡ decoded target ++ pair ∷ pairs
unfolding decoded
decoded_with target pair pairs are =
    ap (λ (t : Target). decoded_pairs (unwrap_or t.query [])) (pairs_joined target (escaped_pair pair) (map escaped_pair pairs)) ∙ by target.query
  where
    read : decoded_pairs (joined (pair ∷ pairs)) ≡ pair ∷ pairs
    read = ap (map decoded_pair) (raw_joined (pair ∷ pairs)) ∙ decoded_again (pair ∷ pairs) are

    empty : pair ∷ pairs ≡ decoded_pairs [] ++ pair ∷ pairs
    empty = ap (λ (raw : List Pair). map decoded_pair raw ++ pair ∷ pairs) (sym raw_pairs-nil)

    by : (query : Option (List ℕ)) → decoded_pairs (before_pair query ++ joined (pair ∷ pairs)) ≡ decoded_pairs (unwrap_or query []) ++ pair ∷ pairs
    by None = read ∙ empty
    by (Some []) = read ∙ empty
    by (Some (b ∷ query)) =
        ap decoded_pairs (append_assoc (b ∷ query) (38 ∷ []) (joined (pair ∷ pairs)))
        ∙ (ap (map decoded_pair) (raw_at (b ∷ query) (joined (pair ∷ pairs)))
        ∙ (map-append decoded_pair (raw_pairs (b ∷ query)) (raw_pairs (joined (pair ∷ pairs)))
        ∙ ap (λ (rest : List Pair). map decoded_pair (raw_pairs (b ∷ query)) ++ rest) read))
