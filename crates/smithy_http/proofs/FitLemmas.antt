-- What escaped text is made of, and that a target may have it.
use Rattle.std.proofs.Common.{rules, ◌≡◌, ◌≢◌, subst, take, lt-ltb, ℕ, ◌/◌, ◌%◌, ◌<◌, ◌≤◌, ◌||◌, ◌==◌, Bool, cond, true, false, IsTrue, List, [], ◌∷◌, ◌++◌, length, get_or, Some, refl, sym, ap, ◌∙◌, arith, inl, inr, append_assoc, length-append, le-ltb, take_all, All}
use Rattle.std.proofs.lemmas.Bool.{cases_Bool, agree_below_at}
use Rattle.std.proofs.lemmas.Bool.Decides.{nat_tests}
use Rattle.std.proofs.lemmas.List.Elements.{All-append, All-nil, All-cons, All-get_or, All-from_get_or}
use Rattle.std.proofs.lemmas.Str.{IsUtf8-from_ascii, IsUtf8-append}
use Rattle.std.specs.Prelude.{codes, IsUtf8}
use Rattle.std.specs.Fmt.{digit_glyph}
use Rattle.percent_encoding.specs.Percent.{percent_encode_byte}
use Rattle.http_uri.specs.ByteClasses.{is_path_byte, is_query_byte, is_delimiter, index_of, split_once_front}
use Rattle.http_uri.specs.Grammar.{AllPass, IsScheme, IsAuthority, IsPathAndQuery, IsPathInput, normal_scheme, without_fragment}
use Rattle.http_uri.proofs.RunLemmas.{AllPass-at, AllPass-from, IsAscii-pass, index_of_at_least, index_of_is}
use Rattle.http_uri.proofs.PathLemmas.{IsPathAndQuery_slash}
use Rattle.smithy_http.specs.Label.{label_set}
use Rattle.smithy_http.specs.declared.label.EncodingStrategy.{EncodingStrategy}
use Rattle.smithy_http.specs.declared.label.EncodingStrategy.TheVariants.{Default, Greedy}
use Rattle.smithy_http.specs.Target.{IsAccepted, at_authority}
use Rattle.smithy_http.specs.Escape.{is_plain, base_set, greedy_set, escaped}

-- unreserved, `%` or `/`
abbrev pub is_harmless : ℕ → Bool
is_harmless byte = is_plain byte || byte == 37 || byte == 47

abbrev IsHarmless : ℕ → Type 0
IsHarmless byte = IsTrue (is_harmless byte)

digit_harmless : (digit : ℕ) → digit < 16 → is_harmless (digit_glyph true digit) ≡ true
digit_harmless digit low = agree_below_at (λ d. is_harmless (digit_glyph true d)) (λ _. true) 16 digit refl low

escape_harmless : (byte : ℕ) → AllPass is_harmless (percent_encode_byte byte)
unfolding percent_encode_byte
escape_harmless byte =
    let high = digit_glyph true (byte / 16 % 16) in
    let low = digit_glyph true (byte % 16) in
    All-cons IsHarmless 37 (high ∷ low ∷ []) refl (All-cons IsHarmless high (low ∷ []) (digit_harmless (byte / 16 % 16) (omega arith))
    (All-cons IsHarmless low [] (digit_harmless (byte % 16) (omega arith)) (All-nil IsHarmless)))

-- where what is left as it is is harmless, all is
escaped_harmless : (set : ℕ → Bool) → ((byte : ℕ) → set byte ≡ false → is_harmless byte ≡ true) → (text : List ℕ) → AllPass is_harmless (escaped set text)
unfolding escaped
escaped_harmless set left [] = All-nil IsHarmless
escaped_harmless set left (byte ∷ text) =
    All-append IsHarmless (cond (set byte) (percent_encode_byte byte) (byte ∷ [])) (escaped set text) first (escaped_harmless set left text)
  where
    first : AllPass is_harmless (cond (set byte) (percent_encode_byte byte) (byte ∷ []))
    first = elim (cases_Bool (set byte)) [
      | inl is_in ↦ rw is_in (escape_harmless byte)
      | inr out ↦ rw out (All-cons IsHarmless byte [] (left byte out) (All-nil IsHarmless))
    ]

base_left : (byte : ℕ) → base_set byte ≡ false → is_harmless byte ≡ true
base_left byte out = grind (arith, nat_tests)

greedy_left : (byte : ℕ) → greedy_set byte ≡ false → is_harmless byte ≡ true
greedy_left byte out = grind (arith, nat_tests)

pub base_harmless : (text : List ℕ) → AllPass is_harmless (escaped base_set text)
base_harmless text = escaped_harmless base_set base_left text

greedy_harmless : (text : List ℕ) → AllPass is_harmless (escaped greedy_set text)
greedy_harmless text = escaped_harmless greedy_set greedy_left text

harmless_asks : (byte : ℕ) → is_harmless byte ≡ true → is_query_byte byte ≡ true
harmless_asks byte plain = grind (arith, nat_tests)

harmless_leads : (byte : ℕ) → is_harmless byte ≡ true → is_path_byte byte ≡ true
harmless_leads byte plain = grind (arith, nat_tests)

harmless_ascii : (byte : ℕ) → is_harmless byte ≡ true → byte < 128
harmless_ascii byte plain = grind (arith, nat_tests)

pub query_of_harmless : (text : List ℕ) → AllPass is_harmless text → AllPass is_query_byte text
query_of_harmless text all = AllPass-from is_query_byte text λ k h. harmless_asks (get_or text k 0) (AllPass-at is_harmless text all k h)

path_of_harmless : (text : List ℕ) → AllPass is_harmless text → AllPass is_path_byte text
path_of_harmless text all = AllPass-from is_path_byte text λ k h. harmless_leads (get_or text k 0) (AllPass-at is_harmless text all k h)

utf8_of_harmless : (text : List ℕ) → AllPass is_harmless text → IsUtf8 text
utf8_of_harmless text all = IsUtf8-from_ascii text (IsAscii-pass is_harmless text harmless_ascii (AllPass-at is_harmless text all))

-- a path and a query that begin with `/`, after a scheme and an authority
accepted : (scheme authority tail : List ℕ) → IsScheme scheme → IsAuthority authority → get_or tail 0 0 ≡ 47 → IsPathAndQuery tail → All (λ byte. byte ≢ 35) tail
    → length (at_authority scheme authority tail) ≤ 65534 → IsAccepted (at_authority scheme authority tail)
accepted scheme authority tail is_scheme host slash valid inside short none =
    let whole : without_fragment tail ≡ tail =
    take_all _ tail (index_of_at_least 35 tail (length tail) (omega arith) λ k h. All-get_or (λ byte. byte ≢ 35) tail k 0 h inside) in
    let mark : IsTrue (is_delimiter (get_or tail 0 0)) = rw slash refl in
    let input : IsPathInput tail = record { start = inr mark; short = valid.short; kept = subst IsPathAndQuery (sym whole) valid } in
    none (Some (normal_scheme scheme)) (Some authority) tail (
      short,
      record {
        name = scheme;
        tail = tail;
        spelled = simp append_assoc;
        is_scheme = is_scheme;
        normal = refl;
        is_authority = host;
        is_tail = inr (mark, input, sym whole);
      },
    )

inside_of_harmless : (text : List ℕ) → AllPass is_harmless text → All (λ byte. byte ≢ 35) text
inside_of_harmless text all = All-from_get_or (λ byte. byte ≢ 35) text 0 λ k h. harmless_inside (get_or text k 0) (AllPass-at is_harmless text all k h)
  where
    harmless_inside : (byte : ℕ) → is_harmless byte ≡ true → byte ≢ 35
    harmless_inside byte plain = grind (arith, nat_tests)

no_question : (text : List ℕ) → AllPass is_harmless text → index_of 63 text ≡ length text
no_question text all =
    index_of_is 63 text (length text) (omega arith) (λ k h. harmless_path (get_or text k 0) (AllPass-at is_harmless text all k h)) λ h. absurd (omega arith)
  where
    harmless_path : (byte : ℕ) → is_harmless byte ≡ true → byte ≢ 63
    harmless_path byte plain = grind (arith, nat_tests)

-- a label after `/`
label_path : (text : List ℕ) → AllPass is_harmless text → length (47 ∷ text) ≤ 65534 → IsPathAndQuery (47 ∷ text)
label_path text all short =
    let whole : AllPass is_harmless (47 ∷ text) = All-cons IsHarmless 47 text refl all in
    let none : index_of 63 (47 ∷ text) ≡ length (47 ∷ text) = no_question (47 ∷ text) whole in
    let front : split_once_front 63 (47 ∷ text) ≡ 47 ∷ text = ap (λ n. take n (47 ∷ text)) none ∙ take_all (length (47 ∷ text)) (47 ∷ text) (omega arith) in
    record {
      start = inr (inr (inl refl));
      path = subst (AllPass is_path_byte) (sym front) (path_of_harmless (47 ∷ text) whole);
      query = rw (none, le-ltb (length (47 ∷ text)) (length (47 ∷ text)) (omega arith)) tt;
      utf8 = utf8_of_harmless (47 ∷ text) whole;
      short = short;
    }

-- a part of a query after `/?`
query_path : (text : List ℕ) → AllPass is_harmless text → length (47 ∷ 63 ∷ text) ≤ 65534 → IsPathAndQuery (47 ∷ 63 ∷ text)
query_path text all short =
    record {
      start = inr (inr (inl refl));
      path = IsPathAndQuery_slash.path;
      query = rw (lt-ltb 1 (length (47 ∷ 63 ∷ text)) (omega arith)) (query_of_harmless text all);
      utf8 = IsUtf8-append (47 ∷ 63 ∷ []) text (IsUtf8-from_ascii (47 ∷ 63 ∷ []) (search rules)) (utf8_of_harmless text all);
      short = short;
    }

shorter : (scheme authority tail : List ℕ) → length (at_authority scheme authority tail) ≤ 65534 → length tail ≤ 65534
shorter scheme authority tail short =
    omega (arith, length-append scheme (58 ∷ 47 ∷ 47 ∷ (authority ++ tail)), length-append authority tail)

label_accepted : (scheme authority text : List ℕ) → IsScheme scheme → IsAuthority authority → AllPass is_harmless text
    → length (at_authority scheme authority (47 ∷ text)) ≤ 65534 → IsAccepted (at_authority scheme authority (47 ∷ text))
label_accepted scheme authority text is_scheme host all short =
    accepted scheme authority (47 ∷ text) is_scheme host refl (label_path text all (shorter scheme authority (47 ∷ text) short))
    (inside_of_harmless (47 ∷ text) (All-cons IsHarmless 47 text refl all)) short

pub label_fits : (scheme authority text : List ℕ) (strategy : EncodingStrategy) → IsScheme scheme → IsAuthority authority
    → length (at_authority scheme authority (codes "/" ++ escaped (label_set strategy) text)) ≤ 65534
    → IsAccepted (at_authority scheme authority (codes "/" ++ escaped (label_set strategy) text))
label_fits scheme authority text Default is_scheme host short = label_accepted scheme authority (escaped base_set text) is_scheme host (base_harmless text) short
label_fits scheme authority text Greedy is_scheme host short = label_accepted scheme authority (escaped greedy_set text) is_scheme host (greedy_harmless text) short

pub query_part_fits : (scheme authority text : List ℕ) → IsScheme scheme → IsAuthority authority
    → length (at_authority scheme authority (codes "/?" ++ escaped base_set text)) ≤ 65534
    → IsAccepted (at_authority scheme authority (codes "/?" ++ escaped base_set text))
query_part_fits scheme authority text is_scheme host short =
    let query = escaped base_set text in
    let all = base_harmless text in
    accepted scheme authority (47 ∷ 63 ∷ query) is_scheme host refl (query_path query all (shorter scheme authority (47 ∷ 63 ∷ query) short))
    (All-cons (λ byte. byte ≢ 35) 47 (63 ∷ query) (omega arith) (All-cons (λ byte. byte ≢ 35) 63 query (omega arith) (inside_of_harmless query all))) short
