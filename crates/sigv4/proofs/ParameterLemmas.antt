-- A target takes more parameters unless its text is `*` or gets too long.
use Rattle.std.proofs.Common.{rules, ◌≡◌, ◌≢◌, ◌==◌, ◌||◌, ℕ, ◌+◌, ◌<◌, ◌≤◌, cond, true, false, not, is_some, map, IsTrue, List, [], ◌∷◌, ◌++◌, length, get_or, drop, Option, Some, None, refl, sym, ap, subst, ◌∙◌, arith, inl, inr, take_at, take_all, drop_at, drop-drop, get_or-take, length-append, append-nil, append_assoc, ne_eqb, le-ltb, length-take-le, lt-ltb, All}
use Rattle.std.specs.Prelude.{◌↔◌, IfSome, IsNone, IsSome, IsUtf8, bytes_eq, codes}
use Rattle.std.specs.List.{join_with_byte}
use Rattle.std.proofs.lemmas.Bool.{false≢true, cases_Bool, cases_lt, ltb-true, or_right}
use Rattle.std.proofs.lemmas.Bool.Decides.{nat_tests}
use Rattle.std.proofs.lemmas.List.{get_or_append_left}
use Rattle.std.proofs.lemmas.Slice.Eq.{bytes_eq-Decides}
use Rattle.std.proofs.lemmas.List.Elements.{All-append, All-nil, All-cons, All-get_or, All-from_get_or}
use Rattle.std.proofs.lemmas.Str.{IsUtf8-from_ascii, IsUtf8-append, IsUtf8-take, IsUtf8-drop, IsCharBoundary-before_ascii, IsCharBoundary-after_ascii}
use Rattle.http_uri.specs.ByteClasses.{lowercase, is_path_byte, is_query_byte, is_delimiter, index_of, framed_text, split_once_front, split_once_back}
use Rattle.http_uri.specs.Grammar.{AllPass, IsScheme, IsAuthority, IsPathAndQuery, IsPathInput, IsAbsoluteForm, IsForm, IsOriginForm, IsTail, without_fragment, path_of, query_of, normal_scheme}
use Rattle.http_uri.specs.Uri.{SpellsNone, uri_scheme, uri_authority, uri_data}
use Rattle.http_uri.specs.declared.uri.Uri.{Uri}
use Rattle.http_uri.proofs.RunLemmas.{AllPass-at, IsAscii-pass, index_of_at_least, index_of_is, index_of_found, index_of_le, run-append}
use Rattle.http_uri.proofs.AuthorityLemmas.{IsAuthority_no_delimiter}
use Rattle.http_uri.proofs.PathLemmas.{path_byte_no_mark, query_byte_no_hash, IsPathAndQuery_slash}
use Rattle.http_uri.proofs.UriLemmas.{cut_scheme, none_of}
use Rattle.smithy_http.specs.QueryWriter.{IsRefused, SpellsTarget, before_pair, escaped_pair, with_pair}
use Rattle.smithy_http.specs.Escape.{base_set, escaped}
use Rattle.smithy_http.specs.Query.{ampersand, pair, pair_text}
use Rattle.smithy_http.specs.Target.{Target, target_of, target_text}
use Rattle.smithy_http.proofs.FitLemmas.{is_harmless, base_harmless, query_of_harmless}
use Rattle.smithy_http.proofs.QueryLemmas.{pairs_joined}
use Rattle.smithy_http.proofs.TargetLemmas.{same_first, some_byte}
use Rattle.sigv4.specs.Query.{Pair}
use Rattle.sigv4.specs.Parameters.{is_asterisk, is_too_long, takes_no_more, with_params}

-- a text that may be a query
abbrev IsQueryText : List ℕ → Type 0
IsQueryText text = AllPass is_query_byte text × IsUtf8 text

-- a path that begins with a slash
record IsPathText (text : List ℕ) : Type 0 where
  slash : get_or text 0 0 ≡ 47
  some : 0 < length text
  plain : AllPass is_path_byte text
  utf8 : IsUtf8 text

abbrev IsAsked : ℕ → Type 0
IsAsked byte = IsTrue (is_query_byte byte)

-- escaped texts may stand in a query, and so may pairs of them
escaped_asked : (text : List ℕ) → IsQueryText (escaped base_set text)
escaped_asked text = (
  query_of_harmless (escaped base_set text) (base_harmless text),
  IsUtf8-from_ascii (escaped base_set text) (IsAscii-pass is_harmless (escaped base_set text) low (AllPass-at is_harmless (escaped base_set text) (base_harmless text))),
)
  where
    low : (byte : ℕ) → is_harmless byte ≡ true → byte < 128
    low byte plain = grind (arith, nat_tests)

ascii_asked : (byte : ℕ) → is_query_byte byte ≡ true → IsUtf8 (byte ∷ []) → IsQueryText (byte ∷ [])
ascii_asked byte asked utf8 = (All-cons IsAsked byte [] asked (All-nil IsAsked), utf8)

joined_asked : (front back : List ℕ) → IsQueryText front → IsQueryText back → IsQueryText (front ++ back)
joined_asked front back first second = (All-append IsAsked front back first.0 second.0, IsUtf8-append front back first.1 second.1)

pair_asked : (p : Pair) → IsQueryText (pair (escaped base_set p.0) (escaped base_set p.1))
pair_asked p =
    joined_asked (escaped base_set p.0) (61 ∷ escaped base_set p.1) (escaped_asked p.0)
    (joined_asked (61 ∷ []) (escaped base_set p.1) (ascii_asked 61 refl (IsUtf8-from_ascii (61 ∷ []) (search rules))) (escaped_asked p.1))

before_asked : (query : Option (List ℕ)) → IfSome query IsQueryText → IsQueryText (before_pair query)
before_asked None asked = (All-nil IsAsked, IsUtf8-from_ascii [] (search rules))
before_asked (Some []) asked = asked
before_asked (Some (byte ∷ query)) asked = joined_asked (byte ∷ query) (38 ∷ []) asked (ascii_asked 38 refl (IsUtf8-from_ascii (38 ∷ []) (search rules)))

query_asked : (t : Target) (params : List Pair) → IfSome t.query IsQueryText → IfSome (with_params t params).query IsQueryText
query_asked t [] asked = asked
query_asked t (p ∷ params) asked =
    query_asked (with_pair t (escaped base_set p.0) (escaped base_set p.1)) params (joined_asked (before_pair t.query) _ (before_asked t.query asked) (pair_asked p))

-- parameters change the query alone, and then there is one
abbrev query_with : Target → Pair → List Pair → List ℕ
query_with t param params = before_pair t.query ++ join_with_byte ampersand (map pair_text (map escaped_pair (param ∷ params)))

with_query : (t : Target) (param : Pair) (params : List Pair) → with_params t (param ∷ params) ≡ record t { query = Some (query_with t param params) }
with_query t param params = pairs_joined t (escaped_pair param) (map escaped_pair params)

query_with_asked : (t : Target) (param : Pair) (params : List Pair) → IfSome t.query IsQueryText → IsQueryText (query_with t param params)
query_with_asked t param params asked = subst (λ (x : Target). IfSome x.query IsQueryText) (with_query t param params) (query_asked t (param ∷ params) asked)

-- the text before a mark, and the one after it
front_utf8 : (byte : ℕ) (text : List ℕ) → byte < 128 → IsUtf8 text → IsUtf8 (split_once_front byte text)
front_utf8 byte text low utf8 =
    elim (cases_lt (index_of byte text) (length text)) [
      | inl found ↦
          IsUtf8-take text (index_of byte text) utf8
          (IsCharBoundary-before_ascii text (index_of byte text) found (rw (index_of_found byte text found) low))
      | inr none ↦ subst IsUtf8 (sym (take_all (index_of byte text) text none)) utf8
    ]

back_asked : (text : List ℕ) → IsUtf8 text → IfSome (split_once_back 63 text) (AllPass is_query_byte) → IfSome (split_once_back 63 text) IsQueryText
back_asked text utf8 asked =
    elim (cases_lt (index_of 63 text) (length text)) [
      | inl found ↦
          let back = rw (lt-ltb (index_of 63 text) (length text) found) at asked in
          rw (lt-ltb (index_of 63 text) (length text) found)
          (back, IsUtf8-drop text (index_of 63 text + 1) utf8 (IsCharBoundary-after_ascii text (index_of 63 text) utf8 found (rw (index_of_found 63 text found) (omega arith))))
      | inr none ↦ rw (le-ltb (index_of 63 text) (length text) none) tt
    ]

slash_text : IsPathText (47 ∷ [])
slash_text = record { slash = refl; some = omega arith; plain = IsPathAndQuery_slash.path; utf8 = IsPathAndQuery_slash.utf8 }

-- the path of what is kept of a text that isn't `*`
path_text : (kept : List ℕ) → kept ≢ 42 ∷ [] → IsPathAndQuery kept → IsPathText (path_of kept)
path_text kept other valid = elim valid.start [
  | inl none ↦ subst (λ k. IsPathText (path_of k)) (sym none) slash_text
  | inr (inl star) ↦ absurd (other star)
  | inr (inr (inl slash)) ↦
      let first : get_or (split_once_front 63 kept) 0 0 ≡ 47 = same_first 63 kept (omega arith) (omega arith) ∙ slash in
      let some : 0 < length (split_once_front 63 kept) = some_byte (split_once_front 63 kept) (omega arith) in
      rw (ne_eqb (length (split_once_front 63 kept)) 0 (omega arith))
      (record { slash = first; some = some; plain = valid.path; utf8 = front_utf8 63 kept (omega arith) valid.utf8 })
  | inr (inr (inr mark)) ↦
      let none : index_of 63 kept ≡ 0 = index_of_is 63 kept 0 (omega arith) (λ k h. absurd (omega arith)) (λ _. mark) in
      rw none slash_text
]

-- a text that doesn't begin with `*` keeps no `*` alone
no_star : (text : List ℕ) → get_or text 0 0 ≢ 42 → without_fragment text ≢ 42 ∷ []
no_star text other star =
    let len : length (without_fragment text) ≡ index_of 35 text = length-take-le (index_of 35 text) text (index_of_le 35 text) in
    let first : get_or text 0 0 ≡ 42 = sym (get_or-take (index_of 35 text) text 0 0 (omega (arith, ap length star))) ∙ ap (λ t. get_or t 0 0) star in
    other first

-- a path with a query behind it
module _ (path : List ℕ) (query : List ℕ) (is_path : IsPathText path) (asked : IsQueryText query) where
  abbrev joined : List ℕ
  joined = path ++ 63 ∷ query

  first_slash : get_or joined 0 0 ≡ 47
  first_slash = get_or_append_left path (63 ∷ query) 0 0 is_path.some ∙ is_path.slash

  inside : All (λ byte. byte ≢ 35) joined
  inside =
      All-append (λ byte. byte ≢ 35) path (63 ∷ query) (All-from_get_or (λ byte. byte ≢ 35) path 0 λ i h. (path_byte_no_mark _ (AllPass-at is_path_byte path is_path.plain i h)).0)
      (All-cons (λ byte. byte ≢ 35) 63 query (omega arith) (All-from_get_or (λ byte. byte ≢ 35) query 0 λ i h. query_byte_no_hash _ (AllPass-at is_query_byte query asked.0 i h)))

  whole : without_fragment joined ≡ joined
  whole = take_all _ joined (index_of_at_least 35 joined (length joined) (omega arith) λ k h. All-get_or (λ byte. byte ≢ 35) joined k 0 h inside)

  mark : index_of 63 joined ≡ length path
  mark = run-append (λ b. not (b == 63)) path (63 ∷ query) unmarked λ _. refl
    where
      unmarked : (k : ℕ) → k < length path → not (get_or path k 0 == 63) ≡ true
      unmarked k h = let plain_byte : get_or path k 0 ≢ 63 = (path_byte_no_mark (get_or path k 0) (AllPass-at is_path_byte path is_path.plain k h)).1 in grind (arith, nat_tests)

  query_back : split_once_back 63 joined ≡ Some query
  query_back =
      let back : drop (length path + 1) joined ≡ query = sym (drop-drop 1 (length path) joined) ∙ ap (drop 1) (drop_at path (63 ∷ query) _ refl) in
      rw (mark, lt-ltb (length path) (length joined) (omega (arith, length-append path (63 ∷ query)))) (ap Some back)

  valid : length joined ≤ 65534 → IsPathAndQuery joined
  valid short = record {
    start = inr (inr (inl first_slash));
    path = subst (AllPass is_path_byte) (sym (take_at path (63 ∷ query) _ (sym mark))) is_path.plain;
    query = subst (λ q. IfSome q (AllPass is_query_byte)) (sym query_back) asked.0;
    utf8 = IsUtf8-append path (63 ∷ query) is_path.utf8 (IsUtf8-append (63 ∷ []) query (IsUtf8-from_ascii (63 ∷ []) (search rules)) asked.1);
    short = short;
  }

  delimited : IsTrue (is_delimiter (get_or joined 0 0))
  delimited = rw first_slash refl

  input : length joined ≤ 65534 → IsPathInput joined
  input short = record { start = inr delimited; short = short; kept = subst IsPathAndQuery (sym whole) (valid short) }

-- the parts of a URI with a query in place of its own, joined
abbrev path_by : Option (List ℕ) → List ℕ → List ℕ
path_by scheme kept = cond (not (length kept == 0) || is_some scheme) (path_of kept) []

abbrev text_by : Option (List ℕ) → Option (List ℕ) → List ℕ → List ℕ → List ℕ
text_by scheme authority kept query =
    framed_text [] scheme (codes "://") ++ (framed_text [] authority [] ++ (path_by scheme kept ++ framed_text (codes "?") (Some query) []))

-- a scheme is held with `http` and `https` in lower case
scheme_held : (name : List ℕ) → IsScheme name → IsScheme (normal_scheme name) × (normal_scheme (normal_scheme name) ≡ normal_scheme name)
scheme_held name is_scheme =
    elim (cases_Bool (bytes_eq (lowercase name) (codes "http"))) [
      | inl is_http ↦ rw is_http ((search rules, omega arith), refl)
      | inr other ↦
          elim (cases_Bool (bytes_eq (lowercase name) (codes "https"))) [
            | inl is_https ↦ rw (other, is_https) ((search rules, omega arith), refl)
            | inr neither ↦ rw (other, neither) (is_scheme, rw (other, neither) refl)
          ]
    ]

-- what an origin form keeps, where it begins with a slash
origin_path : (text : List ℕ) → get_or text 0 0 ≡ 47 → IsPathAndQuery (without_fragment text) → (path_by None (without_fragment text) ≡ path_of (without_fragment text)) × IsPathText (path_of (without_fragment text))
origin_path text slash valid =
    let kept = without_fragment text in
    let first : get_or kept 0 0 ≡ 47 = same_first 35 text (omega arith) (omega arith) ∙ slash in
    let some : 0 < length kept = some_byte kept (omega arith) in
    (rw (ne_eqb (length kept) 0 (omega arith)) refl, path_text kept (no_star text (omega arith)) valid)

accepted_origin : (path query : List ℕ) → IsPathText path → IsQueryText query → length (path ++ 63 ∷ query) ≤ 65534 → ¬ (SpellsNone (path ++ 63 ∷ query))
accepted_origin path query is_path asked short none =
    none None None (path ++ 63 ∷ query)
    (short, ((inr (first_slash path query is_path asked), input path query is_path asked short), sym (whole path query is_path asked)))

accepted_absolute : (scheme authority path query : List ℕ) → IsScheme scheme → normal_scheme scheme ≡ scheme → IsAuthority authority → IsPathText path → IsQueryText query
    → length (scheme ++ 58 ∷ 47 ∷ 47 ∷ (authority ++ (path ++ 63 ∷ query))) ≤ 65534 → ¬ (SpellsNone (scheme ++ 58 ∷ 47 ∷ 47 ∷ (authority ++ (path ++ 63 ∷ query))))
accepted_absolute scheme authority path query is_scheme normal is_authority is_path asked short none =
    let tail = path ++ 63 ∷ query in
    let fits : length tail ≤ 65534 = omega (arith, length-append scheme (58 ∷ 47 ∷ 47 ∷ (authority ++ tail)), length-append authority tail) in
    none (Some scheme) (Some authority) tail (
      short,
      record {
        name = scheme;
        tail = tail;
        spelled = simp append_assoc;
        is_scheme = is_scheme;
        normal = sym normal;
        is_authority = is_authority;
        is_tail = inr (delimited path query is_path asked, input path query is_path asked fits, sym (whole path query is_path asked));
      },
    )

-- what follows an authority keeps no `*`
tail_path : (tail kept : List ℕ) → IsTail tail kept → IsPathText (path_of kept)
tail_path tail kept (inl none) = subst (λ k. IsPathText (path_of k)) (sym none.1) slash_text
tail_path tail kept (inr cut) =
    subst (λ k. IsPathText (path_of k)) (sym cut.2) (path_text (without_fragment tail) (no_star tail other) cut.1.kept)
  where
    other : get_or tail 0 0 ≢ 42
    other star = let never = rw star at cut.0 in false≢true never

-- `*` with a query is no target
star_refused : (query : List ℕ) → SpellsNone (42 ∷ 63 ∷ query)
star_refused query = none_of (42 ∷ 63 ∷ query) no_start (λ host _. false≢true (IsAuthority_no_delimiter (42 ∷ 63 ∷ query) host 1 (omega arith))) no_scheme
  where
    no_start : ¬ (IsOriginForm (42 ∷ 63 ∷ query))
    no_start origin = elim origin.0 [ inl star ↦ omega (arith, ap length star) | inr slash ↦ omega (arith, slash) ]

    no_scheme : (scheme authority kept : List ℕ) → ¬ (IsAbsoluteForm (42 ∷ 63 ∷ query) scheme authority kept)
    no_scheme scheme authority kept h = let cut = (cut_scheme (42 ∷ 63 ∷ query) scheme authority kept h).1 in omega (arith, ap (λ t. get_or t 0 0) cut)

long_refused : (joined : List ℕ) → 65534 < length joined → SpellsNone joined
long_refused joined long scheme authority kept h = omega (arith, long, h.0)

-- a text isn't accepted exactly where its path is `*` or it is too long
abbrev Verdict : List ℕ → List ℕ → Type 0
Verdict path joined = SpellsNone joined ↔ ((bytes_eq path (42 ∷ []) || is_too_long joined) ≡ true)

slash_no_star : (path : List ℕ) → get_or path 0 0 ≡ 47 → bytes_eq path (42 ∷ []) ≡ false
slash_no_star path slash = elim (cases_Bool (bytes_eq path (42 ∷ []))) [
  | inl star ↦ absurd (omega (arith, slash, ap (λ t. get_or t 0 0) ((bytes_eq-Decides path (42 ∷ [])).0 star)))
  | inr other ↦ other
]

-- so it is of a path that begins with a slash, and a text that is accepted where it isn't too long
verdict : (path joined : List ℕ) → get_or path 0 0 ≡ 47 → (length joined ≤ 65534 → ¬ (SpellsNone joined)) → Verdict path joined
verdict path joined slash accepted = (none, refused)
  where
    none : SpellsNone joined → (bytes_eq path (42 ∷ []) || is_too_long joined) ≡ true
    none spells = elim (cases_lt 65534 (length joined)) [
      | inl long ↦ or_right (bytes_eq path (42 ∷ [])) (is_too_long joined) (lt-ltb 65534 (length joined) long)
      | inr short ↦ absurd (accepted short spells)
    ]

    refused : (bytes_eq path (42 ∷ []) || is_too_long joined) ≡ true → SpellsNone joined
    refused why = let long : is_too_long joined ≡ true = rw (slash_no_star path slash) at why in long_refused joined (ltb-true 65534 (length joined) long)

-- a target with a query in place of its own is refused where it is `*`, or the text is past the limit, and nowhere else
refused_by : (text : List ℕ) (scheme authority : Option (List ℕ)) (kept query : List ℕ) → IsForm text scheme authority kept → ¬ (IsNone scheme × IsSome authority) → IsQueryText query
    → Verdict (path_by scheme kept) (text_by scheme authority kept query)
refused_by text None None kept query h alone asked = subst (λ k. Verdict (path_by None k) (text_by None None k query)) (sym h.1) (elim h.0.0 [
  | inl star ↦ rw star (rw (append-nil query) ((λ none. refl), (λ _. star_refused query)))
  | inr slash ↦
      let path = origin_path text slash h.0.1.kept in
      let joined : text_by None None (without_fragment text) query ≡ path_of (without_fragment text) ++ 63 ∷ query = rw (path.0, append-nil query) refl in
      subst (λ p. Verdict p (text_by None None (without_fragment text) query)) (sym path.0)
      (subst (Verdict (path_of (without_fragment text))) (sym joined)
      (verdict (path_of (without_fragment text)) _ path.1.slash (accepted_origin _ query path.1 asked)))
])
refused_by text None (Some authority) kept query h alone asked = absurd (alone (refl, refl))
refused_by text (Some scheme) None kept query h alone asked = absurd h
refused_by text (Some scheme) (Some authority) kept query h alone asked =
    let held = subst (λ s. IsScheme s × (normal_scheme s ≡ s)) (sym h.normal) (scheme_held h.name h.is_scheme) in
    let is_path = tail_path h.tail kept h.is_tail in
    let path : path_by (Some scheme) kept ≡ path_of kept = rw (or_right (not (length kept == 0)) true refl) refl in
    let joined : text_by (Some scheme) (Some authority) kept query ≡ scheme ++ 58 ∷ 47 ∷ 47 ∷ (authority ++ (path_of kept ++ 63 ∷ query)) =
    rw (or_right (not (length kept == 0)) true refl, append-nil authority, append-nil query) (append_assoc scheme (58 ∷ 47 ∷ 47 ∷ []) _) in
    subst (λ p. Verdict p (text_by (Some scheme) (Some authority) kept query)) (sym path)
    (subst (Verdict (path_of kept)) (sym joined)
    (verdict (path_of kept) _ is_path.slash (accepted_absolute scheme authority (path_of kept) query held.0 held.1 h.is_authority is_path asked)))

-- the query that is read of a target
kept_asked : (text : List ℕ) (scheme authority : Option (List ℕ)) (kept : List ℕ) → IsForm text scheme authority kept → IfSome (query_of kept) IsQueryText
kept_asked text None None kept h = subst (λ k. IfSome (query_of k) IsQueryText) (sym h.1) (back_asked (without_fragment text) h.0.1.kept.utf8 h.0.1.kept.query)
kept_asked text None (Some authority) kept h = subst (λ k. IfSome (query_of k) IsQueryText) (sym h.3) tt
kept_asked text (Some scheme) None kept h = absurd h
kept_asked text (Some scheme) (Some authority) kept h = tail_asked h.tail kept h.is_tail
  where
    tail_asked : (tail kept : List ℕ) → IsTail tail kept → IfSome (query_of kept) IsQueryText
    tail_asked tail kept (inl none) = subst (λ k. IfSome (query_of k) IsQueryText) (sym none.1) tt
    tail_asked tail kept (inr cut) = subst (λ k. IfSome (query_of k) IsQueryText) (sym cut.2) (back_asked (without_fragment tail) cut.1.kept.utf8 cut.1.kept.query)

-- a target with more parameters is refused exactly where it takes no more
pub refused_where : (old : List ℕ) (uri : Uri) (param : Pair) (params : List Pair) → SpellsTarget old uri
    → IsRefused (with_params (target_of uri) (param ∷ params)) ↔ (takes_no_more (param ∷ params) (target_of uri) ≡ true)
unfolding target_text
refused_where old uri param params spells =
    let t = target_of uri in
    let query = query_with t param params in
    let asked = query_with_asked t param params (kept_asked old (uri_scheme uri) (uri_authority uri) (uri_data uri) spells.0.1) in
    let by = refused_by old (uri_scheme uri) (uri_authority uri) (uri_data uri) query spells.0.1 spells.1 asked in
    subst (λ x. IsRefused x ↔ ((is_asterisk t || is_too_long (target_text x)) ≡ true)) (sym (with_query t param params))
    ((λ refused. elim refused [ inl alone ↦ absurd (spells.1 alone) | inr none ↦ by.0 none ]), λ why. inr (by.1 why))
