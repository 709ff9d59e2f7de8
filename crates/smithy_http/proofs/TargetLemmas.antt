-- A target whose query has the bytes of a query is read back as it is.
use Rattle.std.proofs.Common.{rules, map, ◌||◌, is_some, get_or-take, ◌≡◌, ◌≢◌, ℕ, ◌+◌, ◌<◌, ◌≤◌, ◌⊎◌, ◌==◌, cond, true, false, nat_lt, not, IsTrue, List, [], ◌∷◌, ◌++◌, length, get_or, take, drop, Option, Some, None, refl, sym, ap, subst, ◌∙◌, arith, inl, inr, take_at, take_all, drop_at, drop-drop, length-append, append-nil, append_assoc, ne_eqb, lt-ltb, le-ltb, All}
use Rattle.std.specs.Prelude.{IfSome, IsNone, IsSome, bytes_eq, codes}
use Rattle.std.proofs.lemmas.Bool.{false≢true}
use Rattle.std.proofs.lemmas.List.{get_or_append_left, append_cancel_left}
use Rattle.std.proofs.lemmas.Bool.{cases_Bool, cases_eq, or_right}
use Rattle.std.proofs.lemmas.Bool.Decides.{nat_tests}
use Rattle.std.proofs.lemmas.List.Elements.{All-append, All-nil, All-cons, All-get_or, All-from_get_or}
use Rattle.http_uri.specs.ByteClasses.{lowercase, is_path_byte, is_query_byte, is_scheme_byte, is_delimiter, index_of, framed_text, split_once_front}
use Rattle.http_uri.specs.Grammar.{AllPass, without_fragment, path_of, query_of, normal_scheme, or_slash, IsAuthority, IsForm, IsAbsoluteForm, HasScheme, StartsOrigin, IsTail, scheme_len, authority_len}
use Rattle.http_uri.specs.Uri.{Spells, uri_scheme, uri_authority, uri_data, uri_path, uri_text}
use Rattle.http_uri.specs.declared.uri.Uri.{Uri}
use Rattle.smithy_http.specs.Escape.{base_set, escaped}
use Rattle.smithy_http.proofs.FitLemmas.{base_harmless, query_of_harmless}
use Rattle.smithy_http.specs.Query.{pair}
use Rattle.smithy_http.specs.QueryWriter.{before_pair, escaped_pair, with_pair, with_pairs}
use Rattle.smithy_http.specs.Target.{Target, target_of, target_text, IsAuthorityAlone}
use Rattle.http_uri.proofs.RunLemmas.{AllPass-at, index_of_at_least, index_of_is, run-append}
use Rattle.http_uri.proofs.SchemeLemmas.{scheme_byte_plain}
use Rattle.http_uri.proofs.AuthorityLemmas.{IsAuthority_no_delimiter}
use Rattle.http_uri.proofs.UriLemmas.{cut_name, cut_rest, cut_authority, cut_scheme, cut_first, IsAuthority_first, IsAuthority_no_scheme}
use Rattle.http_uri.proofs.PathLemmas.{path_byte_no_mark, query_byte_no_hash, IsPathAndQuery_slash}

-- the byte begins no fragment
abbrev IsInside : ℕ → Type 0
IsInside byte = byte ≢ 35

path_inside : (path : List ℕ) → AllPass is_path_byte path → All IsInside path
path_inside path plain = All-from_get_or IsInside path 0 λ i h. (path_byte_no_mark _ (AllPass-at is_path_byte path plain i h)).0

query_inside : (query : Option (List ℕ)) → IfSome query (AllPass is_query_byte) → All IsInside (framed_text (63 ∷ []) query [])
query_inside None plain = All-nil IsInside
query_inside (Some query) plain =
    let inside : All IsInside query = All-from_get_or IsInside query 0 λ i h. query_byte_no_hash _ (AllPass-at is_query_byte query plain i h) in
    All-append IsInside (63 ∷ []) (query ++ []) (All-cons IsInside 63 [] (omega arith) (All-nil IsInside)) (All-append IsInside query [] inside (All-nil IsInside))

-- a path, and a query after it
module _ (path : List ℕ) (some : 0 < length path) (plain : AllPass is_path_byte path) (query : Option (List ℕ)) (asked : IfSome query (AllPass is_query_byte)) where
  abbrev rest : List ℕ
  rest = framed_text (63 ∷ []) query []

  whole : without_fragment (path ++ rest) ≡ path ++ rest
  whole =
      let inside = All-append IsInside path rest (path_inside path plain) (query_inside query asked) in
      take_all _ (path ++ rest) (index_of_at_least 35 (path ++ rest) (length (path ++ rest)) (omega arith) λ k h. All-get_or IsInside (path ++ rest) k 0 h inside)

  unmarked : (k : ℕ) → k < length path → not (get_or path k 0 == 63) ≡ true
  unmarked k h = let plain_byte : get_or path k 0 ≢ 63 = (path_byte_no_mark (get_or path k 0) (AllPass-at is_path_byte path plain k h)).1 in grind (arith, nat_tests)

  mark : index_of 63 (path ++ rest) ≡ length path
  mark = run-append (λ b. not (b == 63)) path rest unmarked (begins query)
    where
      begins : (query : Option (List ℕ)) → 0 < length (framed_text (63 ∷ []) query []) → not (get_or (framed_text (63 ∷ []) query []) 0 0 == 63) ≡ false
      begins None h = absurd (omega arith)
      begins (Some query) h = refl

  path_back : path_of (path ++ rest) ≡ path
  path_back = ap or_slash (take_at path rest _ (sym mark)) ∙ rw (ne_eqb (length path) 0 (omega arith)) refl

  query_back : query_of (path ++ rest) ≡ query
  query_back = ap (λ n. cond (nat_lt n (length (path ++ rest))) (Some (drop (n + 1) (path ++ rest))) None) mark ∙ after query
    where
      after : (q : Option (List ℕ)) → cond (nat_lt (length path) (length (path ++ framed_text (63 ∷ []) q []))) (Some (drop (length path + 1) (path ++ framed_text (63 ∷ []) q []))) None ≡ q
      after None = rw (append-nil path, le-ltb (length path) (length path) (omega arith)) refl
      after (Some q) =
          let back : drop (length path + 1) (path ++ 63 ∷ (q ++ [])) ≡ q =
          sym (drop-drop 1 (length path) (path ++ 63 ∷ (q ++ []))) ∙ ap (drop 1) (drop_at path (63 ∷ (q ++ [])) _ refl) ∙ append-nil q in
          rw (lt-ltb (length path) (length (path ++ 63 ∷ (q ++ []))) (omega (arith, length-append path (63 ∷ (q ++ []))))) (ap Some back)

-- the parts that a URI of these is read with
record IsSame (scheme authority query : Option (List ℕ)) (path : List ℕ) (found_scheme found_authority : Option (List ℕ)) (found : List ℕ) : Type 0 where
  same_scheme : found_scheme ≡ scheme
  same_authority : found_authority ≡ authority
  some : 0 < length found
  same_path : path_of found ≡ path
  same_query : query_of found ≡ query

first_plain : (scheme more : List ℕ) → AllPass is_scheme_byte scheme → get_or (scheme ++ 58 ∷ more) 0 0 ≢ 47
first_plain [] more all = omega arith
first_plain (byte ∷ scheme) more all = (scheme_byte_plain byte (AllPass-at is_scheme_byte (byte ∷ scheme) all 0 (omega arith))).1

-- the absolute form
module _ (scheme authority path : List ℕ) (query : Option (List ℕ)) (all : AllPass is_scheme_byte scheme) (normal : normal_scheme scheme ≡ scheme) (host : IsAuthority authority)
    (slash : get_or path 0 0 ≡ 47) (some : 0 < length path) (plain : AllPass is_path_byte path) (asked : IfSome query (AllPass is_query_byte)) where
  abbrev back : List ℕ
  back = path ++ framed_text (63 ∷ []) query []

  abbrev joined : List ℕ
  joined = scheme ++ 58 ∷ 47 ∷ 47 ∷ (authority ++ back)

  len : scheme_len joined ≡ length scheme
  len = run-append is_scheme_byte scheme (58 ∷ 47 ∷ 47 ∷ (authority ++ back)) (AllPass-at is_scheme_byte scheme all) λ _. refl

  after_scheme : drop (scheme_len joined) joined ≡ 58 ∷ 47 ∷ 47 ∷ (authority ++ back)
  after_scheme = drop_at scheme _ _ (sym len)

  long : 3 < length joined
  long = omega (arith, host.nonempty, length-append scheme (58 ∷ 47 ∷ 47 ∷ (authority ++ back)), length-append authority back)

  has_scheme : HasScheme joined
  has_scheme = (long, ap (take 3) after_scheme)

  slash_first : get_or back 0 0 ≡ 47
  slash_first = get_or_append_left path _ 0 0 some ∙ slash

  authority_ends : authority_len (authority ++ back) ≡ length authority
  authority_ends = run-append (λ b. not (is_delimiter b)) authority back (IsAuthority_no_delimiter authority host) λ _. rw slash_first refl

  absolute_same : (found_scheme found_authority : Option (List ℕ)) (found : List ℕ) → IsForm joined found_scheme found_authority found
      → IsSame (Some scheme) (Some authority) query path found_scheme found_authority found
  absolute_same None None found h =
      absurd (elim h.0.0 [ inl star ↦ omega (arith, ap length star, long) | inr first ↦ first_plain scheme _ all first ])
  absolute_same None (Some other) found h = absurd (IsAuthority_no_scheme joined h.0 has_scheme)
  absolute_same (Some other) None found h = absurd h
  absolute_same (Some other) (Some more) found h =
      let name : h.name ≡ scheme = sym (cut_name joined other more found h) ∙ take_at scheme _ _ (sym len) in
      let rest : more ++ h.tail ≡ authority ++ back =
      sym (cut_rest joined other more found h) ∙ sym (drop-drop 3 (scheme_len joined) joined) ∙ ap (drop 3) after_scheme in
      let same : more ≡ authority =
      sym (cut_authority joined other more found h) ∙ ap (λ t. take (authority_len t) t) rest ∙ take_at authority back _ (sym authority_ends) in
      let tail : h.tail ≡ back = append_cancel_left authority h.tail back (ap (λ t. t ++ h.tail) (sym same) ∙ rest) in
      let kept : found ≡ back =
      elim h.is_tail [
        | inl none ↦ absurd (omega (arith, ap length (sym tail ∙ none.0), length-append path (framed_text (63 ∷ []) query [])))
        | inr cut ↦ cut.2 ∙ ap without_fragment tail ∙ whole path some plain query asked
      ] in
      record {
        same_scheme = ap Some (h.normal ∙ ap normal_scheme name ∙ normal);
        same_authority = ap Some same;
        some = omega (arith, ap length kept, length-append path (framed_text (63 ∷ []) query []));
        same_path = ap path_of kept ∙ path_back path some plain query asked;
        same_query = ap query_of kept ∙ query_back path some plain query asked;
      }

-- the origin form
module _ (path : List ℕ) (query : Option (List ℕ)) (start : StartsOrigin path) (some : 0 < length path) (plain : AllPass is_path_byte path) (asked : IfSome query (AllPass is_query_byte)) where
  abbrev origin : List ℕ
  origin = path ++ framed_text (63 ∷ []) query []

  no_authority : IsAuthority origin → origin ≢ 42 ∷ [] → ⊥
  no_authority host other = elim start [
    | inl star ↦ after query (subst (λ p. IsAuthority (p ++ framed_text (63 ∷ []) query [])) star host) (subst (λ p. p ++ framed_text (63 ∷ []) query [] ≢ 42 ∷ []) star other)
    | inr slash ↦ IsAuthority_first origin host (get_or_append_left path _ 0 0 some ∙ slash)
  ]
    where
      after : (q : Option (List ℕ)) → IsAuthority (42 ∷ framed_text (63 ∷ []) q []) → 42 ∷ framed_text (63 ∷ []) q [] ≢ 42 ∷ [] → ⊥
      after None host other = other refl
      after (Some q) host other = false≢true (IsAuthority_no_delimiter _ host 1 (omega arith))

  no_scheme : (scheme authority kept : List ℕ) → ¬ (IsAbsoluteForm origin scheme authority kept)
  no_scheme scheme authority kept h = elim start [
    | inl star ↦
        let cut = (cut_scheme origin scheme authority kept h).1 in
        let none = subst (λ p. take 3 (drop (scheme_len (p ++ framed_text (63 ∷ []) query [])) (p ++ framed_text (63 ∷ []) query [])) ≡ 58 ∷ 47 ∷ 47 ∷ []) star cut in
        absurd (omega (arith, ap (λ t. get_or t 0 0) none))
    | inr slash ↦ cut_first origin scheme authority kept h (get_or_append_left path _ 0 0 some ∙ slash)
  ]

  origin_same : (found_scheme found_authority : Option (List ℕ)) (found : List ℕ) → IsForm origin found_scheme found_authority found
      → IsSame None None query path found_scheme found_authority found
  origin_same None None found h =
      let kept : found ≡ origin = h.1 ∙ whole path some plain query asked in
      record {
        same_scheme = refl;
        same_authority = refl;
        some = omega (arith, ap length kept, length-append path (framed_text (63 ∷ []) query []));
        same_path = ap path_of kept ∙ path_back path some plain query asked;
        same_query = ap query_of kept ∙ query_back path some plain query asked;
      }
  origin_same None (Some other) found h = absurd (no_authority h.0 h.1)
  origin_same (Some other) None found h = absurd h
  origin_same (Some other) (Some more) found h = absurd (no_scheme other more found h)

-- a scheme is held with `http` and `https` in lower case
scheme_held : (name : List ℕ) → AllPass is_scheme_byte name → AllPass is_scheme_byte (normal_scheme name) × (normal_scheme (normal_scheme name) ≡ normal_scheme name)
scheme_held name all =
    elim (cases_Bool (bytes_eq (lowercase name) (codes "http"))) [
      | inl is_http ↦ rw is_http (search rules, refl)
      | inr other ↦
          elim (cases_Bool (bytes_eq (lowercase name) (codes "https"))) [
            | inl is_https ↦ rw (other, is_https) (search rules, refl)
            | inr neither ↦ rw (other, neither) (all, rw (other, neither) refl)
          ]
    ]

slash_plain : AllPass is_path_byte (47 ∷ [])
slash_plain = IsPathAndQuery_slash.path

-- the path that is shown of what is kept
path_plain : (kept : List ℕ) → AllPass is_path_byte (split_once_front 63 kept) → AllPass is_path_byte (path_of kept) × (0 < length (path_of kept))
path_plain kept plain =
    elim (cases_eq (length (split_once_front 63 kept)) 0) [
      | inl none ↦ rw none (slash_plain, omega arith)
      | inr some ↦ rw (ne_eqb (length (split_once_front 63 kept)) 0 some) (plain, omega arith)
    ]

pub some_byte : (bytes : List ℕ) → 0 < get_or bytes 0 0 → 0 < length bytes
some_byte [] is = absurd (omega (arith, is))
some_byte (first ∷ bytes) is = omega arith

-- the part of a text before a byte begins with the first byte of the text, where that is another one
pub same_first : (byte : ℕ) (text : List ℕ) → 0 < get_or text 0 0 → get_or text 0 0 ≢ byte → get_or (split_once_front byte text) 0 0 ≡ get_or text 0 0
same_first byte text some other =
    let past : 1 ≤ index_of byte text =
    index_of_at_least byte text 1 (some_byte text some) λ k h. let first : k ≡ 0 = omega arith in rw first other in
    get_or-take (index_of byte text) text 0 0 past

front_slash : (byte : ℕ) (text : List ℕ) → byte ≢ 47 → get_or text 0 0 ≡ 47 → (get_or (split_once_front byte text) 0 0 ≡ 47) × (0 < length (split_once_front byte text))
front_slash byte text other slash =
    let same : get_or (split_once_front byte text) 0 0 ≡ 47 = same_first byte text (omega arith) (λ is. other (sym is ∙ slash)) ∙ slash in
    (same, some_byte (split_once_front byte text) (omega arith))

path_slash : (kept : List ℕ) → (kept ≡ []) ⊎ ((get_or kept 0 0 ≡ 47) ⊎ (get_or kept 0 0 ≡ 63)) → get_or (path_of kept) 0 0 ≡ 47
path_slash kept (inl none) = rw none refl
path_slash kept (inr (inl slash)) =
    let front = front_slash 63 kept (omega arith) slash in
    rw (ne_eqb (length (split_once_front 63 kept)) 0 (omega (arith, front.1))) front.0
path_slash kept (inr (inr mark)) =
    let none : index_of 63 kept ≡ 0 = index_of_is 63 kept 0 (omega arith) (λ k h. absurd (omega arith)) (λ _. mark) in
    rw none refl

tail_slash : (tail kept : List ℕ) → IsTail tail kept → get_or (path_of kept) 0 0 ≡ 47
tail_slash tail kept (inl none) = rw none.1 refl
tail_slash tail kept (inr cut) = subst (λ k. get_or (path_of k) 0 0 ≡ 47) (sym cut.2) (path_slash (without_fragment tail) begin)
  where
    begin : (without_fragment tail ≡ []) ⊎ ((get_or (without_fragment tail) 0 0 ≡ 47) ⊎ (get_or (without_fragment tail) 0 0 ≡ 63))
    begin =
        let first = get_or tail 0 0 in
        let marks : is_delimiter first ≡ true = cut.0 in
        elim (cases_eq first 47) [
          | inl slash ↦ inr (inl (same_first 35 tail (omega arith) (omega arith) ∙ slash))
          | inr other ↦
              elim (cases_eq first 63) [
                | inl mark ↦ inr (inr (same_first 35 tail (omega arith) (omega arith) ∙ mark))
                | inr neither ↦
                    let hash : first ≡ 35 = grind (arith, nat_tests) in
                    inl (ap (λ n. take n tail) (index_of_is 35 tail 0 (omega arith) (λ k h. absurd (omega arith)) (λ _. hash)))
              ]
        ]

tail_plain : (tail kept : List ℕ) → IsTail tail kept → AllPass is_path_byte (split_once_front 63 kept)
tail_plain tail kept (inl none) = rw none.1 slash_plain
tail_plain tail kept (inr cut) = rw cut.2 cut.1.kept.path

origin_start : (text : List ℕ) → StartsOrigin text → StartsOrigin (path_of (without_fragment text))
origin_start text (inl star) = inl (rw star refl)
origin_start text (inr slash) = inr (path_slash (without_fragment text) (inr (inl (front_slash 35 text (omega arith) slash).0)))

-- the path of a URI with this scheme
abbrev path_by : Option (List ℕ) → List ℕ → List ℕ
path_by scheme kept = cond (not (length kept == 0) || is_some scheme) (path_of kept) []

abbrev text_by : Option (List ℕ) → Option (List ℕ) → List ℕ → Option (List ℕ) → List ℕ
text_by scheme authority path query =
    framed_text [] scheme (58 ∷ 47 ∷ 47 ∷ []) ++ (framed_text [] authority [] ++ (path ++ framed_text (63 ∷ []) query []))

abbrev ReadsBack : Option (List ℕ) → Option (List ℕ) → Option (List ℕ) → List ℕ → Type 0
ReadsBack scheme authority query path =
    (found_scheme found_authority : Option (List ℕ)) (found : List ℕ) → IsForm (text_by scheme authority path query) found_scheme found_authority found
    → IsSame scheme authority query path found_scheme found_authority found

by_form : (text : List ℕ) (scheme authority : Option (List ℕ)) (kept : List ℕ) → IsForm text scheme authority kept → ¬ (IsNone scheme × IsSome authority)
    → (query : Option (List ℕ)) → IfSome query (AllPass is_query_byte) → ReadsBack scheme authority query (path_by scheme kept)
by_form text None None kept h alone query asked =
    let start : StartsOrigin (path_of kept) = subst (λ k. StartsOrigin (path_of k)) (sym h.1) (origin_start text h.0.0) in
    let plain = path_plain kept (subst (λ k. AllPass is_path_byte (split_once_front 63 k)) (sym h.1) h.0.1.kept.path) in
    let some : length kept ≢ 0 = some_kept in
    rw (ne_eqb (length kept) 0 some) (origin_same (path_of kept) query start plain.1 plain.0 asked)
  where
    some_kept : length kept ≢ 0
    some_kept = rw h.1 (elim h.0.0 [
      | inl star ↦ λ none. omega (arith, none, ap (λ t. length (without_fragment t)) star)
      | inr slash ↦ λ none. omega (arith, none, (front_slash 35 text (omega arith) slash).1)
    ])
by_form text None (Some authority) kept h alone query asked = absurd (alone (refl, refl))
by_form text (Some scheme) None kept h alone query asked = absurd h
by_form text (Some scheme) (Some authority) kept h alone query asked =
    let held = subst (λ s. AllPass is_scheme_byte s × (normal_scheme s ≡ s)) (sym h.normal) (scheme_held h.name h.is_scheme.0) in
    let plain = path_plain kept (tail_plain h.tail kept h.is_tail) in
    let joined : text_by (Some scheme) (Some authority) (path_of kept) query ≡ scheme ++ 58 ∷ 47 ∷ 47 ∷ (authority ++ (path_of kept ++ framed_text (63 ∷ []) query [])) =
    rw (append-nil authority) (append_assoc scheme (58 ∷ 47 ∷ 47 ∷ []) _) in
    rw (or_right (not (length kept == 0)) true refl) λ found_scheme found_authority found form.
    absolute_same scheme authority (path_of kept) query held.0 held.1 h.is_authority (tail_slash h.tail kept h.is_tail) plain.1 plain.0 asked
    found_scheme found_authority found (subst (λ t. IsForm t found_scheme found_authority found) joined form)

abbrev target_by : Option (List ℕ) → Option (List ℕ) → List ℕ → Option (List ℕ) → Target
target_by scheme authority path query = record { scheme = scheme; authority = authority; path = path; query = query }

same_target : (s t a b q r : Option (List ℕ)) (path more : List ℕ) → s ≡ t → a ≡ b → path ≡ more → q ≡ r → target_by s a path q ≡ target_by t b more r
same_target s t a b q r path more scheme authority paths query = rw (scheme, authority, paths, query) refl

pub read_back : (text : List ℕ) (base built : Uri) (query : Option (List ℕ)) → Spells text base → ¬ (IsAuthorityAlone (target_of base)) → IfSome query (AllPass is_query_byte)
    → Spells (target_text (record (target_of base) { query = query })) built → target_of built ≡ record (target_of base) { query = query }
unfolding target_text
read_back text base built query spelled alone asked reads =
    let same = by_form text (uri_scheme base) (uri_authority base) (uri_data base) spelled.1 alone query asked (uri_scheme built) (uri_authority built) (uri_data built) reads.1 in
    let path : uri_path built ≡ uri_path base = rw (ne_eqb (length (uri_data built)) 0 (omega (arith, same.some))) same.same_path in
    same_target _ _ _ _ _ _ _ _ same.same_scheme same.same_authority path same.same_query

abbrev Passes : ℕ → Type 0
Passes byte = IsTrue (is_query_byte byte)

abbrev Asks : List ℕ → Type 0
Asks query = AllPass is_query_byte query

escaped_asks : (text : List ℕ) → Asks (escaped base_set text)
escaped_asks text = query_of_harmless (escaped base_set text) (base_harmless text)

before_asks : (query : Option (List ℕ)) → IfSome query Asks → Asks (before_pair query)
before_asks None asks = All-nil Passes
before_asks (Some []) asks = All-nil Passes
before_asks (Some (byte ∷ query)) asks = All-append Passes (byte ∷ query) (38 ∷ []) asks (All-cons Passes 38 [] refl (All-nil Passes))

pairs_ask : (t : Target) (pairs : List (List ℕ × List ℕ)) → IfSome t.query Asks → IfSome (with_pairs t (map escaped_pair pairs)).query Asks
pairs_ask t [] asks = asks
pairs_ask t (p ∷ pairs) asks =
    let pair_asks : Asks (pair (escaped base_set p.0) (escaped base_set p.1)) =
    All-append Passes (escaped base_set p.0) (61 ∷ escaped base_set p.1) (escaped_asks p.0) (All-cons Passes 61 (escaped base_set p.1) refl (escaped_asks p.1)) in
    pairs_ask (with_pair t (escaped base_set p.0) (escaped base_set p.1)) pairs (All-append Passes (before_pair t.query) (pair (escaped base_set p.0) (escaped base_set p.1)) (before_asks t.query asks) pair_asks)

-- pairs change the query alone
query_alone : (t : Target) (pairs : List (List ℕ × List ℕ)) → with_pairs t pairs ≡ record t { query = (with_pairs t pairs).query }
query_alone t [] = refl
query_alone t (p ∷ pairs) = query_alone (with_pair t p.0 p.1) pairs

base_asks : (text : List ℕ) (scheme authority : Option (List ℕ)) (kept : List ℕ) → IsForm text scheme authority kept → IfSome (query_of kept) Asks
base_asks text None None kept h = subst (λ k. IfSome (query_of k) Asks) (sym h.1) h.0.1.kept.query
base_asks text None (Some authority) kept h = subst (λ k. IfSome (query_of k) Asks) (sym h.3) tt
base_asks text (Some scheme) None kept h = absurd h
base_asks text (Some scheme) (Some authority) kept h = tail_asks h.tail kept h.is_tail
  where
    tail_asks : (tail kept : List ℕ) → IsTail tail kept → IfSome (query_of kept) Asks
    tail_asks tail kept (inl none) = subst (λ k. IfSome (query_of k) Asks) (sym none.1) tt
    tail_asks tail kept (inr cut) = subst (λ k. IfSome (query_of k) Asks) (sym cut.2) cut.1.kept.query

pub pairs_read_back : (text : List ℕ) (base built : Uri) (pairs : List (List ℕ × List ℕ)) → Spells text base → ¬ (IsAuthorityAlone (target_of base))
    → Spells (target_text (with_pairs (target_of base) (map escaped_pair pairs))) built → target_of built ≡ with_pairs (target_of base) (map escaped_pair pairs)
pairs_read_back text base built pairs spelled alone reads =
    let t = with_pairs (target_of base) (map escaped_pair pairs) in
    let same : t ≡ record (target_of base) { query = t.query } = query_alone (target_of base) (map escaped_pair pairs) in
    let asks = pairs_ask (target_of base) pairs (base_asks text (uri_scheme base) (uri_authority base) (uri_data base) spelled.1) in
    read_back text base built t.query spelled alone asks (subst (λ x. Spells (target_text x) built) same reads) ∙ sym same

pub text_joined : (uri : Uri) → uri_text uri ≡ target_text (target_of uri)
unfolding target_text
text_joined uri = simp append_assoc
