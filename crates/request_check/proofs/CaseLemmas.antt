-- The names that a case signs, as one text.
use Rattle.std.proofs.Common.{rules, ◌≡◌, ℕ, Bool, true, false, ◌&&◌, not, List, [], ◌∷◌, ◌++◌, map, IsUtf8, Option, Some, refl, sym, ap, ◌∙◌, true≢false, unwrap_or}
use Rattle.std.specs.Prelude.{bytes_eq, codes, filter}
use Rattle.std.specs.List.{AllByRecursion, join_with_byte, list_any}
use Rattle.std.proofs.lemmas.Bool.{and_parts}
use Rattle.std.proofs.lemmas.Str.{IsUtf8-append, IsUtf8-from_ascii, IsUtf8-nil}
use Rattle.http_header.proofs.TokenLemmas.{IsFieldName-from_test, IsUtf8-from_token}
use Rattle.smithy_core.specs.TextPairs.{named_values}
use Rattle.sigv4.specs.Canonical.{canonical_headers, excluded_token, is_signed, joined_names, names, unsigned_in_query_form, unsigned_token}
use Rattle.sigv4.specs.Query.{Pair}
use Rattle.sigv4.specs.Refusal.{is_name}
use Rattle.sigv4.specs.Request.{Case}
use Rattle.sigv4.specs.Settings.{Settings, default_exclusions}
use Rattle.sigv4.proofs.InsertedLemmas.{same_name}
use Rattle.sigv4.proofs.JoinLemmas.{Lacks}
use Rattle.sigv4.proofs.SetLemmas.{among-set, any-filtered, any-named, is_among, is_here}
use Rattle.request_check.specs.Recomputed.{carried_names}
use Rattle.request_check.specs.SealTexts.{has_space}
use Rattle.request_check.proofs.NamesLemmas.{all_among, joined_whole, name_lacks, names_cut}
use Rattle.request_check.proofs.SentLemmas.{AreNamed, named_here}

-- ---- names that are joined are UTF-8

semicolon : IsUtf8 (59 ∷ [])
semicolon = IsUtf8-from_ascii (59 ∷ []) (search rules)

pub joined_utf8 : (texts : List (List ℕ)) → AllByRecursion IsUtf8 texts → IsUtf8 (join_with_byte 59 texts)
joined_utf8 [] all = IsUtf8-nil
joined_utf8 (first ∷ []) all = all.0
joined_utf8 (first ∷ next ∷ texts) all =
    IsUtf8-append first (59 ∷ join_with_byte 59 (next ∷ texts)) all.0
    (IsUtf8-append (59 ∷ []) (join_with_byte 59 (next ∷ texts)) semicolon (joined_utf8 (next ∷ texts) all.1))

name_utf8 : (name : List ℕ) → is_name name ≡ true → IsUtf8 name
name_utf8 name is = IsUtf8-from_token name (IsFieldName-from_test name is).0

-- ---- the names of a case

abbrev all_names : Case → List (List ℕ)
all_names c = map (λ (header : Pair). header.0) (canonical_headers c)

pub among_parts : (c : Case) (name : List ℕ) → is_among name (names c) ≡ true → (is_signed c.settings name ≡ true) × (is_here (named_values (canonical_headers c) name) ≡ true)
unfolding names
among_parts c name here =
    let parts = and_parts (is_signed c.settings name) (is_among name (all_names c))
    (sym (among-set name (filter (is_signed c.settings) (all_names c)) ∙ any-filtered (is_signed c.settings) name (all_names c)) ∙ here) in
    (parts.0, sym (any-named name (canonical_headers c)) ∙ parts.1)

pub among_from : (c : Case) (name : List ℕ) → is_signed c.settings name ≡ true → is_here (named_values (canonical_headers c) name) ≡ true → is_among name (names c) ≡ true
unfolding names
among_from c name signed here =
    among-set name (filter (is_signed c.settings) (all_names c)) ∙ (any-filtered (is_signed c.settings) name (all_names c)
    ∙ (λ i. signed i && (any-named name (canonical_headers c) ∙ here) i))

-- the signature's own header isn't signed
authorization_unsigned : (settings : Settings) → settings.excluded_headers ≡ Some default_exclusions → is_signed settings (codes "authorization") ≡ false
unfolding is_signed
authorization_unsigned settings usual =
    ap (λ (excluded : Option (List (List ℕ))). not (list_any (bytes_eq (codes "authorization"))
    (unwrap_or excluded [] ++ excluded_token settings.session_token_mode (unsigned_token settings) ++ unsigned_in_query_form settings))) usual

pub not_authorization : (settings : Settings) (name : List ℕ) → settings.excluded_headers ≡ Some default_exclusions → is_signed settings name ≡ true
    → bytes_eq (codes "authorization") name ≡ false
not_authorization settings name usual signed = by (bytes_eq (codes "authorization") name) refl
  where
    by : (b : Bool) → bytes_eq (codes "authorization") name ≡ b → b ≡ false
    by true e = absurd (true≢false (sym signed ∙ ap (is_signed settings) (sym (same_name _ name e)) ∙ authorization_unsigned settings usual))
    by false e = refl

module _ (c : Case) (named : AreNamed (canonical_headers c)) where
  pub is_named : (name : List ℕ) → is_among name (names c) ≡ true → is_name name ≡ true
  is_named name here = named_here (canonical_headers c) name named (among_parts c name here).1

  pub names_whole : has_space (joined_names (names c)) ≡ false
  names_whole = joined_whole (names c) (all_among (Lacks 32) (names c) (λ name here. name_lacks 32 refl name (is_named name here)))

  pub names_carried : (name : List ℕ) → is_among name (names c) ≡ true → carried_names (joined_names (names c)) ≡ names c
  names_carried name here = names_cut (names c) name here (all_among (Lacks 59) (names c) (λ other among. name_lacks 59 refl other (is_named other among)))

  pub names_utf8 : IsUtf8 (joined_names (names c))
  names_utf8 = joined_utf8 (names c) (all_among IsUtf8 (names c) (λ name here. name_utf8 name (is_named name here)))
