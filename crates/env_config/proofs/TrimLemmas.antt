-- What `trim_start_matches` and `trim_end_matches` leave, for spaces and tabs.
use Rattle.std.proofs.Common.{◌≡◌, ℕ, ◌+◌, ◌-◌, ◌<◌, Bool, true, false, cond, eqb, ◌⊎◌, inl, inr, List, [], ◌∷◌, ◌++◌, length, take, drop, ◌||◌, refl, sym, ap, subst, ◌∙◌, arith}
use Rattle.std.specs.Prelude.{Option, Some, None, IfSome}
use Rattle.std.specs.Char.{char_set_contains, IsScalar}
use Rattle.std.specs.Str.Pattern.{FindsPrefixBy, FindsSuffixBy, HasPassingCharAt, HasCharAt, CutsPrefixes, CutsSuffixes, IsFullyTrimmed, IsTrimStartMatches, IsTrimEndMatches}
use Rattle.std.proofs.lemmas.Bool.{or_cases, eqb-true, false≢true, false_from_ne_true}
use Rattle.std.proofs.lemmas.List.{take-append-drop, drop_all}
use Rattle.std.proofs.lemmas.Str.{encode_ascii, len_utf8_bounds}
use Rattle.std.proofs.lemmas.Str.Pattern.{drop_at_char}
use Rattle.env_config.specs.Line.{is_blank, trimmed_front, trimmed_back, onto_kept}

-- what the pattern of the two signs finds in front of a text, and at its end
abbrev pub Begins : List ℕ → Option ℕ → Type 0
Begins text found = (test : ℕ → Bool) → ((c : ℕ) → char_set_contains (32 ∷ 9 ∷ []) c ≡ test c) → FindsPrefixBy test text found

abbrev pub Ends : List ℕ → Option ℕ → Type 0
Ends text found = (test : ℕ → Bool) → ((c : ℕ) → char_set_contains (32 ∷ 9 ∷ []) c ≡ test c) → FindsSuffixBy test text found

blank_cases : (c : ℕ) → is_blank c ≡ true → (c ≡ 32) ⊎ (c ≡ 9)
blank_cases c is =
    elim (or_cases (eqb 32 c) (eqb 9 c || false) is) [
      | inl e ↦ inl (sym (eqb-true 32 c e))
      | inr e ↦ elim (or_cases (eqb 9 c) false e) [ inl f ↦ inr (sym (eqb-true 9 c f)) | inr f ↦ absurd (false≢true f) ]
    ]

pub blank_small : (c : ℕ) → is_blank c ≡ true → c < 128
blank_small c is = elim (blank_cases c is) [ inl e ↦ omega arith | inr e ↦ omega arith ]

blank_scalar : (c : ℕ) → is_blank c ≡ true → IsScalar c
blank_scalar c is = elim (blank_cases c is) [ inl e ↦ subst IsScalar (sym e) refl | inr e ↦ subst IsScalar (sym e) refl ]

-- a character has a width
no_width : (c : ℕ) (text : List ℕ) (i j n : ℕ) → HasCharAt c text i j → n ≡ 0 → j ≡ i + n → ⊥
no_width c text i j n has none ends = omega (arith, has.ends, (len_utf8_bounds c).0)

front_cut : (text : List ℕ) (n : ℕ) → HasPassingCharAt is_blank text 0 n → trimmed_front text ≡ trimmed_front (drop n text)
front_cut text n has =
    ap trimmed_front (drop_at_char has.0 text 0 n has.2 (blank_small has.0 has.1))
    ∙ ap (λ (b : Bool). cond b (trimmed_front (drop n text)) (has.0 ∷ drop n text)) has.1

fronts_cut : (text : List ℕ) (ns : List ℕ) (rest : List ℕ) → CutsPrefixes Begins text ns rest → trimmed_front text ≡ trimmed_front rest
fronts_cut text [] rest cut = ap trimmed_front (sym cut)
fronts_cut text (n ∷ ns) rest cut =
    fronts_cut text ns cut.0 cut.1 ∙ front_cut cut.0 n (cut.2 is_blank (λ c. refl)) ∙ ap trimmed_front (sym cut.3)

front_kept : (text : List ℕ) → IsFullyTrimmed Begins text → trimmed_front text ≡ text
front_kept [] done = refl
front_kept (b ∷ bytes) done = ap (λ (v : Bool). cond v (trimmed_front bytes) (b ∷ bytes)) (false_from_ne_true (is_blank b) (λ is. not_found b bytes is done.0 done.1 done.2))
  where
    not_found : (b : ℕ) (bytes : List ℕ) → is_blank b ≡ true → (found : Option ℕ) → Begins (b ∷ bytes) found → IfSome found (λ n. n ≡ 0) → ⊥
    not_found b bytes is None finds none =
        false≢true (sym (finds is_blank (λ c. refl) b bytes (blank_scalar b is) (ap (λ xs. xs ++ bytes) (sym (encode_ascii b (blank_small b is))))) ∙ is)
    not_found b bytes is (Some n) finds none = let has = finds is_blank (λ c. refl) in no_width has.0 (b ∷ bytes) 0 n n has.2 none (omega arith)

pub front_trimmed : (text rest : List ℕ) → IsTrimStartMatches Begins text rest → rest ≡ trimmed_front text
front_trimmed text rest trims = sym (fronts_cut text trims.0.0 rest trims.0.1 ∙ front_kept rest trims.1)

back_more : (text : List ℕ) (c : ℕ) → is_blank c ≡ true → trimmed_back (text ++ c ∷ []) ≡ trimmed_back text
back_more [] c is = ap (λ (v : Bool). cond v [] (c ∷ [])) is
back_more (b ∷ text) c is = ap (onto_kept b) (back_more text c is)

back_cut : (text : List ℕ) (n : ℕ) → HasPassingCharAt is_blank text (length text - n) (length text) → trimmed_back text ≡ trimmed_back (take (length text - n) text)
back_cut text n has =
    let i = length text - n in
    let last : drop i text ≡ has.0 ∷ [] = drop_at_char has.0 text i (length text) has.2 (blank_small has.0 has.1) ∙ ap (λ xs. has.0 ∷ xs) (drop_all (length text) text (omega arith)) in
    ap trimmed_back (sym (take-append-drop i text) ∙ ap (λ xs. take i text ++ xs) last) ∙ back_more (take i text) has.0 has.1

backs_cut : (text : List ℕ) (ns : List ℕ) (rest : List ℕ) → CutsSuffixes Ends text ns rest → trimmed_back text ≡ trimmed_back rest
backs_cut text [] rest cut = ap trimmed_back (sym cut)
backs_cut text (n ∷ ns) rest cut =
    backs_cut text ns cut.0 cut.1 ∙ back_cut cut.0 n (cut.2 is_blank (λ c. refl)) ∙ ap trimmed_back (sym cut.3)

-- a text whose last byte is no blank stays
last_kept : (text : List ℕ) → ((front : List ℕ) (b : ℕ) → text ≡ front ++ b ∷ [] → is_blank b ≡ false) → trimmed_back text ≡ text
last_kept [] last = refl
last_kept (b ∷ []) last = ap (λ (v : Bool). cond v [] (b ∷ [])) (last [] b refl)
last_kept (b ∷ c ∷ text) last = ap (onto_kept b) (last_kept (c ∷ text) (λ front d e. last (b ∷ front) d (ap (λ xs. b ∷ xs) e)))

back_kept : (text : List ℕ) → IsFullyTrimmed Ends text → trimmed_back text ≡ text
back_kept text done = last_kept text (λ front b e. false_from_ne_true (is_blank b) (λ is. not_found text front b e is done.0 done.1 done.2))
  where
    not_found : (text front : List ℕ) (b : ℕ) → text ≡ front ++ b ∷ [] → is_blank b ≡ true → (found : Option ℕ) → Ends text found → IfSome found (λ n. n ≡ 0) → ⊥
    not_found text front b e is None finds none =
        false≢true (sym (finds is_blank (λ c. refl) b front (blank_scalar b is) (e ∙ ap (λ xs. front ++ xs) (sym (encode_ascii b (blank_small b is))))) ∙ is)
    not_found text front b e is (Some n) finds none = let has = finds is_blank (λ c. refl) in no_width has.0 text (length text - n) (length text) n has.2 none (omega arith)

pub back_trimmed : (text rest : List ℕ) → IsTrimEndMatches Ends text rest → rest ≡ trimmed_back text
back_trimmed text rest trims = sym (backs_cut text trims.0.0 rest trims.0.1 ∙ back_kept rest trims.1)
