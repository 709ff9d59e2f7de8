-- A text is walked character by character up to its comment.
use Rattle.std.proofs.Common.{◌≡◌, ℕ, ◌+◌, ◌≤◌, Bool, true, false, cond, eqb, ◌&&◌, List, [], ◌∷◌, ◌++◌, length, take, drop, refl, sym, ap, subst, subst₂, ◌∙◌, arith, append_assoc, append-nil, length-append, length-drop}
use Rattle.std.specs.Char.{encode_utf8, is_whitespace}
use Rattle.std.specs.Bool.{MatchBool}
use Rattle.std.specs.Str.{IsUtf8, NoCharPasses, NonePass, chars, encode_utf8_all}
use Rattle.std.proofs.lemmas.List.{take-append-drop, take_at, drop_at, drop-drop, length-take-le, take_all}
use Rattle.std.proofs.lemmas.Str.{chars_past_char, chars_from_encodes, chars-nil, encodes-chars, IsUtf8-past_char}
use Rattle.std.proofs.lemmas.Bool.Decides.{nat_tests}
use Rattle.env_config.proofs.LineLemmas.{and_no}
use Rattle.env_config.specs.Line.{before_comment, is_comment_sign, uncommented}

-- a text that is cut at a place: what stands before it stays, and of the rest what stands before the comment
pub record Walks (text : List ℕ) (place : ℕ) (rest : List ℕ) (follows_space : Bool) : Type 0 where
  pub within : place ≤ length text
  pub after : drop place text ≡ rest
  pub utf8 : IsUtf8 rest
  pub kept : take place text ++ encode_utf8_all (before_comment follows_space (chars rest)) ≡ uncommented text

pub walk_begins : (text : List ℕ) (place : ℕ) (rest : List ℕ) → place ≡ 0 → rest ≡ text → IsUtf8 text → Walks text place rest false
unfolding uncommented
walk_begins text place rest starts all is = subst₂ (λ (n : ℕ) (xs : List ℕ). Walks text n xs false) (sym starts) (sym all) (record { within = omega arith; after = refl; utf8 = is; kept = refl })

take_more : (text : List ℕ) (place : ℕ) (front rest : List ℕ) → place ≤ length text → drop place text ≡ front ++ rest → take (place + length front) text ≡ take place text ++ front
take_more text place front rest within after =
    ap (λ xs. take (place + length front) xs) (sym (take-append-drop place text) ∙ ap (λ xs. take place text ++ xs) after ∙ sym (append_assoc (take place text) front rest))
    ∙ take_at (take place text ++ front) rest (place + length front) (length_sum (take place text) front (length-take-le place text within))
  where
    length_sum : (xs ys : List ℕ) → length xs ≡ place → length (xs ++ ys) ≡ place + length ys
    length_sum xs ys is = grind (arith, length-append)

pub walk_more : (text : List ℕ) (place : ℕ) (rest : List ℕ) (follows_space : Bool) (c : ℕ) (next : ℕ) (left : List ℕ) → Walks text place rest follows_space
    → (follows_space && is_comment_sign c) ≡ false → rest ≡ encode_utf8 c ++ left → next ≡ place + length (encode_utf8 c) → Walks text next left (is_whitespace c)
walk_more text place rest follows_space c next left walks goes is moved =
    let after : drop place text ≡ encode_utf8 c ++ left = walks.after ∙ is in
    let kept = encode_utf8_all (before_comment (is_whitespace c) (chars left)) in
    let taken : take next text ≡ take place text ++ encode_utf8 c = ap (λ n. take n text) moved ∙ take_more text place (encode_utf8 c) left walks.within after in
    let dropped : drop next text ≡ left = ap (λ n. drop n text) moved ∙ sym (drop-drop (length (encode_utf8 c)) place text) ∙ ap (drop (length (encode_utf8 c))) after ∙ drop_at (encode_utf8 c) left (length (encode_utf8 c)) refl in
    record {
      within = omega (arith, length-drop place text, ap length after, length-append (encode_utf8 c) left, moved, walks.within);
      after = dropped;
      utf8 = IsUtf8-past_char rest left c walks.utf8 is;
      kept =
          ap (λ xs. xs ++ kept) taken ∙ append_assoc (take place text) (encode_utf8 c) kept
          ∙ sym (ap (λ cs. take place text ++ encode_utf8_all (before_comment follows_space cs)) (chars_past_char rest left c walks.utf8 is)
          ∙ ap (λ (v : Bool). take place text ++ encode_utf8_all (cond v [] (c ∷ before_comment (is_whitespace c) (chars left)))) goes)
          ∙ walks.kept;
    }

pub walk_stops : (text : List ℕ) (place : ℕ) (rest : List ℕ) (follows_space : Bool) (c : ℕ) (left : List ℕ) → Walks text place rest follows_space
    → (follows_space && is_comment_sign c) ≡ true → rest ≡ encode_utf8 c ++ left → take place text ≡ uncommented text
walk_stops text place rest follows_space c left walks stops is =
    sym (append-nil (take place text))
    ∙ sym (ap (λ cs. take place text ++ encode_utf8_all (before_comment follows_space cs)) (chars_past_char rest left c walks.utf8 is)
    ∙ ap (λ (v : Bool). take place text ++ encode_utf8_all (cond v [] (c ∷ before_comment (is_whitespace c) (chars left)))) stops)
    ∙ walks.kept

pub walk_ends : (text : List ℕ) (place : ℕ) (rest : List ℕ) (follows_space : Bool) → Walks text place rest follows_space → length rest ≡ 0 → text ≡ uncommented text
walk_ends text place [] follows_space walks none =
    let all : take place text ≡ text = take_all place text (omega (arith, length-drop place text, ap length walks.after)) in
    sym all ∙ sym (append-nil (take place text)) ∙ sym (ap (λ cs. take place text ++ encode_utf8_all (before_comment follows_space cs)) chars-nil) ∙ walks.kept
walk_ends text place (b ∷ rest) follows_space walks none = absurd (omega arith)

-- ## No comment sign

no_sign : (c : ℕ) → eqb c 35 ≡ false → eqb c 59 ≡ false → is_comment_sign c ≡ false
no_sign c hash semicolon = grind (arith, nat_tests)

no_comment : (follows_space : Bool) (cs : List ℕ) → NonePass (λ d. eqb d 35) cs → NonePass (λ d. eqb d 59) cs → before_comment follows_space cs ≡ cs
no_comment follows_space [] hash semicolon = refl
no_comment follows_space (c ∷ cs) hash semicolon =
    ap (λ (v : Bool). cond (follows_space && v) [] (c ∷ before_comment (is_whitespace c) cs)) (no_sign c hash.0 semicolon.0)
    ∙ and_no follows_space [] (c ∷ before_comment (is_whitespace c) cs)
    ∙ ap (λ xs. c ∷ xs) (no_comment (is_whitespace c) cs hash.1 semicolon.1)

sign_free : (text : List ℕ) → IsUtf8 text → NoCharPasses (λ d. eqb d 35) text → NoCharPasses (λ d. eqb d 59) text → text ≡ uncommented text
unfolding uncommented
sign_free text is hash semicolon =
    let none : (test : ℕ → Bool) → NoCharPasses test text → NonePass test (chars text) = λ test passes. subst (NonePass test) (chars_from_encodes passes.0 text is passes.1) passes.2 in
    sym (encodes-chars text is) ∙ ap encode_utf8_all (sym (no_comment false (chars text) (none (λ d. eqb d 35) hash) (none (λ d. eqb d 59) semicolon)))

pub none_found : (text : List ℕ) (A : Type 0) → IsUtf8 text → NoCharPasses (λ d. eqb d 35) text → (found : Bool) → MatchBool found A (NoCharPasses (λ d. eqb d 59) text) → found ≡ false → text ≡ uncommented text
none_found text A is hash true cases none = absurd cc
none_found text A is hash false cases none = sign_free text is hash cases
