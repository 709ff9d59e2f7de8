-- The one reading of an authorization.
use Rattle.std.proofs.Common.{◌≡◌, ℕ, ◌==◌, Bool, Bor, true, false, ◌&&◌, not, List, [], ◌∷◌, ◌++◌, length, Some, None, refl, sym, ap, ◌∙◌, append_assoc, true≢false}
use Rattle.std.specs.Prelude.{codes}
use Rattle.std.specs.List.{list_all, list_any}
use Rattle.std.specs.Str.Pattern.{LacksTextAt}
use Rattle.std.proofs.lemmas.Bool.{and_parts, eqb-true}
use Rattle.std.proofs.lemmas.List.{append_cancel_left}
use Rattle.sigv4.specs.Signed.{authorization_text}
use Rattle.request_check.specs.Authorization.{IsAuthorization}
use Rattle.request_check.specs.Carried.{ReadsAuthorization}
use Rattle.request_check.specs.Cuts.{CutsLast}
use Rattle.sigv4.specs.Signature.{is_lower_digit, is_signature}
use Rattle.request_check.specs.SealTexts.{has_space}
use Rattle.request_check.proofs.CutLemmas.{one_cut, same_cut}

abbrev label : List ℕ
label = codes "AWS4-HMAC-SHA256 Credential="

abbrev names_mark : List ℕ
names_mark = codes ", SignedHeaders="

abbrev signature_mark : List ℕ
signature_mark = codes ", Signature="

-- what follows the first two bytes of a mark
abbrev names_tail : List ℕ
names_tail = codes "SignedHeaders="

abbrev signature_tail : List ℕ
signature_tail = codes "Signature="

names_tail_whole : has_space names_tail ≡ false
unfolding has_space
names_tail_whole = refl

signature_tail_whole : has_space signature_tail ≡ false
unfolding has_space
signature_tail_whole = refl

-- ---- a signature holds no space

pub digit_is_no_space : (b : ℕ) → is_lower_digit b ≡ true → (b == 32) ≡ false
digit_is_no_space b digit = by_test (b == 32) refl
  where
    by_test : (is : Bool) → (b == 32) ≡ is → is ≡ false
    by_test false e = refl
    by_test true e = absurd (true≢false (sym digit ∙ ap is_lower_digit (eqb-true b 32 e)))

digits_hold_no_space : (text : List ℕ) → list_all is_lower_digit text ≡ true → list_any (λ b. b == 32) text ≡ false
digits_hold_no_space [] all = refl
digits_hold_no_space (b ∷ text) all =
    let both = and_parts (is_lower_digit b) (list_all is_lower_digit text) all in
    rw (digit_is_no_space b both.0, digits_hold_no_space text both.1) refl

pub signature_whole : (text : List ℕ) → is_signature text ≡ true → has_space text ≡ false
unfolding is_signature has_space
signature_whole text is = digits_hold_no_space text (and_parts (length text == 64) (list_all is_lower_digit text) is).1

-- ---- the parts in two groups

front_of : List ℕ → List ℕ → List ℕ
front_of credential names = label ++ (credential ++ (names_mark ++ names))

regroup : (a b c d x : List ℕ) → (a ++ (b ++ (c ++ d))) ++ x ≡ a ++ (b ++ (c ++ (d ++ x)))
regroup a b c d x =
    append_assoc a (b ++ (c ++ d)) x ∙ ap (λ (rest : List ℕ). a ++ rest) (append_assoc b (c ++ d) x ∙ ap (λ (rest : List ℕ). b ++ rest) (append_assoc c d x))

signed_front : (credential names signature : List ℕ) → authorization_text credential names signature ≡ front_of credential names ++ (signature_mark ++ signature)
unfolding front_of
signed_front credential names signature = sym (regroup label credential names_mark names (signature_mark ++ signature))

named_front : (credential names : List ℕ) → front_of credential names ≡ (label ++ credential) ++ (names_mark ++ names)
unfolding front_of
named_front credential names = sym (append_assoc label credential (names_mark ++ names))

-- ---- the parts that are cut from the end

pub record IsCutSo (text : List ℕ) (p q : Bor (List ℕ) × Bor (List ℕ)) (credential names signature : List ℕ) : Type 0 where
  pub credential_is : label ++ credential ≡ q.0.now
  pub names_are : names ≡ q.1.now
  pub signature_is : signature ≡ p.1.now

first_cut : (text : List ℕ) (p : Bor (List ℕ) × Bor (List ℕ)) → CutsLast signature_mark text (Some p)
    → (credential names signature : List ℕ) → IsAuthorization text credential names signature → (front_of credential names ≡ p.0.now) × (signature ≡ p.1.now)
first_cut text p cut credential names signature is =
    let e : text ≡ front_of credential names ++ (signature_mark ++ signature) = is.parts ∙ signed_front credential names signature in
    same_cut signature_tail p.0.now p.1.now (front_of credential names) signature signature_tail_whole (signature_whole signature is.digits)
    (cut.1 (front_of credential names) signature e) (sym e ∙ cut.0)

cut_so : (text : List ℕ) (p q : Bor (List ℕ) × Bor (List ℕ)) → CutsLast signature_mark text (Some p) → CutsLast names_mark p.0.now (Some q)
    → (credential names signature : List ℕ) → IsAuthorization text credential names signature → IsCutSo text p q credential names signature
cut_so text p q cut again credential names signature is =
    let front = first_cut text p cut credential names signature is in
    let e : p.0.now ≡ (label ++ credential) ++ (names_mark ++ names) = sym front.0 ∙ named_front credential names in
    let more = same_cut names_tail q.0.now q.1.now (label ++ credential) names names_tail_whole is.one_reading (again.1 (label ++ credential) names e) (sym e ∙ again.0) in
    record { credential_is = more.0; names_are = more.1; signature_is = front.1 }

pub unread_unmarked : (text : List ℕ) → CutsLast signature_mark text None → ReadsAuthorization text None
unread_unmarked text none = λ credential names signature is.
    none (front_of credential names) signature (is.parts ∙ signed_front credential names signature)

pub unread_unnamed : (text : List ℕ) (p : Bor (List ℕ) × Bor (List ℕ)) → CutsLast signature_mark text (Some p) → CutsLast names_mark p.0.now None → ReadsAuthorization text None
unread_unnamed text p cut none = λ credential names signature is.
    none (label ++ credential) names (sym (first_cut text p cut credential names signature is).0 ∙ named_front credential names)

pub unread_unlabelled : (text : List ℕ) (p q : Bor (List ℕ) × Bor (List ℕ)) → CutsLast signature_mark text (Some p) → CutsLast names_mark p.0.now (Some q)
    → LacksTextAt label q.0.now 0 → ReadsAuthorization text None
unread_unlabelled text p q cut again lacks = λ credential names signature is.
    lacks credential (sym (cut_so text p q cut again credential names signature is).credential_is)

-- a test of two parts that isn't passed
pub unfit : (a b : Bool) → (a && not b) ≡ false → a ≡ true → b ≡ false → ⊥
unfit a b e is none = true≢false (sym (λ i. is i && not (none i)) ∙ e)

pub unread_unfit : (text : List ℕ) (p q : Bor (List ℕ) × Bor (List ℕ)) → CutsLast signature_mark text (Some p) → CutsLast names_mark p.0.now (Some q)
    → (is_signature p.1.now && not (has_space q.1.now)) ≡ false → ReadsAuthorization text None
unread_unfit text p q cut again other = λ credential names signature is.
    let so = cut_so text p q cut again credential names signature is in
    unfit (is_signature p.1.now) (has_space q.1.now) other (ap is_signature (sym so.signature_is) ∙ is.digits) (ap has_space (sym so.names_are) ∙ is.one_reading)

-- a test of two parts that is passed
pub is_none : (b : Bool) → not b ≡ true → b ≡ false
is_none true e = absurd (true≢false (sym e))
is_none false e = refl

pub read_so : (text : List ℕ) (p q : Bor (List ℕ) × Bor (List ℕ)) (credential : List ℕ) → CutsLast signature_mark text (Some p) → CutsLast names_mark p.0.now (Some q)
    → q.0.now ≡ label ++ credential → (is_signature p.1.now && not (has_space q.1.now)) ≡ true → IsAuthorization text credential q.1.now p.1.now
unfolding front_of
read_so text p q credential cut again labelled whole = record {
  digits = (and_parts (is_signature p.1.now) (not (has_space q.1.now)) whole).0;
  one_reading = is_none (has_space q.1.now) (and_parts (is_signature p.1.now) (not (has_space q.1.now)) whole).1;
  parts =
      cut.0 ∙ (ap (λ (front : List ℕ). front ++ (signature_mark ++ p.1.now))
      (again.0 ∙ (ap (λ (front : List ℕ). front ++ (names_mark ++ q.1.now)) labelled ∙ append_assoc label credential (names_mark ++ q.1.now)))
      ∙ regroup label credential names_mark q.1.now (signature_mark ++ p.1.now));
}

-- a text has one reading
pub read_once : (text c n g d m h : List ℕ) → IsAuthorization text c n g → IsAuthorization text d m h → (c ≡ d) × (n ≡ m) × (g ≡ h)
read_once text c n g d m h a b =
    let front = one_cut signature_tail (front_of d m) h (front_of c n) g signature_tail_whole (signature_whole h b.digits) (signature_whole g a.digits)
    (sym (signed_front c n g) ∙ (sym a.parts ∙ (b.parts ∙ signed_front d m h))) in
    let named = one_cut names_tail (label ++ d) m (label ++ c) n names_tail_whole b.one_reading a.one_reading
    (sym (named_front c n) ∙ (front.0 ∙ named_front d m)) in
    (append_cancel_left label c d named.0, named.1, front.1)
