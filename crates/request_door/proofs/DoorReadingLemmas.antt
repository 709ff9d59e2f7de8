-- The one reading of an authorization with any blanks after its commas.
use Rattle.std.proofs.Common.{◌≡◌, ℕ, ◌==◌, Bool, Bor, true, false, ◌&&◌, ◌||◌, not, List, [], ◌∷◌, ◌++◌, Option, Some, None, inl, inr, refl, sym, ap, ◌∙◌, subst, append_assoc, true≢false}
use Rattle.std.specs.Prelude.{codes}
use Rattle.std.specs.List.{list_all, list_any}
use Rattle.std.specs.Str.Pattern.{LacksTextAt}
use Rattle.std.proofs.lemmas.Bool.{and_parts, eqb-true, or_parts}
use Rattle.std.proofs.lemmas.List.{append_cancel_left}
use Rattle.std.proofs.lemmas.List.Folds.{list_any-append}
use Rattle.sigv4.specs.Signature.{is_lower_digit, is_signature}
use Rattle.request_check.specs.Authorization.{IsAuthorization}
use Rattle.request_check.specs.Carried.{ReadsAuthorization}
use Rattle.request_check.specs.Cuts.{CutsLast}
use Rattle.request_check.specs.SealTexts.{has_space}
use Rattle.request_check.specs.declared.authorization.Authorization.{Authorization}
use Rattle.request_check.proofs.ReadingLemmas.{is_none, read_once, unfit}
use Rattle.request_door.specs.DoorAuthorization.{CutsLabel, IsDoorAuthorization, IsLabelled, IsSpacedAuthorization, ReadsDoorAuthorization, ReadsSpaced, has_comma, is_optional_whitespace}
use Rattle.request_door.proofs.DoorCutLemmas.{last_comma, one_comma, same_comma}
use Rattle.request_door.proofs.DoorLabelLemmas.{one_label}

abbrev label : List ℕ
label = codes "AWS4-HMAC-SHA256 Credential="

abbrev names_label : List ℕ
names_label = codes "SignedHeaders="

abbrev signature_label : List ℕ
signature_label = codes "Signature="

-- ---- neither part holds a comma

digit_is_no_comma : (b : ℕ) → is_lower_digit b ≡ true → (b == 44) ≡ false
digit_is_no_comma b digit = by_test (b == 44) refl
  where
    by_test : (is : Bool) → (b == 44) ≡ is → is ≡ false
    by_test false e = refl
    by_test true e = absurd (true≢false (sym digit ∙ ap is_lower_digit (eqb-true b 44 e)))

digits_hold_no_comma : (text : List ℕ) → list_all is_lower_digit text ≡ true → list_any (λ b. b == 44) text ≡ false
digits_hold_no_comma [] all = refl
digits_hold_no_comma (b ∷ text) all =
    let both = and_parts (is_lower_digit b) (list_all is_lower_digit text) all in
    rw (digit_is_no_comma b both.0, digits_hold_no_comma text both.1) refl

signature_lacks : (text : List ℕ) → is_signature text ≡ true → has_comma text ≡ false
unfolding is_signature has_comma
signature_lacks text is = digits_hold_no_comma text (and_parts _ (list_all is_lower_digit text) is).1

blank_is_no_comma : (b : ℕ) → is_optional_whitespace b ≡ true → (b == 44) ≡ false
blank_is_no_comma b blank = by_test (b == 44) refl
  where
    by_test : (is : Bool) → (b == 44) ≡ is → is ≡ false
    by_test false e = refl
    by_test true e = absurd (true≢false (sym blank ∙ ap is_optional_whitespace (eqb-true b 44 e)))

blanks_hold_no_comma : (text : List ℕ) → list_all is_optional_whitespace text ≡ true → has_comma text ≡ false
unfolding has_comma
blanks_hold_no_comma [] all = refl
blanks_hold_no_comma (b ∷ text) all =
    let both = and_parts (is_optional_whitespace b) (list_all is_optional_whitespace text) all in
    rw (blank_is_no_comma b both.0, blanks_hold_no_comma text both.1) refl

joined_comma : (xs ys : List ℕ) → has_comma (xs ++ ys) ≡ (has_comma xs || has_comma ys)
unfolding has_comma
joined_comma xs ys = list_any-append (λ b. b == 44) xs ys

names_label_lacks : has_comma names_label ≡ false
unfolding has_comma
names_label_lacks = refl

signature_label_lacks : has_comma signature_label ≡ false
unfolding has_comma
signature_label_lacks = refl

labelled_lacks : (mark text labelled : List ℕ) → has_comma mark ≡ false → has_comma labelled ≡ false → IsLabelled mark labelled text → has_comma text ≡ false
labelled_lacks mark text labelled no_mark none is =
    ap has_comma is.parts ∙ (joined_comma is.blanks (mark ++ labelled)
    ∙ (λ i. blanks_hold_no_comma is.blanks is.are_blank i || (joined_comma mark labelled ∙ (λ j. no_mark j || none j)) i))

-- what a text without a comma labels holds none
label_lacks : (mark text labelled : List ℕ) → has_comma text ≡ false → IsLabelled mark labelled text → has_comma labelled ≡ false
label_lacks mark text labelled none is =
    let behind = (or_parts (has_comma is.blanks) (has_comma (mark ++ labelled)) (sym (joined_comma is.blanks (mark ++ labelled)) ∙ (ap has_comma (sym is.parts) ∙ none))).1 in
    (or_parts (has_comma mark) (has_comma labelled) (sym (joined_comma mark labelled) ∙ behind)).1

-- ---- the parts that are cut from the end

front_of : List ℕ → List ℕ → List ℕ
front_of credential named = (label ++ credential) ++ 44 ∷ named

behind_front : (credential named signed : List ℕ) → (label ++ credential) ++ 44 ∷ (named ++ 44 ∷ signed) ≡ front_of credential named ++ 44 ∷ signed
unfolding front_of
behind_front credential named signed = sym (append_assoc (label ++ credential) (44 ∷ named) (44 ∷ signed))

signed_lacks : (text credential names signature : List ℕ) (is : IsSpacedAuthorization text credential names signature) → has_comma is.signed ≡ false
signed_lacks text credential names signature is =
    labelled_lacks signature_label is.signed signature signature_label_lacks (signature_lacks signature is.digits) is.signature_is

named_lacks : (text credential names signature : List ℕ) (is : IsSpacedAuthorization text credential names signature) → has_comma is.named ≡ false
named_lacks text credential names signature is = labelled_lacks names_label is.named names names_label_lacks is.one_reading is.names_are

module _ (text : List ℕ) (p : Bor (List ℕ) × Bor (List ℕ)) (cut : CutsLast (44 ∷ []) text (Some p)) (credential names signature : List ℕ)
    (is : IsSpacedAuthorization text credential names signature) where
  first_cut : (front_of credential is.named ≡ p.0.now) × (is.signed ≡ p.1.now)
  first_cut =
      let e : text ≡ front_of credential is.named ++ 44 ∷ is.signed = is.parts ∙ behind_front credential is.named is.signed in
      same_comma p.0.now p.1.now (front_of credential is.named) is.signed (signed_lacks text credential names signature is)
      (cut.1 (front_of credential is.named) is.signed e) (sym e ∙ cut.0)

  second_cut : (q : Bor (List ℕ) × Bor (List ℕ)) → CutsLast (44 ∷ []) p.0.now (Some q) → (label ++ credential ≡ q.0.now) × (is.named ≡ q.1.now)
  unfolding front_of
  second_cut q again =
      let e : p.0.now ≡ (label ++ credential) ++ 44 ∷ is.named = sym first_cut.0 in
      same_comma q.0.now q.1.now (label ++ credential) is.named (named_lacks text credential names signature is)
      (again.1 (label ++ credential) is.named e) (sym e ∙ again.0)

  signature_at : IsLabelled signature_label signature p.1.now
  signature_at = subst (IsLabelled signature_label signature) first_cut.1 is.signature_is

  names_at : (q : Bor (List ℕ) × Bor (List ℕ)) → CutsLast (44 ∷ []) p.0.now (Some q) → IsLabelled names_label names q.1.now
  names_at q again = subst (IsLabelled names_label names) (second_cut q again).1 is.names_are

pub spaced_unmarked : (text : List ℕ) → CutsLast (44 ∷ []) text None → ReadsSpaced text None
spaced_unmarked text none = λ credential names signature is.
    none (front_of credential is.named) is.signed (is.parts ∙ behind_front credential is.named is.signed)

module _ (text : List ℕ) (p : Bor (List ℕ) × Bor (List ℕ)) (cut : CutsLast (44 ∷ []) text (Some p)) where
  pub spaced_unnamed : CutsLast (44 ∷ []) p.0.now None → ReadsSpaced text None
  unfolding front_of
  spaced_unnamed none = λ credential names signature is.
      none (label ++ credential) is.named (sym (first_cut text p cut credential names signature is).0)

  module _ (q : Bor (List ℕ) × Bor (List ℕ)) (again : CutsLast (44 ∷ []) p.0.now (Some q)) where
    pub spaced_unlabelled : LacksTextAt label q.0.now 0 → ReadsSpaced text None
    spaced_unlabelled lacks = λ credential names signature is. lacks credential (sym (second_cut text p cut credential names signature is q again).0)

    pub spaced_nameless : CutsLabel names_label q.1.now None → ReadsSpaced text None
    spaced_nameless none = λ credential names signature is. none names (names_at text p cut credential names signature is q again)

    pub spaced_unsigned : CutsLabel signature_label p.1.now None → ReadsSpaced text None
    spaced_unsigned none = λ credential names signature is. none signature (signature_at text p cut credential names signature is)

    module _ (n g : Bor (List ℕ)) (named : CutsLabel names_label q.1.now (Some n)) (signed : CutsLabel signature_label p.1.now (Some g)) where
      pub spaced_unfit : (is_signature g.now && not (has_space n.now)) ≡ false → ReadsSpaced text None
      spaced_unfit other = λ credential names signature is.
          let same_names : names ≡ n.now = one_label 83 (codes "ignedHeaders=") q.1.now names n.now refl (names_at text p cut credential names signature is q again) named in
          let same_signature : signature ≡ g.now = one_label 83 (codes "ignature=") p.1.now signature g.now refl (signature_at text p cut credential names signature is) signed in
          unfit (is_signature g.now) (has_space n.now) other (ap is_signature (sym same_signature) ∙ is.digits) (ap has_space (sym same_names) ∙ is.whole)

      pub spaced_so : (credential : List ℕ) → q.0.now ≡ label ++ credential → (is_signature g.now && not (has_space n.now)) ≡ true
          → IsSpacedAuthorization text credential n.now g.now
      spaced_so credential labelled whole =
          let parts = and_parts (is_signature g.now) (not (has_space n.now)) whole in
          record {
            digits = parts.0;
            whole = is_none (has_space n.now) parts.1;
            one_reading = label_lacks names_label q.1.now n.now (last_comma p.0.now q again) named;
            named = q.1.now;
            signed = p.1.now;
            names_are = named;
            signature_is = signed;
            parts =
                cut.0 ∙ (ap (λ (front : List ℕ). front ++ 44 ∷ p.1.now) (again.0 ∙ ap (λ (front : List ℕ). front ++ 44 ∷ q.1.now) labelled)
                ∙ append_assoc (label ++ credential) (44 ∷ q.1.now) (44 ∷ p.1.now));
          }

-- ---- either reading

pub door_first : (text : List ℕ) (read : Authorization) → ReadsAuthorization text (Some read) → ReadsDoorAuthorization text (Some read)
door_first text read is = inl is

pub door_second : (text : List ℕ) (found : Option Authorization) → ReadsAuthorization text None → ReadsSpaced text found → ReadsDoorAuthorization text found
door_second text None none other = λ credential names signature is. by credential names signature is
  where
    by : (credential names signature : List ℕ) → IsDoorAuthorization text credential names signature → ⊥
    by credential names signature (inl is) = none credential names signature is
    by credential names signature (inr (none_too, spaced)) = other credential names signature spaced
door_second text (Some read) none spaced = inr (none, spaced)

spaced_once : (text c n g d m h : List ℕ) → IsSpacedAuthorization text c n g → IsSpacedAuthorization text d m h → (c ≡ d) × (n ≡ m) × (g ≡ h)
unfolding front_of
spaced_once text c n g d m h a b =
    let front = one_comma (front_of d b.named) b.signed (front_of c a.named) a.signed (signed_lacks text d m h b) (signed_lacks text c n g a)
    (sym (behind_front c a.named a.signed) ∙ (sym a.parts ∙ (b.parts ∙ behind_front d b.named b.signed))) in
    let named = one_comma (label ++ d) b.named (label ++ c) a.named (named_lacks text d m h b) (named_lacks text c n g a) front.0 in (
      append_cancel_left label c d named.0,
      one_label 83 (codes "ignedHeaders=") b.named n m refl (subst (IsLabelled names_label n) named.1 a.names_are) b.names_are,
      one_label 83 (codes "ignature=") b.signed g h refl (subst (IsLabelled signature_label g) front.1 a.signature_is) b.signature_is,
    )

-- a text has one reading
pub door_once : (text c n g d m h : List ℕ) → IsDoorAuthorization text c n g → IsDoorAuthorization text d m h → (c ≡ d) × (n ≡ m) × (g ≡ h)
door_once text c n g d m h (inl a) (inl b) = read_once text c n g d m h a b
door_once text c n g d m h (inl a) (inr (none, b)) = absurd (none c n g a)
door_once text c n g d m h (inr (none, a)) (inl b) = absurd (none d m h b)
door_once text c n g d m h (inr (_, a)) (inr (none, b)) = spaced_once text c n g d m h a b

-- what has one space after each comma is read so
pub read_strictly : (text c n g d m h : List ℕ) → IsAuthorization text c n g → IsDoorAuthorization text d m h → IsAuthorization text d m h
read_strictly text c n g d m h a (inl b) = b
read_strictly text c n g d m h a (inr (none, b)) = absurd (none c n g a)
