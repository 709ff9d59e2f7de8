-- Parameters that have one value each.
use Rattle.std.proofs.Common.{◌≡◌, ℕ, Bool, true, false, cond, List, [], ◌∷◌, Option, Some, None, refl, sym, ap, ◌∙◌}
use Rattle.std.specs.Prelude.{bytes_eq}
use Rattle.std.specs.Borrow.{Bor}
use Rattle.std.specs.Option.{option_or}
use Rattle.smithy_core.specs.TextPairs.{first_value, named_values}
use Rattle.sigv4.specs.Query.{Pair}
use Rattle.presign_check.specs.Parameters.{PresignTexts, StandOnce, all_parts, count_fault, first_count_fault, parameter_values}
use Rattle.presign_check.specs.declared.fault.PresignFault.{PresignFault}
use Rattle.presign_check.specs.declared.part.PresignPart.{PresignPart}
use Rattle.presign_check.specs.declared.part.PresignPart.TheVariants.{Algorithm, Credential, Date, Expires, SignedHeaders, Signature}

-- the value that was found so far, if one was
abbrev pub found_values : Option (Bor (List ℕ)) → List (List ℕ)
found_values None = []
found_values (Some value) = value.now ∷ []

-- it is this one
pub here : (pairs : List Pair) (part : PresignPart) (parts : List PresignPart) (fault : PresignFault) → count_fault part (parameter_values pairs part) ≡ Some fault
    → first_count_fault pairs (part ∷ parts) ≡ Some fault
here pairs part parts fault e = ap (λ (o : Option PresignFault). option_or o (first_count_fault pairs parts)) e

-- it is one of those after it
pub later : (pairs : List Pair) (part : PresignPart) (parts : List PresignPart) (value : List ℕ) (fault : PresignFault) → parameter_values pairs part ≡ value ∷ []
    → first_count_fault pairs parts ≡ Some fault → first_count_fault pairs (part ∷ parts) ≡ Some fault
later pairs part parts value fault one e = ap (λ (values : List (List ℕ)). option_or (count_fault part values) (first_count_fault pairs parts)) one ∙ e

pub ruleset counted = (here, later)

-- this one has one value
passes : (pairs : List Pair) (part : PresignPart) (parts : List PresignPart) (value : List ℕ) → parameter_values pairs part ≡ value ∷ []
    → first_count_fault pairs parts ≡ None → first_count_fault pairs (part ∷ parts) ≡ None
passes pairs part parts value one e = ap (λ (values : List (List ℕ)). option_or (count_fault part values) (first_count_fault pairs parts)) one ∙ e

-- and so does each
pub all_pass : (pairs : List Pair) (texts : PresignTexts) → StandOnce pairs texts → first_count_fault pairs all_parts ≡ None
all_pass pairs texts once =
    passes pairs Algorithm (Credential ∷ Date ∷ Expires ∷ SignedHeaders ∷ Signature ∷ []) texts.algorithm once.algorithm
    (passes pairs Credential (Date ∷ Expires ∷ SignedHeaders ∷ Signature ∷ []) texts.credential once.credential
    (passes pairs Date (Expires ∷ SignedHeaders ∷ Signature ∷ []) texts.date once.date
    (passes pairs Expires (SignedHeaders ∷ Signature ∷ []) texts.expires once.expires
    (passes pairs SignedHeaders (Signature ∷ []) texts.names once.names
    (passes pairs Signature [] texts.signature once.signature refl)))))

-- ---- the first value

abbrev front : List (List ℕ) → Option (List ℕ)
front [] = None
front (value ∷ values) = Some value

first_is : (pairs : List Pair) (name : List ℕ) → first_value pairs name ≡ front (named_values pairs name)
first_is [] name = refl
first_is (pair ∷ pairs) name = by (bytes_eq pair.0 name) (first_is pairs name)
  where
    by : (b : Bool) → first_value pairs name ≡ front (named_values pairs name)
        → option_or (cond b (Some pair.1) None) (first_value pairs name) ≡ front (cond b (pair.1 ∷ named_values pairs name) (named_values pairs name))
    by true rest = refl
    by false rest = rest

-- the one value of a name is the first
pub first_of_one : (pairs : List Pair) (name value : List ℕ) → named_values pairs name ≡ value ∷ [] → first_value pairs name ≡ Some value
first_of_one pairs name value one = first_is pairs name ∙ ap front one

-- ---- one list of texts

pub head_same : (a b : List ℕ) → ◌≡◌ {A = List (List ℕ)} (a ∷ []) (b ∷ []) → a ≡ b
head_same a b e = cc

one_value : (pairs : List Pair) (part : PresignPart) (a b : List ℕ) → parameter_values pairs part ≡ a ∷ [] → parameter_values pairs part ≡ b ∷ [] → a ≡ b
one_value pairs part a b p q = head_same a b (sym p ∙ q)

-- the values of pairs in which each of the parameters stands once
pub one_texts : (pairs : List Pair) (a b : PresignTexts) → StandOnce pairs a → StandOnce pairs b → a ≡ b
one_texts pairs a b p q =
    let algorithm = one_value pairs Algorithm a.algorithm b.algorithm p.algorithm q.algorithm in
    let credential = one_value pairs Credential a.credential b.credential p.credential q.credential in
    let date = one_value pairs Date a.date b.date p.date q.date in
    let expires = one_value pairs Expires a.expires b.expires p.expires q.expires in
    let names = one_value pairs SignedHeaders a.names b.names p.names q.names in
    let signature = one_value pairs Signature a.signature b.signature p.signature q.signature in
    λ i. record {
      algorithm = algorithm i;
      credential = credential i;
      date = date i;
      expires = expires i;
      names = names i;
      signature = signature i;
    }
