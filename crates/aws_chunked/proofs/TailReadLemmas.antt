-- The tail that is read.
use Rattle.std.proofs.Common.{◌≡◌, ℕ, ◌<◌, nat_eq, Bool, true, false, List, [], ◌∷◌, ◌++◌, length, length-append, map, Option, Some, None, refl, ap, sym, subst, ◌∙◌, arith, append-nil}
use Rattle.std.specs.Prelude.{codes}
use Rattle.std.specs.Borrow.{Bor}
use Rattle.std.specs.List.{AllByRecursion}
use Rattle.std.proofs.lemmas.List.{length-map, map-append, nil_from_length}
use Rattle.std.proofs.lemmas.Bool.{eqb-false, eqb-true, false≢true}
use Rattle.smithy_core.specs.TextPairs.{lower_name}
use Rattle.aws_chunked.specs.Body.{Trailer}
use Rattle.aws_chunked.specs.Decoded.{IsSignature, IsTextOf, IsTrailer}
use Rattle.aws_chunked.specs.Rests.{FollowsFront, IsSignedBy, IsTail, TailSays}
use Rattle.aws_chunked.specs.Signing.{has_signature}
use Rattle.aws_chunked.specs.TailRests.{IsSplit, last_trailer, pair_texts}
use Rattle.aws_chunked.proofs.RunLemmas.{same_word}
use Rattle.aws_chunked.proofs.SignatureLemmas.{signed_some}
use Rattle.aws_chunked.proofs.TailLemmas.{all_front}

-- names that are in lower case stay
pub lower_pairs : (pairs : List (Bor (List ℕ) × Bor (List ℕ))) → AllByRecursion IsTrailer (map pair_texts pairs) → map lower_name pairs ≡ map pair_texts pairs
lower_pairs [] are = refl
lower_pairs (pair ∷ pairs) are = λ i. (are.0.1 i, pair.1.now) ∷ lower_pairs pairs are.1 i

pub lower_split : (pairs : List (Bor (List ℕ) × Bor (List ℕ))) (lines more : List Trailer) → AllByRecursion IsTrailer lines → lines ≡ map pair_texts pairs ++ more
    → map lower_name pairs ≡ map pair_texts pairs
lower_split pairs lines more are split = lower_pairs pairs (all_front (map pair_texts pairs) more (subst (λ (ts : List Trailer). AllByRecursion IsTrailer ts) split are))

signed_trailers : (is_signed : Bool) (trailers : List Trailer) (signature : List ℕ) → is_signed ≡ true → (length trailers ≡ 0 → ⊥) → IsSignature signature
    → IsSignedBy (has_signature is_signed trailers) (Some signature)
signed_trailers is_signed [] signature is some sound = absurd (some refl)
signed_trailers is_signed (trailer ∷ trailers) signature is some sound = signed_some is_signed signature is sound

-- the last line of some is their signature
pub split_last : (is_signed : Bool) (lines trailers : List (Bor (List ℕ) × Bor (List ℕ))) (last : Bor (List ℕ) × Bor (List ℕ)) → is_signed ≡ true
    → lines ≡ trailers ++ last ∷ [] → 0 < length trailers → last.0.now ≡ codes "x-amz-trailer-signature" → IsSignature last.1.now
    → IsSplit is_signed (map pair_texts lines) (map pair_texts trailers) (Some last.1.now)
split_last is_signed lines trailers last is split some name sound = (
  ap (map pair_texts) split ∙ map-append pair_texts trailers (last ∷ []) ∙ ap (λ (n : List ℕ). map pair_texts trailers ++ (n, last.1.now) ∷ []) name,
  signed_trailers is_signed (map pair_texts trailers) last.1.now is (λ none. omega (arith, some, length-map trailers pair_texts, none)) sound,
)

-- or else they are no trailers and their signature
pub split_none : (is_signed : Bool) (lines trailers : List (Bor (List ℕ) × Bor (List ℕ))) (last : Bor (List ℕ) × Bor (List ℕ)) → is_signed ≡ true
    → lines ≡ trailers ++ last ∷ [] → ((0 < length trailers) × (last.0.now ≡ codes "x-amz-trailer-signature") × IsSignature last.1.now → ⊥)
    → (others : List Trailer) (signature : Option (List ℕ)) → IsSplit is_signed (map pair_texts lines) others signature → ⊥
split_none false lines trailers last is split other others signature is_split = false≢true is
split_none true lines trailers last is split other [] None is_split = omega (
  arith,
  ap length (sym (ap (map pair_texts) split ∙ map-append pair_texts trailers (last ∷ [])) ∙ is_split.0),
  length-append (map pair_texts trailers) (pair_texts last ∷ []),
)
split_none true lines trailers last is split other (trailer ∷ others) None is_split = is_split.1
split_none true lines trailers last is split other [] (Some signature) is_split = is_split.1
split_none true lines trailers last is split other (trailer ∷ others) (Some signature) is_split =
    let all = trailer ∷ others in
    let same = sym (ap (map pair_texts) split ∙ map-append pair_texts trailers (last ∷ [])) ∙ is_split.0 in
    let found = same_word (map pair_texts trailers) all (pair_texts last ∷ []) (last_trailer (Some signature))
    (omega (arith, ap length same, length-append (map pair_texts trailers) (pair_texts last ∷ []), length-append all (last_trailer (Some signature)))) same in
    other (
      omega (arith, ap length found.0, length-map trailers pair_texts),
      ap name_of found.1,
      subst IsSignature (sym (ap value_of found.1)) is_split.1,
    )
  where
    name_of : List Trailer → List ℕ
    name_of [] = []
    name_of (t ∷ ts) = t.0

    value_of : List Trailer → List ℕ
    value_of [] = []
    value_of (t ∷ ts) = t.1

pub empty_rest : (rest : List ℕ) → nat_eq (length rest) 0 ≡ true → rest ≡ []
empty_rest rest is = nil_from_length rest (eqb-true (length rest) 0 is)

pub some_rest : (rest : List ℕ) → nat_eq (length rest) 0 ≡ false → length rest ≡ 0 → ⊥
some_rest rest is none = eqb-false (length rest) 0 is none

-- the tail in the names of what is answered
pub tail_named : (is_signed : Bool) (signatures : List (List ℕ)) (trailers headers : List Trailer) (bytes : List ℕ) → headers ≡ trailers
    → IsTail is_signed signatures trailers bytes × ((s : List (List ℕ)) (t : List Trailer) → IsTail is_signed s t bytes → (s ≡ signatures) × (t ≡ trailers))
    → IsTail is_signed signatures headers bytes × ((s : List (List ℕ)) (t : List Trailer) → IsTail is_signed s t bytes → (s ≡ signatures) × (t ≡ headers))
tail_named is_signed signatures trailers headers bytes same is =
    (subst (λ (t : List Trailer). IsTail is_signed signatures t bytes) (sym same) is.0, λ s t other. ((is.1 s t other).0, (is.1 s t other).1 ∙ sym same))

-- ## The whole

pub whole_read : (is_signed : Bool) (body all_body : List ℕ) (texts signatures all : List (List ℕ)) (trailers : List Trailer) (bytes front rest : List ℕ)
    → FollowsFront IsTextOf (TailSays is_signed) body texts front rest → bytes ≡ front ++ rest → IsTail is_signed signatures trailers rest → all_body ≡ body
    → all ≡ texts ++ signatures → IsTextOf all_body all trailers bytes
whole_read is_signed body all_body texts signatures all trailers bytes front rest follows parted tail bodies same =
    follows.goes_on [] all_body signatures all trailers rest bytes (bodies ∙ sym (append-nil body)) same parted (refl, tail)

pub only_read : (is_signed : Bool) (body all_body : List ℕ) (texts signatures all : List (List ℕ)) (trailers : List Trailer) (bytes front rest : List ℕ)
    → FollowsFront IsTextOf (TailSays is_signed) body texts front rest → bytes ≡ front ++ rest
    → ((s : List (List ℕ)) (t : List Trailer) → IsTail is_signed s t rest → (s ≡ signatures) × (t ≡ trailers)) → all_body ≡ body → all ≡ texts ++ signatures
    → (b : List ℕ) (s : List (List ℕ)) (t : List Trailer) → IsTextOf b s t bytes → (b ≡ all_body) × (s ≡ all) × (t ≡ trailers)
only_read is_signed body all_body texts signatures all trailers bytes front rest follows parted unique bodies same b s t is =
    let says = follows.comes_so b s t rest bytes parted refl is in
    let tail = unique says.1 t says.4.1 in (
      says.2 ∙ ap (λ (x : List ℕ). body ++ x) says.4.0 ∙ append-nil body ∙ sym bodies,
      says.3 ∙ ap (λ (x : List (List ℕ)). texts ++ x) tail.0 ∙ sym same,
      tail.1,
    )
