-- The first parameter that is outside its form.
use Rattle.std.proofs.Common.{◌≡◌, ◌≢◌, ℕ, Bor, Bool, true, false, not, List, [], ◌∷◌, ◌++◌, Some, None, Err, inl, inr, refl, sym, ap, ◌∙◌, true≢false}
use Rattle.std.specs.Prelude.{bytes_eq, codes}
use Rattle.std.proofs.lemmas.List.{append_cancel_right}
use Rattle.smithy_core.specs.Moment.{Instant}
use Rattle.eventstream.specs.Key.{scope}
use Rattle.sigv4.specs.Signature.{is_signature}
use Rattle.sigv4.proofs.InsertedLemmas.{same_name}
use Rattle.request_check.specs.Carried.{CutsScope}
use Rattle.request_check.specs.Sealed.{spelled_seconds}
use Rattle.request_check.specs.Stamped.{ReadsStamp}
use Rattle.request_check.proofs.SealLemmas.{absent}
use Rattle.request_check.proofs.StampLemmas.{stamped_once}
use Rattle.presign_check.specs.Parameters.{PresignTexts}
use Rattle.presign_check.specs.Terms.{IsBad, IsFirstBad, IsOutOfForm, PresignTerms, ReadsTerms, ParametersState, algorithm_name, formed_parts}
use Rattle.presign_check.specs.declared.fault.PresignFault.{PresignFault}
use Rattle.presign_check.specs.declared.fault.PresignFault.TheVariants.{BadPart}
use Rattle.presign_check.specs.declared.part.PresignPart.{PresignPart}
use Rattle.presign_check.specs.declared.part.PresignPart.TheVariants.{Algorithm, Credential, Date, Expires, SignedHeaders, Signature}

-- texts that don't differ are the same
pub same_text : (a b : List ℕ) → false ≡ not (bytes_eq a b) → a ≡ b
same_text a b = by (bytes_eq a b) refl
  where
    by : (is : Bool) → bytes_eq a b ≡ is → false ≡ not is → a ≡ b
    by true same e = same_name a b same
    by false same e = absurd (true≢false (sym e))

-- ---- parameters that are in their forms

good_algorithm : (region name : List ℕ) (texts : PresignTexts) → texts.algorithm ≡ algorithm_name → IsBad region name texts Algorithm → ⊥
good_algorithm region name texts same differs = differs same

good_date : (region name : List ℕ) (texts : PresignTexts) (at : Instant) → ReadsStamp texts.date (Some at) → IsBad region name texts Date → ⊥
good_date region name texts at stamped none = none at stamped.0 stamped.1

good_credential : (region name : List ℕ) (texts : PresignTexts) (at : Instant) (key_id : List ℕ) → ReadsStamp texts.date (Some at)
    → texts.credential ≡ key_id ++ codes "/" ++ scope at region name → IsBad region name texts Credential → ⊥
good_credential region name texts at key_id stamped cut bad =
    let same : at ≡ bad.0 = stamped_once at bad.0 stamped.0 bad.1.0 (stamped.1 ∙ sym bad.1.1) in
    bad.2 key_id (cut ∙ ap (λ (t : Instant). key_id ++ codes "/" ++ scope t region name) same)

good_expires : (region name : List ℕ) (texts : PresignTexts) (seconds : ℕ) → spelled_seconds texts.expires ≡ Some seconds → IsBad region name texts Expires → ⊥
good_expires region name texts seconds is none = absent (sym none ∙ is)

good_signature : (region name : List ℕ) (texts : PresignTexts) → is_signature texts.signature ≡ true → IsBad region name texts Signature → ⊥
good_signature region name texts is bad = true≢false (sym is ∙ bad)

-- ---- the first that isn't

pub bad_algorithm : (region name : List ℕ) (texts : PresignTexts) → texts.algorithm ≢ algorithm_name → ReadsTerms region name texts (Err (BadPart Algorithm))
bad_algorithm region name texts differs = inl (Algorithm, inl (differs, refl), refl)

pub bad_date : (region name : List ℕ) (texts : PresignTexts) → texts.algorithm ≡ algorithm_name → ReadsStamp texts.date None
    → ReadsTerms region name texts (Err (BadPart Date))
bad_date region name texts same none = inl (Date, inr (good_algorithm region name texts same, inl (none, refl)), refl)

pub bad_credential : (region name : List ℕ) (texts : PresignTexts) (at : Instant) → texts.algorithm ≡ algorithm_name → ReadsStamp texts.date (Some at)
    → CutsScope (scope at region name) texts.credential None → ReadsTerms region name texts (Err (BadPart Credential))
bad_credential region name texts at same stamped uncut =
    inl (Credential, inr (good_algorithm region name texts same, inr (good_date region name texts at stamped, inl ((at, stamped, uncut), refl))), refl)

pub bad_expires : (region name : List ℕ) (texts : PresignTexts) (at : Instant) (key_id : Bor (List ℕ)) → texts.algorithm ≡ algorithm_name
    → ReadsStamp texts.date (Some at) → CutsScope (scope at region name) texts.credential (Some key_id) → spelled_seconds texts.expires ≡ None
    → ReadsTerms region name texts (Err (BadPart Expires))
bad_expires region name texts at key_id same stamped cut none =
    inl (
      Expires,
      inr (
        good_algorithm region name texts same,
        inr (
          good_date region name texts at stamped,
          inr (
            good_credential region name texts at key_id.now stamped cut,
            inl (none, refl),
          ),
        ),
      ),
      refl,
    )

pub bad_signature : (region name : List ℕ) (texts : PresignTexts) (at : Instant) (key_id : Bor (List ℕ)) (seconds : ℕ) → texts.algorithm ≡ algorithm_name
    → ReadsStamp texts.date (Some at) → CutsScope (scope at region name) texts.credential (Some key_id) → spelled_seconds texts.expires ≡ Some seconds
    → is_signature texts.signature ≡ false → ReadsTerms region name texts (Err (BadPart Signature))
bad_signature region name texts at key_id seconds same stamped cut spelled other =
    inl (
      Signature,
      inr (
        good_algorithm region name texts same,
        inr (
          good_date region name texts at stamped,
          inr (
            good_credential region name texts at key_id.now stamped cut,
            inr (good_expires region name texts seconds spelled, inl (other, refl)),
          ),
        ),
      ),
      refl,
    )

pub ruleset bad = (bad_algorithm, bad_date, bad_credential, bad_expires, bad_signature)

-- ---- one reading of the texts

-- none of the parameters that state something is outside its form
none_bad : (region name : List ℕ) (texts : PresignTexts) (terms : PresignTerms) → ParametersState region name texts terms → (part : PresignPart)
    → IsBad region name texts part → ⊥
none_bad region name texts terms stated Algorithm bad = good_algorithm region name texts stated.algorithm bad
none_bad region name texts terms stated Date bad = good_date region name texts terms.at (stated.moment, stated.date) bad
none_bad region name texts terms stated Credential bad = good_credential region name texts terms.at terms.key_id (stated.moment, stated.date) stated.credential bad
none_bad region name texts terms stated Expires bad = good_expires region name texts terms.seconds stated.expires bad
none_bad region name texts terms stated Signature bad = good_signature region name texts stated.signature bad
none_bad region name texts terms stated SignedHeaders bad = bad

no_first : (region name : List ℕ) (texts : PresignTexts) (parts : List PresignPart) (part : PresignPart) → ((next : PresignPart) → IsBad region name texts next → ⊥)
    → IsFirstBad region name texts parts part → ⊥
no_first region name texts [] part none first = first
no_first region name texts (next ∷ parts) part none (inl (is, same)) = none next is
no_first region name texts (next ∷ parts) part none (inr (isnt, first)) = no_first region name texts parts part none first

pub in_form : (region name : List ℕ) (texts : PresignTexts) (terms : PresignTerms) (fault : PresignFault) → ParametersState region name texts terms
    → IsOutOfForm region name texts fault → ⊥
in_form region name texts terms fault stated bad = no_first region name texts formed_parts bad.0 (none_bad region name texts terms stated) bad.1

some_same : (a b : ℕ) → Some a ≡ Some b → a ≡ b
some_same a b e = cc

pub one_terms : (region name : List ℕ) (texts : PresignTexts) (a b : PresignTerms) → ParametersState region name texts a → ParametersState region name texts b → a ≡ b
one_terms region name texts a b p q =
    let at : a.at ≡ b.at = stamped_once a.at b.at p.moment q.moment (p.date ∙ sym q.date) in
    let credential : a.key_id ++ codes "/" ++ scope b.at region name ≡ b.key_id ++ codes "/" ++ scope b.at region name =
    ap (λ (t : Instant). a.key_id ++ codes "/" ++ scope t region name) (sym at) ∙ (sym p.credential ∙ q.credential) in
    let key_id : a.key_id ≡ b.key_id =
    append_cancel_right a.key_id b.key_id (codes "/") (append_cancel_right (a.key_id ++ codes "/") (b.key_id ++ codes "/") (scope b.at region name) credential) in
    let seconds : a.seconds ≡ b.seconds = some_same a.seconds b.seconds (sym p.expires ∙ q.expires) in
    λ i. record { key_id = key_id i; at = at i; seconds = seconds i }
