-- The first test of what is carried that is met.
use Rattle.std.proofs.Common.{◌≡◌, ◌≢◌, ℕ, true, false, List, [], ◌∷◌, ◌++◌, None, Ok, Err, inl, inr, refl, sym, ap, ◌∙◌, subst, true≢false}
use Rattle.std.specs.Prelude.{Result, codes}
use Rattle.sigv4.specs.Query.{Pair}
use Rattle.sigv4.specs.Signature.{is_signature}
use Rattle.sigv4.specs.declared.settings.SignatureLocation.{SignatureLocation}
use Rattle.sigv4.specs.declared.settings.SignatureLocation.TheVariants.{Headers, QueryParams}
use Rattle.presign_check.specs.Terms.{algorithm_name}
use Rattle.presign_check.specs.declared.part.PresignPart.{PresignPart}
use Rattle.presign_check.specs.declared.part.PresignPart.TheVariants.{Algorithm, Credential, Date, Expires, SignedHeaders, Signature}
use Rattle.request_door.specs.DoorAuthorization.{IsDoorAuthorization, ReadsDoorAuthorization}
use Rattle.request_door.specs.DoorCarried.{CarriesAt, IsInForm, LacksFront, MeetsCarried, MeetsDoorForm, ReadsCarried, ReadsCarriedAt, are_several, first_text, form_tests, has_authorization, has_parameters, part_values, tests_of, texts_carried}
use Rattle.request_door.specs.DoorOrder.{IsFirstMet, NoneMet}
use Rattle.request_door.specs.declared.carried.Carried.{Carried}
use Rattle.request_door.specs.declared.fault.DoorFault.{DoorFault}
use Rattle.request_door.specs.declared.fault.DoorFault.TheVariants.{NoForm, Missing, Repeated, OtherAlgorithm, Malformed}
use Rattle.request_door.proofs.DoorLemmas.{unfailed, unmet}

-- ---- the form

pub in_one_form : (headers pairs : List Pair) (place : SignatureLocation) → IsInForm headers pairs place → NoneMet (MeetsDoorForm headers pairs) form_tests
in_one_form headers pairs Headers is = (λ met. unmet (has_parameters pairs) is.1 met.1, (λ met. unfailed (has_authorization headers) is.0 met.0, tt))
in_one_form headers pairs QueryParams is = (λ met. unmet (has_authorization headers) is.0 met.0, (λ met. unfailed (has_parameters pairs) is.1 met.1, tt))

pub no_form : (headers pairs : List Pair) → has_authorization headers ≡ false → has_parameters pairs ≡ false → ReadsCarried headers pairs (Err NoForm)
no_form headers pairs a b = inl (inr (λ met. unmet (has_authorization headers) a met.0, inl ((a, b), refl)))

pub read_at : (place : SignatureLocation) (headers pairs : List Pair) (result : Result Carried DoorFault) → IsInForm headers pairs place
    → ReadsCarriedAt place headers pairs result → ReadsCarried headers pairs result
read_at place headers pairs (Ok read) in_form (whole, same, carried) = (
  in_one_form headers pairs read.place (subst (λ (at : SignatureLocation). IsInForm headers pairs at) (sym same) in_form),
  subst (λ (at : SignatureLocation). IsInForm headers pairs at) (sym same) in_form,
  subst (λ (at : SignatureLocation). NoneMet (MeetsCarried at headers pairs) (tests_of at)) (sym same) whole,
  subst (λ (at : SignatureLocation). CarriesAt at headers pairs (texts_carried read)) (sym same) carried,
)
read_at place headers pairs (Err fault) in_form first = inr (place, in_form, first)

-- ---- a part

module _ (place : SignatureLocation) (headers pairs : List Pair) (part : PresignPart) where
  abbrev values : List (List ℕ)
  values = part_values place headers pairs part

  not_none : (value : List ℕ) → values ≡ value ∷ [] → values ≡ [] → ⊥
  not_none value one none = differ value (sym one ∙ none)
    where
      differ : (value : List ℕ) → ◌≡◌ {A = List (List ℕ)} (value ∷ []) [] → ⊥
      differ value e = cc

  not_several : (value : List ℕ) → values ≡ value ∷ [] → are_several values ≡ true → ⊥
  not_several value one several = true≢false (sym several ∙ ap are_several one)

  -- it isn't there once
  pub part_fails : (rest : List DoorFault) (fault : DoorFault) → IsFirstMet (MeetsCarried place headers pairs) (Missing part ∷ Repeated part ∷ []) fault
      → IsFirstMet (MeetsCarried place headers pairs) (Missing part ∷ Repeated part ∷ rest) fault
  part_fails rest fault (inl met) = inl met
  part_fails rest fault (inr (not, inl met)) = inr (not, inl met)
  part_fails rest fault (inr (not, inr (nor, never))) = absurd never

  -- it is, and a test after it decides
  pub part_passes : (value : List ℕ) (rest : List DoorFault) (fault : DoorFault) → values ≡ value ∷ [] → IsFirstMet (MeetsCarried place headers pairs) rest fault
      → IsFirstMet (MeetsCarried place headers pairs) (Missing part ∷ Repeated part ∷ rest) fault
  part_passes value rest fault one first = inr (not_none value one, inr (not_several value one, first))

  -- or none
  pub part_whole : (value : List ℕ) (rest : List DoorFault) → values ≡ value ∷ [] → NoneMet (MeetsCarried place headers pairs) rest
      → NoneMet (MeetsCarried place headers pairs) (Missing part ∷ Repeated part ∷ rest)
  part_whole value rest one none = (not_none value one, (not_several value one, none))

-- ---- in headers

module _ (headers pairs : List Pair) where
  abbrev HeaderFirst : DoorFault → Type 0
  HeaderFirst fault = IsFirstMet (MeetsCarried Headers headers pairs) (tests_of Headers) fault

  pub no_authorization : (fault : DoorFault) → IsFirstMet (MeetsCarried Headers headers pairs) (Missing Signature ∷ Repeated Signature ∷ []) fault → HeaderFirst fault
  no_authorization fault first = part_fails Headers headers pairs Signature (Missing Date ∷ Repeated Date ∷ OtherAlgorithm ∷ Malformed ∷ []) fault first

  module _ (text : List ℕ) (once : part_values Headers headers pairs Signature ≡ text ∷ []) where
    pub no_date : (fault : DoorFault) → IsFirstMet (MeetsCarried Headers headers pairs) (Missing Date ∷ Repeated Date ∷ []) fault → HeaderFirst fault
    no_date fault first =
        part_passes Headers headers pairs Signature text (Missing Date ∷ Repeated Date ∷ OtherAlgorithm ∷ Malformed ∷ []) fault once
        (part_fails Headers headers pairs Date (OtherAlgorithm ∷ Malformed ∷ []) fault first)

    module _ (date : List ℕ) (dated : part_values Headers headers pairs Date ≡ date ∷ []) where
      behind : (fault : DoorFault) → IsFirstMet (MeetsCarried Headers headers pairs) (OtherAlgorithm ∷ Malformed ∷ []) fault → HeaderFirst fault
      behind fault first =
          part_passes Headers headers pairs Signature text (Missing Date ∷ Repeated Date ∷ OtherAlgorithm ∷ Malformed ∷ []) fault once
          (part_passes Headers headers pairs Date date (OtherAlgorithm ∷ Malformed ∷ []) fault dated first)

      pub other_algorithm : LacksFront (codes "AWS4-HMAC-SHA256 ") text → HeaderFirst OtherAlgorithm
      other_algorithm lacks =
          behind OtherAlgorithm (inl (subst (λ (values : List (List ℕ)). LacksFront (codes "AWS4-HMAC-SHA256 ") (first_text values)) (sym once) lacks, refl))

      has_algorithm : (rest : List ℕ) → text ≡ codes "AWS4-HMAC-SHA256 " ++ rest → LacksFront (codes "AWS4-HMAC-SHA256 ") (first_text (part_values Headers headers pairs Signature)) → ⊥
      has_algorithm rest e lacks = lacks rest (ap first_text once ∙ e)

      pub malformed : (rest : List ℕ) → text ≡ codes "AWS4-HMAC-SHA256 " ++ rest → ReadsDoorAuthorization text None → HeaderFirst Malformed
      malformed rest e none =
          behind Malformed (inr (has_algorithm rest e, inl (subst (λ (values : List (List ℕ)). ReadsDoorAuthorization (first_text values) None) (sym once) none, refl)))

      pub whole_header : (rest credential names signature : List ℕ) → text ≡ codes "AWS4-HMAC-SHA256 " ++ rest → IsDoorAuthorization text credential names signature
          → NoneMet (MeetsCarried Headers headers pairs) (tests_of Headers)
      whole_header rest credential names signature e read =
          part_whole Headers headers pairs Signature text (Missing Date ∷ Repeated Date ∷ OtherAlgorithm ∷ Malformed ∷ []) once
          (part_whole Headers headers pairs Date date (OtherAlgorithm ∷ Malformed ∷ []) dated
          (has_algorithm rest e, (λ none. none credential names signature (subst (λ (t : List ℕ). IsDoorAuthorization t credential names signature) (sym (ap first_text once)) read), tt)))

-- ---- in parameters

abbrev after_signature : List DoorFault
after_signature = OtherAlgorithm ∷ Malformed ∷ []

abbrev after_names : List DoorFault
after_names = Missing Signature ∷ Repeated Signature ∷ after_signature

abbrev after_expires : List DoorFault
after_expires = Missing SignedHeaders ∷ Repeated SignedHeaders ∷ after_names

abbrev after_date : List DoorFault
after_date = Missing Expires ∷ Repeated Expires ∷ after_expires

abbrev after_credential : List DoorFault
after_credential = Missing Date ∷ Repeated Date ∷ after_date

abbrev after_algorithm : List DoorFault
after_algorithm = Missing Credential ∷ Repeated Credential ∷ after_credential

module _ (headers pairs : List Pair) where
  abbrev InParameters : DoorFault → Type 0
  InParameters fault = IsFirstMet (MeetsCarried QueryParams headers pairs) (tests_of QueryParams) fault

  pub no_algorithm : (fault : DoorFault) → IsFirstMet (MeetsCarried QueryParams headers pairs) (Missing Algorithm ∷ Repeated Algorithm ∷ []) fault → InParameters fault
  no_algorithm fault first = part_fails QueryParams headers pairs Algorithm after_algorithm fault first

  module _ (algorithm : List ℕ) (once_algorithm : part_values QueryParams headers pairs Algorithm ≡ algorithm ∷ []) where
    past_algorithm : (fault : DoorFault) → IsFirstMet (MeetsCarried QueryParams headers pairs) after_algorithm fault → InParameters fault
    past_algorithm fault first = part_passes QueryParams headers pairs Algorithm algorithm after_algorithm fault once_algorithm first

    pub no_credential : (fault : DoorFault) → IsFirstMet (MeetsCarried QueryParams headers pairs) (Missing Credential ∷ Repeated Credential ∷ []) fault → InParameters fault
    no_credential fault first = past_algorithm fault (part_fails QueryParams headers pairs Credential after_credential fault first)

    module _ (credential : List ℕ) (once_credential : part_values QueryParams headers pairs Credential ≡ credential ∷ []) where
      past_credential : (fault : DoorFault) → IsFirstMet (MeetsCarried QueryParams headers pairs) after_credential fault → InParameters fault
      past_credential fault first = past_algorithm fault (part_passes QueryParams headers pairs Credential credential after_credential fault once_credential first)

      pub no_parameter_date : (fault : DoorFault) → IsFirstMet (MeetsCarried QueryParams headers pairs) (Missing Date ∷ Repeated Date ∷ []) fault → InParameters fault
      no_parameter_date fault first = past_credential fault (part_fails QueryParams headers pairs Date after_date fault first)

      module _ (date : List ℕ) (once_date : part_values QueryParams headers pairs Date ≡ date ∷ []) where
        past_date : (fault : DoorFault) → IsFirstMet (MeetsCarried QueryParams headers pairs) after_date fault → InParameters fault
        past_date fault first = past_credential fault (part_passes QueryParams headers pairs Date date after_date fault once_date first)

        pub no_expires : (fault : DoorFault) → IsFirstMet (MeetsCarried QueryParams headers pairs) (Missing Expires ∷ Repeated Expires ∷ []) fault → InParameters fault
        no_expires fault first = past_date fault (part_fails QueryParams headers pairs Expires after_expires fault first)

        module _ (expires : List ℕ) (once_expires : part_values QueryParams headers pairs Expires ≡ expires ∷ []) where
          past_expires : (fault : DoorFault) → IsFirstMet (MeetsCarried QueryParams headers pairs) after_expires fault → InParameters fault
          past_expires fault first = past_date fault (part_passes QueryParams headers pairs Expires expires after_expires fault once_expires first)

          pub no_names : (fault : DoorFault) → IsFirstMet (MeetsCarried QueryParams headers pairs) (Missing SignedHeaders ∷ Repeated SignedHeaders ∷ []) fault → InParameters fault
          no_names fault first = past_expires fault (part_fails QueryParams headers pairs SignedHeaders after_names fault first)

          module _ (names : List ℕ) (once_names : part_values QueryParams headers pairs SignedHeaders ≡ names ∷ []) where
            past_names : (fault : DoorFault) → IsFirstMet (MeetsCarried QueryParams headers pairs) after_names fault → InParameters fault
            past_names fault first = past_expires fault (part_passes QueryParams headers pairs SignedHeaders names after_names fault once_names first)

            pub no_signature : (fault : DoorFault) → IsFirstMet (MeetsCarried QueryParams headers pairs) (Missing Signature ∷ Repeated Signature ∷ []) fault → InParameters fault
            no_signature fault first = past_names fault (part_fails QueryParams headers pairs Signature after_signature fault first)

            module _ (signature : List ℕ) (once_signature : part_values QueryParams headers pairs Signature ≡ signature ∷ []) where
              past_signature : (fault : DoorFault) → IsFirstMet (MeetsCarried QueryParams headers pairs) after_signature fault → InParameters fault
              past_signature fault first = past_names fault (part_passes QueryParams headers pairs Signature signature after_signature fault once_signature first)

              pub another_algorithm : algorithm ≢ algorithm_name → InParameters OtherAlgorithm
              another_algorithm differs = past_signature OtherAlgorithm (inl (λ e. differs (sym (ap first_text once_algorithm) ∙ e), refl))

              pub no_digits : algorithm ≡ algorithm_name → is_signature signature ≡ false → InParameters Malformed
              no_digits same other =
                  past_signature Malformed (inr (λ differs. differs (ap first_text once_algorithm ∙ same), inl (ap (λ (v : List (List ℕ)). is_signature (first_text v)) once_signature ∙ other, refl)))

              pub whole_parameters : algorithm ≡ algorithm_name → is_signature signature ≡ true → NoneMet (MeetsCarried QueryParams headers pairs) (tests_of QueryParams)
              whole_parameters same digits =
                  (part_whole QueryParams headers pairs Algorithm algorithm after_algorithm once_algorithm (part_whole QueryParams headers pairs Credential credential after_credential once_credential (part_whole QueryParams headers pairs Date date after_date once_date (part_whole QueryParams headers pairs Expires expires after_expires once_expires (part_whole QueryParams headers pairs SignedHeaders names after_names once_names (part_whole QueryParams headers pairs Signature signature after_signature once_signature (λ differs. differs (ap first_text once_algorithm ∙ same), (λ other. unfailed (is_signature (first_text (part_values QueryParams headers pairs Signature))) (ap (λ (v : List (List ℕ)). is_signature (first_text v)) once_signature ∙ digits) other, tt))))))))
