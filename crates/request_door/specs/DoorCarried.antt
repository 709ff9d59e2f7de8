-- What a signed request carries of its signature, in header form and in query form (AWS Signature Version 4, its `Authorization` header and its query
-- parameters), and the tests of it.
use Rattle.std.specs.Prelude.{◌≡◌, ◌≢◌, ◌⊎◌, ℕ, Bool, true, false, List, [], ◌∷◌, ◌++◌, bytes_eq, codes, Option, Some, None, Result, Ok, Err, is_some}
use Rattle.std.specs.Borrow.{Bor}
use Rattle.std.specs.List.{list_any}
use Rattle.smithy_core.specs.TextPairs.{first_value, named_values}
use Rattle.sigv4.specs.Query.{Pair}
use Rattle.sigv4.specs.Signature.{is_signature}
use Rattle.sigv4.specs.declared.settings.SignatureLocation.{SignatureLocation}
use Rattle.sigv4.specs.declared.settings.SignatureLocation.TheVariants.{Headers, QueryParams}
use Rattle.presign_check.specs.Parameters.{all_parts, parameter_name, parameter_values}
use Rattle.presign_check.specs.Terms.{algorithm_name}
use Rattle.presign_check.specs.declared.part.PresignPart.{PresignPart}
use Rattle.presign_check.specs.declared.part.PresignPart.TheVariants.{Algorithm, Credential, Date, Expires, SignedHeaders, Signature}
use Rattle.request_door.specs.DoorAuthorization.{IsDoorAuthorization, ReadsDoorAuthorization}
use Rattle.request_door.specs.DoorOrder.{IsFirstMet, NoneMet}
use Rattle.request_door.specs.declared.carried.Carried.{Carried}
use Rattle.request_door.specs.declared.fault.DoorFault.{DoorFault}
use Rattle.request_door.specs.declared.fault.DoorFault.TheVariants.{BothForms, NoForm, Missing, Repeated, OtherAlgorithm, Malformed}

-- ---- the form

-- there is an `authorization` header
abbrev pub has_authorization : List Pair → Bool
has_authorization headers = is_some (first_value headers (codes "authorization"))

-- the key of a parameter that is a part of a signature
abbrev pub is_parameter : List ℕ → Bool
is_parameter key = list_any (λ part. bytes_eq key (parameter_name part)) all_parts

-- the request has such a parameter
abbrev pub has_parameters : List Pair → Bool
has_parameters pairs = list_any (λ pair. is_parameter pair.0) pairs

-- the tests of the form
abbrev pub form_tests : List DoorFault
form_tests = BothForms ∷ NoForm ∷ []

-- a test of the form: a signature is carried in both forms, or in none
abbrev pub MeetsDoorForm : List Pair → List Pair → DoorFault → Type 0
MeetsDoorForm headers pairs BothForms = (has_authorization headers ≡ true) × (has_parameters pairs ≡ true)
MeetsDoorForm headers pairs NoForm = (has_authorization headers ≡ false) × (has_parameters pairs ≡ false)
MeetsDoorForm headers pairs _ = ⊥

-- the one form in which a signature is carried
abbrev pub IsInForm : List Pair → List Pair → SignatureLocation → Type 0
IsInForm headers pairs Headers = (has_authorization headers ≡ true) × (has_parameters pairs ≡ false)
IsInForm headers pairs QueryParams = (has_authorization headers ≡ false) × (has_parameters pairs ≡ true)

-- ---- the parts

-- the header in which a part stands: the date has its own
abbrev pub header_of_part : PresignPart → List ℕ
header_of_part Date = codes "x-amz-date"
header_of_part _ = codes "authorization"

-- the values of a part: in header form those of its header
abbrev pub part_values : SignatureLocation → List Pair → List Pair → PresignPart → List (List ℕ)
part_values Headers headers pairs part = named_values headers (header_of_part part)
part_values QueryParams headers pairs part = parameter_values pairs part

-- there are two values or more
abbrev pub are_several : List (List ℕ) → Bool
are_several [] = false
are_several (value ∷ []) = false
are_several (value ∷ other ∷ values) = true

-- the first value, and the empty text where there is none
abbrev pub first_text : List (List ℕ) → List ℕ
first_text [] = []
first_text (value ∷ values) = value

-- the first of these values, where there is one
abbrev pub first_shown : List (List ℕ) → Option (List ℕ)
first_shown [] = None
first_shown (value ∷ values) = Some value

-- a text doesn't begin so
abbrev pub LacksFront : List ℕ → List ℕ → Type 0
LacksFront front text = (rest : List ℕ) → text ≡ front ++ rest → ⊥

-- a signature of another algorithm: in header form the header doesn't begin with this one's name and a space
abbrev pub IsOfOtherAlgorithm : SignatureLocation → List Pair → List Pair → Type 0
IsOfOtherAlgorithm Headers headers pairs = LacksFront (codes "AWS4-HMAC-SHA256 ") (first_text (part_values Headers headers pairs Signature))
IsOfOtherAlgorithm QueryParams headers pairs = first_text (part_values QueryParams headers pairs Algorithm) ≢ algorithm_name

-- a signature isn't in its form: the header isn't of credential, names and signature, or the parameter hasn't 64 lower-case digits
abbrev pub IsMalformed : SignatureLocation → List Pair → List Pair → Type 0
IsMalformed Headers headers pairs = ReadsDoorAuthorization (first_text (part_values Headers headers pairs Signature)) None
IsMalformed QueryParams headers pairs = is_signature (first_text (part_values QueryParams headers pairs Signature)) ≡ false

-- a test of what is carried
abbrev pub MeetsCarried : SignatureLocation → List Pair → List Pair → DoorFault → Type 0
MeetsCarried place headers pairs (Missing part) = part_values place headers pairs part ≡ []
MeetsCarried place headers pairs (Repeated part) = are_several (part_values place headers pairs part) ≡ true
MeetsCarried place headers pairs OtherAlgorithm = IsOfOtherAlgorithm place headers pairs
MeetsCarried place headers pairs Malformed = IsMalformed place headers pairs
MeetsCarried place headers pairs _ = ⊥

-- the one value of a part, or why it isn't one
abbrev pub FindsPart : SignatureLocation → List Pair → List Pair → PresignPart → Result (Bor (List ℕ)) DoorFault → Type 0
FindsPart place headers pairs part (Ok value) = part_values place headers pairs part ≡ value.now ∷ []
FindsPart place headers pairs part (Err fault) = IsFirstMet (MeetsCarried place headers pairs) (Missing part ∷ Repeated part ∷ []) fault

-- ---- the texts

-- the texts that a request carries of its signature, and where; in header form no expiry
pub record DoorTexts : Type 0 where
  pub place : SignatureLocation
  pub credential : List ℕ
  pub date : List ℕ
  pub expires : List ℕ
  pub names : List ℕ
  pub signature : List ℕ

-- the headers carry these texts
pub record CarriesHeaders (headers : List Pair) (texts : DoorTexts) : Type 0 where
  pub authorization : List ℕ
  pub once : named_values headers (codes "authorization") ≡ authorization ∷ []
  pub date : named_values headers (codes "x-amz-date") ≡ texts.date ∷ []
  pub no_expiry : texts.expires ≡ []
  pub read : IsDoorAuthorization authorization texts.credential texts.names texts.signature

-- the parameters carry these texts
pub record CarriesParameters (pairs : List Pair) (texts : DoorTexts) : Type 0 where
  pub credential : parameter_values pairs Credential ≡ texts.credential ∷ []
  pub date : parameter_values pairs Date ≡ texts.date ∷ []
  pub expires : parameter_values pairs Expires ≡ texts.expires ∷ []
  pub names : parameter_values pairs SignedHeaders ≡ texts.names ∷ []
  pub signature : parameter_values pairs Signature ≡ texts.signature ∷ []
  pub digits : is_signature texts.signature ≡ true

-- the request carries these texts, in the form that they say
abbrev pub CarriesAt : SignatureLocation → List Pair → List Pair → DoorTexts → Type 0
CarriesAt Headers headers pairs texts = CarriesHeaders headers texts
CarriesAt QueryParams headers pairs texts = CarriesParameters pairs texts

-- what was read
abbrev pub texts_carried : Carried → DoorTexts
texts_carried read = record {
  place = read.place;
  credential = read.credential.now;
  date = read.date.now;
  expires = read.expires.now;
  names = read.names.now;
  signature = read.signature.now;
}

-- the tests of one form, in their order
abbrev pub tests_of : SignatureLocation → List DoorFault
tests_of Headers = Missing Signature ∷ Repeated Signature ∷ Missing Date ∷ Repeated Date ∷ OtherAlgorithm ∷ Malformed ∷ []
tests_of QueryParams =
    Missing Algorithm ∷ Repeated Algorithm ∷ Missing Credential ∷ Repeated Credential ∷ Missing Date ∷ Repeated Date ∷ Missing Expires ∷ Repeated Expires
    ∷ Missing SignedHeaders ∷ Repeated SignedHeaders ∷ Missing Signature ∷ Repeated Signature ∷ OtherAlgorithm ∷ Malformed ∷ []

-- the texts that are carried at a place, where no test of that form is met, and else the first that is
abbrev pub ReadsCarriedAt : SignatureLocation → List Pair → List Pair → Result Carried DoorFault → Type 0
ReadsCarriedAt place headers pairs (Ok read) =
    NoneMet (MeetsCarried place headers pairs) (tests_of place) × (read.place ≡ place) × CarriesAt place headers pairs (texts_carried read)
ReadsCarriedAt place headers pairs (Err fault) = IsFirstMet (MeetsCarried place headers pairs) (tests_of place) fault

-- the form has no test that is met, and what is carried in it is read, or else the first test that is met
abbrev pub ReadsCarried : List Pair → List Pair → Result Carried DoorFault → Type 0
ReadsCarried headers pairs (Ok read) =
    NoneMet (MeetsDoorForm headers pairs) form_tests × IsInForm headers pairs read.place
    × NoneMet (MeetsCarried read.place headers pairs) (tests_of read.place) × CarriesAt read.place headers pairs (texts_carried read)
ReadsCarried headers pairs (Err fault) =
    IsFirstMet (MeetsDoorForm headers pairs) form_tests fault
    ⊎ ((place : SignatureLocation) × IsInForm headers pairs place × IsFirstMet (MeetsCarried place headers pairs) (tests_of place) fault)
