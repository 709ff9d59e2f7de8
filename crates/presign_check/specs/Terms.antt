-- What the parameters of a presigned target state, and when they are outside their forms.
use Rattle.std.specs.Prelude.{◌≡◌, ◌≢◌, ◌⊎◌, ℕ, false, true, List, [], ◌∷◌, ◌++◌, codes, Some, None, Result, Ok, Err, ℤ, pos, ◌+ℤ◌, ◌≤ℤ◌, ◌<ℤ◌}
use Rattle.smithy_core.specs.Civil.{stamp}
use Rattle.smithy_core.specs.Moment.{Instant}
use Rattle.eventstream.specs.Key.{scope}
use Rattle.sigv4.specs.Signature.{is_signature}
use Rattle.request_check.specs.Carried.{CutsScope}
use Rattle.request_check.specs.Sealed.{spelled_seconds}
use Rattle.request_check.specs.Stamped.{IsWholeSecond, ReadsStamp}
use Rattle.presign_check.specs.Parameters.{PresignTexts}
use Rattle.presign_check.specs.declared.fault.PresignFault.{PresignFault}
use Rattle.presign_check.specs.declared.fault.PresignFault.TheVariants.{BadPart, Expired, NoMemory, TooEarly, UnknownKey}
use Rattle.presign_check.specs.declared.part.PresignPart.{PresignPart}
use Rattle.presign_check.specs.declared.part.PresignPart.TheVariants.{Algorithm, Credential, Date, Expires, SignedHeaders, Signature}
use Rattle.presign_check.specs.declared.terms.Terms.{Terms}

-- the name of the algorithm
abbrev pub algorithm_name : List ℕ
algorithm_name = codes "AWS4-HMAC-SHA256"

-- what the parameters state: the key's id, the moment of signing, and for how many seconds the target is good
pub record PresignTerms : Type 0 where
  pub key_id : List ℕ
  pub at : Instant
  pub seconds : ℕ

-- the first second in which the target isn't good any more
abbrev pub until_of : PresignTerms → ℤ
until_of terms = terms.at.secs +ℤ pos terms.seconds

-- the parameters are in their forms, and state this: the date is the stamp of the moment, and the credential ends with the scope of this moment, of the
-- region and of the name
pub record ParametersState (region name : List ℕ) (texts : PresignTexts) (terms : PresignTerms) : Type 0 where
  pub algorithm : texts.algorithm ≡ algorithm_name
  pub moment : IsWholeSecond terms.at
  pub date : stamp terms.at ≡ texts.date
  pub credential : texts.credential ≡ terms.key_id ++ codes "/" ++ scope terms.at region name
  pub expires : spelled_seconds texts.expires ≡ Some terms.seconds
  pub signature : is_signature texts.signature ≡ true

-- the parameter is outside its form: the algorithm is another one, the date is no moment's stamp, the credential doesn't end with a slash and the scope
-- of the date's day, the expiry is no number of 64 bits, or the signature hasn't 64 lower-case digits; the names of the headers always are in theirs
abbrev pub IsBad : List ℕ → List ℕ → PresignTexts → PresignPart → Type 0
IsBad region name texts Algorithm = texts.algorithm ≢ algorithm_name
IsBad region name texts Date = ReadsStamp texts.date None
IsBad region name texts Credential = (at : Instant) × ReadsStamp texts.date (Some at) × CutsScope (scope at region name) texts.credential None
IsBad region name texts Expires = spelled_seconds texts.expires ≡ None
IsBad region name texts Signature = is_signature texts.signature ≡ false
IsBad region name texts SignedHeaders = ⊥

-- the parameters in the order in which their forms are tested
abbrev pub formed_parts : List PresignPart
formed_parts = Algorithm ∷ Date ∷ Credential ∷ Expires ∷ Signature ∷ []

-- the first of these parameters that is outside its form
abbrev pub IsFirstBad : List ℕ → List ℕ → PresignTexts → List PresignPart → PresignPart → Type 0
IsFirstBad region name texts [] part = ⊥
IsFirstBad region name texts (next ∷ parts) part =
    (IsBad region name texts next × (part ≡ next)) ⊎ ((IsBad region name texts next → ⊥) × IsFirstBad region name texts parts part)

-- the fault names the first parameter that is outside its form
abbrev pub IsOutOfForm : List ℕ → List ℕ → PresignTexts → PresignFault → Type 0
IsOutOfForm region name texts fault = (part : PresignPart) × IsFirstBad region name texts formed_parts part × (fault ≡ BadPart part)

-- what was read of the parameters
abbrev pub terms_read : Terms → PresignTerms
terms_read read = record { key_id = read.key_id.now; at = read.at; seconds = read.seconds }

-- what the parameters state, or the first that is outside its form
abbrev pub ReadsTerms : List ℕ → List ℕ → PresignTexts → Result Terms PresignFault → Type 0
ReadsTerms region name texts (Ok read) = ParametersState region name texts (terms_read read)
ReadsTerms region name texts (Err fault) = IsOutOfForm region name texts fault ⊎ (fault ≡ NoMemory)

-- the key is another one
abbrev pub IsUnknown : List ℕ → PresignTerms → PresignFault → Type 0
IsUnknown key_id terms fault = (terms.key_id ≢ key_id) × (fault ≡ UnknownKey)

-- the moment comes before that of signing
abbrev pub IsEarly : Instant → PresignTerms → PresignFault → Type 0
IsEarly now terms fault = (now.secs <ℤ terms.at.secs) × (fault ≡ TooEarly terms.at.secs)

-- the moment comes when the target isn't good any more
abbrev pub IsLate : Instant → PresignTerms → PresignFault → Type 0
IsLate now terms fault = (until_of terms ≤ℤ now.secs) × (fault ≡ Expired (until_of terms))

-- the moment lies in the time in which the target is good
pub record IsGood (now : Instant) (terms : PresignTerms) : Type 0 where
  pub begun : terms.at.secs ≤ℤ now.secs
  pub lasts : now.secs <ℤ until_of terms

-- the second in which the time ends of a target of this key that is good at the moment, or why it isn't one
abbrev pub TestsTerms : List ℕ → Instant → PresignTerms → Result ℤ PresignFault → Type 0
TestsTerms key_id now terms (Ok until) = (terms.key_id ≡ key_id) × IsGood now terms × (until ≡ until_of terms)
TestsTerms key_id now terms (Err fault) =
    IsUnknown key_id terms fault ⊎ (((terms.key_id ≡ key_id) × IsEarly now terms fault)
    ⊎ ((terms.key_id ≡ key_id) × (terms.at.secs ≤ℤ now.secs) × IsLate now terms fault))
