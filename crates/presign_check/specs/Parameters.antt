-- The parameters that a presigned target carries of its signature (AWS Signature Version 4, its query parameters).
use Rattle.std.specs.Prelude.{◌≡◌, ℕ, List, [], ◌∷◌, codes, Option, Some, None, Result, Ok, Err}
use Rattle.std.specs.Borrow.{Bor}
use Rattle.std.specs.Option.{option_or}
use Rattle.smithy_core.specs.TextPairs.{named_values}
use Rattle.sigv4.specs.Query.{Pair}
use Rattle.presign_check.specs.declared.fault.PresignFault.{PresignFault}
use Rattle.presign_check.specs.declared.fault.PresignFault.TheVariants.{Missing, Repeated}
use Rattle.presign_check.specs.declared.parameters.Parameters.{Parameters}
use Rattle.presign_check.specs.declared.part.PresignPart.{PresignPart}
use Rattle.presign_check.specs.declared.part.PresignPart.TheVariants.{Algorithm, Credential, Date, Expires, SignedHeaders, Signature}

-- the name of a parameter
abbrev pub parameter_name : PresignPart → List ℕ
parameter_name Algorithm = codes "X-Amz-Algorithm"
parameter_name Credential = codes "X-Amz-Credential"
parameter_name Date = codes "X-Amz-Date"
parameter_name Expires = codes "X-Amz-Expires"
parameter_name SignedHeaders = codes "X-Amz-SignedHeaders"
parameter_name Signature = codes "X-Amz-Signature"

-- the values of a parameter among the pairs of a target's query
abbrev pub parameter_values : List Pair → PresignPart → List (List ℕ)
parameter_values pairs part = named_values pairs (parameter_name part)

-- the parameters in the order in which they are looked for
abbrev pub all_parts : List PresignPart
all_parts = Algorithm ∷ Credential ∷ Date ∷ Expires ∷ SignedHeaders ∷ Signature ∷ []

-- why these aren't one value of a parameter: there is none, or there are several
abbrev pub count_fault : PresignPart → List (List ℕ) → Option PresignFault
count_fault part [] = Some (Missing part)
count_fault part (value ∷ []) = None
count_fault part (value ∷ other ∷ values) = Some (Repeated part)

-- that of the first of these parameters that doesn't have one value
abbrev pub first_count_fault : List Pair → List PresignPart → Option PresignFault
first_count_fault pairs [] = None
first_count_fault pairs (part ∷ parts) = option_or (count_fault part (parameter_values pairs part)) (first_count_fault pairs parts)

-- a value of each of the parameters
pub record PresignTexts : Type 0 where
  pub algorithm : List ℕ
  pub credential : List ℕ
  pub date : List ℕ
  pub expires : List ℕ
  pub names : List ℕ
  pub signature : List ℕ

-- each of the parameters stands once among the pairs, with its value
pub record StandOnce (pairs : List Pair) (texts : PresignTexts) : Type 0 where
  pub algorithm : parameter_values pairs Algorithm ≡ texts.algorithm ∷ []
  pub credential : parameter_values pairs Credential ≡ texts.credential ∷ []
  pub date : parameter_values pairs Date ≡ texts.date ∷ []
  pub expires : parameter_values pairs Expires ≡ texts.expires ∷ []
  pub names : parameter_values pairs SignedHeaders ≡ texts.names ∷ []
  pub signature : parameter_values pairs Signature ≡ texts.signature ∷ []

-- the values that were read
abbrev pub texts_read : Parameters → PresignTexts
texts_read read = record {
  algorithm = read.algorithm.now;
  credential = read.credential.now;
  date = read.date.now;
  expires = read.expires.now;
  names = read.names.now;
  signature = read.signature.now;
}

-- the one value of a parameter, or why it isn't one
abbrev pub FindsOne : List Pair → PresignPart → Result (Bor (List ℕ)) PresignFault → Type 0
FindsOne pairs part (Ok value) = parameter_values pairs part ≡ value.now ∷ []
FindsOne pairs part (Err fault) = count_fault part (parameter_values pairs part) ≡ Some fault

-- the one value of each of the parameters, or why the first that doesn't have one has none or several
abbrev pub FindsParameters : List Pair → Result Parameters PresignFault → Type 0
FindsParameters pairs (Ok read) = StandOnce pairs (texts_read read)
FindsParameters pairs (Err fault) = first_count_fault pairs all_parts ≡ Some fault
