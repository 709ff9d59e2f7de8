-- What presigning promises: a URL that carries its signature and is good for so many seconds.
use Rattle.std.specs.Prelude.{◌≡◌, ◌⊎◌, ℕ, ◌&&◌, Bool, true, false, List, [], bytes_eq, codes, nat_lt, if◌then◌else◌, Option, Some, None, Result, Ok, Err, String, string_bytes}
use Rattle.std.specs.List.{list_any}
use Rattle.std.specs.declared.alloc.Global.{Global}
use Rattle.http_uri.specs.declared.uri.Uri.{Uri}
use Rattle.smithy_core.specs.Moment.{Instant}
use Rattle.smithy_http.specs.QueryWriter.{SpellsTarget}
use Rattle.smithy_http.specs.Target.{Target, target_of}
use Rattle.sigv4.specs.ChunkTold.{unsigned_chunk_at}
use Rattle.sigv4.specs.Parameters.{SpellsParts}
use Rattle.sigv4.specs.Query.{Pair, decoded}
use Rattle.sigv4.specs.Request.{Case}
use Rattle.sigv4.specs.Signed.{signed_target}
use Rattle.sigv4.specs.declared.error.SigningError.{SigningError}
use Rattle.sigv4.specs.declared.settings.SignatureLocation.TheVariants.{QueryParams}
use Rattle.aws_auth.specs.Signer.{unsigned_target}
use Rattle.request_door.specs.DoorPayloads.{usual_form, usual_payload}
use Rattle.aws_signing.specs.SigningBy.{RefusesBy, SigningState, signer_case, signer_kept}
use Rattle.aws_signing.specs.SigningFaults.{of_signing}
use Rattle.aws_signing.specs.declared.fault.AwsSigningError.{AwsSigningError}
use Rattle.aws_signing.specs.declared.fault.AwsSigningError.TheVariants.{AlreadyPresigned, InvalidExpiry, NoMemory}

-- the fault of a URL that would be good for no second, or for more than the 604,800 seconds of seven days
abbrev pub unfit_seconds : ℕ → Option AwsSigningError
unfit_seconds seconds = if nat_lt 0 seconds && nat_lt seconds 604801 then None else Some (InvalidExpiry seconds)

-- a parameter of this name is a signature
abbrev pub is_signature_key : List ℕ → Bool
is_signature_key key = bytes_eq key (codes "X-Amz-Signature")

-- one of the pairs of a query is a signature
abbrev pub has_signature_pair : List Pair → Bool
has_signature_pair pairs = list_any (λ pair. is_signature_key pair.0) pairs

-- the text spells a target whose query has a signature
abbrev pub IsPresignedAlready : List ℕ → Type 0
IsPresignedAlready text = (uri : Uri) × SpellsTarget text uri × (has_signature_pair (decoded (target_of uri)) ≡ true)

-- the case of a URL for a method: no headers, and the payload that the service's door takes where no header says it, of an empty body
abbrev pub presigned_case : SigningState → List ℕ → ℕ → Instant → Target → Case
presigned_case by method seconds at =
    signer_case by method [] (usual_payload (usual_form QueryParams by.settings.payload_checksum_kind) []) (Some seconds) at

-- the presigned URL of a case, for what the text of its target spells; no test fails
pub record IsPresignedBy (case : Target → Case) (at : Instant) (text url : List ℕ) : Type 0 where
  pub target : Target
  pub spelled : SpellsParts text target
  pub in_years : unsigned_chunk_at at ≡ None
  pub passed : unsigned_target case (Some target) ≡ None
  pub url_is : url ≡ signed_target (case target) text

-- the URL may be presigned for so many seconds
abbrev pub MayPresign : List ℕ → ℕ → Type 0
MayPresign text seconds = (unfit_seconds seconds ≡ None) × (IsPresignedAlready text → ⊥)

-- why nothing is signed, by the first of these tests: the seconds, and a URL that is presigned already; or memory ran out
abbrev pub RefusesPresigning : List ℕ → ℕ → AwsSigningError → Type 0
RefusesPresigning text seconds fault =
    (unfit_seconds seconds ≡ Some fault) ⊎ ((unfit_seconds seconds ≡ None) × IsPresignedAlready text × (fault ≡ AlreadyPresigned)) ⊎ (fault ≡ NoMemory)

-- the URL of the case, with the moment's key kept; or the first test before that fails, and the signer stays; or signing refuses, with the moment's key kept
abbrev pub Presigns : SigningState → List ℕ → List ℕ → ℕ → Instant → SigningState → Result (String Global) AwsSigningError → Type 0
Presigns old method text seconds at new (Ok url) =
    MayPresign text seconds × IsPresignedBy (presigned_case old method seconds at) at text (string_bytes url) × (new ≡ signer_kept old at)
Presigns old method text seconds at new (Err fault) =
    (RefusesPresigning text seconds fault × (new ≡ old))
    ⊎ (MayPresign text seconds × ((error : SigningError) × RefusesBy (presigned_case old method seconds at) at text error × (fault ≡ of_signing error))
    × (new ≡ signer_kept old at))

-- ## On the way

-- whether a text is that of a presigned target
abbrev pub DecidesPresigned : List ℕ → Bool → Type 0
DecidesPresigned text true = IsPresignedAlready text
DecidesPresigned text false = IsPresignedAlready text → ⊥

-- the seconds are fit, or they aren't
abbrev pub TestsSeconds : ℕ → Result (Unit {0}) AwsSigningError → Type 0
TestsSeconds seconds (Ok _) = unfit_seconds seconds ≡ None
TestsSeconds seconds (Err fault) = unfit_seconds seconds ≡ Some fault

-- the URL may be presigned, or the first test that fails
abbrev pub TestsPresigning : List ℕ → ℕ → Result (Unit {0}) AwsSigningError → Type 0
TestsPresigning text seconds (Ok _) = MayPresign text seconds
TestsPresigning text seconds (Err fault) = RefusesPresigning text seconds fault

-- the URL of a case, or why there is none
abbrev pub PresignsCase : (Target → Case) → Instant → List ℕ → Result (String Global) SigningError → Type 0
PresignsCase case at text (Ok url) = IsPresignedBy case at text (string_bytes url)
PresignsCase case at text (Err error) = RefusesBy case at text error
