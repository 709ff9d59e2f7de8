-- The texts that carry a seal, read.
use Rattle.std.specs.Prelude.{◌≡◌, ℕ, true, List, ◌++◌, codes, Option, Some, None}
use Rattle.std.specs.Borrow.{Bor}
use Rattle.http_uri.specs.Uri.{Spells, SpellsNone}
use Rattle.http_uri.specs.declared.uri.Uri.{Uri}
use Rattle.smithy_core.specs.Civil.{stamp}
use Rattle.smithy_core.specs.TextPairs.{first_value}
use Rattle.sigv4.specs.Query.{Pair}
use Rattle.sigv4.specs.declared.settings.SignatureLocation.{SignatureLocation}
use Rattle.sigv4.specs.declared.settings.SignatureLocation.TheVariants.{Headers, QueryParams}
use Rattle.sigv4.specs.Signature.{is_signature}
use Rattle.request_check.specs.Authorization.{IsAuthorization}
use Rattle.request_check.specs.Sealed.{IsUnsealed, SealParts, SealsHeaders, SealsParameters, SealsTarget, sealed_credential, stated_expiry}
use Rattle.request_check.specs.Stamped.{IsWholeSecond}
use Rattle.request_check.specs.declared.authorization.Authorization.{Authorization}
use Rattle.request_check.specs.declared.seal.Carried.{Carried}

-- the parts of an authorization, or that the text is none
abbrev pub ReadsAuthorization : List ℕ → Option Authorization → Type 0
ReadsAuthorization text None = (credential names signature : List ℕ) → IsAuthorization text credential names signature → ⊥
ReadsAuthorization text (Some read) = IsAuthorization text read.credential.now read.names.now read.signature.now

-- what stands before a slash and a scope, or that these aren't the end
abbrev pub CutsScope : List ℕ → List ℕ → Option (Bor (List ℕ)) → Type 0
CutsScope scope_text credential None = (key_id : List ℕ) → credential ≡ key_id ++ codes "/" ++ scope_text → ⊥
CutsScope scope_text credential (Some key_id) = credential ≡ key_id.now ++ codes "/" ++ scope_text

-- the texts are those of a seal
pub record IsCarried (region name : List ℕ) (carried : Carried) (seal : SealParts) : Type 0 where
  pub moment : IsWholeSecond seal.at
  pub date : carried.date.now ≡ stamp seal.at
  pub credential : carried.credential.now ≡ sealed_credential region name seal
  pub names : carried.names.now ≡ seal.names
  pub signature : carried.signature.now ≡ seal.signature
  pub expires : carried.expires ≡ seal.expires

-- the seal of the texts at a place, or that they have none
abbrev pub MakesSeal : SignatureLocation → List ℕ → List ℕ → Carried → Option SealParts → Type 0
MakesSeal place region name carried None = (seal : SealParts) → IsCarried region name carried seal → ⊥
MakesSeal place region name carried (Some seal) = IsCarried region name carried seal × (seal.place ≡ place)

-- the seal of headers, or that they have none
abbrev pub FindsHeaderSeal : List Pair → List ℕ → List ℕ → Option SealParts → Type 0
FindsHeaderSeal headers region name None = IsUnsealed headers region name
FindsHeaderSeal headers region name (Some seal) = SealsHeaders headers region name seal × (seal.place ≡ Headers)

-- the seal of a target, or that it has none
abbrev pub FindsTargetSeal : List ℕ → List ℕ → List ℕ → Option SealParts → Type 0
FindsTargetSeal target region name None = (seal : SealParts) → SealsTarget target region name seal → ⊥
FindsTargetSeal target region name (Some seal) = SealsTarget target region name seal × (seal.place ≡ QueryParams)

-- the URI that a text spells, or that it spells none
abbrev pub SpellsMaybe : List ℕ → Option Uri → Type 0
SpellsMaybe text None = SpellsNone text
SpellsMaybe text (Some uri) = Spells text uri

-- the texts are the first of each of a signature's parameters
pub record CarriesFirst (pairs : List Pair) (carried : Carried) : Type 0 where
  pub digits : is_signature carried.signature.now ≡ true
  pub date : first_value pairs (codes "X-Amz-Date") ≡ Some carried.date.now
  pub credential : first_value pairs (codes "X-Amz-Credential") ≡ Some carried.credential.now
  pub names : first_value pairs (codes "X-Amz-SignedHeaders") ≡ Some carried.names.now
  pub signature : first_value pairs (codes "X-Amz-Signature") ≡ Some carried.signature.now
  pub expires : stated_expiry pairs ≡ carried.expires

-- the texts that carry a seal in pairs, or that these carry none
abbrev pub ReadsParameters : List Pair → Option Carried → Type 0
ReadsParameters pairs None = (region name : List ℕ) (seal : SealParts) → SealsParameters pairs region name seal → ⊥
ReadsParameters pairs (Some carried) = CarriesFirst pairs carried
