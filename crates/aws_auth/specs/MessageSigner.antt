-- What contracts see of the signers that go on from a signature.
use Rattle.std.specs.Prelude.{◌≡◌, ℕ, ◌⊎◌, List, [], ◌++◌, codes, Option, Some, None, Result, Ok, Err, option_map, unwrap_or, String, string_bytes}
use Rattle.std.specs.Option.{option_map_or, option_or}
use Rattle.std.specs.declared.alloc.Global.{Global}
use Rattle.smithy_core.specs.Identity.{IsSameIdentity, secret_of, unsigned_for}
use Rattle.smithy_core.specs.Message.{Parts}
use Rattle.smithy_core.specs.Moment.{Instant}
use Rattle.smithy_core.specs.declared.identity.Identity.{Identity}
use Rattle.smithy_core.specs.declared.identity.Identity.TheVariants.{Credentials, Token}
use Rattle.eventstream.specs.Frame.{frame, unframed}
use Rattle.eventstream.specs.Key.{Signer}
use Rattle.eventstream.specs.Link.{link_message, link_signature}
use Rattle.eventstream.specs.Told.{Told, signs_over, untold, encoding_refusal}
use Rattle.eventstream.specs.declared.sign_error.SignMessageError.{SignMessageError}
use Rattle.eventstream.specs.declared.sign_error.SignMessageError.TheVariants as refusals
use Rattle.sigv4.specs.KeptKey.{Kept, kept_at, no_key}

-- what a signer signs for, which stays
pub record SignerParts (S : Type 0) : Type 0 where
  pub identity : Identity
  pub region : List ℕ
  pub name : List ℕ
  pub time : Instant
  pub settings : S

-- a signer: the last signature, what it signs for, and the key that it keeps, if any
pub record SignerState (S : Type 0) : Type 0 where
  pub running_signature : List ℕ
  pub parts : SignerParts S
  pub kept : Option Kept

-- a signer of these parts, which keeps no key yet
abbrev pub signer_from : {S : Type 0} → String Global → Identity → List ℕ → List ℕ → Instant → S → SignerState S
signer_from signature identity region name time settings = record {
  running_signature = string_bytes signature;
  parts = record { identity = identity; region = region; name = name; time = time; settings = settings };
  kept = None;
}

-- the last signature
abbrev pub running_signature : {S : Type 0} → SignerState S → List ℕ
running_signature signer = signer.running_signature

-- who signs, and for which region and service
abbrev pub signer_for : Identity → List ℕ → List ℕ → Signer
signer_for identity region name = record { secret = secret_of identity; region = region; name = name }

-- who signs in a signer, and for which region and service
abbrev pub signer_in : {S : Type 0} → SignerState S → Signer
signer_in signer = signer_for signer.parts.identity signer.parts.region signer.parts.name

-- how many keys were derived
abbrev pub derivations : {S : Type 0} → SignerState S → ℕ
derivations signer = option_map_or (λ kept. kept.derivations) signer.kept 0

-- the key that a signer keeps, or else none that was derived for it
abbrev pub own_key : {S : Type 0} → SignerState S → Kept
own_key signer = unwrap_or signer.kept (no_key (signer_in signer))

-- the kept key, if any, is that of who signs
abbrev pub IsOwnKey : Signer → Option Kept → Type 0
IsOwnKey signer None = Unit {0}
IsOwnKey signer (Some kept) = kept.signer ≡ signer

-- what is told of a signer of messages, by who signs
abbrev pub told_by : Identity → List ℕ → Signer → Told
told_by (Credentials credentials) signature signer = signs_over signature signer
told_by (Token token) signature signer = untold

-- what is told of a signer of messages: credentials sign over the last signature
abbrev pub told_of : {S : Type 0} → SignerState S → Told
told_of signer = told_by signer.parts.identity (running_signature signer) (signer_in signer)

-- why an identity signs nothing at a moment: it has no secret, or the moment lies outside the years 0 to 9999
abbrev pub unsigned_by : Identity → Instant → Option SignMessageError
unsigned_by identity t = unsigned_for refusals.UnsupportedIdentityType refusals.MomentOutOfRange identity t

-- why a message isn't signed: it has no frame, or the identity signs nothing
abbrev pub unsigned_message_by : Identity → Parts → Instant → Option SignMessageError
unsigned_message_by identity message t = option_or (option_map encoding_refusal (unframed message)) (unsigned_by identity t)

-- with no reason against it the answer is the link of the bytes over the last signature, in whose place the new one comes, and the
-- moment's key is kept; else it is the reason, or memory ran out, the signature stays, and so does the key that is kept, unless memory
-- ran out behind the deriving of the moment's, which is kept then
abbrev pub SignsBytes : {S : Type 0} → Option SignMessageError → SignerState S → List ℕ → Instant → Result Parts SignMessageError → SignerState S → Type 0
SignsBytes refused old bytes t (Ok answer) new =
    (refused ≡ None)
    × (answer ≡ link_message (signer_in old) (running_signature old) bytes t)
    × (running_signature new ≡ link_signature (signer_in old) (running_signature old) bytes t)
    × (new.kept ≡ Some (kept_at (own_key old) t))
    × (new.parts ≡ old.parts)
SignsBytes refused old bytes t (Err error) new =
    ((refused ≡ Some error) ⊎ (error ≡ refusals.NoMemory))
    × (running_signature new ≡ running_signature old)
    × (new.parts ≡ old.parts)
    × ((new.kept ≡ old.kept) ⊎ ((error ≡ refusals.NoMemory) × (new.kept ≡ Some (kept_at (own_key old) t))))

-- the signing of a message
abbrev pub SignsMessage : {S : Type 0} → SignerState S → Parts → Instant → Result Parts SignMessageError → SignerState S → Type 0
SignsMessage old message t result new = SignsBytes (unsigned_message_by old.parts.identity message t) old (frame message) t result new

-- the signing of the empty message, which there always is
abbrev pub SignsClosing : {S : Type 0} → SignerState S → Instant → Option (Result Parts SignMessageError) → SignerState S → Type 0
SignsClosing old t None new = ⊥
SignsClosing old t (Some result) new = SignsBytes (unsigned_by old.parts.identity t) old [] t result new

-- the signers are the same, and the settings a copy
pub record IsSameSigner {S : Type 0} (copies : S → S → Type 0) (signer copy : SignerState S) : Type 0 where
  pub signature : running_signature copy ≡ running_signature signer
  pub identity : IsSameIdentity signer.parts.identity copy.parts.identity
  pub region : copy.parts.region ≡ signer.parts.region
  pub name : copy.parts.name ≡ signer.parts.name
  pub time : copy.parts.time ≡ signer.parts.time
  pub settings : copies signer.parts.settings copy.parts.settings
  pub kept : copy.kept ≡ signer.kept

-- a signer that goes on from a signature, for who signs, and the region, the name and the moment of that signature. It keeps no key yet
pub record GoesOn {S : Type 0} (who : Identity) (first : List ℕ) (scope : Signer) (at : Instant) (signer : SignerState S) : Type 0 where
  pub signature : running_signature signer ≡ first
  pub identity : IsSameIdentity who signer.parts.identity
  pub region : signer.parts.region ≡ scope.region
  pub name : signer.parts.name ≡ scope.name
  pub time : signer.parts.time ≡ at
  pub kept : signer.kept ≡ None

-- what is printed of a signer: for which region and service it signs, and nothing of who signs or of a signature
abbrev pub shown_signer : {S : Type 0} → SignerState S → List ℕ
shown_signer signer = codes "SigV4MessageSigner(" ++ (signer.parts.region ++ (codes ", " ++ (signer.parts.name ++ codes ")")))
