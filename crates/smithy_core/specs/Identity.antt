-- What contracts see of credentials and identities.
use Rattle.std.specs.Prelude.{◌≡◌, ℕ, List, [], Option, Some, None, option_map, if◌then◌else◌, String, string_bytes}
use Rattle.std.specs.declared.alloc.Global.{Global}
use Rattle.smithy_core.specs.Civil.{is_in_years}
use Rattle.smithy_core.specs.Moment.{Instant}
use Rattle.smithy_core.specs.declared.identity.Credentials.{Credentials}
use Rattle.smithy_core.specs.declared.identity.Identity.{Identity}
use Rattle.smithy_core.specs.declared.identity.Identity.TheVariants.{Credentials as OfCredentials, Token}

-- the credentials of these parts
abbrev pub credentials_of : String Global → String Global → Option (String Global) → Option Instant → Credentials
credentials_of key_id secret token expiry = record { key_id = key_id; secret = secret; token = token; expiry = expiry }

-- the text of the access key id
abbrev pub access_key_id : Credentials → List ℕ
access_key_id credentials = string_bytes credentials.key_id

-- the text of the secret access key
abbrev pub secret_access_key : Credentials → List ℕ
secret_access_key credentials = string_bytes credentials.secret

-- the text of the session token, where there is one
abbrev pub session_token : Credentials → Option (List ℕ)
session_token credentials = option_map string_bytes credentials.token

-- when the credentials expire, where that is known
abbrev pub credentials_expiry : Credentials → Option Instant
credentials_expiry credentials = credentials.expiry

-- the texts and the expiry are the same
pub record IsSameCredentials (credentials copy : Credentials) : Type 0 where
  pub key_id : access_key_id copy ≡ access_key_id credentials
  pub secret : secret_access_key copy ≡ secret_access_key credentials
  pub token : session_token copy ≡ session_token credentials
  pub expiry : credentials_expiry copy ≡ credentials_expiry credentials

-- the credentials or the token are the same
abbrev pub IsSameIdentity : Identity → Identity → Type 0
IsSameIdentity (OfCredentials credentials) (OfCredentials copy) = IsSameCredentials credentials copy
IsSameIdentity (Token token) (Token copy) = string_bytes copy ≡ string_bytes token
IsSameIdentity _ _ = ⊥

-- the identity is credentials, and so has a secret to sign with
abbrev pub IsCredentials : Identity → Type 0
IsCredentials (OfCredentials credentials) = Unit {0}
IsCredentials (Token token) = ⊥

-- the credentials, where the identity isn't a token
abbrev pub credentials_in : Identity → Option Credentials
credentials_in (OfCredentials credentials) = Some credentials
credentials_in (Token token) = None

-- the secret of credentials, and nothing of a token
abbrev pub secret_of : Identity → List ℕ
secret_of (OfCredentials credentials) = secret_access_key credentials
secret_of (Token token) = []

-- why an identity signs nothing at a moment, in the words of an error: it has no secret, or the moment lies outside the years 0 to 9999
abbrev pub unsigned_for : {E : Type 0} → E → (Instant → E) → Identity → Instant → Option E
unsigned_for no_secret out_of_years (Token token) t = Some no_secret
unsigned_for no_secret out_of_years (OfCredentials credentials) t = if is_in_years t then None else Some (out_of_years t)
