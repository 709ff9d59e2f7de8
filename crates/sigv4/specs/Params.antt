-- The parameters of a signature.
use Rattle.std.specs.Prelude.{◌≡◌, ℕ, List, codes, Option, Some, None, Result, Ok, Err}
use Rattle.std.specs.Borrow.{Bor}
use Rattle.std.specs.Option.{option_or}
use Rattle.smithy_core.specs.Identity.{secret_of}
use Rattle.smithy_core.specs.Moment.{Instant}
use Rattle.smithy_core.specs.declared.identity.Identity.{Identity}
use Rattle.eventstream.specs.Key.{Signer}
use Rattle.sigv4.specs.declared.params.BuildError.{BuildError}
use Rattle.sigv4.specs.declared.params.BuildError.TheVariants.{Identity as NoIdentity, Region, Name, Time, Settings}
use Rattle.sigv4.specs.declared.params.Builder.{Builder}
use Rattle.sigv4.specs.declared.params.SigningParams.{SigningParams}

-- the parameters of these parts
abbrev pub params_of : {S : Type 0} → Bor Identity → Bor (List ℕ) → Bor (List ℕ) → Instant → S → SigningParams S
params_of identity region name time settings = record { identity = identity; region = region; name = name; time = time; settings = settings }

-- the parameters with other settings
abbrev pub params_with_settings : {S : Type 0} → SigningParams S → S → SigningParams S
params_with_settings params settings = record params { settings = settings }

-- the identity of parameters of version 4
abbrev pub v4_identity : {S : Type 0} → SigningParams S → Identity
v4_identity params = params.identity.now

-- the region of parameters of version 4
abbrev pub v4_region : {S : Type 0} → SigningParams S → List ℕ
v4_region params = params.region.now

-- the service's name of parameters of version 4
abbrev pub v4_name : {S : Type 0} → SigningParams S → List ℕ
v4_name params = params.name.now

-- the moment of parameters of version 4
abbrev pub v4_time : {S : Type 0} → SigningParams S → Instant
v4_time params = params.time

-- the settings of parameters of version 4
abbrev pub v4_settings : {S : Type 0} → SigningParams S → S
v4_settings params = params.settings

-- who signs by the parameters
abbrev pub signer_of : {S : Type 0} → SigningParams S → Signer
signer_of params = record { secret = secret_of (v4_identity params); region = v4_region params; name = v4_name params }

-- a builder without any part
abbrev pub no_parts : {S : Type 0} → Builder S
no_parts = record { identity = None; region = None; name = None; time = None; settings = None }

-- a builder with this identity, or without one
abbrev pub builder_with_identity : {S : Type 0} → Builder S → Option (Bor Identity) → Builder S
builder_with_identity builder identity = record builder { identity = identity }

-- a builder with this region, or without one
abbrev pub builder_with_region : {S : Type 0} → Builder S → Option (Bor (List ℕ)) → Builder S
builder_with_region builder region = record builder { region = region }

-- a builder with this name of the service, or without one
abbrev pub builder_with_name : {S : Type 0} → Builder S → Option (Bor (List ℕ)) → Builder S
builder_with_name builder name = record builder { name = name }

-- a builder with this moment, or without one
abbrev pub builder_with_time : {S : Type 0} → Builder S → Option Instant → Builder S
builder_with_time builder time = record builder { time = time }

-- a builder with these settings, or without any
abbrev pub builder_with_settings : {S : Type 0} → Builder S → Option S → Builder S
builder_with_settings builder settings = record builder { settings = settings }

-- the error, where the part is missing
abbrev pub unless_given : {A : Type 0} → Option A → BuildError → Option BuildError
unless_given None error = Some error
unless_given (Some part) error = None

-- the first part that is missing: the identity, the region, the name, the time, the settings
abbrev pub first_missing : {S : Type 0} → Builder S → Option BuildError
first_missing builder =
    option_or (unless_given builder.identity NoIdentity) (option_or (unless_given builder.region Region)
    (option_or (unless_given builder.name Name) (option_or (unless_given builder.time Time) (unless_given builder.settings Settings))))

-- the parts, or the first one that is missing
abbrev pub BuildsParams : {S : Type 0} → Builder S → Result (SigningParams S) BuildError → Type 0
BuildsParams builder (Ok params) =
    (builder.identity ≡ Some params.identity) × (builder.region ≡ Some params.region) × (builder.name ≡ Some params.name)
    × (builder.time ≡ Some params.time) × (builder.settings ≡ Some params.settings)
BuildsParams builder (Err error) = first_missing builder ≡ Some error

-- the parameters are the same, and the settings a copy
abbrev pub IsCopied : {S : Type 0} → (S → S → Type 0) → SigningParams S → SigningParams S → Type 0
IsCopied copies params copy =
    (copy.identity.now ≡ params.identity.now) × (copy.region.now ≡ params.region.now) × (copy.name.now ≡ params.name.now)
    × (copy.time ≡ params.time) × copies params.settings copy.settings

-- both are there, the second a copy of the first, or none is
abbrev pub BothOrNone : {S : Type 0} → (S → S → Type 0) → Option S → Option S → Type 0
BothOrNone copies None None = Unit {0}
BothOrNone copies (Some settings) (Some copy) = copies settings copy
BothOrNone copies settings copy = ⊥

-- the builders have the same parts, and the settings are a copy
abbrev pub HasSameParts : {S : Type 0} → (S → S → Type 0) → Builder S → Builder S → Type 0
HasSameParts copies builder copy =
    (copy.identity ≡ builder.identity) × (copy.region ≡ builder.region) × (copy.name ≡ builder.name)
    × (copy.time ≡ builder.time) × BothOrNone copies builder.settings copy.settings

-- what is printed
abbrev pub build_error_text : BuildError → List ℕ
build_error_text NoIdentity = codes "identity is required"
build_error_text Region = codes "region is required"
build_error_text Name = codes "name is required"
build_error_text Time = codes "time is required"
build_error_text Settings = codes "settings are required"
