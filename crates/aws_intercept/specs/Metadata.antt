-- The metadata of the user agent, and how it is printed.
use Rattle.std.specs.Prelude.{◌≡◌, ℕ, Bool, ◌&&◌, List, [], ◌++◌, Option, Some, None, Result, Ok, Err, String, string_bytes, option_map, bytes_eq, codes, flat_map}
use Rattle.std.specs.Option.{option_eq}
use Rattle.std.specs.declared.alloc.Global.{Global}
use Rattle.http_header.specs.Token.{AllPass, is_token_byte}

-- a service and its version
pub record Api : Type 0 where
  pub service_id : List ℕ
  pub version : List ℕ

-- a name, and a version where there is one
pub record NameVersion : Type 0 where
  pub name : List ℕ
  pub version : Option (List ℕ)

-- a feature: a name, a version where there is one, and additional values
pub record Feature : Type 0 where
  pub named : NameVersion
  pub additional : List (List ℕ)

-- whether the names are one, and the versions
abbrev pub same_name_version : NameVersion → NameVersion → Bool
same_name_version named other = bytes_eq named.name other.name && option_eq bytes_eq named.version other.version

-- letters, digits and the marks of a token (RFC 9110, section 5.6.2), or nothing
abbrev pub IsMetadata : List ℕ → Type 0
IsMetadata text = AllPass is_token_byte text

-- Ok where the texts are as they may be, with this value, and the fault where they aren't
abbrev pub Checks : {T E : Type 0} → Type 0 → (T → Type 0) → Result T E → Type 0
Checks May Has (Ok value) = May × Has value
Checks May Has (Err _) = ¬ May

-- a text and a value after it, where there is one
abbrev pub with_value : List ℕ → Option (List ℕ) → List ℕ
with_value before None = []
with_value before (Some value) = before ++ value

-- `NAME` or `NAME/VERSION`
abbrev pub name_version_text : NameVersion → List ℕ
name_version_text named = named.name ++ with_value (codes "/") named.version

-- `api/ID/VERSION`
abbrev pub api_text : Api → List ℕ
api_text api = codes "api/" ++ (api.service_id ++ (codes "/" ++ api.version))

-- `md/VALUE`
abbrev pub additional_text : List ℕ → List ℕ
additional_text value = codes "md/" ++ value

-- `lib/NAME[/VERSION]`
abbrev pub framework_text : NameVersion → List ℕ
framework_text framework = codes "lib/" ++ name_version_text framework

-- `cfg/NAME[/VERSION]`
abbrev pub config_text : NameVersion → List ℕ
config_text config = codes "cfg/" ++ name_version_text config

-- `ft/NAME[/VERSION]`, and each additional value after a space
abbrev pub feature_text : Feature → List ℕ
feature_text feature = codes "ft/" ++ (name_version_text feature.named ++ flat_map (λ value. codes " " ++ additional_text value) feature.additional)

-- whether metadata can have the text, where there is one
abbrev pub IsMetadataIfSome : Option (List ℕ) → Type 0
IsMetadataIfSome None = Unit {0}
IsMetadataIfSome (Some text) = IsMetadata text

-- Ok with the texts where metadata can have both, and the fault where it can't
abbrev pub ChecksNameVersion : {E : Type 0} → String Global → Option (String Global) → Result NameVersion E → Type 0
ChecksNameVersion name version result =
    Checks (IsMetadata (string_bytes name) × IsMetadataIfSome (option_map string_bytes version))
    (λ named. named ≡ record { name = string_bytes name; version = option_map string_bytes version }) result

-- Ok with the feature, which has no additional value, where metadata can have both texts, and the fault where it can't
abbrev pub ChecksFeature : {E : Type 0} → String Global → Option (String Global) → Result Feature E → Type 0
ChecksFeature name version result =
    Checks (IsMetadata (string_bytes name) × IsMetadataIfSome (option_map string_bytes version))
    (λ feature. feature ≡ record { named = record { name = string_bytes name; version = option_map string_bytes version }; additional = [] }) result
