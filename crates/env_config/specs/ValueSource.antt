-- Where a value was found, in the words of the definitions, and what kind of place that is.
use Rattle.std.specs.Prelude.{string_bytes}
use Rattle.env_config.specs.Value.{FoundAt, Holder, InProfile, Own, Reach, Shared, Variables}
use Rattle.env_config.specs.declared.value_source.EnvConfigSource.{EnvConfigSource}
use Rattle.env_config.specs.declared.value_source.Location.{Location}
use Rattle.env_config.specs.declared.value_source.Location.TheVariants as location
use Rattle.env_config.specs.declared.value_source.Origin.{Origin}
use Rattle.env_config.specs.declared.value_source.Origin.TheVariants.{ServiceEnvironment, ServiceProfile, SharedEnvironment, SharedProfile}
use Rattle.env_config.specs.declared.value_source.Scope.{Scope}
use Rattle.env_config.specs.declared.value_source.Scope.TheVariants as scope

abbrev pub reach_of : Scope → Reach
reach_of scope.Global = Shared
reach_of (scope.Service id) = Own (string_bytes id)

abbrev pub holder_of : Location → Holder
holder_of location.Environment = Variables
holder_of (location.Profile name) = InProfile (string_bytes name)

-- where a value was found: its key, in what, and for which service
abbrev pub found_at : EnvConfigSource → FoundAt
found_at source = record { key = string_bytes source.key; holder = holder_of source.location; reach = reach_of source.scope }

-- ## Origins

abbrev pub origin_at : Reach → Holder → Origin
origin_at Shared Variables = SharedEnvironment
origin_at Shared (InProfile name) = SharedProfile
origin_at (Own id) Variables = ServiceEnvironment
origin_at (Own id) (InProfile name) = ServiceProfile
