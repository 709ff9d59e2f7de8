-- The frameworks of a user agent.
use Rattle.std.specs.Prelude.{ℕ, List, if◌then◌else◌, length, nat_lt, reverse, take}
use Rattle.aws_intercept.specs.Distinct.{distinct, with_new}
use Rattle.aws_intercept.specs.Metadata.{NameVersion, same_name_version}

-- the most frameworks that an agent tells
abbrev pub most_frameworks : ℕ
most_frameworks = 10

-- the first 10 different frameworks
unfoldable pub first_frameworks : List NameVersion → List NameVersion
first_frameworks frameworks = take most_frameworks (distinct same_name_version frameworks)

-- at most 10 different frameworks, the oldest first, of those that stand newest first
unfoldable pub oldest_frameworks : List NameVersion → List NameVersion
oldest_frameworks frameworks = first_frameworks (reverse frameworks)

-- with one more that isn't there, as long as there are fewer than 10
unfoldable pub first_ten_with : List NameVersion → NameVersion → List NameVersion
first_ten_with kept framework = if nat_lt (length kept) most_frameworks then with_new same_name_version kept framework else kept
