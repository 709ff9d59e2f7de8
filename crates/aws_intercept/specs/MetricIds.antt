-- The ids of several metrics in the user agent.
use Rattle.std.specs.Prelude.{ℕ, suc, ◌==◌, List, [], ◌∷◌, Option, Some, None, if◌then◌else◌, codes, length, nat_le, option_map, take, unwrap_or}
use Rattle.std.specs.List.{join_by}
use Rattle.std.specs.Option.{option_or}
use Rattle.aws_intercept.specs.declared.user_agent.metric.BusinessMetric.{BusinessMetric}
use Rattle.aws_intercept.specs.Metric.{metric_id}

-- the ids in order, joined by commas
unfoldable pub joined_ids : List BusinessMetric → List ℕ
joined_ids metrics = join_by metric_id (codes ",") metrics

-- `,`
abbrev pub comma : ℕ
comma = 44

-- the place of the last comma, from 0, where there is one
abbrev pub last_comma : List ℕ → Option ℕ
last_comma [] = None
last_comma (byte ∷ bytes) = option_or (option_map (λ place. suc place) (last_comma bytes)) (if byte == comma then Some 0 else None)

-- what of the ids fits the limit: all, or what stands before the last comma within, or with no comma there what stands within
unfoldable pub fitted : ℕ → List ℕ → List ℕ
fitted limit ids = if nat_le (length ids) limit then ids else take (unwrap_or (last_comma (take limit ids)) limit) ids
