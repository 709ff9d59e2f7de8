-- The header that tells of the attempts of a request.
use Rattle.std.specs.Prelude.{ℕ, ℤ, pos, ◌+ℤ◌, ◌*ℤ◌, List, [], ◌∷◌, ◌++◌, Option, Some, None, if◌then◌else◌, codes, nat_lt, option_and_then, option_map, option_to_list, unwrap_or}
use Rattle.std.specs.Fmt.{decimal}
use Rattle.std.specs.List.{join_by}
use Rattle.smithy_core.specs.Civil.{is_in_years, stamp}
use Rattle.smithy_core.specs.Moment.{Instant, at_nanos, total_nanos}
use Rattle.smithy_core.specs.declared.client_config.RetryConfig.{RetryConfig}
use Rattle.aws_intercept.specs.declared.bag.ConfigBag.{ConfigBag}

-- the moment so many milliseconds and seconds later, where its seconds fit 64 bits
unfoldable pub deadline : Instant → ℤ → ℕ → Option Instant
deadline moment millis secs = at_nanos (total_nanos moment +ℤ (pos secs *ℤ pos 1000000000 +ℤ millis *ℤ pos 1000000))

-- the stamp of a moment in the years 0 to 9999
unfoldable pub stamped : Instant → Option (List ℕ)
stamped moment = if is_in_years moment then Some (stamp moment) else None

-- the seconds for which an answer is awaited: the read timeout, from the second attempt on
abbrev pub awaited : ConfigBag → Option ℕ
awaited bag = if nat_lt (unwrap_or bag.attempts 0) 2 then None else option_and_then (λ timeout. timeout.read_timeout) bag.timeout

-- the stamp until which the answer is awaited
abbrev pub ttl : Instant → ConfigBag → Option (List ℕ)
ttl now bag = option_and_then (λ secs. option_and_then stamped (deadline now (unwrap_or bag.attempt_skew (pos 0)) secs)) (awaited bag)

-- what the header tells, in order
abbrev pub info_parts : Instant → ConfigBag → List (List ℕ)
info_parts now bag =
    option_to_list (option_map (λ text. codes "ttl=" ++ text) (ttl now bag))
    ++ ((codes "attempt=" ++ decimal (unwrap_or bag.attempts 0))
    ∷ option_to_list (option_map (λ retry. codes "max=" ++ decimal retry.max_attempts) bag.retry))

-- the header's value
unfoldable pub info_text : Instant → ConfigBag → List ℕ
info_text now bag = join_by (λ part. part) (codes "; ") (info_parts now bag)

-- `ttl=STAMP; `, where there is a stamp
abbrev pub ttl_front : Option (List ℕ) → List ℕ
ttl_front None = []
ttl_front (Some text) = codes "ttl=" ++ (text ++ codes "; ")

-- `; max=N`, where there is a retry config
abbrev pub max_end : Option RetryConfig → List ℕ
max_end None = []
max_end (Some retry) = codes "; max=" ++ decimal retry.max_attempts
