-- The skew between the clocks of a client and a service.
use Rattle.std.specs.Prelude.{ℕ, ℤ, pos, ◌+ℤ◌, ◌-ℤ◌, ◌*ℤ◌, ◌||◌, Bool, false, List, Option, Some, None, if◌then◌else◌, codes, int_div, int_le, is_some, option_and_then, unwrap_or}
use Rattle.std.specs.Int.{int_max}
use Rattle.httpdate.specs.Date.{parse_secs}
use Rattle.smithy_core.specs.Moment.{Instant, if_i64, total_nanos}
use Rattle.smithy_core.specs.TextPairs.{first_value}
use Rattle.smithy_core.specs.declared.response.HttpResponse.{HttpResponse}
use Rattle.aws_intercept.specs.declared.bag.ConfigBag.{ConfigBag}

-- the correction is disabled
abbrev pub is_off : ConfigBag → Bool
is_off bag = unwrap_or bag.disable_skew false

-- the bag with the skew that is kept
abbrev pub bag_with_kept : ℤ → ConfigBag → ConfigBag
bag_with_kept kept bag = if is_off bag then bag else record bag { attempt_skew = Some kept }

-- the bag with the moment of sending
abbrev pub bag_with_time : Instant → ConfigBag → ConfigBag
bag_with_time now bag = if is_off bag then bag else record bag { time_sent = Some now }

-- the nanoseconds from sending to receiving, and 0 where the clock went back
abbrev pub elapsed : Instant → Instant → ℤ
elapsed sent received = int_max (total_nanos received -ℤ total_nanos sent) (pos 0)

-- twice the nanoseconds from the middle of sending and receiving to the service's second
abbrev pub twice_skew : ℤ → ℤ → ℕ → ℤ
twice_skew sent elapsed server = pos server *ℤ pos 2000000000 -ℤ (pos 2 *ℤ sent +ℤ elapsed)

-- the skew in milliseconds, cut toward 0; the half of what elapsed is exact
abbrev pub skew_ms : ℤ → ℤ → ℕ → ℤ
skew_ms sent elapsed server = int_div (twice_skew sent elapsed server) (pos 2000000)

-- the most nanoseconds between sending and receiving for which a skew counts: 15 minutes
abbrev pub most_elapsed : ℤ
most_elapsed = pos 900000000000

-- the skew where at most 15 minutes elapsed, and where it has 64 bits
unfoldable pub trusted_skew : ℤ → ℤ → ℕ → Option ℤ
trusted_skew sent elapsed server = if int_le elapsed most_elapsed then if_i64 (skew_ms sent elapsed server) else None

-- the skew of a service whose clock showed this second between the two moments
unfoldable pub skew_at : Instant → Instant → ℕ → Option ℤ
skew_at sent received server = trusted_skew (total_nanos sent) (elapsed sent received) server

-- the skew of a response: where the correction is on, the response isn't from a cache, and both moments are known
abbrev pub measured : ConfigBag → List (List ℕ × List ℕ) → Instant → Option ℤ
measured bag headers received =
    if is_off bag || is_some (first_value headers (codes "age")) then None
    else option_and_then (λ sent. option_and_then (λ server. skew_at sent received server)
    (option_and_then parse_secs (first_value headers (codes "date")))) bag.time_sent

-- the bag with the skew, where one was measured
abbrev pub bag_with_skew : Option ℤ → ConfigBag → ConfigBag
bag_with_skew None bag = bag
bag_with_skew (Some skew) bag = record bag { attempt_skew = Some skew }

-- the response with the skew, where one was measured
abbrev pub response_with_skew : Option ℤ → HttpResponse → HttpResponse
response_with_skew None response = response
response_with_skew (Some skew) response = record response { skew = Some skew }
