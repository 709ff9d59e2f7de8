-- Ids of several metrics.
use Rattle.std.proofs.Common.{◌≡◌, ℕ, suc, ◌-◌, ◌/◌, ◌%◌, ◌<◌, ◌≤◌, ◌==◌, Bool, true, false, List, [], ◌∷◌, ◌++◌, Option, Some, None, if◌then◌else◌, codes, flat_map, refl, arith, length, nat_lt, option_map, lit<, take, get_or, IfSome, ◌+◌}
use Rattle.std.proofs.lemmas.List.{take_more, length-take-le}
use Rattle.std.specs.Option.{option_or}
use Rattle.std.specs.Str.{IsAscii}
use Rattle.std.proofs.lemmas.Bool.{ltb-true}
use Rattle.std.proofs.lemmas.Str.{IsAscii-append}
use Rattle.std.proofs.lemmas.Str.Ascii.{IsAscii-nil, IsAscii-cons}
use Rattle.aws_intercept.specs.declared.user_agent.metric.BusinessMetric.{BusinessMetric}
use Rattle.aws_intercept.specs.Metric.{id_at, metric_id, place, sign}
use Rattle.aws_intercept.specs.MetricIds.{joined_ids, last_comma}
use Rattle.aws_intercept.proofs.MetricLemmas.{place_below, sign_is_ascii}

-- an id of one sign, or else of two
id_by_length : (n : ℕ) → n < 4160 → (short : Bool) → nat_lt n 64 ≡ short
    → IsAscii (if short then sign n ∷ [] else sign ((n - 64) / 64) ∷ sign ((n - 64) % 64) ∷ [])
id_by_length n below true is_short =
    IsAscii-cons _ [] (sign_is_ascii n (ltb-true n 64 is_short)) IsAscii-nil
id_by_length n below false is_short =
    let high : (n - 64) / 64 < 64 = omega arith in
    let low : (n - 64) % 64 < 64 = omega arith in
    IsAscii-cons _ (sign ((n - 64) % 64) ∷ []) (sign_is_ascii _ high) (IsAscii-cons _ [] (sign_is_ascii _ low) IsAscii-nil)

id_ascii : (metric : BusinessMetric) → IsAscii (metric_id metric)
unfolding metric_id id_at
id_ascii metric = id_by_length (place metric) (omega (arith, place_below metric)) (nat_lt (place metric) 64) refl

rest_ascii : (metrics : List BusinessMetric) → IsAscii (flat_map (λ metric. codes "," ++ metric_id metric) metrics)
rest_ascii [] = IsAscii-nil
rest_ascii (metric ∷ metrics) =
    IsAscii-append (codes "," ++ metric_id metric) (flat_map (λ metric. codes "," ++ metric_id metric) metrics)
    (IsAscii-cons 44 (metric_id metric) (lit< tt) (id_ascii metric)) (rest_ascii metrics)

-- ids are ASCII
pub joined_ids_ascii : (metrics : List BusinessMetric) → IsAscii (joined_ids metrics)
unfolding joined_ids
joined_ids_ascii [] = IsAscii-nil
joined_ids_ascii (metric ∷ metrics) =
    IsAscii-append (metric_id metric) (flat_map (λ metric. codes "," ++ metric_id metric) metrics) (id_ascii metric) (rest_ascii metrics)

-- a choice goes through the step to the byte before
by_byte : (here : Bool) (rest : Option ℕ) (n : ℕ) (at_first : Bool)
    → option_or (option_map (λ place. suc place) (if here then Some n else rest)) (if at_first then Some 0 else None)
    ≡ (if here then Some (suc n) else option_or (option_map (λ place. suc place) rest) (if at_first then Some 0 else None))
by_byte true rest n at_first = refl
by_byte false rest n at_first = refl

-- one more byte
pub last_comma_more : (bytes : List ℕ) (byte : ℕ)
    → last_comma (bytes ++ byte ∷ []) ≡ (if byte == 44 then Some (length bytes) else last_comma bytes)
last_comma_more [] byte = refl
last_comma_more (first ∷ bytes) byte = rw (last_comma_more bytes byte) (by_byte (byte == 44) (last_comma bytes) (length bytes) (first == 44))

choice_within : (here : Bool) (last : Option ℕ) (at n : ℕ) → at < n → IfSome last (λ p. p ≤ n) → IfSome (if here then Some at else last) (λ p. p ≤ n)
choice_within true last at n below within = omega arith
choice_within false last at n below within = within

-- the loop's step
pub last_comma_step : (ids : List ℕ) (at : ℕ) (last next : Option ℕ) → at < length ids → last ≡ last_comma (take at ids)
    → IfSome last (λ p. p ≤ length ids) → next ≡ (if get_or ids at 0 == 44 then Some at else last)
    → (next ≡ last_comma (take (at + 1) ids)) × IfSome next (λ p. p ≤ length ids)
last_comma_step ids at last next below was within is_next =
    let more : take (at + 1) ids ≡ take at ids ++ get_or ids at 0 ∷ [] = take_more ids at 0 below in
    let long : length (take at ids) ≡ at = length-take-le at ids (omega arith) in
    let step = last_comma_more (take at ids) (get_or ids at 0) in
    (rw (more, step, long, ← was) is_next, rw is_next (choice_within (get_or ids at 0 == 44) last at (length ids) below within))
