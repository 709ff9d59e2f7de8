-- The header that tells a trace.
use Rattle.std.specs.Prelude.{ℕ, Bool, ◌&&◌, List, [], ◌∷◌, Option, Some, if◌then◌else◌, codes, flat_map, is_some, nat_le, nat_lt}
use Rattle.percent_encoding.specs.Percent.{percent_encode_byte}
use Rattle.smithy_core.specs.TextPairs.{first_value, inserted, last_value}

-- visible ASCII, or a space
abbrev pub is_visible : ℕ → Bool
is_visible byte = nat_le 32 byte && nat_lt byte 127

-- each other byte as `%` and two upper-case hexadecimal digits; `%` itself stays
unfoldable pub escaped_trace : List ℕ → List ℕ
escaped_trace text = flat_map (λ byte. if is_visible byte then byte ∷ [] else percent_encode_byte byte) text

-- with the trace, where the function's name is there too
abbrev pub with_trace : List (List ℕ × List ℕ) → Option (List ℕ) → Option (List ℕ) → List (List ℕ × List ℕ)
with_trace headers (Some function) (Some trace) = inserted headers (codes "x-amzn-trace-id") (escaped_trace trace)
with_trace headers _ _ = headers

-- the headers with the trace of the environment, where they have none and both variables are set
abbrev pub traced : List (List ℕ × List ℕ) → List (List ℕ × List ℕ) → List (List ℕ × List ℕ)
traced env headers =
    if is_some (first_value headers (codes "x-amzn-trace-id")) then headers
    else with_trace headers (last_value env (codes "AWS_LAMBDA_FUNCTION_NAME")) (last_value env (codes "_X_AMZN_TRACE_ID"))
