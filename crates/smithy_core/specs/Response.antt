-- How a response shows itself.
use Rattle.std.specs.Prelude.{ℕ, List, ◌++◌, codes, ℤ, Option, Some, None}
use Rattle.std.specs.Fmt.{decimal, signed_decimal}
use Rattle.smithy_core.specs.TextPairs.{value_sizes}
use Rattle.smithy_core.specs.declared.response.HttpResponse.{HttpResponse}

-- how far a service's clock is ahead, where that was measured
abbrev pub shown_skew : Option ℤ → List ℕ
shown_skew None = codes "None"
shown_skew (Some millis) = codes "Some(" ++ (signed_decimal millis ++ codes ")")

-- the status, the headers' names and how long their values are, and the skew
abbrev pub response_sizes : HttpResponse → List ℕ
response_sizes response =
    codes "HttpResponse { status: " ++ (decimal response.status
    ++ (codes ", headers: " ++ (value_sizes response.headers
    ++ (codes ", skew: " ++ (shown_skew response.skew ++ codes " }")))))
