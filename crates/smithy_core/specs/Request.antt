-- How a request shows itself.
use Rattle.std.specs.Prelude.{ℕ, List, ◌++◌, codes, length, string_bytes}
use Rattle.std.specs.Fmt.{decimal}
use Rattle.smithy_core.specs.TextPairs.{shown_name, value_sizes}
use Rattle.smithy_core.specs.declared.request.HttpRequest.{HttpRequest}

-- the method, the headers' names, and how long the target, the headers' values and the body are
abbrev pub request_sizes : HttpRequest → List ℕ
request_sizes request =
    codes "HttpRequest { method: " ++ (shown_name (string_bytes request.method)
    ++ (codes ", target_len: " ++ (decimal (length (string_bytes request.target))
    ++ (codes ", headers: " ++ (value_sizes request.headers
    ++ (codes ", body_len: " ++ (decimal (length request.body) ++ codes " }")))))))
