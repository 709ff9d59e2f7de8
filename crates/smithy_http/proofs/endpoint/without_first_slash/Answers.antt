use Rattle.std.proofs.Common.{arith}
use Rattle.std.proofs.lemmas.Str.Pattern.{strip_prefix_char}
use Rattle.smithy_http.proofs.SlashLemmas.{stripped_first}
use Rattle.smithy_http.proofs.endpoint.without_first_slash.Goals as goal

pub returns : goal.returns
returns c =
    rw c.unwrap_or.ensures
    (stripped_first c.args.path c.strip_prefix.result (strip_prefix_char 47 c.args.path.now c.strip_prefix.result c.strip_prefix.ensures.cases (omega arith)))
