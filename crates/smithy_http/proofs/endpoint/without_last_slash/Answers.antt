use Rattle.std.proofs.Common.{arith}
use Rattle.std.proofs.lemmas.Str.Pattern.{strip_suffix_char}
use Rattle.smithy_http.proofs.SlashLemmas.{stripped_last}
use Rattle.smithy_http.proofs.endpoint.without_last_slash.Goals as goal

pub returns : goal.returns
returns c =
    rw c.unwrap_or.ensures
    (stripped_last c.args.path c.strip_suffix.result (strip_suffix_char 47 c.args.path.now c.strip_suffix.result c.strip_suffix.ensures.cases (omega arith)))
