use Rattle.std.proofs.Common.{All, arith}
use Rattle.std.proofs.lemmas.List.Elements.{All-from_get_or}
use Rattle.percent_encoding.proofs.PercentLemmas.{IsByte, round_trip}
use Rattle.smithy_http.proofs.escape.escape.Goals as goal

pub returns-clause-undone : goal.returns-clause-undone
returns-clause-undone c =
    let bytes : All IsByte c.args.text.now = All-from_get_or IsByte c.args.text.now 0 (λ i within. omega (arith, c.type_inv.text i)) in
    rw (c.in_ok-append_to.ensures.ok, c.new-out.ensures.bytes, c.utf8_percent_encode.ensures.text)
    (round_trip c.args.set c.args.text.now c.requires bytes)
