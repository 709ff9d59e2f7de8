use Rattle.std.proofs.Common.{◌≡◌, rules, sym, ◌∙◌}
use Rattle.std.proofs.lemmas.Bool.{eqb-true}
use Rattle.firuvaik_c.proofs.WatchLemmas.{one_alone}
use Rattle.firuvaik_c.proofs.watch.one_message.Goals as goal

pub returns : goal.returns
returns c =
    let same : c.in_ok-rest.rest ≡ c.args.bytes.now = search rules in
    let took = rw same at c.in_ok-message.ensures in
    one_alone c.args.bytes.now _ c.in_ok-message.message took.0 took.1 (eqb-true _ _ (sym c.is_empty.ensures ∙ c.if-not-is_empty.false))
