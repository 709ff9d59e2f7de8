use Rattle.std.proofs.Common.{sym, ◌∙◌}
use Rattle.std.proofs.lemmas.Result.{err_from_is_err_and}
use Rattle.sigv4.proofs.TargetLemmas.{applied-err, applied-none, applied-some}
use Rattle.sigv4.proofs.parameters.target_with.Goals as goal

pub returns-then-is_empty : goal.returns-then-is_empty
returns-then-is_empty c = λ old spells. applied-none c.args.params.now old c.args.uri.now (sym c.is_empty.ensures ∙ c.if-is_empty.true) spells

pub returns-in_err-text_with : goal.returns-in_err-text_with
returns-in_err-text_with c = λ old spells.
    let p = err_from_is_err_and c.from_residual.result c.from_residual.ensures.1 in
    rw (p.1, p.2) (applied-err c.args.params.now old c.args.uri.now c.in_err-text_with.field-0.0 (sym c.is_empty.ensures ∙ c.if-is_empty.false) spells c.in_err-text_with.ensures)

pub returns : goal.returns
returns c = λ old spells.
    applied-some c.args.params.now old c.args.uri.now c.in_ok-text_with.field-0 (sym c.is_empty.ensures ∙ c.if-is_empty.false) spells c.in_ok-text_with.ensures
