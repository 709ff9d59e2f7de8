use Rattle.std.proofs.lemmas.Result.{err_from_is_err_and}
use Rattle.sigv4.proofs.TargetLemmas.{applied-read, applied-unread}
use Rattle.sigv4.proofs.instructions.SigningInstructions.apply_to_request.Goals as goal

pub returns-in_err-uri-clause-target : goal.returns-in_err-uri-clause-target
returns-in_err-uri-clause-target c =
    let p = err_from_is_err_and c.from_residual.result c.from_residual.ensures.1 in
    rw (p.1, p.2) (applied-unread c.args.self.params _ _ c.in_err-uri.field-0.0 c.as_str.ensures.value c.in_err-uri.ensures)

pub returns-clause-target : goal.returns-clause-target
returns-clause-target c =
    let read = rw c.as_str.ensures.value at c.in_ok-uri.ensures in
    applied-read c.args.self.params _ _ c.in_ok-uri.uri _ read c.apply_to_parsed.ensures.target
