use Rattle.std.proofs.Common.{ℕ, List, Err, inl, inr, refl, subst}
use Rattle.std.proofs.lemmas.Result.{err_from_is_err_and}
use Rattle.smithy_http.specs.QueryWriter.{ReadsTarget}
use Rattle.request_door.proofs.DoorLemmas.{unread_target}
use Rattle.request_door.proofs.door.accepted_target.Goals as goal

pub returns-in_err-uri : goal.returns-in_err-uri
returns-in_err-uri c =
    let exit = err_from_is_err_and c.from_residual.result c.from_residual.ensures.1 in
    let unread = subst (λ (text : List ℕ). ReadsTarget text (Err c.in_err-uri.field-0.0)) c.as_str.ensures.value c.in_err-uri.ensures in
    rw (exit.1, exit.2) (unread_target c.args.request.now _ unread)

pub returns-else-is_fit : goal.returns-else-is_fit
returns-else-is_fit c =
    let read = rw c.as_str.ensures.value at c.in_ok-uri.ensures in
    inr (inl (c.in_ok-uri.uri, read, c.if-is_fit.ensures, refl))
