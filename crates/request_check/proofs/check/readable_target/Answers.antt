use Rattle.std.proofs.Common.{ℕ, List, Err, subst}
use Rattle.std.proofs.lemmas.Result.{err_from_is_err_and}
use Rattle.smithy_http.specs.QueryWriter.{ReadsTarget}
use Rattle.request_check.proofs.UnfitLemmas.{unfit_header_sent, unfit_host_sent, unread_target}
use Rattle.request_check.proofs.check.readable_target.Goals as goal

pub returns-in_err-uri : goal.returns-in_err-uri
returns-in_err-uri c =
    let exit = err_from_is_err_and c.from_residual.result c.from_residual.ensures.1 in
    let unread = subst (λ (text : List ℕ). ReadsTarget text (Err c.in_err-uri.field-0.0)) c.as_str.ensures.value c.in_err-uri.ensures in
    rw (exit.1, exit.2) (unread_target c.args.sent.now _ unread)

pub returns-in_err-test_headers : goal.returns-in_err-test_headers
returns-in_err-test_headers c =
    let exit = err_from_is_err_and c.from_residual-in_err-test_headers.result c.from_residual-in_err-test_headers.ensures.1 in
    let read = rw c.as_str.ensures.value at c.in_ok-uri.ensures in
    rw (exit.1, exit.2) (unfit_header_sent c.args.sent.now c.in_ok-uri.uri _ read c.in_err-test_headers.ensures)

pub returns-in_err-test_host : goal.returns-in_err-test_host
returns-in_err-test_host c =
    let exit = err_from_is_err_and c.from_residual-in_err-test_host.result c.from_residual-in_err-test_host.ensures.1 in
    let read = rw c.as_str.ensures.value at c.in_ok-uri.ensures in
    rw (exit.1, exit.2) (unfit_host_sent c.args.sent.now c.in_ok-uri.uri _ read c.in_ok-test_headers.ensures c.in_err-test_host.ensures)
