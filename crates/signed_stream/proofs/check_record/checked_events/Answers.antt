use Rattle.std.proofs.Common.{◌≡◌}
use Rattle.std.proofs.lemmas.Result.{err_from_is_err_and}
use Rattle.signed_stream.specs.Settings.{selected_in}
use Rattle.signed_stream.proofs.CheckLemmas.{checks_chained, checks_unchained}
use Rattle.signed_stream.proofs.check_record.checked_events.Goals as goal

pub returns-in_err-check_chain : goal.returns-in_err-check_chain
returns-in_err-check_chain c =
    let exit = err_from_is_err_and c.from_residual-in_err-check_chain.result c.from_residual-in_err-check_chain.ensures.1 in
    let signature : c.signature.result.now ≡ c.in-Some.seal.signature = (let given = c.signature.ensures in let seen = c.seal.view_is in cc) in
    let sealed = rw (c.in-Some.is, c.as_str-region.ensures) at c.in_ok-seal.ensures in
    let answers = rw (c.secret_access_key-secret.ensures, c.as_str-region.ensures, signature) at c.in_err-check_chain.ensures.answer in
    rw exit.1
    (checks_unchained c.args.request.now c.args.name.now (selected_in c.args.settings.now) c.args.chain.now c.in-Some.seal c.in_err-check_chain.field-0.0 exit.0 sealed answers exit.2)

pub returns : goal.returns
returns c =
    let signature : c.signature.result.now ≡ c.in-Some.seal.signature = (let given = c.signature.ensures in let seen = c.seal.view_is in cc) in
    let sealed = rw (c.in-Some.is, c.as_str-region.ensures) at c.in_ok-seal.ensures in
    let answers = rw (c.secret_access_key-secret.ensures, c.as_str-region.ensures, signature) at c.in_ok-check_chain.ensures.answer in
    let exact = rw (c.secret_access_key-secret.ensures, c.as_str-region.ensures, signature) at c.in_ok-check_chain.ensures.exact in
    checks_chained c.args.request.now c.args.name.now (selected_in c.args.settings.now) c.args.chain.now c.in-Some.seal c.in_ok-check_chain.field-0 sealed answers exact
