use Rattle.std.proofs.lemmas.Result.{err_from_is_err_and}
use Rattle.std.specs.Prelude.{option_copied}
use Rattle.sigv4.specs.Request.{identity_of}
use Rattle.sigv4.proofs.RefusalLemmas.{case_able}
use Rattle.aws_auth.proofs.SignerLemmas.{refused, signed, unread}
use Rattle.aws_signing.specs.SigningBy.{text_case}
use Rattle.aws_signing.proofs.SigningByLemmas.{text_case_made}
use Rattle.aws_signing.proofs.signer.signed_parts.Goals as goal

pub returns-in_err-signable : goal.returns-in_err-signable
returns-in_err-signable c =
    let exit = err_from_is_err_and c.from_residual-in_err-signable.result c.from_residual-in_err-signable.ensures.1 in
    rw (exit.1, exit.2) (unread _ _ _ (rw c.as_str-2.ensures.value at c.in_err-signable.ensures))

pub returns-in_err-output : goal.returns-in_err-output
returns-in_err-output c =
    let exit = err_from_is_err_and c.from_residual-in_err-output.result c.from_residual-in_err-output.ensures.1 in
    let signable = c.in_ok-signable.signable in
    let params = c.args.params.now in
    let made = rw (c.as_str.ensures.value, c.as_str-2.ensures.value) at c.in_ok-signable.ensures in
    let payload = rw (← made.3, c.as_slice.ensures) at c.in_ok-body.ensures in
    let same = text_case_made c.args.request.now (option_copied c.args.payload) params signable made.0 made.2 payload in
    rw (exit.1, exit.2) (refused _ _ (identity_of params) _ signable.uri _ made.1 same (case_able params signable c.requires.able) c.in_err-output.ensures)

pub returns : goal.returns
returns c =
    let signable = c.in_ok-signable.signable in
    let params = c.args.params.now in
    let made = rw (c.as_str.ensures.value, c.as_str-2.ensures.value) at c.in_ok-signable.ensures in
    let payload = rw (← made.3, c.as_slice.ensures) at c.in_ok-body.ensures in
    let same = text_case_made c.args.request.now (option_copied c.args.payload) params signable made.0 made.2 payload in
    rw c.into_uri.ensures
    (signed _ (text_case c.args.request.now (option_copied c.args.payload) params) (identity_of params) _ signable.uri c.in_ok-output.output made.1 same
    (case_able params signable c.requires.able) c.in_ok-output.ensures)
