use Rattle.std.proofs.Common.{ap}
use Rattle.std.proofs.lemmas.Result.{err_from_is_err_and}
use Rattle.sigv4.specs.Body.{payload_text}
use Rattle.sigv4.specs.Request.{identity_of}
use Rattle.sigv4.proofs.RefusalLemmas.{case_able}
use Rattle.firuvaik_c.specs.Signing.{pieces_case}
use Rattle.firuvaik_c.proofs.SignLemmas.{case_made, refused, signed, unread}
use Rattle.firuvaik_c.proofs.sign.signed_parts.Goals as goal

pub returns-in_err-signable : goal.returns-in_err-signable
returns-in_err-signable c =
    let exit = err_from_is_err_and c.from_residual.result c.from_residual.ensures.1 in
    rw (exit.1, exit.2) (unread _ (pieces_case c.args.texts.now c.args.headers.now (payload_text c.args.body) c.args.params.now) _ c.in_err-signable.ensures)

pub returns-in_err-output : goal.returns-in_err-output
returns-in_err-output c =
    let exit = err_from_is_err_and c.from_residual-in_err-output.result c.from_residual-in_err-output.ensures.1 in
    let signable = c.in_ok-signable.signable in
    let params = c.args.params.now in
    let made = c.in_ok-signable.ensures in
    let same = case_made c.args.texts.now c.args.headers.now (payload_text c.args.body) params signable made.0 made.2 (ap payload_text made.3) in
    rw (exit.1, exit.2)
    (refused _ (pieces_case c.args.texts.now c.args.headers.now (payload_text c.args.body) params) (identity_of params) _ signable.uri _ made.1 same
    (case_able params signable c.requires) c.in_err-output.ensures)

pub returns : goal.returns
returns c =
    let signable = c.in_ok-signable.signable in
    let params = c.args.params.now in
    let made = c.in_ok-signable.ensures in
    let same = case_made c.args.texts.now c.args.headers.now (payload_text c.args.body) params signable made.0 made.2 (ap payload_text made.3) in
    rw c.into_uri.ensures
    (signed _ (pieces_case c.args.texts.now c.args.headers.now (payload_text c.args.body) params) (identity_of params) _ signable.uri c.in_ok-output.output made.1
    same (case_able params signable c.requires) c.in_ok-output.ensures)
