use Rattle.std.proofs.Common.{ap, length, ◌∙◌}
use Rattle.std.proofs.lemmas.Result.{err_from_is_err_and}
use Rattle.sigv4.specs.Body.{payload_text}
use Rattle.firuvaik_c.specs.Signing.{pieces_case}
use Rattle.firuvaik_c.proofs.SignLemmas.{applied, length-signature_of, pieces_refused, retargeted}
use Rattle.firuvaik_c.proofs.sign.sign_pieces.Goals as goal

pub code_of-signature-requires : goal.code_of-signature-requires
code_of-signature-requires c = ap (λ text. length text) c.in_ok-output.ensures.2.signature ∙ length-signature_of _

pub returns-in_err-output : goal.returns-in_err-output
returns-in_err-output c =
    let exit = err_from_is_err_and c.from_residual.result c.from_residual.ensures.1 in
    rw (exit.1, exit.2)
    (pieces_refused _ (pieces_case c.args.texts.now c.args.headers.now (payload_text c.args.body) c.args.params.now) _ c.in_err-output.ensures)

pub returns-in_err-text : goal.returns-in_err-text
returns-in_err-text c =
    let exit = err_from_is_err_and c.from_residual-in_err-text.result c.from_residual-in_err-text.ensures.1 in
    let parts = c.in_ok-output.ensures in
    rw (exit.1, exit.2)
    (retargeted c.args.texts.now c.args.headers.now (payload_text c.args.body) c.args.params.now c.in_ok-output.uri _ c.in_ok-output.output.output.params _ parts.0
    parts.1 parts.2.params (rw c.into_parts-instructions.ensures at c.in_err-text.ensures))

pub returns : goal.returns
returns c =
    let parts = c.in_ok-output.ensures in
    let goes = rw (c.into_parts-instructions.ensures, c.is_query.ensures) at c.in_ok-text.ensures in
    applied c.args.texts.now c.args.headers.now (payload_text c.args.body) c.args.params.now c.in_ok-output.uri _ c.in_ok-output.output.output
    (record { text = c.in_ok-text.text; signature = c.code_of-signature.result }) parts.0 parts.1 parts.2.headers parts.2.params (c.code_of-signature.ensures ∙ parts.2.signature) goes
