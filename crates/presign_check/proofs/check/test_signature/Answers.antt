use Rattle.eventstream.specs.Key.{Signer}
use Rattle.sigv4.specs.Body.{payload_text}
use Rattle.sigv4.specs.Settings.{settings_of}
use Rattle.presign_check.proofs.SignatureLemmas.{compared, seal_found, unfit}
use Rattle.presign_check.proofs.check.test_signature.Goals as goal

pub returns-in-Ok : goal.returns-in-Ok
returns-in-Ok c = λ reading has.
    compared c.args.request.now (settings_of c.args.settings.now) (payload_text c.args.body.now) _ reading has c.in-Ok.checked c.compared.result c.in-Ok.ensures.checks
    c.compared.ensures

pub unreachable-requires : goal.unreachable-requires
unreachable-requires c =
    let signer : Signer = record { secret = c.args.secret.now; region = c.args.region.now; name = c.args.name.now } in
    seal_found c.args.request.now signer c.requires.reading c.requires.has (rw c.in-Err-NoSignature.field-0-is at c.in-Err-NoSignature.ensures.checks)

pub returns-in-Err-Signing : goal.returns-in-Err-Signing
returns-in-Err-Signing c = λ reading has.
    let signer : Signer = record { secret = c.args.secret.now; region = c.args.region.now; name = c.args.name.now } in
    let checks = rw c.in-Err-Signing.field-0-is at c.in-Err-Signing.ensures.checks in
    unfit c.args.request.now (settings_of c.args.settings.now) (payload_text c.args.body.now) signer reading has c.in-Err-Signing.error checks
