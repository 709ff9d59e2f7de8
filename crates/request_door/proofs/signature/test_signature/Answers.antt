use Rattle.std.proofs.Common.{◌∙◌}
use Rattle.sigv4.specs.Body.{payload_text}
use Rattle.sigv4.specs.Settings.{settings_of}
use Rattle.request_door.proofs.DoorLemmas.{tested}
use Rattle.request_door.proofs.signature.test_signature.Goals as goal

pub returns : goal.returns
returns c =
    tested c.args.request.now (settings_of c.args.settings.now) (payload_text c.args.body.now) _ c.args.seal.now c.args.uri.now c.as_str.result.now c.compared.result
    (c.as_str.ensures.value ∙ c.in_ok-own.ensures) (rw c.signature.ensures at c.compared.ensures)
