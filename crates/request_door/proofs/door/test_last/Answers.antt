use Rattle.std.proofs.Common.{subst, sym}
use Rattle.smithy_core.specs.Civil.{IsInYears}
use Rattle.sigv4.specs.Settings.{settings_of}
use Rattle.request_check.specs.Sealed.{SealParts}
use Rattle.request_door.specs.DoorCarried.{texts_carried}
use Rattle.request_door.specs.DoorTerms.{door_seal, stated_terms}
use Rattle.request_door.proofs.DoorLemmas.{last_tested}
use Rattle.request_door.proofs.door.test_last.Goals as goal

pub test_signature-requires : goal.test_signature-requires
test_signature-requires c = subst (λ (seal : SealParts). IsInYears seal.at) (sym c.in_ok-seal.ensures) c.requires

pub returns : goal.returns
returns c =
    last_tested c.args.asked.now.request.now (settings_of c.args.asked.now.settings.now) c.args.asked.now.body.now _ c.args.form
    (door_seal (texts_carried c.args.texts.now) (stated_terms c.args.terms.now)) c.args.asked.now.uri.now _ _ c.test_signature.result c.shown_payload.ensures
    c.in_ok-payload.ensures.0 c.in_ok-payload.ensures.1 (rw c.in_ok-seal.ensures at c.test_signature.ensures)
