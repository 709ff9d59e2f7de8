use Rattle.std.proofs.Common.{◌≡◌, subst, refl}
use Rattle.eventstream.specs.Told.{Signs}
use Rattle.eventstream.proofs.deferred_signer.sign_by.Goals as goal

-- the box lends the signer that it holds, and holds it again afterwards, whatever its type
pub returns : goal.returns
returns g c =
    let signer = c.args.signer.now in
    let lent = c.deref_box_mut-1.result.now in
    let after = record signer { vtable = lent.0; value = c.sign.new.self } in
    subst (λ held. (x : _) × Signs ((goal.SignMessage-dyn g held).told held.1) c.args.message c.args.now c.sign.result ((goal.SignMessage-dyn g held).told x)
    × (goal.SignMessage-dyn g held).signs held.1 c.args.message c.args.now c.sign.result x × (after ≡ record signer { vtable = held.0; value = x }))
    c.deref_box_mut-1.ensures.value.1 (c.sign.new.self, c.sign.ensures.0, c.sign.ensures.1, refl)
