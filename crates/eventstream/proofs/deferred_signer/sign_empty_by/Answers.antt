use Rattle.std.proofs.Common.{◌≡◌, subst, refl}
use Rattle.eventstream.specs.Told.{SignsEmpty}
use Rattle.eventstream.proofs.deferred_signer.sign_empty_by.Goals as goal

-- the box lends the signer that it holds, and holds it again afterwards, whatever its type
pub returns : goal.returns
returns g c =
    let signer = c.args.signer.now in
    let lent = c.deref_box_mut-1.result.now in
    let after = record signer { vtable = lent.0; value = c.sign_empty.new.self } in
    subst (λ held. (x : _) × SignsEmpty ((goal.SignMessage-dyn g held).told held.1) c.args.now c.sign_empty.result ((goal.SignMessage-dyn g held).told x)
    × (goal.SignMessage-dyn g held).closes held.1 c.args.now c.sign_empty.result x × (after ≡ record signer { vtable = held.0; value = x }))
    c.deref_box_mut-1.ensures.value.1 (c.sign_empty.new.self, c.sign_empty.ensures.0, c.sign_empty.ensures.1, refl)
