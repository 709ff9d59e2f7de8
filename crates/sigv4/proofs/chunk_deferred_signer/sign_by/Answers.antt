use Rattle.std.proofs.Common.{◌≡◌, subst, refl}
use Rattle.sigv4.specs.ChunkTold.{SignsChunk}
use Rattle.sigv4.proofs.chunk_deferred_signer.sign_by.Goals as goal

-- the box lends the signer that it holds, and holds it again afterwards, whatever its type
pub returns : goal.returns
returns g c =
    let signer = c.args.signer.now in
    let lent = c.deref_box_mut-1.result.now in
    let after = record signer { vtable = lent.0; value = c.chunk_signature.new.self } in
    subst (λ held. (x : _) × SignsChunk ((goal.SignChunk-dyn g held).told held.1) c.args.chunk.now c.chunk_signature.result ((goal.SignChunk-dyn g held).told x)
    × (goal.SignChunk-dyn g held).signs held.1 c.args.chunk.now c.chunk_signature.result x × (after ≡ record signer { vtable = held.0; value = x }))
    c.deref_box_mut-1.ensures.value.1 (c.chunk_signature.new.self, c.chunk_signature.ensures.0, c.chunk_signature.ensures.1, refl)
