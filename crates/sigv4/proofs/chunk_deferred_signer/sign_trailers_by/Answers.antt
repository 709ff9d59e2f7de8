use Rattle.std.proofs.Common.{◌≡◌, subst, refl}
use Rattle.sigv4.specs.ChunkTold.{SignsTrailers}
use Rattle.sigv4.proofs.chunk_deferred_signer.sign_trailers_by.Goals as goal

-- the box lends the signer that it holds, and holds it again afterwards, whatever its type
pub returns : goal.returns
returns g c =
    let signer = c.args.signer.now in
    let lent = c.deref_box_mut-1.result.now in
    let trailers = c.args.trailing_headers.now in
    let after = record signer { vtable = lent.0; value = c.trailer_signature.new.self } in
    subst (λ held. (x : _) × SignsTrailers ((goal.SignChunk-dyn g held).told held.1) trailers c.trailer_signature.result ((goal.SignChunk-dyn g held).told x)
    × (goal.SignChunk-dyn g held).closes held.1 trailers c.trailer_signature.result x × (after ≡ record signer { vtable = held.0; value = x }))
    c.deref_box_mut-1.ensures.value.1 (c.trailer_signature.new.self, c.trailer_signature.ensures.0, c.trailer_signature.ensures.1, refl)
