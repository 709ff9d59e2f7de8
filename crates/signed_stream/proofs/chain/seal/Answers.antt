use Rattle.std.proofs.Common.{[], option_to_list}
use Rattle.signed_stream.specs.Sending.{told_signature, told_signer}
use Rattle.signed_stream.proofs.SealLemmas.{sealed, sign_fails, unsealed}
use Rattle.signed_stream.proofs.chain.seal.Goals as goal

pub sign_fault-requires : goal.sign_fault-requires
sign_fault-requires g c =
    let told = g.G.SignMessage.told c.args.signer.now in
    sign_fails (told_signer told) c.args.place (told_signature told) (option_to_list c.args.event) c.args.at c.in-Err.error _ (c.in-Err.ensures (told_signer told) (told_signature told) c.requires)

pub returns-in-Ok : goal.returns-in-Ok
returns-in-Ok g c = λ who signature is.
    sealed who c.args.place signature (option_to_list c.args.event) c.args.at c.in-Ok.message c.put_frame.new.frame.items _ c.put_frame.result (c.in-Ok.ensures who signature is) c.put_frame.ensures

pub returns-in-Err : goal.returns-in-Err
returns-in-Err g c = λ who signature is.
    unsealed who c.args.place signature (option_to_list c.args.event) c.args.at c.in-Err.error [] (g.G.SignMessage.told c.sign_next.new.signer) c.sign_fault.result (c.in-Err.ensures who signature is) c.sign_fault.ensures
