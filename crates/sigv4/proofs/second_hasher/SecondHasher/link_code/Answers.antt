use Rattle.sigv4.proofs.SecondHasherLemmas.{hashed_link_if}
use Rattle.sigv4.proofs.second_hasher.SecondHasher.link_code.Goals as goal

pub returns : goal.returns
returns c signer t hashes same =
    hashed_link_if signer c.args.self.now.secs c.args.self.now.date_digits c.args.last_signature.now c.args.bytes.now c.code.result t same hashes.date_digits
    (c.code.ensures _ _ hashes.begun)
