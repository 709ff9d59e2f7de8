use Rattle.std.proofs.Common.{ap, ◌∙◌}
use Rattle.eventstream.specs.Key.{Signer}
use Rattle.eventstream.specs.Link.{link_code}
use Rattle.sigv4.specs.KeptKey.{Kept}
use Rattle.sigv4.proofs.KeptKeyLemmas.{kept_signer}
use Rattle.sigv4.proofs.kept_key.KeptKey.link_code.Goals as goal

pub returns-clause-code : goal.returns-clause-code
returns-clause-code c =
    let signer = ap (λ (k : Kept). k.signer) c.keep.ensures.kept ∙ kept_signer c.args.self.now c.args.at in
    c.in_ok-code.ensures _ c.args.at c.in_ok-second.ensures.hashes c.in_ok-second.ensures.secs
    ∙ ap (λ (s : Signer). link_code s c.args.last_signature.now c.args.bytes.now c.args.at) signer
