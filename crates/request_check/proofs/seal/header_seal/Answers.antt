use Rattle.std.proofs.Common.{refl, sym}
use Rattle.request_check.proofs.SealLemmas.{header_seal, if_ok, unsealed_other}
use Rattle.request_check.proofs.seal.header_seal.Goals as goal

pub returns-in_default-read_authorization : goal.returns-in_default-read_authorization
returns-in_default-read_authorization c =
    unsealed_other c.args.headers.now c.args.region.now c.args.name.now c.in-Some-get.text.now (sym c.in-Some-get.ensures) c.in_default-read_authorization.ensures

pub returns : goal.returns
returns c = if_ok c.made_seal.result
    (λ made is. header_seal c.args.headers.now c.args.region.now c.args.name.now c.in-Some-get.text.now _ made (sym c.in-Some.ensures) (sym c.in-Some-get.ensures)
    c.in-Some-read_authorization.ensures refl is) c.made_seal.ensures
