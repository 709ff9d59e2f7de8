use Rattle.std.proofs.Common.{sym, ◌∙◌}
use Rattle.sigv4.proofs.HeaderLemmas.{held-inserted, held-unsigned}
use Rattle.sigv4.proofs.canonical_headers.put.Goals as goal

pub returns-in_ok-put_signed : goal.returns-in_ok-put_signed
returns-in_ok-put_signed c = λ pairs holds.
    held-inserted _ pairs c.args.signed.now.items c.put_signed.new.signed.items c.args.name.now c.args.value.now (sym c.is_signed.ensures ∙ c.if-is_signed.true)
    c.in_ok-put_signed.ensures holds

pub returns-else-is_signed : goal.returns-else-is_signed
returns-else-is_signed c = λ pairs holds.
    held-unsigned _ pairs c.args.signed.now.items c.args.name.now c.args.value.now (sym c.is_signed.ensures ∙ c.if-is_signed.false) holds
