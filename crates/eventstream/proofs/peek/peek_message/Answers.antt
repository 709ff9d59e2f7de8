use Rattle.std.proofs.Common.{◌≡◌, take, Ok, ap, sym, ◌∙◌, arith}
use Rattle.std.proofs.lemmas.Result.{err_from_is_err_and}
use Rattle.eventstream.specs.Read.{read_prelude}
use Rattle.eventstream.proofs.DecodeLemmas.{peeks_fault}
use Rattle.eventstream.proofs.peek.peek_message.Goals as goal

pub returns-in_err-message-clause-first : goal.returns-in_err-message-clause-first
returns-in_err-message-clause-first c =
    let bytes = c.args.buffer.now.bytes in
    let told : read_prelude (take 12 bytes) ≡ Ok c.in_ok-lengths.lengths = ap read_prelude (sym c.peek_prelude-prelude.ensures) ∙ sym c.in_ok-lengths.ensures.lengths in
    let exit = err_from_is_err_and c.from_residual-in_err-message.result c.from_residual-in_err-message.ensures.1 in
    rw (exit.1, exit.2)
    (peeks_fault bytes c.in_ok-lengths.lengths c.in_err-message.field-0.0 told (omega (arith, c.remaining-2.ensures, c.if-remaining-lengths.false)) c.in_err-message.ensures)
