use Rattle.std.proofs.Common.{sym, ◌∙◌}
use Rattle.request_check.proofs.ReadingLemmas.{unread_unlabelled, unread_unmarked, unread_unnamed, unread_unfit}
use Rattle.request_check.proofs.authorization.read_authorization.Goals as goal

pub returns-in_err-front : goal.returns-in_err-front
returns-in_err-front c = rw c.from_residual.ensures (unread_unmarked c.args.text.now c.in_err-front.ensures)

pub returns-in_err-front-2 : goal.returns-in_err-front-2
returns-in_err-front-2 c =
    rw c.from_residual-in_err-front-2.ensures (unread_unnamed c.args.text.now (c.in_ok-front.front, c.in_ok-front.signature) c.in_ok-front.ensures c.in_err-front-2.ensures)

pub returns-in_err-credential : goal.returns-in_err-credential
returns-in_err-credential c =
    rw c.from_residual-in_err-credential.ensures (unread_unlabelled c.args.text.now (c.in_ok-front.front, c.in_ok-front.signature)
    (c.in_ok-front-2.front, c.in_ok-front-2.names) c.in_ok-front.ensures c.in_ok-front-2.ensures c.in_err-credential.ensures.cases)

pub returns-else-are_names_and_signature : goal.returns-else-are_names_and_signature
returns-else-are_names_and_signature c =
    unread_unfit c.args.text.now (c.in_ok-front.front, c.in_ok-front.signature) (c.in_ok-front-2.front, c.in_ok-front-2.names)
    c.in_ok-front.ensures c.in_ok-front-2.ensures (sym c.are_names_and_signature.ensures ∙ c.if-are_names_and_signature.false)
