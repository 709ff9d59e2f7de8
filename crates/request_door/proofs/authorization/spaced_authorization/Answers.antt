use Rattle.std.proofs.Common.{◌≡◌, ℕ, List, ◌++◌, sym, ap, ◌∙◌}
use Rattle.std.specs.Prelude.{codes}
use Rattle.request_door.proofs.DoorReadingLemmas.{spaced_nameless, spaced_so, spaced_unlabelled, spaced_unmarked, spaced_unnamed, spaced_unsigned, spaced_unfit}
use Rattle.request_door.proofs.authorization.spaced_authorization.Goals as goal

pub returns-in_err-front : goal.returns-in_err-front
returns-in_err-front c = rw c.from_residual.ensures (spaced_unmarked c.args.text.now c.in_err-front.ensures)

pub returns-in_err-front-2 : goal.returns-in_err-front-2
returns-in_err-front-2 c =
    rw c.from_residual-in_err-front-2.ensures (spaced_unnamed c.args.text.now (c.in_ok-front.front, c.in_ok-front.signed) c.in_ok-front.ensures c.in_err-front-2.ensures)

pub returns-in_err-credential : goal.returns-in_err-credential
returns-in_err-credential c =
    rw c.from_residual-in_err-credential.ensures (spaced_unlabelled c.args.text.now (c.in_ok-front.front, c.in_ok-front.signed) c.in_ok-front.ensures
    (c.in_ok-front-2.front, c.in_ok-front-2.named) c.in_ok-front-2.ensures c.in_err-credential.ensures.cases)

pub returns-in_err-names : goal.returns-in_err-names
returns-in_err-names c =
    rw c.from_residual-in_err-names.ensures (spaced_nameless c.args.text.now (c.in_ok-front.front, c.in_ok-front.signed) c.in_ok-front.ensures
    (c.in_ok-front-2.front, c.in_ok-front-2.named) c.in_ok-front-2.ensures c.in_err-names.ensures)

pub returns-in_err-signature : goal.returns-in_err-signature
returns-in_err-signature c =
    rw c.from_residual-in_err-signature.ensures (spaced_unsigned c.args.text.now (c.in_ok-front.front, c.in_ok-front.signed) c.in_ok-front.ensures
    (c.in_ok-front-2.front, c.in_ok-front-2.named) c.in_ok-front-2.ensures c.in_err-signature.ensures)

pub returns-then-are_names_and_signature : goal.returns-then-are_names_and_signature
returns-then-are_names_and_signature c =
    let cut = c.in_ok-credential.ensures.cases in
    let labelled : c.in_ok-front-2.front.now ≡ codes "AWS4-HMAC-SHA256 Credential=" ++ c.in_ok-credential.credential.now = cut.1.1
    ∙ ap (λ (rest : List ℕ). codes "AWS4-HMAC-SHA256 Credential=" ++ rest) (sym cut.2) in
    spaced_so c.args.text.now (c.in_ok-front.front, c.in_ok-front.signed) c.in_ok-front.ensures (c.in_ok-front-2.front, c.in_ok-front-2.named) c.in_ok-front-2.ensures
    c.in_ok-names.names c.in_ok-signature.signature c.in_ok-names.ensures c.in_ok-signature.ensures c.in_ok-credential.credential.now labelled
    (sym c.are_names_and_signature.ensures ∙ c.if-are_names_and_signature.true)

pub returns-else-are_names_and_signature : goal.returns-else-are_names_and_signature
returns-else-are_names_and_signature c =
    spaced_unfit c.args.text.now (c.in_ok-front.front, c.in_ok-front.signed) c.in_ok-front.ensures (c.in_ok-front-2.front, c.in_ok-front-2.named) c.in_ok-front-2.ensures
    c.in_ok-names.names c.in_ok-signature.signature c.in_ok-names.ensures c.in_ok-signature.ensures (sym c.are_names_and_signature.ensures ∙ c.if-are_names_and_signature.false)
