use Rattle.std.proofs.Common.{drop, refl}
use Rattle.std.proofs.lemmas.Result.{err_from_is_err_and}
use Rattle.smithy_core.specs.TextPairs.{text_pairs}
use Rattle.request_door.proofs.DoorCarriedLemmas.{malformed, no_authorization, no_date, other_algorithm, whole_header}
use Rattle.request_door.proofs.carried.read_headers.Goals as goal

pub returns-in_err-authorization : goal.returns-in_err-authorization
returns-in_err-authorization c =
    let pairs = text_pairs c.args.pairs.now in
    let exit = err_from_is_err_and c.from_residual.result c.from_residual.ensures.1 in
    rw (exit.1, exit.2) (no_authorization c.args.headers.now pairs _ (c.in_err-authorization.ensures pairs))

pub returns-in_err-date : goal.returns-in_err-date
returns-in_err-date c =
    let pairs = text_pairs c.args.pairs.now in
    let exit = err_from_is_err_and c.from_residual-in_err-date.result c.from_residual-in_err-date.ensures.1 in
    rw (exit.1, exit.2) (no_date c.args.headers.now pairs c.in_ok-authorization.authorization.now (c.in_ok-authorization.ensures pairs) _ (c.in_err-date.ensures pairs))

pub returns-in_default : goal.returns-in_default
returns-in_default c =
    let pairs = text_pairs c.args.pairs.now in
    other_algorithm c.args.headers.now pairs c.in_ok-authorization.authorization.now (c.in_ok-authorization.ensures pairs) c.in_ok-date.date.now
    (c.in_ok-date.ensures pairs) c.in_default.ensures.cases

pub returns-in_default-door_authorization : goal.returns-in_default-door_authorization
returns-in_default-door_authorization c =
    let pairs = text_pairs c.args.pairs.now in
    malformed c.args.headers.now pairs c.in_ok-authorization.authorization.now (c.in_ok-authorization.ensures pairs) c.in_ok-date.date.now
    (c.in_ok-date.ensures pairs) (drop c.in-Some.ensures.cases.0 c.in_ok-authorization.authorization.now) c.in-Some.ensures.cases.1.1 c.in_default-door_authorization.ensures

pub returns : goal.returns
returns c =
    let pairs = text_pairs c.args.pairs.now in
    let once = c.in_ok-authorization.ensures pairs in
    let dated = c.in_ok-date.ensures pairs in
    let read = c.in-Some-door_authorization.read in (
      whole_header c.args.headers.now pairs c.in_ok-authorization.authorization.now once c.in_ok-date.date.now dated (drop c.in-Some.ensures.cases.0 c.in_ok-authorization.authorization.now) read.credential.now
          read.names.now read.signature.now c.in-Some.ensures.cases.1.1 c.in-Some-door_authorization.ensures,
      refl,
      record {
        authorization = c.in_ok-authorization.authorization.now;
        once = once;
        date = dated;
        no_expiry = refl;
        read = c.in-Some-door_authorization.ensures;
      },
    )
