use Rattle.std.proofs.Common.{◌≢◌, refl, rules, sym, ◌∙◌}
use Rattle.std.proofs.lemmas.Result.{err_from_is_err_and}
use Rattle.smithy_core.specs.TextPairs.{text_pairs}
use Rattle.presign_check.specs.Terms.{algorithm_name}
use Rattle.presign_check.proofs.TermLemmas.{same_text}
use Rattle.request_door.proofs.DoorCarriedLemmas.{another_algorithm, no_algorithm, no_credential, no_digits, no_expires, no_names, no_parameter_date, no_signature, whole_parameters}
use Rattle.request_door.proofs.carried.read_parameters.Goals as goal

pub returns-in_err-algorithm : goal.returns-in_err-algorithm
returns-in_err-algorithm c =
    let exit = err_from_is_err_and c.from_residual.result c.from_residual.ensures.1 in
    rw (exit.1, exit.2) (no_algorithm c.args.headers.now (text_pairs c.args.pairs.now) _ (c.in_err-algorithm.ensures c.args.headers.now))

pub returns-in_err-credential : goal.returns-in_err-credential
returns-in_err-credential c =
    let exit = err_from_is_err_and c.from_residual-in_err-credential.result c.from_residual-in_err-credential.ensures.1 in
    rw (exit.1, exit.2) (no_credential c.args.headers.now (text_pairs c.args.pairs.now) _ (c.in_ok-algorithm.ensures c.args.headers.now) _ (c.in_err-credential.ensures c.args.headers.now))

pub returns-in_err-date : goal.returns-in_err-date
returns-in_err-date c =
    let exit = err_from_is_err_and c.from_residual-in_err-date.result c.from_residual-in_err-date.ensures.1 in
    rw (exit.1, exit.2) (no_parameter_date c.args.headers.now (text_pairs c.args.pairs.now) _ (c.in_ok-algorithm.ensures c.args.headers.now) _ (c.in_ok-credential.ensures c.args.headers.now) _ (c.in_err-date.ensures c.args.headers.now))

pub returns-in_err-expires : goal.returns-in_err-expires
returns-in_err-expires c =
    let exit = err_from_is_err_and c.from_residual-in_err-expires.result c.from_residual-in_err-expires.ensures.1 in
    rw (exit.1, exit.2) (no_expires c.args.headers.now (text_pairs c.args.pairs.now) _ (c.in_ok-algorithm.ensures c.args.headers.now) _ (c.in_ok-credential.ensures c.args.headers.now) _ (c.in_ok-date.ensures c.args.headers.now) _ (c.in_err-expires.ensures c.args.headers.now))

pub returns-in_err-names : goal.returns-in_err-names
returns-in_err-names c =
    let exit = err_from_is_err_and c.from_residual-in_err-names.result c.from_residual-in_err-names.ensures.1 in
    rw (exit.1, exit.2) (no_names c.args.headers.now (text_pairs c.args.pairs.now) _ (c.in_ok-algorithm.ensures c.args.headers.now) _ (c.in_ok-credential.ensures c.args.headers.now) _ (c.in_ok-date.ensures c.args.headers.now) _ (c.in_ok-expires.ensures c.args.headers.now) _ (c.in_err-names.ensures c.args.headers.now))

pub returns-in_err-signature : goal.returns-in_err-signature
returns-in_err-signature c =
    let exit = err_from_is_err_and c.from_residual-in_err-signature.result c.from_residual-in_err-signature.ensures.1 in
    rw (exit.1, exit.2) (no_signature c.args.headers.now (text_pairs c.args.pairs.now) _ (c.in_ok-algorithm.ensures c.args.headers.now) _ (c.in_ok-credential.ensures c.args.headers.now) _ (c.in_ok-date.ensures c.args.headers.now) _ (c.in_ok-expires.ensures c.args.headers.now) _ (c.in_ok-names.ensures c.args.headers.now) _ (c.in_err-signature.ensures c.args.headers.now))

pub returns-then-ne : goal.returns-then-ne
returns-then-ne c =
    let differs : c.in_ok-algorithm.algorithm.now ≢ algorithm_name = search rules in
    another_algorithm c.args.headers.now (text_pairs c.args.pairs.now) c.in_ok-algorithm.algorithm.now (c.in_ok-algorithm.ensures c.args.headers.now) c.in_ok-credential.credential.now (c.in_ok-credential.ensures c.args.headers.now) c.in_ok-date.date.now (c.in_ok-date.ensures c.args.headers.now) c.in_ok-expires.expires.now (c.in_ok-expires.ensures c.args.headers.now) c.in_ok-names.names.now (c.in_ok-names.ensures c.args.headers.now) c.in_ok-signature.signature.now (c.in_ok-signature.ensures c.args.headers.now)
    differs

pub returns-then-not-is_signature : goal.returns-then-not-is_signature
returns-then-not-is_signature c =
    let same = same_text c.in_ok-algorithm.algorithm.now algorithm_name c.if-ne.ensures in
    no_digits c.args.headers.now (text_pairs c.args.pairs.now) c.in_ok-algorithm.algorithm.now (c.in_ok-algorithm.ensures c.args.headers.now) c.in_ok-credential.credential.now (c.in_ok-credential.ensures c.args.headers.now) c.in_ok-date.date.now (c.in_ok-date.ensures c.args.headers.now) c.in_ok-expires.expires.now (c.in_ok-expires.ensures c.args.headers.now) c.in_ok-names.names.now (c.in_ok-names.ensures c.args.headers.now) c.in_ok-signature.signature.now (c.in_ok-signature.ensures c.args.headers.now)
    same (sym c.is_signature.ensures ∙ c.if-not-is_signature.true)

pub returns : goal.returns
returns c =
    let same = same_text c.in_ok-algorithm.algorithm.now algorithm_name c.if-ne.ensures in
    let digits = sym c.is_signature.ensures ∙ c.if-not-is_signature.false in (
      whole_parameters c.args.headers.now (text_pairs c.args.pairs.now) c.in_ok-algorithm.algorithm.now (c.in_ok-algorithm.ensures c.args.headers.now) c.in_ok-credential.credential.now (c.in_ok-credential.ensures c.args.headers.now) c.in_ok-date.date.now (c.in_ok-date.ensures c.args.headers.now) c.in_ok-expires.expires.now (c.in_ok-expires.ensures c.args.headers.now) c.in_ok-names.names.now (c.in_ok-names.ensures c.args.headers.now) c.in_ok-signature.signature.now (c.in_ok-signature.ensures c.args.headers.now)
          same digits,
      refl,
      record {
        credential = c.in_ok-credential.ensures c.args.headers.now;
        date = c.in_ok-date.ensures c.args.headers.now;
        expires = c.in_ok-expires.ensures c.args.headers.now;
        names = c.in_ok-names.ensures c.args.headers.now;
        signature = c.in_ok-signature.ensures c.args.headers.now;
        digits = digits;
      },
    )
