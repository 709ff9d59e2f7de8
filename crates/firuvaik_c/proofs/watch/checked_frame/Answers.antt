use Rattle.std.proofs.Common.{ap, inr, ◌∙◌}
use Rattle.std.proofs.lemmas.Result.{err_from_is_err_and}
use Rattle.eventstream.specs.Reading.{first_of}
use Rattle.chain_watch.specs.Walk.{frame_test}
use Rattle.firuvaik_c.specs.Links.{key_signer}
use Rattle.firuvaik_c.proofs.WatchLemmas.{by_tests, carries_or_wants, one_first, tests_failed, tests_signed}
use Rattle.firuvaik_c.proofs.watch.checked_frame.Goals as goal

pub returns-in_err-test_link : goal.returns-in_err-test_link
returns-in_err-test_link c =
    let exit = err_from_is_err_and c.from_residual-in_err-test_link.result c.from_residual-in_err-test_link.ensures.1 in
    let texts = c.in_ok-texts.ensures in
    let previous_signature = c.in_ok-previous_signature.ensures.1 ∙ c.as_slice.ensures in
    let code = rw c.as_slice.ensures at c.in_ok-previous_signature.ensures.0 in
    let one = rw c.in_ok-bytes.ensures at c.in_ok-message.ensures in
    let first = ap first_of c.in_ok-bytes.ensures ∙ one_first c.args.frame.now c.in_ok-message.message one in
    let answered = by_tests c.args.signer.now c.args.signature.now c.args.frame.now c.in_ok-message.message texts.texts code one in
    let tests = rw (texts.secret, texts.region, texts.service, previous_signature) at (c.in_err-test_link.ensures c.in_ok-message.message first) in
    rw (exit.1, exit.2)
    (tests_failed c.args.signer.now c.args.signature.now c.args.frame.now (frame_test (key_signer c.args.signer.now) c.args.signature.now 1 c.in_ok-message.message) _ answered
    tests)

pub returns-in_err-signature : goal.returns-in_err-signature
returns-in_err-signature c =
    let exit = err_from_is_err_and c.from_residual-in_err-signature.result c.from_residual-in_err-signature.ensures.1 in
    let texts = c.in_ok-texts.ensures in
    let previous_signature = c.in_ok-previous_signature.ensures.1 ∙ c.as_slice.ensures in
    let code = rw c.as_slice.ensures at c.in_ok-previous_signature.ensures.0 in
    let one = rw c.in_ok-bytes.ensures at c.in_ok-message.ensures in
    let first = ap first_of c.in_ok-bytes.ensures ∙ one_first c.args.frame.now c.in_ok-message.message one in
    let answered = by_tests c.args.signer.now c.args.signature.now c.args.frame.now c.in_ok-message.message texts.texts code one in
    let tests = rw (texts.secret, texts.region, texts.service, previous_signature) at (c.in_ok-test_link.ensures c.in_ok-message.message first) in
    rw (exit.1, exit.2) (inr (carries_or_wants c.in_ok-message.message c.args.signature.now (key_signer c.args.signer.now) _ _ tests c.in_err-signature.ensures))

pub parts_of-parts-requires : goal.parts_of-parts-requires
parts_of-parts-requires c = rw c.in_ok-bytes.ensures at c.in_ok-message.ensures

pub returns : goal.returns
returns c =
    let texts = c.in_ok-texts.ensures in
    let previous_signature = c.in_ok-previous_signature.ensures.1 ∙ c.as_slice.ensures in
    let code = rw c.as_slice.ensures at c.in_ok-previous_signature.ensures.0 in
    let one = rw c.in_ok-bytes.ensures at c.in_ok-message.ensures in
    let first = ap first_of c.in_ok-bytes.ensures ∙ one_first c.args.frame.now c.in_ok-message.message one in
    let answered = by_tests c.args.signer.now c.args.signature.now c.args.frame.now c.in_ok-message.message texts.texts code one in
    let tests = rw (texts.secret, texts.region, texts.service, previous_signature) at (c.in_ok-test_link.ensures c.in_ok-message.message first) in
    let carried = c.in_ok-signature.ensures in (
      tests_signed c.args.signer.now c.args.signature.now c.args.frame.now c.in_ok-message.message c.in_ok-signature.signature carried.0 (key_signer c.args.signer.now) _
          answered tests carried.1 carried.2,
      c.parts_of-parts.ensures,
    )
