use Rattle.std.specs.Prelude.{string_bytes}
use Rattle.awsign_run.proofs.PrintLemmas.{request_printed}
use Rattle.awsign_run.specs.Chosen.{signs_for_of}
use Rattle.awsign_run.specs.Signing.{asked_case}
use Rattle.awsign_words.specs.Words.{sign_wanted}
use Rattle.awsign_run.proofs.signing.print_over.Goals as goal

pub returns-in_ok-printed_request-in-Ok : goal.returns-in_ok-printed_request-in-Ok
returns-in_ok-printed_request-in-Ok c =
    let asks = sign_wanted c.args.asked.now in
    request_printed asks (asked_case asks (signs_for_of c.args.signer) (string_bytes c.args.payload) c.args.at) c.in-Ok.signed c.in_ok-printed_request-in-Ok.field-0
    c.in-Ok.ensures (rw c.get.ensures at c.in_ok-printed_request-in-Ok.ensures)
