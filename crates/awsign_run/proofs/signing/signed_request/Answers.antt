use Rattle.std.specs.Prelude.{string_bytes}
use Rattle.awsign_words.specs.Words.{sign_wanted}
use Rattle.awsign_run.proofs.SigningLemmas.{words_signed}
use Rattle.awsign_run.proofs.signing.signed_request.Goals as goal

pub returns : goal.returns
returns c =
    words_signed (sign_wanted c.args.asked.now) c.args.signer (string_bytes c.args.payload) c.args.at c.in_ok-request.request c.in_ok-request.made c.sign_as.result
    c.in_ok-request.ensures.signer c.in_ok-request.ensures.request (rw c.as_str.ensures.value at c.sign_as.ensures)
