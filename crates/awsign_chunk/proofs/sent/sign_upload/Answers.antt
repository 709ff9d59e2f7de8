use Rattle.std.proofs.Common.{subst}
use Rattle.awsign_run.specs.Chosen.{SignsFor, signs_for_of}
use Rattle.awsign_words.specs.Words.{sign_wanted}
use Rattle.awsign_chunk.specs.Sent.{IsUploadBehind}
use Rattle.awsign_chunk.proofs.SentLemmas.{request_refused, request_sent}
use Rattle.awsign_chunk.proofs.sent.sign_upload.Goals as goal

pub returns-in_ok-upload_behind-in-Ok : goal.returns-in_ok-upload_behind-in-Ok
returns-in_ok-upload_behind-in-Ok c = λ wanted is.
    let upload = c.in_ok-upload_behind-in-Ok.field-0 in
    let Behind : SignsFor → Type 0 =
    λ who. IsUploadBehind (sign_wanted c.args.announced.asked) c.in-Ok.signed c.args.announced.options who c.args.length c.args.at upload
    in
    request_sent wanted c.args.length (signs_for_of c.args.signer) c.args.at c.args.announced is c.in-Ok.signed upload c.in-Ok.ensures
    (subst Behind c.in_ok-copy.ensures c.in_ok-upload_behind-in-Ok.ensures)

pub returns-in-Err : goal.returns-in-Err
returns-in-Err c = λ wanted is.
    rw c.from.ensures (request_refused wanted c.args.length (signs_for_of c.args.signer) c.args.at c.args.announced is c.in-Err.fault c.in-Err.ensures)
