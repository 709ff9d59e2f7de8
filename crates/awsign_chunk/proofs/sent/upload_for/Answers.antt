use Rattle.std.proofs.Common.{List, Err, Ok, subst}
use Rattle.aws_chunked.specs.Body.{Trailer}
use Rattle.awsign_run.specs.Chosen.{signs_for_of}
use Rattle.awsign_words.specs.Words.{sign_wanted}
use Rattle.awsign_chunk.specs.Sent.{AnnouncesBody}
use Rattle.awsign_chunk.proofs.SentLemmas.{not_sent}
use Rattle.awsign_chunk.proofs.sent.upload_for.Goals as goal

pub returns-in-Ok : goal.returns-in-Ok
returns-in-Ok c =
    let Announces : List Trailer → Type 0 = λ trailers. AnnouncesBody (sign_wanted c.args.asked.now) c.args.length trailers (Ok c.in-Ok.announced) in
    c.sign_upload.ensures (sign_wanted c.args.asked.now) (subst Announces c.in_ok-trailers.ensures c.in-Ok.ensures)

pub returns-in-Err : goal.returns-in-Err
returns-in-Err c =
    let Announces : List Trailer → Type 0 = λ trailers. AnnouncesBody (sign_wanted c.args.asked.now) c.args.length trailers (Err c.in-Err.status) in
    not_sent (sign_wanted c.args.asked.now) c.args.length (signs_for_of c.args.signer) c.args.at c.in-Err.status (subst Announces c.in_ok-trailers.ensures c.in-Err.ensures)
