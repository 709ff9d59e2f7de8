use Rattle.std.proofs.Common.{Some, ap}
use Rattle.std.specs.Prelude.{string_bytes}
use Rattle.awsign_run.proofs.SigningLemmas.{read_refused, read_signed}
use Rattle.awsign_run.proofs.signing.sign_read.Goals as goal

pub returns-in-Ok : goal.returns-in-Ok
returns-in-Ok c =
    read_signed c.args.signer c.args.request (Some c.args.payload.now) c.args.at c.args.uri c.requires c.sign_with_payload_hash.new.request c.in-Ok.signature
    (ap string_bytes c.in-Ok.ensures.method) c.in-Ok.ensures.signs

pub returns-in-Err : goal.returns-in-Err
returns-in-Err c =
    let refused = c.in-Err.ensures.signs in
    rw (c.fault_of.ensures refused.0 refused.2)
    (read_refused c.args.signer c.args.request (Some c.args.payload.now) c.args.at c.args.uri c.requires refused.0 refused.1)
