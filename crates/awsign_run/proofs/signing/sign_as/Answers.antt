use Rattle.std.proofs.Common.{ℕ, List, Some, Err, subst}
use Rattle.std.specs.Prelude.{string_bytes}
use Rattle.smithy_http.specs.QueryWriter.{ReadsTarget}
use Rattle.aws_signing.specs.SigningBy.{settings_case}
use Rattle.awsign_run.proofs.SigningLemmas.{url_unread}
use Rattle.awsign_run.proofs.signing.sign_as.Goals as goal

pub returns-in-Err : goal.returns-in-Err
returns-in-Err c =
    let read = subst (λ (text : List ℕ). ReadsTarget text (Err c.in-Err.fault)) c.as_str.ensures.value c.in-Err.ensures in
    rw (c.from-in-Err.ensures, c.from.ensures)
    (url_unread (string_bytes c.args.request.target) (settings_case c.args.signer c.args.request (Some c.args.payload.now) c.args.at) c.in-Err.fault read)
