use Rattle.std.proofs.Common.{◌++◌, ℕ, List, Err, ap, subst}
use Rattle.job_text.specs.Draft.{ReadsJob}
use Rattle.job_text.specs.Job.{job}
use Rattle.awsign_events.specs.Encode.{events_behind, request_lines}
use Rattle.awsign_events.proofs.EncodeLemmas.{job_refused}
use Rattle.awsign_events.proofs.encode.job_messages.Goals as goal

pub returns-in-Ok : goal.returns-in-Ok
returns-in-Ok c = ap events_behind (rw c.in_ok-lines.ensures at c.in-Ok.ensures)

pub returns-in-Err : goal.returns-in-Err
returns-in-Err c = rw c.without_request.ensures (job_refused (job (request_lines ++ c.args.bytes.now)) c.in-Err.fault (subst (λ (bytes : List ℕ). ReadsJob (job bytes) (Err c.in-Err.fault)) c.in_ok-lines.ensures c.in-Err.ensures))
