use Rattle.aws_chunked.proofs.error.AwsChunkedBodyErrorDisplay.fmt.Goals as goal

pub returns-in-StreamLengthMismatch-clause-writes :
    goal.returns-in-StreamLengthMismatch-clause-writes
returns-in-StreamLengthMismatch-clause-writes g c = rw c.in-StreamLengthMismatch.is c.write.ensures.writes

pub returns-in-ReportedTrailerLengthMismatch-clause-writes :
    goal.returns-in-ReportedTrailerLengthMismatch-clause-writes
returns-in-ReportedTrailerLengthMismatch-clause-writes g c = rw c.in-ReportedTrailerLengthMismatch.is c.write-in-ReportedTrailerLengthMismatch.ensures.writes
