use Rattle.awsign_verify.proofs.judge.admit_for.Goals as goal

pub returns : goal.returns
returns c =
    rw (c.in_ok-settings.ensures, c.is_s3.ensures, c.as_str-region.ensures.value, c.as_str-service.ensures.value, c.in_ok-keys.ensures, c.new-limits.ensures)
    at c.admit.ensures
