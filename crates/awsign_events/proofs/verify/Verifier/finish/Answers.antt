use Rattle.awsign_events.proofs.VerifyLemmas.{ends_done, ends_fault}
use Rattle.awsign_events.proofs.verify.Verifier.finish.Goals as goal

pub returns-in-Ok-clause-ends : goal.returns-in-Ok-clause-ends
returns-in-Ok-clause-ends c =
    let ends = rw c.new.ensures.items at c.in-Ok.ensures in
    λ form signer seed taken left before now done verified. ends_done form signer seed taken c.args.self before now verified left _ done ends

pub returns-clause-ends : goal.returns-clause-ends
returns-clause-ends c =
    let ends = rw c.new.ensures.items at c.in-Err.ensures in
    λ form signer seed taken left before now done verified. rw c.from.ensures (ends_fault form signer seed taken c.args.self before now verified left _ c.in-Err.fault done ends)
