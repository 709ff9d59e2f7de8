use Rattle.awsign_words.specs.EventWords.{asked_event_form}
use Rattle.awsign_run.specs.Chosen.{signs_for_of, who_signs}
use Rattle.awsign_events.specs.VerifyEvents.{asked_seed}
use Rattle.awsign_events.proofs.VerifyLemmas.{verifies_roomless}
use Rattle.awsign_events.proofs.verify.verify_chain.Goals as goal

pub returns-in_default-clause-verifies : goal.returns-in_default-clause-verifies
returns-in_default-clause-verifies g c =
    let options = c.args.asked.now.options in
    verifies_roomless (asked_event_form options) (who_signs (signs_for_of c.args.signer.now)) (asked_seed options) (g.S.ByteSource.left c.args.input.now) (g.K.ByteSink.held c.args.out.now)

pub returns-in-Ok-read-clause-verifies : goal.returns-in-Ok-read-clause-verifies
returns-in-Ok-read-clause-verifies g c =
    let options = c.args.asked.now.options in
    let new = rw c.seed_asked.ensures at c.in-Ok.ensures in
    let reads = rw c.form.ensures at c.in-Ok-read.ensures.reads (who_signs (signs_for_of c.args.signer.now)) (asked_seed options) new in (
      reads.0,
      reads.1,
      c.finish.ensures.ends (asked_event_form options) (who_signs (signs_for_of c.args.signer.now)) (asked_seed options) reads.0 (g.S.ByteSource.left c.read.new.input)
          (g.K.ByteSink.held c.args.out.now) (g.K.ByteSink.held c.read.new.out) reads.2 reads.3,
    )

pub returns-in-Err-clause-verifies : goal.returns-in-Err-clause-verifies
returns-in-Err-clause-verifies g c =
    let options = c.args.asked.now.options in
    let new = rw c.seed_asked.ensures at c.in-Ok.ensures in
    rw (← c.form.ensures) (c.in-Err.ensures.reads (who_signs (signs_for_of c.args.signer.now)) (asked_seed options) new)
