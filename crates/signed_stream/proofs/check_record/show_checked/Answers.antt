use Rattle.signed_stream.specs.Settings.{selected_in}
use Rattle.signed_stream.proofs.CheckLemmas.{events_go}
use Rattle.signed_stream.proofs.check_record.show_checked.Goals as goal

pub returns-in-Ok-clause-planned : goal.returns-in-Ok-clause-planned
returns-in-Ok-clause-planned g c =
    rw c.status_of.ensures
    (events_go c.args.request.now c.args.name.now (selected_in c.args.settings.now) c.args.chain.now c.in-Ok.events c.write_events.result
    (g.K.ByteSink.held c.args.out.now) (g.K.ByteSink.held c.write_events.new.out) c.in-Ok.ensures (rw c.as_slice.ensures.value at c.write_events.ensures.sends))
