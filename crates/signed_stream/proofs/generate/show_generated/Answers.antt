use Rattle.signed_stream.specs.Generate.{shown_stream}
use Rattle.signed_stream.specs.Generator.{drawn_events}
use Rattle.signed_stream.proofs.FitLemmas.{ended_counts}
use Rattle.signed_stream.proofs.SendLemmas.{text_ends, text_goes}
use Rattle.signed_stream.proofs.generate.show_generated.Goals as goal

pub returns-clause-end : goal.returns-clause-end
returns-clause-end g c = rw c.status_of.ensures (text_ends (shown_stream (drawn_events c.args.words.count c.args.words.seed)) _ _ c.write_generated.result c.write_generated.ensures.sends)

pub returns-clause-planned : goal.returns-clause-planned
returns-clause-planned g c = rw c.status_of.ensures (text_goes (shown_stream (drawn_events c.args.words.count c.args.words.seed)) _ _ c.write_generated.result c.write_generated.ensures.sends)

pub returns-clause-writes : goal.returns-clause-writes
returns-clause-writes g c = ended_counts c.write_generated.result _ _ _ c.status_of.ensures c.write_generated.ensures.counts
