use Rattle.std.proofs.Common.{◌∙◌}
use Rattle.signed_stream.proofs.generate.write_generated.Goals as goal

pub shown_text-requires : goal.shown_text-requires
shown_text-requires g c = (c.args.words.count, c.args.words.seed, c.as_slice.ensures.value ∙ c.in_ok-events.ensures)
