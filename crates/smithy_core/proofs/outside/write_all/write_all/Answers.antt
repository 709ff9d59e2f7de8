use Rattle.std.proofs.Common.{◌∙◌}
use Rattle.std.proofs.lemmas.List.{take_rest}
use Rattle.smithy_core.proofs.GainLemmas.{gains_more}
use Rattle.smithy_core.proofs.outside.write_all.write_all.Goals as goal

pub writes-preserved : goal.writes-preserved
writes-preserved g c = record {
  gained = rw (take_rest c.writes.rest.now c.in-Ok.n) (gains_more _ _ _ _ _ _ c.writes.invariant.gained c.in-Ok.ensures.gains);
  count = c.in-Ok.ensures.steady (λ failed. cc) ∙ c.writes.invariant.count;
}
