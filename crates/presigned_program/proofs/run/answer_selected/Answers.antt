use Rattle.std.proofs.Common.{Some, inl, refl, rules}
use mir.Syntax.{w128}
use mir.Val.{SFits}
use Rattle.std.specs.Prelude.{Ok, Err}
use Rattle.std.proofs.lemmas.Int.{to_z-of_z}
use Rattle.presigned_program.proofs.PresignLemmas.{fault_after, fault_counts}
use Rattle.presigned_program.proofs.run.answer_selected.Goals as goal

pub returns-in-Ok-clause-checked : goal.returns-in-Ok-clause-checked
returns-in-Ok-clause-checked g c =
    let fits : SFits w128 c.in-Ok.until = search rules in
    record {
      check = Some (record { now = c.moment_of-now.result; found = Ok c.in-Ok.until });
      moments = c.moment_of-now.ensures;
      found = c.in-Ok.ensures;
      goes = rw (to_z-of_z w128 c.in-Ok.until fits) at c.write_until.ensures.printed;
    }

pub returns-in-Err-clause-checked : goal.returns-in-Err-clause-checked
returns-in-Err-clause-checked g c =
    record {
      check = Some (record { now = c.moment_of-now.result; found = Err c.in-Err.met });
      moments = c.moment_of-now.ensures;
      found = c.in-Err.ensures;
      goes = (inl c.from.ensures, refl);
    }

pub returns-in-Err-clause-end : goal.returns-in-Err-clause-end
returns-in-Err-clause-end g c = rw c.from.ensures (fault_after c.in-Err.met)

pub returns-in-Err-clause-writes : goal.returns-in-Err-clause-writes
returns-in-Err-clause-writes g c = rw c.from.ensures (fault_counts c.in-Err.met (g.K.ByteSink.faults c.args.out.now))
