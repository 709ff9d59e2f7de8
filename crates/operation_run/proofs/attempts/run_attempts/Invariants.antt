use Rattle.std.proofs.Common.{◌≡◌}
use Rattle.smithy_core.specs.Given.{Gives}
use Rattle.operation_run.specs.Again.{most_attempts}
use Rattle.operation_run.specs.Steps.{Going, operation_parts}
use Rattle.operation_run.proofs.OperationLemmas.{over}
use Rattle.operation_run.proofs.attempts.run_attempts.Given as goal

-- the attempts so far were each worth one more, and the transport didn't fail
abbrev pub invariant-loop-number : goal.invariant-loop-number
invariant-loop-number g l = let transport = g.T.Transport in record {
  parts : operation_parts l.operation ≡ operation_parts l.fn.operation;
  most : l.most ≡ most_attempts l.fn.bag;
  going : Going (λ taken. Gives g.C.Clock l.fn.clock taken l.clock) (operation_parts l.fn.operation) l.fn.bag l.bag
      (over (transport.sent l.fn.transport) (transport.sent l.transport) (transport.replied l.fn.transport) (transport.replied l.transport) l.fn.moments.items l.moments.items) l.number;
  steady : transport.faults l.transport ≡ transport.faults l.fn.transport;
  settled : transport.settled l.transport ≡ transport.settled l.fn.transport;
}
