use Rattle.sigv4.proofs.ScopeLemmas.{scope_utf8}
use Rattle.sigv4.proofs.signing_time.SigningTime.scope.Goals as goal

pub unwrap-requires : goal.unwrap-requires
unwrap-requires c =
    c.from_utf8.ensures.succeeds (rw c.in_ok-scope.ensures (scope_utf8 c.args.self.now c.args.region.now c.args.name.now c.utf8.region c.utf8.name))
