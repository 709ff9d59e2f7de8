use Rattle.std.proofs.Common.{refl, ap, Some, List, ℕ}
use Rattle.env_config.proofs.loading.load_custom.Goals as goal

pub returns-in-Ok-clause-reads : goal.returns-in-Ok-clause-reads
returns-in-Ok-clause-reads g c env = (refl, ap (λ (path : List ℕ). Some path) c.in_ok-own_path.ensures.ok, c.in-Ok.ensures.reads)
