use Rattle.std.proofs.Common.{sym, ◌∙◌}
use Rattle.std.specs.Prelude.{codes}
use Rattle.sigv4.proofs.RefusalLemmas.{decides-some, first-given}
use Rattle.sigv4.proofs.refusal.has_host.Goals as goal

pub returns-clause-host : goal.returns-clause-host
returns-clause-host c =
    decides-some _ c.contains_key.result c.contains_key.ensures.found ∙ sym (first-given c.args.headers.now (codes "host") c.contains_key.ensures.lower)
