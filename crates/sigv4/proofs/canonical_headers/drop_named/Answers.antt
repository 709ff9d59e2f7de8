use Rattle.std.proofs.Common.{rules, ap, ◌∙◌}
use Rattle.std.proofs.lemmas.Fn.{filter_same}
use Rattle.sigv4.specs.CanonicalHeaders.{header_pairs}
use Rattle.sigv4.proofs.HeaderLemmas.{texts-without}
use Rattle.sigv4.proofs.canonical_headers.drop_named.Goals as goal

pub returns : goal.returns
returns c = ap header_pairs (filter_same _ _ _ (λ x b f k. search rules) _ _ c.retain.ensures.filtered) ∙ texts-without _ c.args.name.now
