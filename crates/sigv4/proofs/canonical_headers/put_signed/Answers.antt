use Rattle.std.proofs.Common.{ap, ◌∙◌}
use Rattle.smithy_core.specs.TextPairs.{named_values}
use Rattle.sigv4.specs.CanonicalHeaders.{header_pairs}
use Rattle.sigv4.specs.declared.canonical_headers.SignedValue.TheVariants.{Added}
use Rattle.sigv4.proofs.HeaderLemmas.{named-pushed, named-put}
use Rattle.sigv4.proofs.canonical_headers.put_signed.Goals as goal

pub returns : goal.returns
returns c = λ q.
    ap (λ items. named_values (header_pairs items) q) c.in_ok-push.ensures.items
    ∙ named-pushed c.drop_named.new.signed.items (c.args.name, Added c.args.value) q
    ∙ named-put (header_pairs c.args.signed.now.items) _ c.args.name.now c.args.value.now q c.drop_named.ensures
