use Rattle.std.proofs.Common.{◌++◌, ap, sym, ◌∙◌}
use Rattle.smithy_core.specs.TextPairs.{named_values}
use Rattle.sigv4.specs.CanonicalHeaders.{header_pairs}
use Rattle.sigv4.specs.Trim.{trim_all}
use Rattle.sigv4.specs.declared.canonical_headers.SignedValue.TheVariants.{Given}
use Rattle.sigv4.proofs.HeaderLemmas.{named-pushed, signed-one}
use Rattle.sigv4.proofs.canonical_headers.append.Goals as goal

pub returns-in_ok-push : goal.returns-in_ok-push
returns-in_ok-push c = λ q.
    ap (λ items. named_values (header_pairs items) q) c.in_ok-push.ensures.items
    ∙ named-pushed c.args.signed.now.items (c.args.name, Given c.args.value) q
    ∙ ap (λ values. named_values (header_pairs c.args.signed.now.items) q ++ values) (signed-one _ (c.args.name.now, trim_all c.args.value.now) q (sym c.is_signed.ensures ∙ c.if-is_signed.true))
