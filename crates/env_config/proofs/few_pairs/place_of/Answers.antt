use Rattle.std.proofs.Common.{◌∙◌, ap, sym, String, Global}
use Rattle.std.specs.String.{string_bytes}
use Rattle.env_config.specs.Texts.{text_cmp}
use Rattle.env_config.proofs.PlaceLemmas.{at_equal, before_greater, behind_smaller}
use Rattle.env_config.proofs.few_pairs.place_of.Goals as goal

pub returns-in-Less : goal.returns-in-Less
returns-in-Less c =
    let key = c.args.key.now in
    before_greater c.args.pairs.now key c.loop-at.at c.index-pairs-at.result c.loop-at.invariant c.loop-at-test.true c.index-pairs-at.is
    (ap (λ (e : String Global × String Global). text_cmp key (string_bytes e.0)) c.index-pairs-at.is ∙ ap (text_cmp key) (sym c.as_str.ensures.value) ∙ sym c.cmp.ensures ∙ c.in-Less.is)

pub returns-in-Equal : goal.returns-in-Equal
returns-in-Equal c =
    let key = c.args.key.now in
    at_equal c.args.pairs.now key c.loop-at.at c.index-pairs-at.result c.loop-at.invariant c.loop-at-test.true c.index-pairs-at.is
    (ap (λ (e : String Global × String Global). text_cmp key (string_bytes e.0)) c.index-pairs-at.is ∙ ap (text_cmp key) (sym c.as_str.ensures.value) ∙ sym c.cmp.ensures ∙ c.in-Equal.is)

pub loop-at-preserved : goal.loop-at-preserved
loop-at-preserved c =
    let key = c.args.key.now in
    behind_smaller c.args.pairs.now key c.loop-at.at c.index-pairs-at.result c.loop-at.invariant c.loop-at-test.true c.index-pairs-at.is
    (ap (λ (e : String Global × String Global). text_cmp key (string_bytes e.0)) c.index-pairs-at.is ∙ ap (text_cmp key) (sym c.as_str.ensures.value) ∙ sym c.cmp.ensures ∙ c.in-Greater.is)
