use Rattle.std.proofs.Common.{ap, rules, ◌∙◌}
use Rattle.std.proofs.lemmas.Int.{to_z-of_z}
use mir.Syntax.{w64}
use mir.Val.{SFits}
use Rattle.firuvaik_c.specs.Asked.{moment_at}
use Rattle.firuvaik_c.proofs.LinkLemmas.{link_able, link_same}
use Rattle.firuvaik_c.proofs.link.Link.new.Goals as goal

pub returns : goal.returns
returns c =
    let texts = c.in_ok-texts.ensures in
    let fits : SFits w64 c.args.seconds = search rules in
    let when = c.new-at.ensures ∙ ap moment_at (to_z-of_z w64 c.args.seconds fits) in
    let previous_signature = c.in_ok-previous_signature.ensures.1 ∙ c.as_slice.ensures in
    let code = rw c.as_slice.ensures at c.in_ok-previous_signature.ensures.0 in
    let years = rw when at c.in_ok-test_years.ensures in (
      link_able c.args.signer.now c.args.seconds c.args.previous_signature.now texts.texts code years,
      link_same c.args.signer.now c.args.seconds c.args.previous_signature.now _ _ _ _ _ (c.in_ok-identity.ensures.1 ∙ texts.secret) texts.region texts.service when previous_signature,
    )
