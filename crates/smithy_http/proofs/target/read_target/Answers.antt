use Rattle.std.proofs.Common.{inr, sym, ◌∙◌}
use Rattle.std.proofs.lemmas.Bool.{false≢true}
use Rattle.smithy_http.proofs.target.read_target.Goals as goal

pub returns-then-is_authority_alone : goal.returns-then-is_authority_alone
returns-then-is_authority_alone c = inr (c.in_ok-uri.uri, c.in_ok-uri.ensures.ok, c.is_authority_alone.ensures.0 c.if-is_authority_alone.true)

pub returns : goal.returns
returns c = (c.in_ok-uri.ensures.ok, λ alone. false≢true (sym c.if-is_authority_alone.false ∙ c.is_authority_alone.ensures.1 alone))
