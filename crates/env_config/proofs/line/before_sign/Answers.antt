use Rattle.std.proofs.Common.{◌∙◌, ◌∷◌, []}
use Rattle.env_config.proofs.LineLemmas.{front_range}
use Rattle.env_config.proofs.SignLemmas.{comment_small, sign_absent, sign_found}
use Rattle.env_config.proofs.line.before_sign.Goals as goal

pub returns-in-Some : goal.returns-in-Some
returns-in-Some c =
    let at = c.in-Some.ensures.cases in
    c.range.ensures.value ∙ front_range c.args.text.now c.in-Some.place ∙ sign_found (35 ∷ 59 ∷ []) comment_small c.args.text.now c.in-Some.place at.0 at.1 at.3.0

pub returns-in-None : goal.returns-in-None
returns-in-None c = sign_absent (35 ∷ 59 ∷ []) comment_small c.args.text.now c.in-None.ensures.cases
