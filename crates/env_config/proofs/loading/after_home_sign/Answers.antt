use Rattle.std.proofs.Common.{◌∙◌, ap, sym, lit<, Bool, Some, None, cond, option_copied}
use Rattle.std.proofs.lemmas.Str.Pattern.{strip_prefix_char}
use Rattle.env_config.specs.Loading.{below_home}
use Rattle.env_config.proofs.LineLemmas.{after_is}
use Rattle.env_config.proofs.loading.after_home_sign.Goals as goal

pub returns-in_err-rest : goal.returns-in_err-rest
returns-in_err-rest c =
    let path = c.args.path.now in
    ap option_copied c.from_residual.ensures
    ∙ ap below_home (after_is 126 path None (strip_prefix_char 126 path None c.in_err-rest.ensures.cases (lit< tt)))

pub returns-then-is_below_home : goal.returns-then-is_below_home
returns-then-is_below_home c =
    let path = c.args.path.now in
    let rest = c.in_ok-rest.rest in
    sym (ap (λ (v : Bool). cond v (Some rest.now) None) (sym c.is_below_home.ensures ∙ c.if-is_below_home.true))
    ∙ ap below_home (after_is 126 path (Some rest) (strip_prefix_char 126 path (Some rest) c.in_ok-rest.ensures.cases (lit< tt)))

pub returns-else-is_below_home : goal.returns-else-is_below_home
returns-else-is_below_home c =
    let path = c.args.path.now in
    let rest = c.in_ok-rest.rest in
    sym (ap (λ (v : Bool). cond v (Some rest.now) None) (sym c.is_below_home.ensures ∙ c.if-is_below_home.false))
    ∙ ap below_home (after_is 126 path (Some rest) (strip_prefix_char 126 path (Some rest) c.in_ok-rest.ensures.cases (lit< tt)))
