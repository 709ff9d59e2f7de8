use Rattle.std.proofs.Common.{◌∙◌, sym, lit<, Some}
use Rattle.std.proofs.lemmas.Slice.Eq.{bytes_eq-Decides}
use Rattle.std.proofs.lemmas.Str.Pattern.{split_once_first}
use Rattle.env_config.proofs.OnePairLemmas.{Both, put_over_one}
use Rattle.env_config.proofs.texts.has_no_other.Goals as goal

pub returns-in-Some : goal.returns-in-Some
returns-in-Some c same =
    let both : Both = (c.in-Some.before, c.in-Some.field-0-1) in
    put_over_one c.args.text.now c.args.key.now both (split_once_first 61 c.args.text.now (Some both) c.in-Some.ensures.cases (lit< tt))
    ((bytes_eq-Decides c.in-Some.before.now c.args.key.now).0 (sym c.eq.ensures ∙ same))
