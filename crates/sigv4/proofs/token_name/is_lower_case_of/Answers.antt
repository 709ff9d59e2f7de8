use Rattle.std.proofs.Common.{sym, ◌∙◌}
use Rattle.sigv4.proofs.NameLemmas.{lower-of, lower-of-none}
use Rattle.sigv4.proofs.token_name.is_lower_case_of.Goals as goal

pub returns-then-is_lower : goal.returns-then-is_lower
returns-then-is_lower c =
    lower-of c.args.name.now c.args.other.now _ (sym c.is_lower.ensures ∙ c.if-is_lower.true) c.eq_ignore_ascii_case.ensures.test

pub returns-else-is_lower : goal.returns-else-is_lower
returns-else-is_lower c = c.if-is_lower.false ∙ lower-of-none c.args.name.now c.args.other.now (sym c.is_lower.ensures ∙ c.if-is_lower.false)
