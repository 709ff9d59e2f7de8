use Rattle.std.proofs.Common.{◌∙◌, ◌∷◌, ap, sym, lit<, Some, None, List, ℕ}
use Rattle.std.proofs.lemmas.Str.Pattern.{split_parts}
use Rattle.env_config.specs.Line.{profile_lines}
use Rattle.env_config.proofs.LineLemmas.{lines_first, lines_last}
use Rattle.env_config.proofs.line.cut_line.Goals as goal

pub returns-in-Some-clause-lines : goal.returns-in-Some-clause-lines
returns-in-Some-clause-lines c =
    let line = c.in-Some.line in
    let rest = c.in-Some.rest in
    let parts = split_parts 10 c.args.text.now (Some (line, rest)) c.in-Some.ensures.cases (lit< tt) in
    ap profile_lines parts.0 ∙ lines_first line.now rest.now parts.1 ∙ ap (λ (xs : List ℕ). xs ∷ profile_lines rest.now) (sym c.without_cr.ensures)

pub returns-in-None-clause-lines : goal.returns-in-None-clause-lines
returns-in-None-clause-lines c =
    lines_last c.args.text.now c.requires (split_parts 10 c.args.text.now None c.in-None.ensures.cases (lit< tt))
