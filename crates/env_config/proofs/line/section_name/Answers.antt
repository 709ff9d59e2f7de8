use Rattle.std.proofs.Common.{◌≡◌, ◌∙◌, ap, lit<, List, ℕ, Some, None, option_copied}
use Rattle.std.specs.List.{before_first}
use Rattle.std.proofs.lemmas.Str.Pattern.{strip_prefix_char, strip_suffix_char}
use Rattle.env_config.specs.Line.{after_byte, before_bracket, is_comment_sign, section_name, trimmed}
use Rattle.env_config.proofs.LineLemmas.{after_is, before_is}
use Rattle.env_config.proofs.line.section_name.Goals as goal

-- what is left of the line
left_is : (line trimmed_line cut text : List ℕ) → trimmed_line ≡ trimmed line → cut ≡ before_first is_comment_sign trimmed_line → text ≡ trimmed cut → text ≡ trimmed (before_first is_comment_sign (trimmed line))
left_is line trimmed_line cut text first second third = third ∙ ap trimmed second ∙ ap (λ (xs : List ℕ). trimmed (before_first is_comment_sign xs)) first

pub returns-in_err-strip_prefix : goal.returns-in_err-strip_prefix
unfolding section_name
returns-in_err-strip_prefix c =
    let text = c.trim-text.result.now in
    ap option_copied c.from_residual.ensures
    ∙ ap before_bracket (after_is 91 text None (strip_prefix_char 91 text None c.in_err-strip_prefix.ensures.cases (lit< tt)))
    ∙ ap (λ (xs : List ℕ). before_bracket (after_byte 91 xs)) (left_is c.args.line.now c.trim.result.now c.before_sign.result.now text c.trim.ensures c.before_sign.ensures c.trim-text.ensures)

pub returns : goal.returns
unfolding section_name
returns c =
    let text = c.trim-text.result.now in
    let inner = c.in_ok-strip_prefix.field-0 in
    before_is 93 inner.now c.strip_suffix.result (strip_suffix_char 93 inner.now c.strip_suffix.result c.strip_suffix.ensures.cases (lit< tt))
    ∙ ap before_bracket (after_is 91 text (Some inner) (strip_prefix_char 91 text (Some inner) c.in_ok-strip_prefix.ensures.cases (lit< tt)))
    ∙ ap (λ (xs : List ℕ). before_bracket (after_byte 91 xs)) (left_is c.args.line.now c.trim.result.now c.before_sign.result.now text c.trim.ensures c.before_sign.ensures c.trim-text.ensures)
