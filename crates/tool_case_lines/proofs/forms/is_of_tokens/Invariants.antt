-- What the tokens before this one leave of the word is text.
use denote.Text.{Utf8}
use denote.Shadow.{shadow}
use Rattle.tool_case_lines.proofs.forms.is_of_tokens.Given as goal

abbrev pub invariant-loop-token : goal.invariant-loop-token
invariant-loop-token l =
    (goal.iterator-loop-token).can_next l.token-iterator ×
    (goal.iterator-loop-token).is_finite l.token-iterator ×
    shadow (Utf8 l.rest)
