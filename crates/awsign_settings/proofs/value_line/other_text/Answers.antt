use Rattle.std.proofs.Common.{◌≡◌, ℕ, ◌+◌, ◌++◌, List, Bor, IfOk, codes, map, take, drop, ap, ap₂, sym, subst, string_bytes, ◌∙◌}
use Rattle.std.proofs.lemmas.List.{drop-map, take-map}
use Rattle.std.specs.List.{join_by}
use Rattle.awsign_settings.specs.ValueLine.{other_text, text_of_lines}
use Rattle.awsign_run.proofs.JoinLemmas.{joined_map}
use Rattle.awsign_settings.proofs.ValueLineLemmas.{lines_from}
use Rattle.awsign_settings.proofs.value_line.other_text.Goals as goal

pub returns : goal.returns
unfolding other_text
returns c =
    let now : Bor (List ℕ) → List ℕ = λ line. line.now in
    let lines = c.args.lines.now in
    let before : string_bytes c.in_ok-before.before ≡ text_of_lines (take c.args.at (map now lines)) =
    c.in_ok-before.ensures.ok ∙ joined_map now (codes "\n") (take c.args.at lines) ∙ ap text_of_lines (sym (take-map now c.args.at lines)) in
    let behind : string_bytes c.in_ok-behind.behind ≡ text_of_lines (drop (c.args.at + 1) (map now lines)) =
    c.in_ok-behind.ensures.ok ∙ ap (join_by now (codes "\n")) (lines_from (c.args.at + 1) lines) ∙ joined_map now (codes "\n") (drop (c.args.at + 1) lines) ∙ ap text_of_lines (sym (drop-map now (c.args.at + 1) lines)) in
    let Given : List ℕ → Type 0 = λ made. IfOk c.format.result (λ text. string_bytes text ≡ made) in
    subst Given (ap₂ (λ (b e : List ℕ). b ++ (codes "\n" ++ (c.args.key.now ++ (codes " = ?\n" ++ e)))) before behind) c.format.ensures.ok
