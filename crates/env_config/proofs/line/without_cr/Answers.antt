use Rattle.std.proofs.Common.{◌∙◌, ap, lit<, List, ℕ}
use Rattle.std.specs.Prelude.{Option, unwrap_or}
use Rattle.std.specs.Borrow.{Bor}
use Rattle.std.proofs.lemmas.Str.Pattern.{strip_suffix_char}
use Rattle.smithy_core.proofs.OptionLemmas.{copied_or}
use Rattle.env_config.proofs.LineLemmas.{before_is}
use Rattle.env_config.proofs.line.without_cr.Goals as goal

pub returns : goal.returns
returns c =
    let line = c.args.line in
    let front = c.strip_suffix.result in
    ap (λ (b : Bor (List ℕ)). b.now) c.unwrap_or.ensures ∙ copied_or front line
    ∙ ap (λ (o : Option (List ℕ)). unwrap_or o line.now) (before_is 13 line.now front (strip_suffix_char 13 line.now front c.strip_suffix.ensures.cases (lit< tt)))
