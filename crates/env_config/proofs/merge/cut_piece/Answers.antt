use Rattle.std.proofs.Common.{◌∙◌, ◌∷◌, ap₂, sym, lit<, Some, None, List, ℕ, eqb}
use Rattle.std.specs.List.{slice_split}
use Rattle.std.proofs.lemmas.List.Splits.{slice_split_first}
use Rattle.std.proofs.lemmas.Str.Pattern.{split_once_first, split_parts}
use Rattle.env_config.proofs.MergeLemmas.{one_piece}
use Rattle.env_config.proofs.merge.cut_piece.Goals as goal

pub returns-in-Some-clause-pieces : goal.returns-in-Some-clause-pieces
returns-in-Some-clause-pieces c =
    let at = split_once_first 10 c.args.text.now (Some (c.in-Some.piece, c.in-Some.rest)) c.in-Some.ensures.cases (lit< tt) in
    slice_split_first (λ b. eqb b 10) c.args.text.now 0 at.0
    ∙ sym (ap₂ (λ (piece rest : List ℕ). piece ∷ slice_split (λ b. eqb b 10) rest) at.1 at.2)

pub returns-in-None-clause-pieces : goal.returns-in-None-clause-pieces
returns-in-None-clause-pieces c = one_piece c.args.text.now (split_parts 10 c.args.text.now None c.in-None.ensures.cases (lit< tt))
