use Rattle.std.proofs.Common.{◌≡◌, [], rules, sym, ◌∙◌}
use Rattle.std.proofs.lemmas.Bool.{false≢true}
use Rattle.aws_chunked.proofs.AnnouncementLemmas.{with_names, without_names}
use Rattle.aws_chunked.proofs.announcement.insert_names.Goals as goal

pub returns-then-is_empty : goal.returns-then-is_empty
returns-then-is_empty c = without_names c.args.trailers.now c.args.headers.now (c.is_empty.ensures.0 c.if-is_empty.true)

pub returns : goal.returns
returns c =
    let some : c.args.trailers.now ≡ [] → ⊥ = λ none. false≢true (sym c.if-is_empty.false ∙ c.is_empty.ensures.1 none) in
    search (rules, some, with_names)
