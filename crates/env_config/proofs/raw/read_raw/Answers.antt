use Rattle.std.proofs.Common.{◌∙◌, rules, ap, sym, Ok, List, ℕ, []}
use Rattle.env_config.specs.Kept.{keeps_of}
use Rattle.env_config.specs.Texts.{Named}
use Rattle.env_config.proofs.ApartLemmas.{read_apart}
use Rattle.env_config.proofs.raw.read_raw.Goals as goal

pub returns-in_err-sink-clause-reads : goal.returns-in_err-sink-clause-reads
returns-in_err-sink-clause-reads c =
    let reads = c.in_err-sink.ensures [] c.new.ensures in
    search rules

pub returns-clause-reads : goal.returns-clause-reads
returns-clause-reads c =
    let reads = c.in_ok-sink.ensures [] c.new.ensures in
    reads.is ∙ ap (λ (sections : Named (List (List ℕ × List ℕ))). Ok sections) (reads.handed.stands.sections_are ∙ sym c.in_ok-into_sections.ensures)

pub returns-clause-apart : goal.returns-clause-apart
returns-clause-apart c = read_apart (keeps_of c.args.kept.now) c.args.text.now c.in_ok-into_sections.field-0 (returns-clause-reads c)
