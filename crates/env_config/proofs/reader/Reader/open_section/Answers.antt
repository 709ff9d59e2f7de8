use Rattle.std.proofs.Common.{subst, List, ℕ, Ok}
use Rattle.std.specs.Prelude.{Option}
use Rattle.env_config.specs.Kept.{keeps_of}
use Rattle.env_config.specs.Raw.{section_step}
use Rattle.env_config.specs.Reader.{ReadsStep}
use Rattle.env_config.proofs.reader.Reader.open_section.Goals as goal

pub returns-in_ok-open-in-Some : goal.returns-in_ok-open-in-Some
returns-in_ok-open-in-Some g c profile all reads =
    let keeps = keeps_of c.args.kept.now in
    let Step : Option (List ℕ) → Type 0 = λ name. ReadsStep (λ s. g.S.Sink.stands s profile) keeps (section_step keeps all name) c.open.new.self (Ok tt) in
    subst Step c.in-Some.ensures (c.in_ok-open-in-Some.ensures profile all reads)
