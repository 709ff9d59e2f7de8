use Rattle.env_config.proofs.ReaderLemmas.{grown_reads}
use Rattle.env_config.proofs.reader.Reader.continue_property.Goals as goal

pub returns-in-Some : goal.returns-in-Some
returns-in-Some g c keeps profile all reads =
    grown_reads (λ s. g.S.Sink.stands s profile) keeps all c.args.self.now c.in-Some.at c.continue_property.new.self c.args.line.now c.continue_property.result c.in-Some.is c.continue_property.ensures.kept
    c.continue_property.ensures.last reads
