use Rattle.std.proofs.Common.{◌∙◌, sym}
use Rattle.env_config.specs.Kept.{keeps_of}
use Rattle.env_config.proofs.ReaderLemmas.{section_closed}
use Rattle.env_config.proofs.reader.Reader.close.Goals as goal

pub returns-in-Some : goal.returns-in-Some
returns-in-Some g c profile all reads =
    section_closed (λ s. g.S.Sink.stands s profile) (keeps_of c.args.kept.now) all c.args.self.now c.in-Some.at c.put_last.new.self.sink c.put_last.result (sym c.take.ensures.value ∙ c.in-Some.is)
    (λ name sections hands. c.put_last.ensures profile name sections hands) reads
