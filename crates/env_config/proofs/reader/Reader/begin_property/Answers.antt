use Rattle.std.proofs.Common.{◌∙◌, sym}
use Rattle.env_config.specs.Kept.{keeps_of}
use Rattle.env_config.specs.Line.{property_of}
use Rattle.env_config.specs.Raw.{begun_property}
use Rattle.env_config.proofs.ReaderLemmas.{begun_reads}
use Rattle.env_config.proofs.reader.Reader.begin_property.Goals as goal

pub returns : goal.returns
returns g c profile all reads =
    begun_reads (λ s. g.S.Sink.stands s profile) (keeps_of c.args.kept.now) all c.args.self.now c.in-Some.at c.put_last.new.self.sink (begun_property (property_of c.args.line.now)) c.in_ok-next.next
    (sym c.take.ensures.value ∙ c.in-Some.is) c.in_ok-next.ensures (λ name sections hands. c.in_ok-put_last.ensures profile name sections hands) reads
