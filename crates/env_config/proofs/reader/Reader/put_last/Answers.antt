use Rattle.std.proofs.Common.{◌∙◌, ap, sym}
use Rattle.env_config.specs.Kept.{keeps_of}
use Rattle.env_config.specs.LastProperty.{last_of}
use Rattle.env_config.proofs.ReaderLemmas.{put_handed}
use Rattle.env_config.proofs.reader.Reader.put_last.Goals as goal

pub returns-in_ok-put : goal.returns-in_ok-put
returns-in_ok-put g c profile name sections hands =
    let keeps = keeps_of c.args.kept.now in
    rw c.in-Some.is
    (put_handed (λ s. g.S.Sink.stands s profile) keeps name c.args.is_kept sections c.args.self.now.sink c.put.new.self (last_of c.in-Some.last) c.if-is_kept.true
    (ap keeps.key (sym c.as_str.ensures.value) ∙ sym c.has_key.ensures ∙ c.if-has_key.true) (λ before stands. c.in_ok-put.ensures profile name before stands) hands)
