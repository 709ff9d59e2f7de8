use Rattle.std.proofs.Common.{◌∙◌, sym}
use Rattle.env_config.specs.Kept.{keeps_of}
use Rattle.env_config.proofs.ReaderLemmas.{kept_opens, other_opens}
use Rattle.env_config.proofs.reader.Reader.open.Goals as goal

pub returns-then-not-has_section : goal.returns-then-not-has_section
returns-then-not-has_section g c profile all reads =
    other_opens (λ s. g.S.Sink.stands s profile) (keeps_of c.args.kept.now) all c.close.new.self.sink c.args.name.now (c.in_ok-close.ensures profile all reads)
    (sym c.has_section.ensures ∙ c.if-not-has_section.true)

pub returns : goal.returns
returns g c profile all reads =
    kept_opens (λ s. g.S.Sink.stands s profile) (keeps_of c.args.kept.now) all c.close.new.self.sink c.open.new.self c.args.name.now (c.in_ok-close.ensures profile all reads)
    (λ at sections stands. c.in_ok-open.ensures profile at sections stands) (sym c.has_section.ensures ∙ c.if-not-has_section.false)
