use Rattle.std.proofs.Common.{refl, string_bytes}
use Rattle.env_config.proofs.SectionsSinkLemmas.{put_stands}
use Rattle.env_config.proofs.sections_sink.SectionsSinkSink.put.Goals as goal

pub returns : goal.returns
returns c profile name sections stands =
    put_stands c.args.self.now (record { sections = c.args.self.now.sections; name = c.args.self.now.name; properties = c.put.new.self }) name (string_bytes c.args.key) (string_bytes c.args.value) sections c.put.result
    stands refl refl c.put.ensures
