use Rattle.std.proofs.Common.{string_bytes}
use Rattle.env_config.proofs.ProfileSinkLemmas.{value_passes, value_stands}
use Rattle.env_config.proofs.profile_sink.ProfileSinkSink.put.Goals as goal

pub returns-in-Some : goal.returns-in-Some
returns-in-Some c profile name sections stands =
    value_stands profile name (string_bytes c.args.key) (string_bytes c.args.value) sections c.args.self.now stands c.put.new.self c.in-Some.group c.put.result c.in-Some.is c.put.ensures

pub returns-in-None : goal.returns-in-None
returns-in-None c profile name sections stands = value_passes profile name (string_bytes c.args.key) (string_bytes c.args.value) sections c.args.self.now stands c.in-None.is
