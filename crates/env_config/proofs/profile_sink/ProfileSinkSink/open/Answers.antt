use Rattle.std.proofs.Common.{refl}
use Rattle.env_config.proofs.ProfileSinkLemmas.{section_opens}
use Rattle.env_config.proofs.profile_sink.ProfileSinkSink.open.Goals as goal

pub returns : goal.returns
returns c profile at sections stands =
    section_opens profile c.args.name.now at sections c.args.self.now (record { profile = c.args.self.now.profile; latest = c.place_of.new.self; place = c.in_ok-place.place; group = c.group_of-group.result }) stands refl
    c.in_ok-place.ensures.now c.in_ok-place.ensures.place c.group_of-group.ensures
