use Rattle.env_config.specs.Kept.{keeps_of}
use Rattle.env_config.specs.Raw.{raw}
use Rattle.env_config.proofs.ProfileSinkLemmas.{latest_read}
use Rattle.env_config.proofs.raw.read_latest.Goals as goal

pub returns : goal.returns
returns c =
    latest_read c.args.profile.now (raw (keeps_of c.args.kept.now) c.args.text.now) c.in_ok-sink.sink c.into_latest.result (c.in_ok-sink.ensures c.args.profile.now c.new.ensures) c.into_latest.ensures
