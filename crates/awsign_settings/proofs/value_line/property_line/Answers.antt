use Rattle.std.proofs.Common.{◌<◌, length, arith, sym, ◌∙◌}
use Rattle.env_config.specs.Source.{file_of}
use Rattle.awsign_settings.specs.ValueLine.{has_value}
use Rattle.awsign_settings.proofs.ValueLineLemmas.{first_step}
use Rattle.awsign_settings.proofs.value_line.property_line.Goals as goal

pub loop-at-preserved : goal.loop-at-preserved
loop-at-preserved c =
    let count = length c.as_slice-lines.result.now in
    let within : c.loop-at.at < count = omega (arith, c.loop-at-test.true) in
    sym (first_step (has_value c.args.profile.now (file_of c.args.file.now) c.args.part c.args.value.now) c.loop-at.at count within (sym c.in_ok-has_value.ensures ∙ c.if-branch.false))
    ∙ c.loop-at.invariant
