use Rattle.std.proofs.Common.{rules}
use Rattle.env_config.specs.Kept.{keeps_of}
use Rattle.env_config.specs.Raw.{profile_line_step}
use Rattle.env_config.proofs.reader.Reader.take_line.Goals as goal

pub returns-then-starts_with : goal.returns-then-starts_with
unfolding profile_line_step
returns-then-starts_with g c profile all reads =
    let gives = c.open_section.ensures profile all reads in
    search rules

pub returns-then-starts_with-2 : goal.returns-then-starts_with-2
unfolding profile_line_step
returns-then-starts_with-2 g c profile all reads =
    let gives = c.continue_property.ensures (keeps_of c.args.kept.now) profile all reads in
    search rules

pub returns : goal.returns
unfolding profile_line_step
returns g c profile all reads =
    let gives = c.begin_property.ensures profile all reads in
    search rules
