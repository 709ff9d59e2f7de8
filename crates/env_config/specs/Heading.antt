-- The heading of the code, as texts.
use Rattle.std.specs.Prelude.{option_copied}
use Rattle.env_config.specs.declared.heading.Heading.{Heading}
use Rattle.env_config.specs.Sections as sections

abbrev pub heading_seen : Heading → sections.Heading
heading_seen heading = record { prefix = option_copied heading.prefix; name = heading.name.now }
