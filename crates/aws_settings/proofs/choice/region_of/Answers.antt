use Rattle.std.proofs.Common.{refl}
use Rattle.aws_settings.proofs.choice.region_of.Goals as goal

pub returns : goal.returns
returns c =
    rw (c.either.ensures, c.either-usual.ensures, c.either-set.ensures, c.variable.ensures, c.variable-2.ensures, c.filled_text.ensures) refl
