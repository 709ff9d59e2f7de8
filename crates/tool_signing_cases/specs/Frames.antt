-- What a source of given frames answers.
use Rattle.std.specs.Prelude.{◌≤◌, length}
use Rattle.smithy_core.specs.declared.outside.frame_part.Polled.{Polled}
use Rattle.smithy_core.specs.declared.outside.frame_part.Polled.TheVariants.{Data, Trailers, NoMemory}

-- a frame, of which data isn't too long, or memory ran out
abbrev pub IsFrame : Polled → Type 0
IsFrame (Data piece) = length piece ≤ 4294967295
IsFrame (Trailers trailers) = Unit {0}
IsFrame NoMemory = Unit {0}
IsFrame _ = ⊥
