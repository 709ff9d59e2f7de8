-- How a frame of a body shows itself.
use Rattle.std.specs.Prelude.{ℕ, List, ◌++◌, codes, length}
use Rattle.smithy_core.specs.Blob.{byte_count}
use Rattle.smithy_core.specs.TextPairs.{value_sizes}
use Rattle.smithy_core.specs.declared.outside.frame_part.FramePart.{FramePart}
use Rattle.smithy_core.specs.declared.outside.frame_part.FramePart.TheVariants as part
use Rattle.smithy_core.specs.declared.outside.frame_part.Polled.{Polled}
use Rattle.smithy_core.specs.declared.outside.frame_part.Polled.TheVariants.{Data, Trailers, NotYet, End, Failed, NoMemory}

-- the names of trailers, and how long the values are
abbrev pub trailer_sizes : List (List ℕ × List ℕ) → List ℕ
trailer_sizes trailers = codes "Trailers(" ++ (value_sizes trailers ++ codes ")")

-- how many bytes a piece of data has, or the names of trailers and how long the values are
abbrev pub part_size : FramePart → List ℕ
part_size (part.Data piece) = byte_count (codes "Data") (length piece)
part_size (part.Trailers trailers) = trailer_sizes trailers

-- the size of a frame, or the name of another answer
abbrev pub polled_size : Polled → List ℕ
polled_size (Data piece) = byte_count (codes "Data") (length piece)
polled_size (Trailers trailers) = trailer_sizes trailers
polled_size NotYet = codes "NotYet"
polled_size End = codes "End"
polled_size Failed = codes "Failed"
polled_size NoMemory = codes "NoMemory"
