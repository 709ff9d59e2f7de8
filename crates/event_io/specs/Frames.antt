-- The frames that a receiver takes of its source, and their data.
use Rattle.std.specs.Prelude.{◌≡◌, ℕ, ◌==◌, if◌then◌else◌, List, [], ◌++◌, length, Option, Some, None}
use Rattle.std.specs.List.{flat_map, sum_by}
use Rattle.smithy_core.specs.declared.outside.frame_part.FramePart.{FramePart}
use Rattle.smithy_core.specs.declared.outside.frame_part.FramePart.TheVariants.{Data, Trailers}

-- the data of a frame: trailers have none
abbrev pub data_in : FramePart → List ℕ
data_in (Data piece) = piece
data_in (Trailers trailers) = []

-- the data of frames, one after another
abbrev pub frames_data : List FramePart → List ℕ
frames_data frames = flat_map data_in frames

-- one for a frame without data, as trailers and empty pieces are, and else none
abbrev pub one_if_idle : FramePart → ℕ
one_if_idle frame = if length (data_in frame) == 0 then 1 else 0

-- how many of the frames have no data
abbrev pub idle_count : List FramePart → ℕ
idle_count frames = sum_by one_if_idle frames

-- how many frames without data a call takes at most
abbrev pub most_idle : ℕ
most_idle = 65536

-- the frames were the first of what was left, and are gone
abbrev pub TakesFrames : List FramePart → Option (List FramePart) → Option (List FramePart) → Type 0
TakesFrames frames None now = now ≡ None
TakesFrames frames (Some before) None = ⊥
TakesFrames frames (Some before) (Some now) = before ≡ frames ++ now
