-- The lines that show events.
use Rattle.std.specs.Prelude.{◌≡◌, ℕ, List, ◌++◌, All, codes, None}
use Rattle.std.specs.Fmt.{decimal}
use Rattle.std.specs.List.{flat_map}
use Rattle.hex.specs.Hex.{encode_lower}
use Rattle.smithy_core.specs.Message.{Parts}
use Rattle.smithy_core.specs.Text.{line}
use Rattle.eventstream.specs.Frame.{frame, unframed}

-- how many events there are, as a line
abbrev pub count_line : ℕ → List ℕ
count_line count = line (codes "ok " ++ decimal count)

-- the frame of an event in hexadecimal, as a line
abbrev pub event_line : Parts → List ℕ
event_line event = line (encode_lower (frame event))

-- the frames of events in hexadecimal, a line each
abbrev pub event_lines : List Parts → List ℕ
event_lines events = flat_map event_line events

-- each event has a frame
abbrev pub AreFramed : List Parts → Type 0
AreFramed events = All (λ event. unframed event ≡ None) events
