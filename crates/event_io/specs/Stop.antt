-- Why a call of a receiver finds no message.
use Rattle.std.specs.Prelude.{◌≡◌, false, if◌then◌else◌}
use Rattle.eventstream.specs.Error.{error_kind}
use Rattle.eventstream.specs.declared.error.Error.{Error}
use Rattle.event_io.specs.ResponseFault.{is_want_kind}
use Rattle.event_io.specs.declared.stop.Stop.{Stop}
use Rattle.event_io.specs.declared.stop.Stop.TheVariants.{CutOff, End, Faulty, NoMemory}

-- the fault of a frame, of which `NoMemory` is told as such
abbrev pub stop_of : Error → Stop
stop_of error = if is_want_kind (error_kind error) then NoMemory else Faulty error

-- a fault isn't `NoMemory`
abbrev pub NamesStopWant : Stop → Type 0
NamesStopWant (Faulty error) = is_want_kind (error_kind error) ≡ false
NamesStopWant why = Unit {0}

-- the stream ended, or memory ran out at its end
abbrev pub IsEnd : Stop → Type 0
IsEnd End = Unit {0}
IsEnd (CutOff left) = Unit {0}
IsEnd NoMemory = Unit {0}
IsEnd why = ⊥
