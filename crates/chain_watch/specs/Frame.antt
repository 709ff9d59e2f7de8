-- What the tests of a frame promise: a reader of a watch needs none of it.
use Rattle.std.specs.Prelude.{◌≡◌, ℕ, ◌⊎◌, List, Option, Some, None, Result, Ok, Err, string_bytes}
use Rattle.smithy_core.specs.Message.{Parts}
use Rattle.smithy_core.specs.Moment.{Instant}
use Rattle.eventstream.specs.Read.{announced, read}
use Rattle.eventstream.specs.declared.error.ErrorKind.{ErrorKind}
use Rattle.eventstream.specs.declared.error.ErrorKind.TheVariants as kinds
use Rattle.chain_watch.specs.Walk.{Passed, inner_event}
use Rattle.chain_watch.specs.declared.chain_fault.ChainFault.{ChainFault}
use Rattle.chain_watch.specs.declared.chain_fault.ChainFault.TheVariants.{NotChain, NoMemory}
use Rattle.chain_watch.specs.declared.chain_fault.ChainPart.{ChainPart}
use Rattle.chain_watch.specs.declared.chain_fault.ChainPart.TheVariants.{Inner}
use Rattle.chain_watch.specs.declared.frame.CheckedFrame.{CheckedFrame}
use Rattle.chain_watch.specs.declared.frame.LinkHeaders.{LinkHeaders}

-- what headers carry
abbrev pub carried_parts : LinkHeaders → List ℕ × Instant
carried_parts headers = (headers.code, headers.date)

-- the fault of the frame at a place whose part isn't read or written: `NoMemory` stays what it is
abbrev pub part_fault : ℕ → ChainPart → ErrorKind → ChainFault
part_fault place part kinds.NoMemory = NoMemory
part_fault place part kind = NotChain place part

-- what the payload holds is the answer, and else it is at fault, or memory ran out
abbrev pub HoldsEvent : ℕ → List ℕ → Result (Option Parts) ChainFault → Type 0
HoldsEvent place payload (Ok event) = inner_event payload ≡ Some event
HoldsEvent place payload (Err told) = ((inner_event payload ≡ None) × (told ≡ NotChain place Inner)) ⊎ (told ≡ NoMemory)

-- the message that it begins with is the answer, and else it is at fault, or memory ran out
abbrev pub ReadsEvent : ℕ → List ℕ → Result Parts ChainFault → Type 0
ReadsEvent place payload (Ok event) = read payload ≡ Ok (event, announced payload)
ReadsEvent place payload (Err told) = HoldsEvent place payload (Err told)

-- it holds this event, and else it is at fault, or memory ran out
abbrev pub HoldsThis : ℕ → List ℕ → Parts → Result (Unit {0}) ChainFault → Type 0
HoldsThis place payload event (Ok _) = inner_event payload ≡ Some (Some event)
HoldsThis place payload event (Err told) = HoldsEvent place payload (Err told)

-- the tests of a frame have this answer, or memory ran out
abbrev pub TestsFrame : Result Passed ChainFault → Result CheckedFrame ChainFault → Type 0
TestsFrame tested (Ok checked) = tested ≡ Ok (record { event = checked.event; signature = string_bytes checked.signature })
TestsFrame tested (Err told) = (tested ≡ Err told) ⊎ (told ≡ NoMemory)
