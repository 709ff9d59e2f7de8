-- What a fault of a chain shows. The signature that was recomputed is none of it: for whoever sent the frame it is the right one.
use Rattle.std.specs.Prelude.{ℕ, List, ◌++◌, codes}
use Rattle.std.specs.Fmt.{decimal}
use Rattle.chain_watch.specs.declared.chain_fault.ChainPart.{ChainPart}
use Rattle.chain_watch.specs.declared.chain_fault.ChainPart.TheVariants.{NotFrame, Headers, Date, Inner, AfterClosing, NoClosing}
use Rattle.chain_watch.specs.declared.chain_fault.ChainFault.{ChainFault}
use Rattle.chain_watch.specs.declared.chain_fault.ChainFault.TheVariants.{NotChain, Mismatch, NoMemory}

-- the name of a part of a frame in a chain
abbrev pub chain_part_name : ChainPart → List ℕ
chain_part_name NotFrame = codes "NotFrame"
chain_part_name Headers = codes "Headers"
chain_part_name Date = codes "Date"
chain_part_name Inner = codes "Inner"
chain_part_name AfterClosing = codes "AfterClosing"
chain_part_name NoClosing = codes "NoClosing"

-- what is said of the frame at which a part is at fault
abbrev pub chain_part_text : ChainPart → List ℕ
chain_part_text NotFrame = codes "isn't a whole frame"
chain_part_text Headers = codes "doesn't carry a signature and then a date alone"
chain_part_text Date = codes "has no whole second in the years 0 to 9999 as its date"
chain_part_text Inner = codes "has a payload that is no frame of a message"
chain_part_text AfterClosing = codes "follows the closing frame"
chain_part_text NoClosing = codes "is missing: the chain has no closing frame"

-- what a fault is printed as
abbrev pub chain_fault_text : ChainFault → List ℕ
chain_fault_text (NotChain frame part) = codes "frame " ++ (decimal frame ++ (codes " " ++ chain_part_text part))
chain_fault_text (Mismatch frame carried recomputed) = codes "frame " ++ (decimal frame ++ codes " carries another signature than its own")
chain_fault_text NoMemory = codes "no memory"

-- what a fault of a chain is shown as, for whoever looks for a mistake: no recomputed signature
abbrev pub chain_fault_shown : ChainFault → List ℕ
chain_fault_shown (NotChain frame part) = codes "NotChain { frame: " ++ (decimal frame ++ (codes ", part: " ++ (chain_part_name part ++ codes " }")))
chain_fault_shown (Mismatch frame carried recomputed) = codes "Mismatch { frame: " ++ (decimal frame ++ codes ", .. }")
chain_fault_shown NoMemory = codes "NoMemory"
