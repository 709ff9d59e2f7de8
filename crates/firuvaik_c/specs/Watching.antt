-- A frame of a chain that is checked, for a caller.
use Rattle.std.specs.Prelude.{◌≡◌, ◌≢◌, ◌⊎◌, ℕ, ◌==◌, ◌&&◌, List, [], ◌∷◌, length, Option, Some, None, Result, Ok, Err, if◌then◌else◌}
use Rattle.std.specs.Str.{is_utf8}
use Rattle.hex.specs.Hex.{encode_lower}
use Rattle.smithy_core.specs.Header.{Header}
use Rattle.smithy_core.specs.HeaderValue.{byte_array_of}
use Rattle.smithy_core.specs.Message.{Parts}
use Rattle.eventstream.specs.Key.{Signer as KeySigner}
use Rattle.eventstream.specs.Read.{read}
use Rattle.eventstream.specs.declared.error.ErrorKind.{ErrorKind}
use Rattle.chain_watch.specs.Walk.{Passed, frame_test}
use Rattle.chain_watch.specs.declared.chain_fault.ChainFault.{ChainFault}
use Rattle.chain_watch.specs.declared.chain_fault.ChainFault.TheVariants.{NotChain, Mismatch, NoMemory}
use Rattle.chain_watch.specs.declared.chain_fault.ChainPart.{ChainPart}
use Rattle.chain_watch.specs.declared.chain_fault.ChainPart.TheVariants.{NotFrame, Headers, Date, Inner, AfterClosing, NoClosing}
use Rattle.firuvaik_c.specs.Answers.{refused}
use Rattle.firuvaik_c.specs.Faults.{fault_numbered, frame_fault, no_memory, not_text}
use Rattle.firuvaik_c.specs.Frames.{piece_at}
use Rattle.firuvaik_c.specs.Links.{is_text_scope, key_signer}
use Rattle.firuvaik_c.specs.declared.answer.Answer.{Answer}
use Rattle.firuvaik_c.specs.declared.fault.Fault.{Fault}
use Rattle.firuvaik_c.specs.declared.frames.FrameParts.{FrameParts}
use Rattle.firuvaik_c.specs.declared.lent.Signer.{Signer}
use Rattle.firuvaik_c.specs.declared.watch.CheckedFrame.{CheckedFrame}

-- bytes that aren't one frame alone
abbrev pub more_than_frame : Fault
more_than_frame = fault_numbered 50 0

-- the fault of a frame of which this isn't as in a chain
abbrev pub part_numbered : ChainPart → Fault
part_numbered NotFrame = more_than_frame
part_numbered Headers = fault_numbered 51 0
part_numbered Date = fault_numbered 52 0
part_numbered Inner = fault_numbered 53 0
part_numbered AfterClosing = fault_numbered 55 0
part_numbered NoClosing = fault_numbered 56 0

-- the fault of a frame that isn't the next one of a chain
abbrev pub chain_fault : ChainFault → Fault
chain_fault (NotChain place part) = part_numbered part
chain_fault (Mismatch place carried recomputed) = fault_numbered 54 0
chain_fault NoMemory = no_memory

-- the signature of a frame that passes the tests of a chain, or its fault
abbrev pub passed_signature : Result Passed ChainFault → Result (List ℕ) Fault
passed_signature (Ok passed) = Ok passed.signature
passed_signature (Err fault) = Err (chain_fault fault)

-- the signature of bytes that are one frame and pass the tests over the signature before, or why they don't
abbrev pub next_signature : KeySigner → List ℕ → List ℕ → Result (Parts × ℕ) ErrorKind → Result (List ℕ) Fault
next_signature signer before bytes (Err kind) = Err (frame_fault kind)
next_signature signer before bytes (Ok found) =
    if length bytes == found.1 then passed_signature (frame_test signer before 1 found.0) else Err more_than_frame

-- the same, by what a caller lends
abbrev pub lent_signature : Signer → List ℕ → List ℕ → Result (List ℕ) Fault
lent_signature signer before bytes =
    if is_text_scope signer && is_utf8 before then next_signature (key_signer signer) before bytes (read bytes) else Err not_text

-- where the payload of what was read stands, and how long the frame is
abbrev pub DescribesPayload : List ℕ → Result (Parts × ℕ) ErrorKind → FrameParts → Type 0
DescribesPayload bytes (Ok found) parts = (piece_at parts.payload parts.payload_length bytes ≡ found.0.payload) × (parts.length ≡ found.1)
DescribesPayload bytes (Err kind) parts = ⊥

-- a frame passes with its own signature, and its payload is described; or why it doesn't, or memory ran out
abbrev pub PassesFrame : Signer → List ℕ → List ℕ → Result CheckedFrame Fault → Type 0
PassesFrame signer bytes before (Ok checked) =
    (lent_signature signer before bytes ≡ Ok checked.signature) × DescribesPayload bytes (read bytes) checked.parts
PassesFrame signer bytes before (Err fault) = (lent_signature signer before bytes ≡ Err fault) ⊎ (fault ≡ no_memory)

-- what was found of a frame is written, or a fault is answered and nothing is
abbrev pub WritesFrame : Result CheckedFrame Fault → List ℕ → List ℕ → FrameParts → FrameParts → Answer → Type 0
WritesFrame (Ok checked) code code_after old new answer =
    (code_after ≡ checked.signature) × (new ≡ checked.parts) × (answer ≡ record { status = 0; place = 0; length = checked.parts.length })
WritesFrame (Err fault) code code_after old new answer = (code_after ≡ code) × (new ≡ old) × (answer ≡ refused fault)

-- a frame is checked over the signature before it, and what is found of it written
abbrev pub ChecksFrame : Signer → List ℕ → List ℕ → List ℕ → FrameParts → FrameParts → Answer → Type 0
ChecksFrame signer bytes before after old new answer =
    (made : Result CheckedFrame Fault) × PassesFrame signer bytes before made × WritesFrame made before after old new answer

-- ---- between the functions

-- bytes are one frame, which is read as the message; or why they are none
abbrev pub ReadsAlone : List ℕ → Result (Parts × ℕ) ErrorKind → Result Parts Fault → Type 0
ReadsAlone bytes read (Ok message) = read ≡ Ok (message, length bytes)
ReadsAlone bytes (Ok found) (Err fault) = ((length bytes ≢ found.1) × (fault ≡ more_than_frame)) ⊎ (fault ≡ no_memory)
ReadsAlone bytes (Err kind) (Err fault) = (fault ≡ frame_fault kind) ⊎ (fault ≡ no_memory)

-- a frame passes its tests, or why it doesn't, or memory ran out
abbrev pub TestsOne : Result Passed ChainFault → Result (Unit {0}) Fault → Type 0
TestsOne (Ok passed) (Ok _) = Unit {0}
TestsOne (Ok passed) (Err fault) = fault ≡ no_memory
TestsOne (Err reason) (Ok _) = ⊥
TestsOne (Err reason) (Err fault) = (fault ≡ chain_fault reason) ⊎ (fault ≡ no_memory)

-- the bytes of the first header's value
abbrev pub first_code : List Header → Option (List ℕ)
first_code [] = None
first_code (header ∷ headers) = byte_array_of header.value

-- the first header carries 32 bytes, of which these are the digits
abbrev pub HasCode : List Header → List ℕ → Type 0
HasCode headers digits = (code : List ℕ) × (first_code headers ≡ Some code) × (digits ≡ encode_lower code)

-- the first header carries no 32 bytes
abbrev pub LacksCode : List Header → Type 0
LacksCode headers = (code : List ℕ) → first_code headers ≡ Some code → length code ≡ 32 → ⊥
