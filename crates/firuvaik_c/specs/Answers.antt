-- What a caller gets: a text in the room that was lent, where it fits, and the answer.
use Rattle.std.specs.Prelude.{◌≡◌, ℕ, Bool, nat_le, List, ◌++◌, drop, length, Result, Ok, Err, Vec, if◌then◌else◌}
use Rattle.std.specs.declared.alloc.Global.{Global}
use Rattle.firuvaik_c.specs.declared.answer.Answer.{Answer}
use Rattle.firuvaik_c.specs.declared.answer.Made.{Made}
use Rattle.firuvaik_c.specs.declared.fault.Fault.{Fault}

-- the text fits the room
abbrev pub fits : List ℕ → List ℕ → Bool
fits text room = nat_le (length text) (length room)

-- the room behind a call: the text at its front where it fits, and else as it was
abbrev pub room_filled : List ℕ → List ℕ → List ℕ
room_filled text room = if fits text room then text ++ drop (length text) room else room

-- the answer to a text: done, or more room is wanted; either way it has the length of the text
abbrev pub text_answer : List ℕ → List ℕ → Answer
text_answer text room = record { status = (if fits text room then 0 else 1); place = 0; length = length text }

-- the answer to a fault
abbrev pub refused : Fault → Answer
refused fault = record { status = fault.status; place = fault.place; length = 0 }

-- a text is lent, or a fault is answered and nothing written
abbrev pub Lends : Result (List ℕ) Fault → List ℕ → List ℕ → Answer → Type 0
Lends (Ok text) old new answer = (new ≡ room_filled text old) × (answer ≡ text_answer text old)
Lends (Err fault) old new answer = (new ≡ old) × (answer ≡ refused fault)

-- bytes are lent, or a fault is answered and nothing written
abbrev pub LendsMade : Result (Vec ℕ Global) Fault → List ℕ → List ℕ → Answer → Type 0
LendsMade (Ok made) old new answer = Lends (Ok made.items) old new answer
LendsMade (Err fault) old new answer = Lends (Err fault) old new answer

-- a signature is written where its text fits
abbrev pub signature_after : Made → List ℕ → List ℕ → List ℕ
signature_after made old room = if fits made.text.items room then made.signature else old

-- a text is lent with its signature, or a fault is answered and nothing written
abbrev pub LendsSigned : Result Made Fault → List ℕ → List ℕ → List ℕ → List ℕ → Answer → Type 0
LendsSigned (Ok made) code code_after old new answer = Lends (Ok made.text.items) old new answer × (code_after ≡ signature_after made code old)
LendsSigned (Err fault) code code_after old new answer = Lends (Err fault) old new answer × (code_after ≡ code)
