-- The signing key of a day, and signatures under a key that is at hand, for a caller.
use Rattle.std.specs.Prelude.{◌≡◌, ◌⊎◌, ℕ, List, Option, Some, None}
use Rattle.hex.specs.Hex.{encode_lower}
use Rattle.mac_core.specs.Mac.{mac}
use Rattle.firuvaik_c.specs.Answers.{refused}
use Rattle.firuvaik_c.specs.Faults.{no_memory}
use Rattle.firuvaik_c.specs.declared.answer.Answer.{Answer}
use Rattle.firuvaik_c.specs.declared.fault.Fault.{Fault}

-- the signing key is written, or the reason why there is none is answered and nothing is
abbrev pub GivesKeyUnless : Option Fault → List ℕ → List ℕ → List ℕ → Answer → Type 0
GivesKeyUnless None key old new answer = (new ≡ key) × (answer ≡ record { status = 0; place = 0; length = 32 })
GivesKeyUnless (Some fault) key old new answer = (new ≡ old) × (answer ≡ refused fault)

-- the HMAC of a text under a key is written in lower-case hexadecimal, or memory ran out and nothing is
abbrev pub GivesSignature : List ℕ → List ℕ → List ℕ → List ℕ → Answer → Type 0
GivesSignature key text old new answer =
    ((new ≡ encode_lower (mac key text)) × (answer ≡ record { status = 0; place = 0; length = 64 })) ⊎ ((new ≡ old) × (answer ≡ refused no_memory))
