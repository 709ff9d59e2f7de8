-- The signed frames of a stream, for a caller.
use Rattle.std.specs.Prelude.{◌≡◌, ◌⊎◌, ℕ, ℤ, List, Option, Some, None, Result, Ok, Err, option_map}
use Rattle.std.specs.Option.{option_or}
use Rattle.smithy_core.specs.Message.{Parts}
use Rattle.eventstream.specs.Frame.{frame, unframed}
use Rattle.eventstream.specs.Link.{link_message, link_signature}
use Rattle.firuvaik_c.specs.Asked.{moment_at}
use Rattle.firuvaik_c.specs.Faults.{frame_fault, no_memory}
use Rattle.firuvaik_c.specs.Links.{key_signer, linkless}
use Rattle.firuvaik_c.specs.declared.answer.Made.{Made}
use Rattle.firuvaik_c.specs.declared.fault.Fault.{Fault}
use Rattle.firuvaik_c.specs.declared.lent.Signer.{Signer}

-- the signed message of bytes at a second, over the signature before it
abbrev pub next_message : Signer → ℤ → List ℕ → List ℕ → Parts
next_message signer seconds bytes signature = link_message (key_signer signer) signature bytes (moment_at seconds)

-- why there is no next frame: there is no link, or the message has no frame
abbrev pub text_frame_refusal : Signer → ℤ → List ℕ → List ℕ → Option Fault
text_frame_refusal signer seconds bytes signature =
    option_or (linkless signer seconds signature) (option_map frame_fault (unframed (next_message signer seconds bytes signature)))

-- the frame of a message that has one, and a signature
abbrev pub GivesLink : Parts → List ℕ → Made → Type 0
GivesLink message code made = (unframed message ≡ None) × (made.text.items ≡ frame message) × (made.signature ≡ code)

-- the frame of the signed message, and its signature; or the first reason why there is none, or memory ran out
abbrev pub GivesNextFrame : Signer → ℤ → List ℕ → List ℕ → Result Made Fault → Type 0
GivesNextFrame signer seconds bytes signature (Ok made) =
    (text_frame_refusal signer seconds bytes signature ≡ None) × (made.text.items ≡ frame (next_message signer seconds bytes signature))
    × (made.signature ≡ link_signature (key_signer signer) signature bytes (moment_at seconds))
GivesNextFrame signer seconds bytes signature (Err fault) = (text_frame_refusal signer seconds bytes signature ≡ Some fault) ⊎ (fault ≡ no_memory)
