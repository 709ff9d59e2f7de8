-- The chain that bytes are, in the words of the chain that is written.
use Rattle.std.specs.Prelude.{◌≡◌, ◌⊎◌, ℕ, ◌<◌, List, [], ◌∷◌, map, None, All, option_map, Result, Ok, Err}
use Rattle.std.specs.Global.{Vec}
use Rattle.std.specs.List.{concat, filter_map}
use Rattle.smithy_core.specs.Civil.{IsInYears}
use Rattle.smithy_core.specs.Moment.{Instant}
use Rattle.smithy_core.specs.Message.{Parts}
use Rattle.eventstream.specs.Frame.{frame, unframed}
use Rattle.eventstream.specs.Key.{Signer}
use Rattle.eventstream.specs.Laws.{IsProper, floored_message}
use Rattle.eventstream.specs.Link.{chain, link_message, link_signature}
use Rattle.eventstream.specs.Reading.{reading}
use Rattle.chain_watch.specs.Walk.{carried}
use Rattle.chain_watch.specs.declared.chain_fault.ChainFault.{ChainFault}
use Rattle.chain_watch.specs.declared.chain_fault.ChainFault.TheVariants.{NoMemory}

-- each frame of the chain is defined, those of the events, of their signed messages and of the closing one; each moment lies in the years 0 to 9999, and there
-- is one more than events
abbrev pub IsWholeChain : Signer → List Parts → List Instant → List ℕ → Type 0
IsWholeChain signer events [] signature = ⊥
IsWholeChain signer [] (at ∷ []) signature = IsInYears at × (unframed (link_message signer signature [] at) ≡ None)
IsWholeChain signer [] (at ∷ moments) signature = ⊥
IsWholeChain signer (event ∷ events) (at ∷ moments) signature =
    (unframed event ≡ None) × IsInYears at × (unframed (link_message signer signature (frame event) at) ≡ None)
    × IsWholeChain signer events moments (link_signature signer signature (frame event) at)

-- the moments that the frames carry, in order
abbrev pub carried_moments : List ℕ → List Instant
carried_moments bytes = filter_map (λ m. option_map (λ headers. headers.1) (carried m.headers)) (reading bytes).messages

-- the bytes are the chain of the events for the moments that its frames carry, one frame after another; the events have timestamps of whole milliseconds
pub record IsChainOf (signer : Signer) (seed bytes : List ℕ) (events : List Parts) : Type 0 where
  pub spelled : bytes ≡ concat (chain signer events (carried_moments bytes) seed)
  pub chained : IsWholeChain signer events (carried_moments bytes) seed
  pub whole : map floored_message events ≡ events

-- a byte
abbrev pub IsByte : ℕ → Type 0
IsByte b = b < 256

-- events are answered where the bytes are their chain; and a fault where they aren't the chain of any events, unless memory ran out
abbrev pub AnswersEvents : Signer → List ℕ → List ℕ → Result (Vec Parts) ChainFault → Type 0
AnswersEvents signer seed bytes (Ok events) = IsChainOf signer seed bytes events.items
AnswersEvents signer seed bytes (Err told) = ((events : List Parts) → All IsProper events → IsChainOf signer seed bytes events → ⊥) ⊎ (told ≡ NoMemory)
