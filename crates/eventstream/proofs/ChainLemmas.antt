-- A chain, and the frames of a chain that is begun.
use Rattle.std.proofs.Common.{◌≡◌, ℕ, ◌+◌, List, [], ◌∷◌, length, refl, ap, arith}
use Rattle.smithy_core.specs.Message.{Parts}
use Rattle.smithy_core.specs.Moment.{Instant}
use Rattle.eventstream.specs.Frame.{frame}
use Rattle.eventstream.specs.Key.{Signer}
use Rattle.eventstream.specs.Link.{begun, chain, link_message, link_signature}

-- with one moment more than events all frames of the chain are there
pub begun_whole : (signer : Signer) (events : List Parts) (moments : List Instant) (signature : List ℕ) → length moments ≡ length events + 1
    → begun signer events moments signature ≡ chain signer events moments signature
begun_whole signer [] [] signature one_more = absurd (omega (arith, one_more))
begun_whole signer [] (t ∷ []) signature one_more = refl
begun_whole signer [] (t ∷ u ∷ ts) signature one_more = absurd (omega (arith, one_more))
begun_whole signer (event ∷ events) [] signature one_more = absurd (omega (arith, one_more))
begun_whole signer (event ∷ events) (t ∷ ts) signature one_more =
    ap (λ (frames : List (List ℕ)). frame (link_message signer signature (frame event) t) ∷ frames)
    (begun_whole signer events ts (link_signature signer signature (frame event) t) (omega (arith, one_more)))
