-- The walk over the frames of a chain, frame by frame.
use Rattle.std.proofs.Common.{◌≡◌, ℕ, zero, suc, ◌+◌, ◌<◌, ◌≤◌, List, [], ◌∷◌, ◌++◌, length, Option, Some, None, Result, Ok, Err, refl, sym, ap, ◌∙◌, append-nil, append_assoc, arith}
use Rattle.eventstream.specs.Key.{Signer}
use Rattle.eventstream.specs.Reading.{First, nothing, leftover, fault, begins, first_of}
use Rattle.eventstream.proofs.ReadingLemmas.{fault_stays, first_stays, shorter}
use Rattle.smithy_core.specs.Message.{Parts}
use Rattle.chain_watch.specs.declared.chain_fault.ChainFault.{ChainFault}
use Rattle.chain_watch.specs.Walk.{Passed, Point, Walk, after_closing, chain_events, closed, event_onto, failed, frame_test, unclosed, walk, walk_frames, walk_on, walk_onto, walk_outcome, walk_passed, walk_tested, walk_within}

-- ## One step

abbrev Walks : Type 0
Walks = List ℕ → ℕ → List ℕ → Walk

abbrev AreAlike : Walks → Walks → List ℕ → Type 0
AreAlike f g rest = (signature : List ℕ) (passed : ℕ) → f signature passed rest ≡ g signature passed rest

passed_alike : (f g : Walks) (passed : ℕ) (rest signature : List ℕ) (event : Option Parts) → AreAlike f g rest
    → walk_passed f passed rest signature event ≡ walk_passed g passed rest signature event
passed_alike f g passed rest signature None same = refl
passed_alike f g passed rest signature (Some event) same = ap (event_onto event) (same signature passed)

tested_alike : (f g : Walks) (passed : ℕ) (rest : List ℕ) (tested : Result Passed ChainFault) → AreAlike f g rest
    → walk_tested f passed rest tested ≡ walk_tested g passed rest tested
tested_alike f g passed rest (Err told) same = refl
tested_alike f g passed rest (Ok tested) same = passed_alike f g (passed + 1) rest tested.signature tested.event same

-- two walks go on alike after a frame, where they walk less alike
on_alike : (f g : Walks) (signer : Signer) (signature : List ℕ) (passed : ℕ) (bytes : List ℕ) (first : First) → first_of bytes ≡ first
    → ((rest : List ℕ) → length rest < length bytes → AreAlike f g rest)
    → walk_on f signer signature passed bytes first ≡ walk_on g signer signature passed bytes first
on_alike f g signer signature passed bytes nothing is same = refl
on_alike f g signer signature passed bytes (leftover some) is same = refl
on_alike f g signer signature passed bytes (fault kind) is same = refl
on_alike f g signer signature passed bytes (begins message rest) is same =
    tested_alike f g passed rest (frame_test signer signature (passed + 1) message) (same rest (shorter bytes message rest is))

pub nothing_first : first_of [] ≡ nothing
unfolding first_of
nothing_first = refl

-- each bound that is enough gives the same walk
within_alike : (k m : ℕ) (signer : Signer) (signature : List ℕ) (passed : ℕ) (bytes : List ℕ) → length bytes ≤ k → length bytes ≤ m
    → walk_within k signer signature passed bytes ≡ walk_within m signer signature passed bytes
unfolding walk_within
within_alike zero zero signer signature passed bytes first second = refl
within_alike zero (suc m) signer signature passed [] first second = rw nothing_first refl
within_alike zero (suc m) signer signature passed (byte ∷ bytes) first second = absurd (omega arith)
within_alike (suc k) zero signer signature passed [] first second = rw nothing_first refl
within_alike (suc k) zero signer signature passed (byte ∷ bytes) first second = absurd (omega arith)
within_alike (suc k) (suc m) signer signature passed bytes first second =
    on_alike (walk_within k signer) (walk_within m signer) signer signature passed bytes (first_of bytes) refl
    (λ rest less signature passed. within_alike k m signer signature passed rest (omega arith) (omega arith))

-- a walk goes on with what the bytes begin with
pub walk_goes : (signer : Signer) (signature : List ℕ) (passed : ℕ) (bytes : List ℕ)
    → walk_frames signer signature passed bytes ≡ walk_on (walk_frames signer) signer signature passed bytes (first_of bytes)
unfolding walk_frames walk_within
walk_goes signer signature passed [] = rw nothing_first refl
walk_goes signer signature passed (byte ∷ bytes) =
    on_alike (walk_within (length bytes) signer) (walk_frames signer) signer signature passed (byte ∷ bytes) (first_of (byte ∷ bytes)) refl
    (λ rest less signature passed. within_alike (length bytes) (length rest) signer signature passed rest (omega arith) (omega arith))

-- the same, where it is known what they begin with
pub walk_first : (signer : Signer) (signature : List ℕ) (passed : ℕ) (bytes : List ℕ) (first : First) → first_of bytes ≡ first
    → walk_frames signer signature passed bytes ≡ walk_on (walk_frames signer) signer signature passed bytes first
walk_first signer signature passed bytes first is =
    walk_goes signer signature passed bytes ∙ ap (walk_on (walk_frames signer) signer signature passed bytes) is

-- a frame is there, and this is what its tests say
pub walk_tests : (signer : Signer) (signature : List ℕ) (passed : ℕ) (bytes rest : List ℕ) (message : Parts) (answer : Result Passed ChainFault)
    → first_of bytes ≡ begins message rest → frame_test signer signature (passed + 1) message ≡ answer
    → walk_frames signer signature passed bytes ≡ walk_tested (walk_frames signer) passed rest answer
walk_tests signer signature passed bytes rest message answer first is =
    walk_first signer signature passed bytes (begins message rest) first ∙ ap (walk_tested (walk_frames signer) passed rest) is

-- ## The outcome, where these events came before

pub starts : (signer : Signer) (seed bytes : List ℕ) → walk_outcome [] (walk_frames signer seed 0 bytes) ≡ chain_events signer seed bytes
unfolding chain_events
starts signer seed bytes = refl

-- an event passes
pub event_passes : (events : List Parts) (signer : Signer) (signature next : List ℕ) (passed : ℕ) (bytes rest : List ℕ) (message event : Parts)
    → first_of bytes ≡ begins message rest → frame_test signer signature (passed + 1) message ≡ Ok (record { event = Some event; signature = next })
    → walk_outcome events (walk_frames signer signature passed bytes) ≡ walk_outcome (events ++ event ∷ []) (walk_frames signer next (passed + 1) rest)
event_passes events signer signature next passed bytes rest message event first is =
    let others = walk_frames signer next (passed + 1) rest in
    let joined : (events ++ event ∷ []) ++ others.events ≡ events ++ event ∷ others.events = append_assoc events (event ∷ []) others.events in
    ap (walk_outcome events) (walk_tests signer signature passed bytes rest message (Ok (record { event = Some event; signature = next })) first is) ∙ rw joined refl

-- the closing frame passes
pub closing_passes : (events : List Parts) (signer : Signer) (signature next : List ℕ) (passed : ℕ) (bytes rest : List ℕ) (message : Parts)
    → first_of bytes ≡ begins message rest → frame_test signer signature (passed + 1) message ≡ Ok (record { event = None; signature = next })
    → walk_outcome events (walk_frames signer signature passed bytes) ≡ walk_outcome events (after_closing (passed + 1) rest)
closing_passes events signer signature next passed bytes rest message first is =
    ap (walk_outcome events) (walk_tests signer signature passed bytes rest message (Ok (record { event = None; signature = next })) first is)

pub closes : (events : List Parts) (passed : ℕ) (rest : List ℕ) → length rest ≡ 0 → walk_outcome events (after_closing passed rest) ≡ Ok events
closes events passed [] none = ap Ok (append-nil events)
closes events passed (byte ∷ rest) none = absurd (omega arith)

-- ## Joined bytes

-- the walk of more bytes from the point that a walk reached, whose events came before
abbrev walk_more : Signer → Walk → List ℕ → Walk
walk_more signer walked more = walk_onto walked.events (walk signer walked.at more)

closing_joined : (signer : Signer) (passed : ℕ) (rest more : List ℕ) → after_closing passed (rest ++ more) ≡ walk_more signer (after_closing passed rest) more
closing_joined signer passed [] more = refl
closing_joined signer passed (byte ∷ rest) more = refl

-- the walk of joined bytes is that of the first ones, and then that of the others
abbrev Joins : Signer → List ℕ → List ℕ → Type 0
Joins signer more bytes =
    (signature : List ℕ) (passed : ℕ) → walk_frames signer signature passed (bytes ++ more) ≡ walk_more signer (walk_frames signer signature passed bytes) more

tested_joined : (signer : Signer) (passed : ℕ) (rest more : List ℕ) (tested : Result Passed ChainFault) → Joins signer more rest
    → walk_tested (walk_frames signer) passed (rest ++ more) tested ≡ walk_more signer (walk_tested (walk_frames signer) passed rest tested) more
tested_joined signer passed rest more (Err told) joins = refl
tested_joined signer passed rest more (Ok tested) joins = by_event tested.event
  where
    by_event : (event : Option Parts) → walk_passed (walk_frames signer) (passed + 1) (rest ++ more) tested.signature event
        ≡ walk_more signer (walk_passed (walk_frames signer) (passed + 1) rest tested.signature event) more
    by_event None = closing_joined signer (passed + 1) rest more
    by_event (Some event) = ap (event_onto event) (joins tested.signature (passed + 1))

step_joined : (signer : Signer) (more bytes : List ℕ) → ((rest : List ℕ) → length rest < length bytes → Joins signer more rest) → Joins signer more bytes
step_joined signer more bytes others signature passed = by_first (first_of bytes) refl
  where
    same : (first : First) → first_of bytes ≡ first
        → walk_more signer (walk_on (walk_frames signer) signer signature passed bytes first) more ≡ walk_more signer (walk_frames signer signature passed bytes) more
    same first is = ap (λ (walked : Walk). walk_more signer walked more) (sym (walk_first signer signature passed bytes first is))

    by_first : (first : First) → first_of bytes ≡ first → walk_frames signer signature passed (bytes ++ more) ≡ walk_more signer (walk_frames signer signature passed bytes) more
    by_first nothing is = same nothing is
    by_first (leftover some) is = same (leftover some) is
    by_first (fault kind) is =
        walk_first signer signature passed (bytes ++ more) (fault kind) (fault_stays bytes kind more is) ∙ same (fault kind) is
    by_first (begins message rest) is =
        walk_first signer signature passed (bytes ++ more) (begins message (rest ++ more)) (first_stays bytes message rest more is)
        ∙ tested_joined signer passed rest more (frame_test signer signature (passed + 1) message) (others rest (shorter bytes message rest is))
        ∙ same (begins message rest) is

joined_within : (most : ℕ) (signer : Signer) (more bytes : List ℕ) → length bytes ≤ most → Joins signer more bytes
joined_within zero signer more bytes few = step_joined signer more bytes (λ rest less. absurd (omega arith))
joined_within (suc most) signer more bytes few = step_joined signer more bytes (λ rest less. joined_within most signer more rest (omega arith))

frames_joined : (signer : Signer) (more bytes : List ℕ) → Joins signer more bytes
frames_joined signer more bytes = joined_within (length bytes) signer more bytes (omega arith)

-- from a point
pub walk_joined : (signer : Signer) (at : Point) (first second : List ℕ)
    → walk signer at (first ++ second) ≡ walk_onto (walk signer at first).events (walk signer (walk signer at first).at second)
walk_joined signer (failed told) first second = refl
walk_joined signer (closed passed) first second = closing_joined signer passed first second
walk_joined signer (unclosed signature passed left) first second =
    ap (walk_frames signer signature passed) (sym (append_assoc left first second)) ∙ frames_joined signer second (left ++ first) signature passed
