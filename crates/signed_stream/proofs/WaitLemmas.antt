-- Bytes that wait until they may hold a whole frame.
use Rattle.std.proofs.Common.{◌≡◌, ℕ, ◌+◌, ◌-◌, ◌<◌, ◌≤◌, Bool, true, false, nat_lt, List, [], ◌∷◌, ◌++◌, length, take, Option, Some, None, Result, Ok, Err, refl, sym, ap, subst, ◌∙◌, append-nil, length-append, arith}
use Rattle.std.specs.Prelude.{if◌then◌else◌}
use Rattle.std.proofs.lemmas.Bool.Decides.{nat_tests}
use Rattle.std.proofs.lemmas.List.{take-append-le}
use Rattle.smithy_core.specs.Message.{Parts}
use Rattle.eventstream.specs.Decode.{IsUnfinished}
use Rattle.eventstream.specs.Key.{Signer}
use Rattle.eventstream.specs.Read.{announced, read_prelude}
use Rattle.eventstream.specs.Reading.{First, nothing, leftover, fault, begins, first_of}
use Rattle.eventstream.specs.declared.error.ErrorKind.{ErrorKind}
use Rattle.eventstream.specs.declared.read.lengths.Lengths.{Lengths}
use Rattle.eventstream.proofs.FrontLemmas.{announced_prelude, first_bad, first_short, more_unfinished, prelude_told}
use Rattle.chain_watch.specs.Walk.{Passed, Point, Walk, closed, failed, frame_test, stays, unclosed, walk, walk_frames, walk_on, walk_passed, walk_tested}
use Rattle.chain_watch.specs.Watch.{Watching, frame_wants, unwalked, wanted}
use Rattle.chain_watch.specs.declared.chain_fault.ChainFault.{ChainFault}
use Rattle.chain_watch.proofs.WalkLemmas.{walk_goes}
use Rattle.chain_watch.proofs.WatchLemmas.{unfinished_stays}
use Rattle.signed_stream.specs.WatchChain.{IsCurrent, IsIdle, IsSound, walk_with}
use Rattle.signed_stream.specs.declared.watch_chain.Progress.{Progress}

-- ## A frame that isn't there whole

-- a walk that stays found no frame
stays_unfinished : (signer : Signer) (signature : List ℕ) (passed : ℕ) (bytes : List ℕ) → walk_frames signer signature passed bytes ≡ stays (unclosed signature passed bytes) → IsUnfinished (first_of bytes)
stays_unfinished signer signature passed bytes is = by_first (first_of bytes) (sym (walk_goes signer signature passed bytes) ∙ is)
  where
    by_event : (rest next : List ℕ) (event : Option Parts) → walk_passed (walk_frames signer) (passed + 1) rest next event ≡ stays (unclosed signature passed bytes) → ⊥
    by_event rest next (Some event) is = let wrong : event ∷ (walk_frames signer next (passed + 1) rest).events ≡ [] = ap (λ (w : Walk). w.events) is in cc
    by_event [] next None is = let wrong : closed (passed + 1) ≡ unclosed signature passed bytes = ap (λ (w : Walk). w.at) is in cc
    by_event (byte ∷ rest) next None is = let wrong : failed _ ≡ unclosed signature passed bytes = ap (λ (w : Walk). w.at) is in cc

    by_test : (rest : List ℕ) (tested : Result Passed ChainFault) → walk_tested (walk_frames signer) passed rest tested ≡ stays (unclosed signature passed bytes) → ⊥
    by_test rest (Ok passing) is = by_event rest passing.signature passing.event is
    by_test rest (Err reason) is = let wrong : failed reason ≡ unclosed signature passed bytes = ap (λ (w : Walk). w.at) is in cc

    by_first : (first : First) → walk_on (walk_frames signer) signer signature passed bytes first ≡ stays (unclosed signature passed bytes) → IsUnfinished first
    by_first nothing is = tt
    by_first (leftover some) is = tt
    by_first (fault kind) is = let wrong : failed _ ≡ unclosed signature passed bytes = ap (λ (w : Walk). w.at) is in cc
    by_first (begins message rest) is = absurd (by_test rest (frame_test signer signature (passed + 1) message) is)

-- fewer bytes than are wanted don't finish a frame
few_unfinished : (left more : List ℕ) → IsUnfinished (first_of left) → length more < frame_wants left → IsUnfinished (first_of (left ++ more))
few_unfinished left more unfinished few = by_length (nat_lt (length left) 12) refl few
  where
    by_prelude : (read : Result Lengths ErrorKind) → read_prelude (take 12 left) ≡ read → 12 ≤ length left → length more < announced left - length left → IsUnfinished (first_of (left ++ more))
    by_prelude (Err kind) read long few = absurd (subst IsUnfinished (first_bad left kind long read) unfinished)
    by_prelude (Ok lengths) read long few =
        let total : lengths.total ≡ announced left = (prelude_told (take 12 left) lengths read).total ∙ announced_prelude left in
        more_unfinished (left ++ more) lengths (omega (arith, long, length-append left more)) (ap read_prelude (take-append-le 12 left more long) ∙ read)
        (omega (arith, few, total, length-append left more))

    by_length : (short : Bool) → nat_lt (length left) 12 ≡ short → length more < (if short then 12 - length left else announced left - length left) → IsUnfinished (first_of (left ++ more))
    by_length true test few = first_short (left ++ more) (omega (arith, few, length-append left more))
    by_length false test few = let long : 12 ≤ length left = grind (arith, nat_tests) in by_prelude (read_prelude (take 12 left)) refl long few

-- ## Progress

-- no bytes wait
pub idle_none : (progress : Progress) → IsCurrent progress.watch → progress.waiting.items ≡ [] → IsIdle progress
idle_none progress current none =
    let rest : walk_with progress [] ≡ stays progress.watch.at = ap (λ (bytes : List ℕ). walk progress.watch.signer progress.watch.at (bytes ++ [])) none ∙ current.walked in
    record { none = ap (λ (w : Walk). w.events) rest; sound = subst (λ (w : Walk). IsSound w.at) (sym rest) current.sound }

abbrev IsIdleWalk : Walk → Type 0
IsIdleWalk walked = (walked.events ≡ []) × IsSound walked.at

few_stay : (watch : Watching) (bytes : List ℕ) (at : Point) → watch.at ≡ at → unwalked watch ≡ stays watch.at → length bytes < wanted at → (walked : Walk) → walk watch.signer watch.at bytes ≡ walked → IsIdleWalk walked
few_stay watch bytes (unclosed signature passed left) here current few walked is =
    let now : walk_frames watch.signer signature passed (left ++ []) ≡ stays (unclosed signature passed left) = subst (λ (p : Point). walk watch.signer p [] ≡ stays p) here current in
    let unfinished : IsUnfinished (first_of left) =
    stays_unfinished watch.signer signature passed left (ap (walk_frames watch.signer signature passed) (sym (append-nil left)) ∙ now) in
    let still : walk watch.signer watch.at bytes ≡ stays (unclosed signature passed (left ++ bytes)) =
    ap (λ (p : Point). walk watch.signer p bytes) here ∙ unfinished_stays watch.signer signature passed (left ++ bytes) (few_unfinished left bytes unfinished few) in
    subst IsIdleWalk (sym still ∙ is) (refl, tt)
few_stay watch bytes (closed passed) here current few walked is = absurd (omega (arith, few))
few_stay watch bytes (failed reason) here current few walked is = absurd (omega (arith, few))

-- fewer bytes wait than are wanted
pub idle_few : (progress : Progress) → IsCurrent progress.watch → length progress.waiting.items < wanted progress.watch.at → IsIdle progress
idle_few progress current few =
    let idle = few_stay progress.watch (progress.waiting.items ++ []) progress.watch.at refl current.walked (omega (arith, few, length-append progress.waiting.items [])) (walk_with progress []) refl in
    record { none = idle.0; sound = idle.1 }
