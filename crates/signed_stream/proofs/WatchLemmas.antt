-- The chain that is watched: the events of its walk, and how far it is read.
use Rattle.std.proofs.Common.{◌≡◌, ℕ, zero, suc, ◌+◌, ◌<◌, ◌≤◌, Bool, true, false, List, [], ◌∷◌, ◌++◌, length, Option, Some, None, Result, Ok, Err, refl, sym, ap, subst, ◌∙◌, length-append, arith}
use Rattle.std.specs.List.{AllByRecursion}
use Rattle.std.specs.Prelude.{◌&&◌, if◌then◌else◌, bytes_eq, is_none, option_map}
use Rattle.std.proofs.lemmas.List.Elements.{All-from_recursion}
use Rattle.smithy_core.specs.Message.{Parts}
use Rattle.eventstream.specs.Frame.{frame, unframed}
use Rattle.eventstream.specs.Key.{Signer}
use Rattle.eventstream.specs.Link.{link_code}
use Rattle.eventstream.specs.Read.{read}
use Rattle.eventstream.specs.Reading.{First, begins, first_of}
use Rattle.eventstream.specs.declared.error.ErrorKind.{ErrorKind}
use Rattle.eventstream.proofs.ReadingLemmas.{shorter}
use Rattle.chain_watch.specs.Walk.{Passed, Point, Walk, after_closing, carried, closed, failed, frame_test, framed_message, if_framed, inner_event, signed_moment, unclosed, walk, walk_frames, walk_on, walk_passed, walk_tested, walk_within}
use Rattle.chain_watch.specs.Watch.{left_over}
use Rattle.chain_watch.specs.declared.chain_fault.ChainFault.{ChainFault}
use Rattle.chain_watch.specs.declared.chain_fault.ChainFault.TheVariants.{NotChain}
use Rattle.chain_watch.specs.declared.chain_fault.ChainPart.TheVariants.{Headers, Date, Inner}
use Rattle.chain_watch.proofs.AcceptedLemmas.{compared_split, there}
use Rattle.signed_stream.specs.EventLines.{AreFramed}

-- ## An event that passes has a frame

abbrev Framed : Parts → Type 0
Framed event = unframed event ≡ None

none_is : {A : Type 0} (o : Option A) → is_none o ≡ true → o ≡ None
none_is None is = refl
none_is (Some x) is = cc

message_framed : (payload : List ℕ) (event : Parts) → framed_message payload ≡ Some event → Framed event
unfolding framed_message
message_framed payload event is = by_read (read payload) is
  where
    by_tests : (message : Parts) (none same : Bool) → is_none (unframed message) ≡ none → (if none && same then Some message else None) ≡ Some event → Framed event
    by_tests message true true framed is = let e : message ≡ event = cc in subst Framed e (none_is (unframed message) framed)
    by_tests message true false framed is = cc
    by_tests message false same framed is = cc

    by_read : (outcome : Result (Parts × ℕ) ErrorKind) → if_framed payload outcome ≡ Some event → Framed event
    by_read (Ok message) is = by_tests message.0 (is_none (unframed message.0)) (bytes_eq (frame message.0) payload) refl is
    by_read (Err kind) is = cc

inner_framed : (payload : List ℕ) (event : Parts) → inner_event payload ≡ Some (Some event) → Framed event
inner_framed [] event is = cc
inner_framed (byte ∷ bytes) event is = by_message (framed_message (byte ∷ bytes)) refl is
  where
    by_message : (message : Option Parts) → framed_message (byte ∷ bytes) ≡ message → option_map Some message ≡ Some (Some event) → Framed event
    by_message None found is = cc
    by_message (Some other) found is = let e : other ≡ event = cc in subst Framed e (message_framed (byte ∷ bytes) other found)

tested_framed : (signer : Signer) (signature : List ℕ) (place : ℕ) (message : Parts) (passed : Passed) (event : Parts) → frame_test signer signature place message ≡ Ok passed
    → passed.event ≡ Some event → Framed event
unfolding frame_test
tested_framed signer signature place message passed event is holds =
    let headers = there (carried message.headers) (NotChain place Headers) _ passed is in
    let date = there (signed_moment headers.0.1) (NotChain place Date) _ passed headers.2 in
    let inner = there (inner_event message.payload) (NotChain place Inner) _ passed date.2 in
    let same = compared_split place headers.0.0 (link_code signer signature message.payload date.0) inner.0 passed inner.2 in
    inner_framed message.payload event (inner.1 ∙ ap Some (sym (ap (λ (p : Passed). p.event) same.1) ∙ holds))

-- ## The events of a walk

-- each has a frame
abbrev AllFramed : List Parts → Type 0
AllFramed events = AllByRecursion Framed events

closing_framed : (passed : ℕ) (rest : List ℕ) → AllFramed (after_closing passed rest).events
closing_framed passed [] = tt
closing_framed passed (byte ∷ rest) = tt

framed_within : (most : ℕ) (signer : Signer) (signature : List ℕ) (passed : ℕ) (bytes : List ℕ) → AllFramed (walk_within most signer signature passed bytes).events
unfolding walk_within
framed_within zero signer signature passed bytes = tt
framed_within (suc most) signer signature passed bytes = by_first (λ next rest. framed_within most signer next (passed + 1) rest) (first_of bytes)
  where
    by_event : ((next rest : List ℕ) → AllFramed (walk_within most signer next (passed + 1) rest).events) → (rest next : List ℕ) (event : Option Parts) → ((inside : Parts) → event ≡ Some inside → Framed inside)
        → AllFramed (walk_passed (walk_within most signer) (passed + 1) rest next event).events
    by_event deeper rest next None framed = closing_framed (passed + 1) rest
    by_event deeper rest next (Some event) framed = (framed event refl, deeper next rest)

    by_test : ((next rest : List ℕ) → AllFramed (walk_within most signer next (passed + 1) rest).events) → (message : Parts) (rest : List ℕ) (tested : Result Passed ChainFault)
        → frame_test signer signature (passed + 1) message ≡ tested → AllFramed (walk_tested (walk_within most signer) passed rest tested).events
    by_test deeper message rest (Ok passing) is = by_event deeper rest passing.signature passing.event (λ inside holds. tested_framed signer signature (passed + 1) message passing inside is holds)
    by_test deeper message rest (Err fault) is = tt

    by_first : ((next rest : List ℕ) → AllFramed (walk_within most signer next (passed + 1) rest).events) → (first : First) → AllFramed (walk_on (walk_within most signer) signer signature passed bytes first).events
    by_first deeper (begins message rest) = by_test deeper message rest (frame_test signer signature (passed + 1) message) refl
    by_first deeper other = tt

framed_walk : (signer : Signer) (at : Point) (bytes : List ℕ) → AllFramed (walk signer at bytes).events
unfolding walk_frames
framed_walk signer (unclosed signature passed left) bytes = framed_within (length (left ++ bytes)) signer signature passed (left ++ bytes)
framed_walk signer (closed passed) bytes = closing_framed passed bytes
framed_walk signer (failed fault) bytes = tt

first_framed : (first others : List Parts) → AllFramed (first ++ others) → AllFramed first
first_framed [] others all = tt
first_framed (event ∷ first) others all = (all.0, first_framed first others all.1)

-- those that were handed out do
pub walk_framed : (signer : Signer) (at : Point) (bytes : List ℕ) (first : List Parts) (others : Walk) → walk signer at bytes ≡ record { events = first ++ others.events; at = others.at } → AreFramed first
walk_framed signer at bytes first others is =
    let events : (walk signer at bytes).events ≡ first ++ others.events = ap (λ (w : Walk). w.events) is in
    All-from_recursion Framed first (first_framed first others.events (subst AllFramed events (framed_walk signer at bytes)))

-- each event took a byte at least, and those left over are bytes too
abbrev Takes : Walk → ℕ → Type 0
Takes walked count = length walked.events + length (left_over walked.at) ≤ count

closing_takes : (passed : ℕ) (rest : List ℕ) (count : ℕ) → Takes (after_closing passed rest) count
closing_takes passed [] count = omega arith
closing_takes passed (byte ∷ rest) count = omega arith

takes_within : (most : ℕ) (signer : Signer) (signature : List ℕ) (passed : ℕ) (bytes : List ℕ) → Takes (walk_within most signer signature passed bytes) (length bytes)
unfolding walk_within
takes_within zero signer signature passed bytes = omega arith
takes_within (suc most) signer signature passed bytes = by_first (λ next rest. takes_within most signer next (passed + 1) rest) (first_of bytes) refl
  where
    by_event : ((next rest : List ℕ) → Takes (walk_within most signer next (passed + 1) rest) (length rest)) → (rest next : List ℕ) (event : Option Parts) → length rest < length bytes
        → Takes (walk_passed (walk_within most signer) (passed + 1) rest next event) (length bytes)
    by_event deeper rest next None less = closing_takes (passed + 1) rest (length bytes)
    by_event deeper rest next (Some event) less = let others = deeper next rest in omega (arith, others, less)

    by_test : ((next rest : List ℕ) → Takes (walk_within most signer next (passed + 1) rest) (length rest)) → (message : Parts) (rest : List ℕ) (tested : Result Passed ChainFault) → length rest < length bytes
        → Takes (walk_tested (walk_within most signer) passed rest tested) (length bytes)
    by_test deeper message rest (Ok passing) less = by_event deeper rest passing.signature passing.event less
    by_test deeper message rest (Err fault) less = omega arith

    by_first : ((next rest : List ℕ) → Takes (walk_within most signer next (passed + 1) rest) (length rest)) → (first : First) → first_of bytes ≡ first
        → Takes (walk_on (walk_within most signer) signer signature passed bytes first) (length bytes)
    by_first deeper (begins message rest) is = by_test deeper message rest (frame_test signer signature (passed + 1) message) (shorter bytes message rest is)
    by_first deeper other is = omega arith

pub walk_takes : (signer : Signer) (at : Point) (bytes : List ℕ) → Takes (walk signer at bytes) (length (left_over at) + length bytes)
unfolding walk_frames
walk_takes signer (unclosed signature passed left) bytes =
    let whole = takes_within (length (left ++ bytes)) signer signature passed (left ++ bytes) in omega (arith, whole, length-append left bytes)
walk_takes signer (closed passed) bytes = closing_takes passed bytes (0 + length bytes)
walk_takes signer (failed fault) bytes = omega arith
