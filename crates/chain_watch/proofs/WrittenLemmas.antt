-- A chain that was written is accepted.
use Rattle.std.proofs.Common.{◌≡◌, ℕ, ◌+◌, ◌/◌, ◌*◌, ℤ, pos, ◌+ℤ◌, ◌*ℤ◌, Bool, true, false, List, [], ◌∷◌, ◌++◌, length, map, All, Option, Some, None, Ok, refl, sym, ap, ◌∙◌, append-nil, append_assoc, arith}
use Rattle.std.specs.Prelude.{if◌then◌else◌}
use Rattle.std.specs.Int.{w64, cast_unsigned, saturate_signed, to_be_bytes}
use Rattle.std.specs.List.{AllByRecursion, concat}
use Rattle.std.specs.Ordering.{int_eq}
use Rattle.std.proofs.lemmas.Slice.Eq.{bytes_eq-Decides}
use Rattle.std.proofs.lemmas.List.Elements.{recursion_from_All}
use Rattle.smithy_core.specs.Civil.{IsInYears}
use Rattle.smithy_core.specs.Header.{Header}
use Rattle.smithy_core.specs.Message.{Parts}
use Rattle.smithy_core.specs.Moment.{Instant, floor_ms, floor_secs, floored}
use Rattle.smithy_core.specs.declared.header.HeaderValue.{HeaderValue}
use Rattle.smithy_core.specs.declared.header.HeaderValue.TheVariants.{Timestamp}
use Rattle.smithy_core.proofs.YearLemmas.{years_in}
use Rattle.eventstream.specs.Frame.{block, first_unspelled, frame, spelling, unframed, unfit_lengths, unspelled, unspelled_value, value_spelling}
use Rattle.eventstream.specs.Key.{Signer}
use Rattle.eventstream.specs.Kind.{timestamp_kind}
use Rattle.eventstream.specs.Laws.{IsProper, floored_header, floored_message, floored_value}
use Rattle.eventstream.specs.Link.{chain, link_code, link_message, link_signature}
use Rattle.eventstream.specs.Read.{read}
use Rattle.eventstream.specs.Reading.{begins, first_of}
use Rattle.eventstream.specs.declared.error.ErrorKind.{ErrorKind}
use Rattle.eventstream.specs.declared.error.ErrorKind.TheVariants.{TimestampValueTooLarge}
use Rattle.eventstream.proofs.FrameLemmas.{frame_again, length-frame}
use Rattle.eventstream.proofs.ReadingLemmas.{frame_first}
use Rattle.eventstream.proofs.RoundLemmas.{both_none}
use Rattle.eventstream.proofs.LinkLemmas.{link_floored, link_proper}
use Rattle.chain_watch.specs.Chain.{IsWholeChain}
use Rattle.chain_watch.specs.Walk.{chain_events, frame_test, inner_event, signed_moment, walk_frames, walk_outcome}
use Rattle.chain_watch.proofs.FrameLemmas.{inner_whole, link_carried, test_passes}
use Rattle.chain_watch.proofs.WalkLemmas.{closes, closing_passes, event_passes, starts}

-- ## Messages with moments in whole milliseconds

-- flooring leaves the whole milliseconds of a moment
pub floored_ms : (t : Instant) → floor_ms (floored t) ≡ floor_ms t
floored_ms t =
    let same : t.nanos / 1000000 * 1000000 / 1000000 ≡ t.nanos / 1000000 = omega arith in
    ap (λ (ms : ℕ). t.secs *ℤ pos 1000 +ℤ pos ms) same

-- so it leaves the spelling of a value
floored_spelling : (value : HeaderValue) → value_spelling (floored_value value) ≡ value_spelling value
unfolding value_spelling
floored_spelling (Timestamp t) = ap (λ (ms : ℤ). timestamp_kind ∷ to_be_bytes w64 (cast_unsigned w64 ms)) (floored_ms t)
floored_spelling value = refl

by_fit : (fits : Bool) (one other : ErrorKind) → (if fits then None else Some one) ≡ None → (if fits then None else Some other) ≡ None
by_fit true one other none = refl
by_fit false one other none = cc

floored_spelled : (value : HeaderValue) → unspelled_value value ≡ None → unspelled_value (floored_value value) ≡ None
unfolding unspelled_value
floored_spelled (Timestamp t) spelled =
    ap (λ (ms : ℤ). if int_eq (saturate_signed w64 ms) ms then None else Some (TimestampValueTooLarge (floored t))) (floored_ms t)
    ∙ by_fit (int_eq (saturate_signed w64 (floor_ms t)) (floor_ms t)) (TimestampValueTooLarge t) (TimestampValueTooLarge (floored t)) spelled
floored_spelled value spelled = spelled

floored_block : (headers : List Header) → block (map floored_header headers) ≡ block headers
floored_block [] = refl
floored_block (h ∷ hs) =
    ap (λ (value : List ℕ). (length h.name ∷ h.name ++ value) ++ block (map floored_header hs)) (floored_spelling h.value)
    ∙ ap (λ (others : List ℕ). spelling h ++ others) (floored_block hs)

-- a message and the floored one have the same frame
pub floored_frame : (m : Parts) → frame (floored_message m) ≡ frame m
unfolding frame
floored_frame m = rw (floored_block m.headers) refl

floored_headers : (headers : List Header) → first_unspelled headers ≡ None → first_unspelled (map floored_header headers) ≡ None
floored_headers [] spelled = refl
floored_headers (h ∷ hs) spelled =
    let parts = both_none (unspelled h) (first_unspelled hs) spelled in
    let header = both_none _ (unspelled_value h.value) parts.0 in
    rw (header.0, floored_spelled h.value header.1, floored_headers hs parts.1) refl

pub floored_framed : (m : Parts) → unframed m ≡ None → unframed (floored_message m) ≡ None
unfolding unframed
floored_framed m framed =
    let parts = both_none (first_unspelled m.headers) (unfit_lengths (length (block m.headers)) (length m.payload)) framed in
    rw (floored_headers m.headers parts.0, floored_block m.headers) parts.1

-- ## Links

-- a stream that begins with the frame of a link begins with the link
link_first : (signer : Signer) (signature bytes : List ℕ) (t : Instant) (more : List ℕ) → unframed (link_message signer signature bytes t) ≡ None
    → first_of (frame (link_message signer signature bytes t) ++ more) ≡ begins (link_message signer signature bytes t) more
link_first signer signature bytes t more framed =
    frame_first (link_message signer signature bytes t) more (link_proper signer signature bytes t) framed
    ∙ ap (λ (m : Parts). begins m more) (link_floored signer signature bytes t)

second_signed : (t : Instant) → IsInYears t → signed_moment (floor_secs t) ≡ Some (floor_secs t)
second_signed t years = rw (years_in t years) refl

-- a link passes the tests of its frame
link_passes : (signer : Signer) (signature bytes : List ℕ) (t : Instant) (place : ℕ) (event : Option Parts) → IsInYears t → inner_event bytes ≡ Some event
    → frame_test signer signature place (link_message signer signature bytes t) ≡ Ok (record { event = event; signature = link_signature signer signature bytes t })
unfolding link_message link_code link_signature
link_passes signer signature bytes t place event years inner =
    test_passes signer signature place (link_message signer signature bytes t) (link_code signer signature bytes t) (link_code signer signature bytes t)
    (link_signature signer signature bytes t) (floor_secs t) event
    (link_carried signer signature bytes t) (second_signed t years) inner refl ((bytes_eq-Decides (link_code signer signature bytes t) _).1 refl) refl

-- the frame of an event holds the event
event_held : (event : Parts) → IsProper event → unframed event ≡ None → inner_event (frame event) ≡ Some (Some (floored_message event))
event_held event proper framed =
    let again : read (frame event) ≡ Ok (floored_message event, length (frame event)) = ap read (sym (append-nil (frame event))) ∙ frame_again event [] proper framed in
    inner_whole (frame event) (floored_message event) (length (frame event)) (omega (arith, length-frame event)) again (floored_framed event framed) (floored_frame event)

-- ## Chains

-- the walk over a chain, after these events
walked : (signer : Signer) (events : List Parts) (moments : List Instant) (signature : List ℕ) (passed : List Parts) (count : ℕ)
    → AllByRecursion IsProper events → IsWholeChain signer events moments signature
    → walk_outcome passed (walk_frames signer signature count (concat (chain signer events moments signature))) ≡ Ok (passed ++ map floored_message events)
walked signer [] [] signature passed count proper chained = absurd chained
walked signer [] (t ∷ []) signature passed count proper chained =
    closing_passes passed signer signature (link_signature signer signature [] t) count _ [] (link_message signer signature [] t)
    (link_first signer signature [] t [] chained.1) (link_passes signer signature [] t (count + 1) None chained.0 refl)
    ∙ closes passed (count + 1) [] refl ∙ ap Ok (sym (append-nil passed))
walked signer [] (t ∷ u ∷ moments) signature passed count proper chained = absurd chained
walked signer (event ∷ events) [] signature passed count proper chained = absurd chained
walked signer (event ∷ events) (t ∷ moments) signature passed count proper chained =
    let next = link_signature signer signature (frame event) t in
    let rest = concat (chain signer events moments next) in
    event_passes passed signer signature next count _ rest (link_message signer signature (frame event) t) (floored_message event)
    (link_first signer signature (frame event) t rest chained.2)
    (link_passes signer signature (frame event) t (count + 1) (Some (floored_message event)) chained.1 (event_held event proper.0 chained.0))
    ∙ walked signer events moments next (passed ++ floored_message event ∷ []) (count + 1) proper.1 chained.3
    ∙ ap Ok (append_assoc passed (floored_message event ∷ []) (map floored_message events))

-- a chain that was written is accepted, and its events come back in whole milliseconds
pub written_accepted : (signer : Signer) (events : List Parts) (moments : List Instant) (seed : List ℕ) → All IsProper events → IsWholeChain signer events moments seed
    → chain_events signer seed (concat (chain signer events moments seed)) ≡ Ok (map floored_message events)
written_accepted signer events moments seed proper chained =
    sym (starts signer seed (concat (chain signer events moments seed)))
    ∙ walked signer events moments seed [] 0 (recursion_from_All IsProper events proper) chained
