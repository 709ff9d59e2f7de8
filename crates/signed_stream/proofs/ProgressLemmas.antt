-- A watch that goes on, piece by piece: what was read is what was walked, and what waits.
use Rattle.std.proofs.Common.{◌≡◌, ℕ, zero, suc, ◌+◌, ◌-◌, ◌≤◌, inl, inr, List, [], ◌∷◌, ◌++◌, length, take, Option, Some, None, Result, Ok, Err, refl, sym, ap, subst, ◌∙◌, append-nil, append_assoc, length-append, arith}
use Rattle.std.proofs.Math.Seq.{take-append-add}
use Rattle.std.proofs.lemmas.Grind.{flat_map-append}
use Rattle.smithy_core.specs.Message.{Parts}
use Rattle.smithy_core.specs.Outside.{Gains, GainsPrefix, IsAtEnd, IsCutOf}
use Rattle.smithy_core.proofs.CutLemmas.{cut_at_start}
use Rattle.smithy_core.proofs.GainLemmas.{gains_front, gains_last, gains_nothing, prefix_join, prefix_at_start, prefix_from_whole}
use Rattle.eventstream.specs.Key.{Signer}
use Rattle.chain_watch.specs.Walk.{Walk, seed_point, stays, walk, walk_frames, walk_onto, walk_within}
use Rattle.chain_watch.specs.Watch.{Watching, left_over, new_watch}
use Rattle.chain_watch.specs.declared.chain_fault.ChainFault.{ChainFault}
use Rattle.chain_watch.proofs.WalkLemmas.{walk_joined}
use Rattle.chain_watch.proofs.CallLemmas.{onto_more}
use Rattle.signed_stream.specs.EventLines.{AreFramed, count_line, event_line, event_lines}
use Rattle.signed_stream.specs.Sending.{EndsEarly}
use Rattle.signed_stream.specs.Plan.{most_input}
use Rattle.signed_stream.specs.Status.{Ending, bad_job, bad_words, check_failed, could_not_read_file, done, ending_of, job_too_large, no_memory, output_fault, read_fault, refused, stream_ending}
use Rattle.signed_stream.specs.WatchChain.{Advances, AreAll, EndsInput, EndsWalk, IsCurrent, IsFit, IsIdle, IsUnfed, ReadsAll, ReadsInput, ReadsSome, ShowsWaiting, StopsShowing, StopsTaking, TakesNext, WalksWaiting, Watches, room_of, shown_chain, walk_taken, walk_with}
use Rattle.signed_stream.specs.declared.status.CheckFault.TheVariants as checks
use Rattle.signed_stream.specs.declared.status.Status.{Status}
use Rattle.signed_stream.specs.declared.status.StreamFault.{StreamFault}
use Rattle.signed_stream.specs.declared.watch_chain.Progress.{Progress}
use Rattle.signed_stream.proofs.WatchLemmas.{walk_framed, walk_takes}

-- ## Lines

lines_join : (first second : List Parts) → event_lines (first ++ second) ≡ event_lines first ++ event_lines second
lines_join first second = flat_map-append event_line first second

-- the lines of some events, and then those of others
gains_lines : (a b c : Option (List ℕ)) (first second : List Parts) → Gains a b (event_lines first) → Gains b c (event_lines second) → Gains a c (event_lines (first ++ second))
gains_lines a b c first second before after =
    rw (lines_join first second) (gains_last a b c (event_lines second) (event_lines first ++ event_lines second) (gains_front a b (event_lines first) (event_lines second) before) after)

prefix_lines : (a b c : Option (List ℕ)) (first second : List Parts) → Gains a b (event_lines first) → GainsPrefix b c (event_lines second) → GainsPrefix a c (event_lines (first ++ second))
prefix_lines a b c first second before after =
    rw (lines_join first second) (prefix_join a b c (event_lines second) (event_lines first ++ event_lines second) (gains_front a b (event_lines first) (event_lines second) before) after)

-- ## Walks

nothing_taken : (n : ℕ) → take {A = ℕ} n [] ≡ []
nothing_taken zero = refl
nothing_taken (suc n) = refl

pub take_all : (n : ℕ) (xs : List ℕ) → length xs ≤ n → take n xs ≡ xs
take_all n xs short =
    let more : n ≡ length xs + (n - length xs) = omega (arith, short) in
    ap (λ (m : ℕ). take m xs) more ∙ ap (take (length xs + (n - length xs))) (sym (append-nil xs)) ∙ take-append-add xs [] (n - length xs)
    ∙ ap (λ (t : List ℕ). xs ++ t) (nothing_taken (n - length xs)) ∙ append-nil xs

-- what was read goes on with what comes then
goes_on : (old new : Progress) (read more : List ℕ) (events : List Parts) → new.watch.signer ≡ old.watch.signer → walk_with old read ≡ walk_onto events (walk_with new [])
    → walk_with old (read ++ more) ≡ walk_onto events (walk_with new more)
goes_on old new read more events same walked =
    let signer = old.watch.signer in
    let at = old.watch.at in
    let rest = new.waiting.items in
    let reached = walk signer new.watch.at rest in
    let here : walk_with new [] ≡ reached = rw (append-nil rest, same) refl in
    ap (walk signer at) (sym (append_assoc old.waiting.items read more))
    ∙ walk_joined signer at (old.waiting.items ++ read) more
    ∙ ap (λ (w : Walk). walk_onto w.events (walk signer w.at more)) (walked ∙ ap (walk_onto events) here)
    ∙ onto_more events reached.events (walk signer reached.at more)
    ∙ ap (walk_onto events) (sym (walk_joined signer new.watch.at rest more) ∙ ap (λ (s : Signer). walk s new.watch.at (rest ++ more)) (sym same))

-- ## Pieces, one after another

pub advances_nothing : (progress : Progress) (held : Option (List ℕ)) → Advances progress [] progress held held
advances_nothing progress held = record {
  signer = refl;
  counted = omega arith;
  events = [];
  walked = refl;
  shown = omega arith;
  gains = gains_nothing held;
}

pub advances_join : (first second third : Progress) (read more : List ℕ) (a b c : Option (List ℕ)) → Advances first read second a b → Advances second more third b c → Advances first (read ++ more) third a c
advances_join first second third read more a b c before after = record {
  signer = after.signer ∙ before.signer;
  counted = omega (arith, before.counted, after.counted, length-append read more);
  events = before.events ++ after.events;
  walked =
      goes_on first second read more before.events before.signer before.walked ∙ ap (walk_onto before.events) after.walked
      ∙ sym (onto_more before.events after.events (walk_with third []));
  shown = omega (arith, before.shown, after.shown, length-append before.events after.events);
  gains = gains_lines a b c before.events after.events before.gains after.gains;
}

-- a piece that waits behind what waited
waits : (old mid : Progress) (piece : List ℕ) → mid.watch ≡ old.watch → mid.waiting.items ≡ old.waiting.items ++ piece → walk_with mid [] ≡ walk_with old piece
waits old mid piece watch waiting =
    ap (walk mid.watch.signer mid.watch.at) (append-nil mid.waiting.items ∙ waiting) ∙ ap (λ (w : Watching). walk w.signer w.at (old.waiting.items ++ piece)) watch

pub advances_waiting : (old mid : Progress) (piece : List ℕ) (held : Option (List ℕ)) → mid.watch ≡ old.watch → mid.shown ≡ old.shown → mid.waiting.items ≡ old.waiting.items ++ piece → Advances old piece mid held held
advances_waiting old mid piece held watch shown waiting = record {
  signer = ap (λ (w : Watching). w.signer) watch;
  counted = omega (arith, ap (λ (w : Watching). w.fed) watch, ap length waiting, length-append old.waiting.items piece);
  events = [];
  walked = sym (waits old mid piece watch waiting);
  shown = omega (arith, shown);
  gains = gains_nothing held;
}

-- what stops behind a piece that waited stops behind the piece
pub stops_waiting : (old mid : Progress) (piece : List ℕ) (answer : Ending) (before now : Option (List ℕ)) → mid.watch ≡ old.watch → mid.waiting.items ≡ old.waiting.items ++ piece
    → StopsShowing (walk_with mid []) answer before now → StopsShowing (walk_with old piece) answer before now
stops_waiting old mid piece answer before now watch waiting stops = subst (λ (w : Walk). StopsShowing w answer before now) (waits old mid piece watch waiting) stops

-- a walk all of which was shown is where the watch is
shown_at : (old new : Progress) (read : List ℕ) (before now : Option (List ℕ)) (reached : Advances old read new before now) → new.waiting.items ≡ [] → IsCurrent new.watch
    → walk_with old read ≡ record { events = reached.events; at = new.watch.at }
shown_at old new read before now reached none current =
    reached.walked
    ∙ ap (walk_onto reached.events) (ap (λ (bytes : List ℕ). walk new.watch.signer new.watch.at (bytes ++ [])) none ∙ current.walked)
    ∙ ap (λ (events : List Parts). record { events = events; at = new.watch.at }) (append-nil reached.events)

-- ## How it ends

-- what was shown of a walk that ends here comes behind what was shown before
ends_showing : (events : List Parts) (walked : Walk) (taken : List ℕ) (left : Option (List ℕ)) (answer : Ending) (a b c : Option (List ℕ)) → Gains a b (event_lines events) → StopsShowing walked answer b c
    → EndsWalk (walk_onto events walked) taken left answer a c
ends_showing events walked taken left (check_failed (checks.Chain fault)) a b c before stops = (inl stops.0, gains_lines a b c events walked.events before stops.1)
ends_showing events walked taken left output_fault a b c before stops = inl (prefix_lines a b c events walked.events before stops)
ends_showing events walked taken left no_memory a b c before stops = inl (prefix_lines a b c events walked.events before stops)
ends_showing events walked taken left other a b c before stops = absurd stops

-- how many bytes were read of an input
read_count : (start mid : Progress) (taken : List ℕ) (a b : Option (List ℕ)) → IsUnfed start → Advances start taken mid a b → mid.watch.fed + length mid.waiting.items ≡ length taken
read_count start mid taken a b new reached = omega (arith, reached.counted, new.unfed, ap length new.empty)

-- a piece that is the last one
pub ends_taking : (start mid : Progress) (taken piece : List ℕ) (left : Option (List ℕ)) (answer : Ending) (a b c : Option (List ℕ)) → IsUnfed start → IsFit mid → Advances start taken mid a b
    → StopsTaking mid piece answer b c → EndsWalk (walk_with start (take most_input (taken ++ piece))) (taken ++ piece) left answer a c
ends_taking start mid taken piece left answer a b c new fit reached stops = subst (λ (w : Walk). EndsWalk w (taken ++ piece) left answer a c) (sym walked) (by_end answer stops)
  where
    front : List ℕ
    front = take (room_of mid) piece

    count : mid.watch.fed + length mid.waiting.items ≡ length taken
    count = read_count start mid taken a b new reached

    most : most_input ≡ length taken + room_of mid
    most = omega (arith, fit.short, count)

    cut : take most_input (taken ++ piece) ≡ taken ++ front
    cut = ap (λ (n : ℕ). take n (taken ++ piece)) most ∙ take-append-add taken piece (room_of mid)

    walked : walk_with start (take most_input (taken ++ piece)) ≡ walk_onto reached.events (walk_with mid front)
    walked = ap (walk_with start) cut ∙ goes_on start mid taken front reached.events reached.signer reached.walked

    showing : (end : Ending) → StopsShowing (walk_with mid front) end b c → EndsWalk (walk_onto reached.events (walk_with mid front)) (taken ++ piece) left end a c
    showing end stops = ends_showing reached.events (walk_with mid front) (taken ++ piece) left end a b c reached.gains stops

    by_end : (end : Ending) → StopsTaking mid piece end b c → EndsWalk (walk_onto reached.events (walk_with mid front)) (taken ++ piece) left end a c
    by_end job_too_large stops = (stops.1, omega (arith, stops.0, count, fit.short, length-append taken piece), gains_lines a b c reached.events (walk_with mid front).events reached.gains stops.2)
    by_end (check_failed fault) stops = showing (check_failed fault) stops
    by_end output_fault stops = showing output_fault stops
    by_end no_memory stops = showing no_memory stops
    by_end done stops = showing done stops
    by_end (bad_words place) stops = showing (bad_words place) stops
    by_end (bad_job place) stops = showing (bad_job place) stops
    by_end read_fault stops = showing read_fault stops
    by_end (could_not_read_file path) stops = showing (could_not_read_file path) stops
    by_end (refused fault) stops = showing (refused fault) stops

-- all that was read counts
all_counts : (start mid : Progress) (taken : List ℕ) (a b : Option (List ℕ)) → IsUnfed start → IsFit mid → Advances start taken mid a b → take most_input taken ≡ taken
all_counts start mid taken a b new fit reached = take_all most_input taken (omega (arith, fit.short, read_count start mid taken a b new reached))

-- the bytes that wait are the last ones
pub ends_waiting : (start mid : Progress) (taken : List ℕ) (left : Option (List ℕ)) (answer : Ending) (a b c : Option (List ℕ)) → IsUnfed start → IsFit mid → Advances start taken mid a b
    → StopsShowing (walk_with mid []) answer b c → EndsWalk (walk_with start (take most_input taken)) taken left answer a c
ends_waiting start mid taken left answer a b c new fit reached stops =
    subst (λ (w : Walk). EndsWalk w taken left answer a c) (sym (ap (walk_with start) (all_counts start mid taken a b new fit reached) ∙ reached.walked))
    (ends_showing reached.events (walk_with mid []) taken left answer a b c reached.gains stops)

-- the input fails, and no event and no fault waits
pub ends_failed : (start new : Progress) (taken : List ℕ) (left : Option (List ℕ)) (a c : Option (List ℕ)) → IsUnfed start → IsFit new → IsIdle new → Advances start taken new a c
    → EndsWalk (walk_with start (take most_input taken)) taken left read_fault a c
ends_failed start new taken left a c begins fit idle reached =
    let events : reached.events ++ (walk_with new []).events ≡ reached.events = ap (λ (more : List Parts). reached.events ++ more) idle.none ∙ append-nil reached.events in
    subst (λ (w : Walk). EndsWalk w taken left read_fault a c) (sym (ap (walk_with start) (all_counts start new taken a c begins fit reached) ∙ reached.walked))
    (idle.sound, subst (λ (all : List Parts). Gains a c (event_lines all)) (sym events) reached.gains)

-- the chain ends behind the input
pub ends_input : (start new : Progress) (all left : Option (List ℕ)) (answer : Ending) (a b c : Option (List ℕ)) → IsUnfed start → IsFit new → (read : ReadsAll start all left new a b) → EndsInput new answer b c
    → EndsWalk (walk_with start (take most_input read.taken)) read.taken left answer a c
ends_input start new all left answer a b c begins fit read ends =
    subst (λ (w : Walk). EndsWalk w read.taken left answer a c)
    (sym (ap (walk_with start) (all_counts start new read.taken a b begins fit read.advances) ∙ shown_at start new read.taken a b read.advances read.none fit.current)) (by_end answer ends)
  where
    events : List Parts
    events = read.advances.events

    walked : Walk
    walked = record { events = events; at = new.watch.at }

    whole : AreAll read.taken left
    whole = (read.ended, omega (arith, fit.short, read_count start new read.taken a b begins read.advances))

    shown : new.shown ≡ length events
    shown = omega (arith, read.advances.shown, begins.unshown)

    last : Gains b c (count_line new.shown) → Gains a c (shown_chain events)
    last gains = gains_last a b c (count_line (length events)) (shown_chain events) (gains_front a b (event_lines events) (count_line (length events)) read.advances.gains) (rw (← shown) gains)

    front : GainsPrefix b c (count_line new.shown) → GainsPrefix a c (shown_chain events)
    front gains =
        prefix_join a b c (count_line (length events)) (shown_chain events) (gains_front a b (event_lines events) (count_line (length events)) read.advances.gains)
        (subst (λ n. GainsPrefix b c (count_line n)) shown gains)

    same : c ≡ b → Gains a c (event_lines events)
    same is = rw is read.advances.gains

    by_end : (end : Ending) → EndsInput new end b c → EndsWalk walked read.taken left end a c
    by_end done ends = (ends.0, whole, last ends.1)
    by_end (check_failed (checks.Chain fault)) ends = (inr (ends.0, whole), same ends.1)
    by_end output_fault ends = inr (ends.0, whole, front ends.1)
    by_end no_memory (inl is) = inl (prefix_from_whole a c (event_lines events) (same is))
    by_end no_memory (inr ends) = inr (ends.0, whole, front ends.1)
    by_end other ends = absurd ends

-- ## The watch of an input

-- a watch that has taken nothing
walk_new : (signer : Signer) (seed : List ℕ) (start : Progress) (taken : List ℕ) → start.watch ≡ new_watch signer seed → start.waiting.items ≡ [] → walk_with start (take most_input taken) ≡ walk_taken signer seed taken
walk_new signer seed start taken watch empty =
    ap (λ (w : Watching). walk w.signer w.at (start.waiting.items ++ take most_input taken)) watch
    ∙ ap (λ (bytes : List ℕ). walk signer (seed_point seed) (bytes ++ take most_input taken)) empty

pub watched_some : (signer : Signer) (seed : List ℕ) (start : Progress) (all left : Option (List ℕ)) (answer : Ending) (a c : Option (List ℕ)) → start.watch ≡ new_watch signer seed → start.waiting.items ≡ []
    → ReadsSome start all left answer a c → Watches signer seed all left answer a c
watched_some signer seed start all left answer a c watch empty read =
    record { taken = read.taken; cut = read.cut; ends = subst (λ (w : Walk). EndsWalk w read.taken left answer a c) (walk_new signer seed start read.taken watch empty) read.ends }

pub watched_all : (signer : Signer) (seed : List ℕ) (start new : Progress) (all left : Option (List ℕ)) (answer : Ending) (a b c : Option (List ℕ)) → start.watch ≡ new_watch signer seed → start.waiting.items ≡ []
    → start.shown ≡ 0 → IsFit new → ReadsAll start all left new a b → EndsInput new answer b c → Watches signer seed all left answer a c
watched_all signer seed start new all left answer a b c watch empty unshown fit read ends =
    watched_some signer seed start all left answer a c watch empty
    (record {
      taken = read.taken;
      cut = read.cut;
      ends = ends_input start new all left answer a b c (record { unfed = ap (λ (w : Watching). w.fed) watch; empty = empty; unshown = unshown }) fit read ends;
    })

-- nothing of the chain was read or written
pub watched_none : (signer : Signer) (seed : List ℕ) (left held : Option (List ℕ)) → Watches signer seed left left no_memory held held
watched_none signer seed left held = record { taken = []; cut = cut_at_start left; ends = inl (prefix_at_start held _) }

-- ## What waits is shown

-- the events of what waited have frames
pub waiting_framed : (old new : Progress) (events : List Parts) (fault : Option ChainFault) → WalksWaiting old new events fault → AreFramed events
waiting_framed old new events fault walks =
    walk_framed old.watch.signer old.watch.at (old.waiting.items ++ []) events (stays new.watch.at) (walks.walked ∙ ap (λ (events : List Parts). record { events = events; at = new.watch.at }) (sym (append-nil events)))

pub fit_shown : (old mid new : Progress) (events : List Parts) → IsFit old → WalksWaiting old mid events None → new.watch ≡ mid.watch → new.waiting.items ≡ mid.waiting.items → new.shown ≡ mid.shown + length events → IsFit new
fit_shown old mid new events fit walks watch waiting shown =
    let takes = walk_takes old.watch.signer old.watch.at (old.waiting.items ++ []) in
    record {
      short = omega (arith, ap (λ (w : Watching). w.fed) watch, walks.fed, ap length waiting, ap length walks.none, fit.short);
      few = omega (
        arith,
        shown,
        walks.shown,
        walks.fed,
        fit.few,
        takes,
        length-append old.waiting.items [],
        ap (λ (w : Watching). w.fed) watch,
        ap (λ (w : Watching). length (left_over w.at)) watch,
        ap (λ (w : Walk). length w.events) walks.walked,
        ap (λ (w : Walk). length (left_over w.at)) walks.walked,
      );
      current = subst IsCurrent (sym watch) walks.stands;
    }

-- the lines weren't all written
pub stops_unwritten : (old mid : Progress) (events : List Parts) (fault : Option ChainFault) (before now : Option (List ℕ)) (reason : StreamFault) → WalksWaiting old mid events fault
    → EndsEarly None (event_lines events) before now (stream_ending reason) → StopsShowing (walk_with old []) (stream_ending reason) before now
stops_unwritten old mid events fault before now reason walks ends_early =
    subst (λ (w : Walk). StopsShowing w (stream_ending reason) before now) (sym walks.walked) (by_early (stream_ending reason) ends_early)
  where
    by_early : (early : Ending) → EndsEarly None (event_lines events) before now early → StopsShowing (record { events = events; at = mid.watch.at }) early before now
    by_early (refused fault) ends_early = let wrong : None ≡ Some fault = ends_early.0 in cc
    by_early output_fault ends_early = ends_early
    by_early no_memory ends_early = ends_early
    by_early other ends_early = absurd ends_early

-- memory ran out before a line was written
pub stops_early : (walked : Walk) (held : Option (List ℕ)) → StopsShowing walked no_memory held held
stops_early walked held = prefix_at_start held (event_lines walked.events)

-- ## A piece

-- a walk that stops showing is no reason to read no more
stops_taking : (old : Progress) (piece : List ℕ) (answer : Ending) (before now : Option (List ℕ)) → StopsShowing (walk_with old (take (room_of old) piece)) answer before now → StopsTaking old piece answer before now
stops_taking old piece job_too_large before now stops = absurd stops
stops_taking old piece other before now stops = stops

-- there was no room for it
pub stops_roomless : (old : Progress) (piece : List ℕ) (held : Option (List ℕ)) → StopsTaking old piece no_memory held held
stops_roomless old piece held = stops_early (walk_with old (take (room_of old) piece)) held

-- the front of it that may be read waited, and was the last
pub stops_front : (old mid : Progress) (piece : List ℕ) (room : ℕ) (answer : Ending) (before now : Option (List ℕ)) → room ≡ room_of old → mid.watch ≡ old.watch → mid.waiting.items ≡ old.waiting.items ++ take room piece
    → StopsShowing (walk_with mid []) answer before now → StopsTaking old piece answer before now
stops_front old mid piece room answer before now is watch waiting stops =
    stops_taking old piece answer before now
    (subst (λ (n : ℕ). StopsShowing (walk_with old (take n piece)) answer before now) is (stops_waiting old mid (take room piece) answer before now watch waiting stops))

-- all of it waited
pub takes_shown : (old mid new : Progress) (piece : List ℕ) (before now : Option (List ℕ)) (result : Result (Unit {0}) Status) → mid.watch ≡ old.watch → mid.shown ≡ old.shown
    → mid.waiting.items ≡ old.waiting.items ++ piece → length piece ≤ room_of old → ShowsWaiting mid new before now result → TakesNext old piece new before now result
takes_shown old mid new piece before now (Ok tt) watch shown waiting short shows =
    subst (λ (read : List ℕ). Advances old read new before now) (append-nil piece)
    (advances_join old mid new piece [] before before now (advances_waiting old mid piece before watch shown waiting) shows.advances)
takes_shown old mid new piece before now (Err status) watch shown waiting short shows =
    stops_front old mid piece (room_of old) (ending_of status) before now refl watch (waiting ∙ ap (λ (b : List ℕ). old.waiting.items ++ b) (sym (take_all (room_of old) piece short))) shows

-- ## The input

-- the input was read to its end
pub reads_shown : (start mid new : Progress) (taken : List ℕ) (all left a b c : Option (List ℕ)) (result : Result (Unit {0}) Status) → IsUnfed start → IsFit mid → Advances start taken mid a b → IsCutOf all taken left
    → IsAtEnd left → ShowsWaiting mid new b c result → ReadsInput start all left new a c result
reads_shown start mid new taken all left a b c (Ok tt) begins fit reached cut ended shows =
    record { taken = taken; cut = cut; ended = ended; advances = subst (λ (read : List ℕ). Advances start read new a c) (append-nil taken) (advances_join start mid new taken [] a b c reached shows.advances); none = shows.none }
reads_shown start mid new taken all left a b c (Err status) begins fit reached cut ended shows =
    record { taken = taken; cut = cut; ends = ends_waiting start mid taken left (ending_of status) a b c begins fit reached shows }

-- a piece was the last one
pub reads_stopped : (start mid : Progress) (taken piece : List ℕ) (all left a b c : Option (List ℕ)) (answer : Ending) → IsUnfed start → IsFit mid → Advances start taken mid a b → IsCutOf all (taken ++ piece) left
    → StopsTaking mid piece answer b c → ReadsSome start all left answer a c
reads_stopped start mid taken piece all left a b c answer begins fit reached cut stops =
    record { taken = taken ++ piece; cut = cut; ends = ends_taking start mid taken piece left answer a b c begins fit reached stops }

-- the input failed
pub reads_failed : (start mid : Progress) (taken : List ℕ) (all left a b : Option (List ℕ)) → IsUnfed start → IsFit mid → IsIdle mid → Advances start taken mid a b → IsCutOf all taken left → ReadsSome start all left read_fault a b
reads_failed start mid taken all left a b begins fit idle reached cut =
    record { taken = taken; cut = cut; ends = ends_failed start mid taken left a b begins fit idle reached }

-- a read of no bytes leaves what was read
pub no_more : (all : Option (List ℕ)) (taken : List ℕ) (n : ℕ) (into : List ℕ) (left : Option (List ℕ)) → n ≡ 0 → IsCutOf all (taken ++ take n into) left → IsCutOf all taken left
no_more all taken n into left none cut =
    subst (λ (read : List ℕ). IsCutOf all read left) (ap (λ (m : ℕ). taken ++ take m into) none ∙ ap (λ (rest : List ℕ). taken ++ rest) (nothing_first into) ∙ append-nil taken) cut
  where
    nothing_first : (bytes : List ℕ) → take 0 bytes ≡ []
    nothing_first [] = refl
    nothing_first (byte ∷ bytes) = refl

-- nothing was read yet
pub fit_new : (signer : Signer) (seed : List ℕ) (start : Progress) → start.watch ≡ new_watch signer seed → start.waiting.items ≡ [] → start.shown ≡ 0 → IsFit start
unfolding walk_frames walk_within
fit_new signer seed start watch empty unshown = record {
  short = omega (arith, ap (λ (w : Watching). w.fed) watch, ap length empty);
  few = omega (arith, unshown, ap (λ (w : Watching). w.fed) watch, ap (λ (w : Watching). length (left_over w.at)) watch);
  current = subst IsCurrent (sym watch) (record { walked = refl; sound = tt });
}
