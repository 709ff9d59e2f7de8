-- The lines of events, one after another.
use Rattle.std.proofs.Common.{◌≡◌, ℕ, ◌+◌, ◌<◌, List, ◌∷◌, ◌++◌, length, drop, get_or, Option, None, Some, refl, ap, ◌∙◌, subst, add-one}
use Rattle.std.specs.List.{flat_map}
use Rattle.std.specs.Prelude.{Result, Ok, Err}
use Rattle.std.proofs.Math.Seq.{drop-cons}
use Rattle.smithy_core.specs.Message.{Parts}
use Rattle.smithy_core.specs.Outside.{Gains, GainsRest}
use Rattle.smithy_core.proofs.GainLemmas.{gains_at_start, gains_front, gains_join, gains_last, prefix_join, prefix_within}
use Rattle.signed_stream.specs.EventLines.{event_line, event_lines}
use Rattle.signed_stream.specs.Sending.{EndsEarly, Sends}
use Rattle.signed_stream.specs.Status.{Ending, no_memory, output_fault, refused, stream_ending}
use Rattle.signed_stream.specs.declared.status.StreamFault.{StreamFault}

-- a text is sent in front of the rest
pub front_sent : (a b c : Option (List ℕ)) (front rest all : List ℕ) → GainsRest a b (front ++ rest) all → Gains b c front → GainsRest a c rest all
front_sent a b c front rest all before sends = gains_join a b c rest (front ++ rest) all before (gains_front b c front rest sends)

-- a text in front isn't sent whole
pub front_ended_early : (a b c : Option (List ℕ)) (front rest all : List ℕ) (early : Ending) → GainsRest a b (front ++ rest) all → EndsEarly None front b c early → EndsEarly None all a c early
front_ended_early a b c front rest all early before ends_early = by_early early ends_early
  where
    by_early : (early : Ending) → EndsEarly None front b c early → EndsEarly None all a c early
    by_early (refused fault) ends_early = let wrong : None ≡ Some fault = ends_early.0 in cc
    by_early output_fault ends_early = prefix_join a b c (front ++ rest) all before (prefix_within b c front rest ends_early)
    by_early no_memory ends_early = prefix_join a b c (front ++ rest) all before (prefix_within b c front rest ends_early)
    by_early other ends_early = absurd ends_early

-- a text is sent last
pub last_sent : {T : Type 0} (a b c : Option (List ℕ)) (last all : List ℕ) (answer : Result T StreamFault) → GainsRest a b last all → Sends None last b c answer → Sends None all a c answer
last_sent a b c last all (Ok value) before sends = (sends.0, gains_last a b c last all before sends.1)
last_sent a b c last all (Err fault) before sends = by_early (stream_ending fault) sends
  where
    by_early : (early : Ending) → EndsEarly None last b c early → EndsEarly None all a c early
    by_early (refused fault) ends_early = let wrong : None ≡ Some fault = ends_early.0 in cc
    by_early output_fault ends_early = prefix_join a b c last all before ends_early
    by_early no_memory ends_early = prefix_join a b c last all before ends_early
    by_early other ends_early = absurd ends_early

-- no event is sent yet
pub events_begin : (held : Option (List ℕ)) (events : List Parts) → GainsRest held held (event_lines events) (event_lines events)
events_begin held events = gains_at_start held (event_lines events)

-- the event in front, and then those to come
event_front : (events : List Parts) (i : ℕ) (event : Parts) → i < length events → event ≡ get_or events i event
    → event_lines (drop i events) ≡ event_line event ++ event_lines (drop (i + 1) events)
event_front events i event within is =
    let front : drop i events ≡ event ∷ drop (i + 1) events = drop-cons events i event within ∙ rw (← is, add-one) refl in
    ap (flat_map event_line) front

pub event_sent : (a b c : Option (List ℕ)) (events : List Parts) (i : ℕ) (event : Parts) (all : List ℕ) → i < length events → event ≡ get_or events i event
    → GainsRest a b (event_lines (drop i events)) all → Gains b c (event_line event) → GainsRest a c (event_lines (drop (i + 1) events)) all
event_sent a b c events i event all within is before sends =
    front_sent a b c (event_line event) (event_lines (drop (i + 1) events)) all (subst (λ rest. GainsRest a b rest all) (event_front events i event within is) before) sends

pub event_ended_early : (a b c : Option (List ℕ)) (events : List Parts) (i : ℕ) (event : Parts) (all : List ℕ) (early : Ending) → i < length events → event ≡ get_or events i event
    → GainsRest a b (event_lines (drop i events)) all → EndsEarly None (event_line event) b c early → EndsEarly None all a c early
event_ended_early a b c events i event all early within is before ends_early =
    front_ended_early a b c (event_line event) (event_lines (drop (i + 1) events)) all early (subst (λ rest. GainsRest a b rest all) (event_front events i event within is) before) ends_early
