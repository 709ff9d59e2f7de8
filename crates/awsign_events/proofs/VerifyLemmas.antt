-- A chain that is verified piece by piece: its events are printed, and its walk is where the watch is.
use Rattle.std.proofs.Common.{◌≡◌, ℕ, ◌+◌, ◌<◌, ◌⊎◌, inl, inr, true, List, [], ◌∷◌, ◌++◌, length, take, drop, get_or, Option, refl, sym, ap, subst, ◌∙◌, append-nil, append_assoc, length-append}
use Rattle.std.specs.Prelude.{IsOk, Result, Ok, Err}
use Rattle.smithy_core.specs.Calls.{one_more}
use Rattle.smithy_core.specs.Message.{Parts}
use Rattle.smithy_core.specs.Outside.{Gains, GainsPrefix, IsAtEnd}
use Rattle.smithy_core.proofs.CutLemmas.{cut_at_start}
use Rattle.smithy_core.proofs.GainLemmas.{gains_nothing, prefix_at_start, prefix_from_whole}
use Rattle.eventstream.specs.Key.{Signer}
use Rattle.chain_watch.specs.Walk.{Point, Walk, closed, ending, failed, seed_point, stays, unclosed, walk, walk_frames, walk_onto, walk_within}
use Rattle.chain_watch.specs.Watch.{AnswersState, DoesNothing, EndsWatch, Feeds, FeedsAt, FeedsPiece, Watching, state, unwalked}
use Rattle.chain_watch.specs.declared.chain_fault.ChainFault.{ChainFault}
use Rattle.chain_watch.specs.declared.chain_fault.ChainFault.TheVariants as chain
use Rattle.chain_watch.specs.declared.watch.Watched.{Watched}
use Rattle.chain_watch.proofs.WalkLemmas.{walk_joined}
use Rattle.env_config.specs.Sections.{FileText}
use Rattle.env_config.specs.declared.load_fault.EnvConfigFileLoadError.{EnvConfigFileLoadError}
use Rattle.env_config.specs.declared.load_fault.EnvConfigFileLoadError.TheVariants as load
use Rattle.awsign_words.specs.Words.{OptionValues}
use Rattle.awsign_words.specs.declared.events.EventForm.{EventForm}
use Rattle.awsign_run.specs.Chosen.{IsFaultOf, SignRefusal, SignsFor, refusal_of}
use Rattle.awsign_run.specs.Run.{LoadsAsked}
use Rattle.awsign_run.specs.Status.{fault_status, load_status}
use Rattle.awsign_run.specs.declared.fault.Fault.{Fault}
use Rattle.awsign_run.specs.declared.fault.Fault.TheVariants as run
use Rattle.awsign_run.specs.declared.status.Status.TheVariants.{Done, NoMemory, OutputFault}
use Rattle.awsign_events.specs.Decode.{WritesMessage}
use Rattle.awsign_events.specs.EventText.{is_spelled, message_text}
use Rattle.awsign_events.specs.EventsStatus.{chain_status}
use Rattle.awsign_events.specs.VerifyEvents.{EndsVerifying, IsNewVerifier, IsVerified, LacksFiles, PrintsEvents, PrintsFront, PrintsUpTo, StopsPrinting, StopsVerifying, VerifiesBy, VerifiesChain}
use Rattle.awsign_events.specs.declared.status.EventsStatus.{EventsStatus}
use Rattle.awsign_events.specs.declared.status.EventsStatus.TheVariants.{Ended, InputFault, Unspelled, Unverified}
use Rattle.awsign_events.specs.declared.verify.Verifier.{Verifier}
use Rattle.awsign_events.proofs.EncodeLemmas.{cut_at, one_taken}
use Rattle.awsign_events.proofs.ShowLemmas.{gains_more, gains_part, next_place, spelled_more}

-- ## Events that are printed

-- none
pub prints_none : (form : EventForm) (held : Option (List ℕ)) → PrintsUpTo form [] 1 held held
prints_none form held = (record { spelled = refl; gains = gains_nothing held }, refl)

-- what is printed is a front of itself
pub prints_whole : (form : EventForm) (events : List Parts) (before now : Option (List ℕ)) → PrintsEvents form events before now → PrintsFront form events before now
prints_whole form events before now prints =
    record { first = events; others = []; cut = sym (append-nil events); spelled = prints.spelled; gains = prefix_from_whole before now _ prints.gains }

-- and of what others come behind
pub prints_front : (form : EventForm) (events others : List Parts) (before now : Option (List ℕ)) → PrintsEvents form events before now → PrintsFront form (events ++ others) before now
prints_front form events others before now prints =
    record { first = events; others = others; cut = refl; spelled = prints.spelled; gains = prefix_from_whole before now _ prints.gains }

module _ (form : EventForm) (events : List Parts) (event : Parts) (place : ℕ) (a b c : Option (List ℕ)) (so_far : PrintsUpTo form events place a b) where
  -- one more
  pub prints_one : (next : ℕ) → next ≡ one_more place → (is_spelled form event ≡ true) × Gains b c (message_text form event) → PrintsUpTo form (events ++ event ∷ []) next a c
  prints_one next placed wrote = (
    record { spelled = spelled_more form events event so_far.0.spelled wrote.0; gains = gains_more form events event a b c so_far.0.gains wrote.1 },
    placed ∙ ap one_more so_far.1 ∙ next_place (length events) ∙ ap one_more (sym (length-append events (event ∷ []))),
  )

  module _ (others all : List Parts) (cut : all ≡ events ++ event ∷ others) where
    -- a front of one more
    prints_part : (is_spelled form event ≡ true) × GainsPrefix b c (message_text form event) → PrintsFront form all a c
    prints_part wrote = record {
      first = events ++ event ∷ [];
      others = others;
      cut = cut ∙ sym (append_assoc events (event ∷ []) others);
      spelled = spelled_more form events event so_far.0.spelled wrote.0;
      gains = gains_part form events event a b c so_far.0.gains wrote.1;
    }

    -- one that isn't written stops
    pub prints_stop : (status : EventsStatus) → WritesMessage form place event b c (Err status) → StopsPrinting form all status a c
    prints_stop (Unspelled at) writes = record {
      first = events;
      event = event;
      others = others;
      cut = cut;
      prints = rw writes.2 so_far.0;
      unspelled = writes.0;
      placed = writes.1 ∙ so_far.1;
    }
    prints_stop (Ended OutputFault) writes = prints_part writes
    prints_stop (Ended NoMemory) (inl same) = rw (cut, same) (prints_front form events (event ∷ others) a b so_far.0)
    prints_stop (Ended NoMemory) (inr writes) = prints_part writes
    prints_stop other writes = absurd writes

module _ (first events : List Parts) (i : ℕ) (event : Parts) (within : i < length events) (is : event ≡ get_or events i event) where
  -- those behind others, up to one more
  pub taken_behind : first ++ take (i + 1) events ≡ (first ++ take i events) ++ event ∷ []
  taken_behind = ap (λ (some : List Parts). first ++ some) (one_taken events i event within is) ∙ sym (append_assoc first (take i events) (event ∷ []))

  -- those behind others, cut at one
  pub cut_behind : first ++ events ≡ (first ++ take i events) ++ event ∷ drop (i + 1) events
  cut_behind = ap (λ (all : List Parts). first ++ all) (cut_at events i event within is) ∙ sym (append_assoc first (take i events) (event ∷ drop (i + 1) events))

-- what stops among the first of events stops among them
pub stops_among : (form : EventForm) (events others : List Parts) (status : EventsStatus) (before now : Option (List ℕ)) → StopsPrinting form events status before now
    → StopsPrinting form (events ++ others) status before now
stops_among form events others (Unspelled place) before now stops = record {
  first = stops.first;
  event = stops.event;
  others = stops.others ++ others;
  cut = ap (λ (all : List Parts). all ++ others) stops.cut ∙ append_assoc stops.first (stops.event ∷ stops.others) others;
  prints = stops.prints;
  unspelled = stops.unspelled;
  placed = stops.placed;
}
stops_among form events others (Ended OutputFault) before now stops = record {
  first = stops.first;
  others = stops.others ++ others;
  cut = ap (λ (all : List Parts). all ++ others) stops.cut ∙ append_assoc stops.first stops.others others;
  spelled = stops.spelled;
  gains = stops.gains;
}
stops_among form events others (Ended NoMemory) before now stops = record {
  first = stops.first;
  others = stops.others ++ others;
  cut = ap (λ (all : List Parts). all ++ others) stops.cut ∙ append_assoc stops.first stops.others others;
  spelled = stops.spelled;
  gains = stops.gains;
}
stops_among form events others status before now stops = absurd stops

-- ## Walks

-- nothing was taken
pub verified_none : (form : EventForm) (signer : Signer) (seed : List ℕ) (verifier : Verifier) (held : Option (List ℕ)) → IsNewVerifier signer seed verifier
    → IsVerified form signer seed [] verifier held held
unfolding walk_frames walk_within
verified_none form signer seed verifier held new =
    let here : verifier.watch.at ≡ seed_point seed = ap (λ (watch : Watching). watch.at) new.0 in
    record {
      events = [];
      signed = ap (λ (watch : Watching). watch.signer) new.0;
      walked = ap (λ (point : Point). stays point) (sym here);
      sound = subst (λ (point : Point). IsOk (state point)) (sym here) refl;
      prints = rw new.1 (prints_none form held);
    }

module _ (form : EventForm) (signer : Signer) (seed taken : List ℕ) (old : Verifier) (before mid : Option (List ℕ)) (so_far : IsVerified form signer seed taken old before mid) where
  -- the walk of more bytes goes on from the point of the watch
  walk_more : (more : List ℕ) → walk signer (seed_point seed) (taken ++ more) ≡ walk_onto so_far.events (walk old.watch.signer old.watch.at more)
  walk_more more =
      walk_joined signer (seed_point seed) taken more
      ∙ ap (λ (reached : Walk). walk_onto reached.events (walk signer reached.at more)) so_far.walked
      ∙ ap (λ (own : Signer). walk_onto so_far.events (walk own old.watch.at more)) (sym so_far.signed)

  -- memory ran out before more bytes were taken
  pub verified_roomless : (more : List ℕ) → StopsVerifying form (walk signer (seed_point seed) (taken ++ more)) (Ended NoMemory) before mid
  verified_roomless more =
      rw (walk_more more) (prints_front form so_far.events (walk old.watch.signer old.watch.at more).events before mid so_far.prints.0)

  -- the fault of a chain can't be met any more
  fed_by_point : (at : Point) (piece : List ℕ) (new : Watching) (gained : List Parts) (result : Result Watched ChainFault) → IsOk (state at) → FeedsAt at old.watch piece [] new gained result
      → FeedsPiece old.watch piece [] new gained result ⊎ ((result ≡ Err chain.NoMemory) × DoesNothing old.watch [] new gained)
  fed_by_point (unclosed signature passed left) piece new gained result sound feeds = feeds
  fed_by_point (closed passed) piece new gained result sound feeds = feeds
  fed_by_point (failed fault) piece new gained result sound feeds = absurd (let wrong = sound in cc)

  module _ (piece : List ℕ) (new : Watching) (gained : List Parts) where
    -- the walk of a piece that was fed has the events that were handed out
    fed_walk : (rest : Walk) → walk old.watch.signer old.watch.at piece ≡ walk_onto gained rest
        → walk signer (seed_point seed) (taken ++ piece) ≡ walk_onto (so_far.events ++ gained) rest
    fed_walk rest split =
        walk_more piece ∙ ap (walk_onto so_far.events) split
        ∙ ap (λ (events : List Parts). record { events = events; at = rest.at }) (sym (append_assoc so_far.events gained rest.events))

    -- and behind them nothing, where memory sufficed
    all_walk : (result : Result Watched ChainFault) → FeedsPiece old.watch piece [] new gained result → unwalked new ≡ stays new.at
        → walk signer (seed_point seed) (taken ++ piece) ≡ record { events = so_far.events ++ gained; at = new.at }
    all_walk result feeds none =
        fed_walk (stays new.at) (feeds.handed.split ∙ ap (λ (given : List Parts). walk_onto given (unwalked new)) (sym feeds.handed.gained) ∙ ap (walk_onto gained) none)
        ∙ ap (λ (events : List Parts). record { events = events; at = new.at }) (append-nil (so_far.events ++ gained))

    -- what the watch handed out is a front of the walk's events
    pub fed_front : (result : Result Watched ChainFault) → Feeds old.watch piece [] new gained result
        → (rest : Walk) × (walk signer (seed_point seed) (taken ++ piece) ≡ walk_onto (so_far.events ++ gained) rest)
    fed_front result feeds = by_taken (fed_by_point old.watch.at piece new gained result so_far.sound feeds)
      where
        by_taken : FeedsPiece old.watch piece [] new gained result ⊎ ((result ≡ Err chain.NoMemory) × DoesNothing old.watch [] new gained)
            → (rest : Walk) × (walk signer (seed_point seed) (taken ++ piece) ≡ walk_onto (so_far.events ++ gained) rest)
        by_taken (inl fed) = (unwalked new, fed_walk (unwalked new) (fed.handed.split ∙ ap (λ (given : List Parts). walk_onto given (unwalked new)) (sym fed.handed.gained)))
        by_taken (inr none) = (walk old.watch.signer old.watch.at piece, fed_walk (walk old.watch.signer old.watch.at piece) (rw none.1.1 refl))

    module _ (now : Option (List ℕ)) where
      -- printing stops
      pub fed_stops : (result : Result Watched ChainFault) (status : EventsStatus) → Feeds old.watch piece [] new gained result → StopsPrinting form (so_far.events ++ gained) status before now
          → StopsVerifying form (walk signer (seed_point seed) (taken ++ piece)) status before now
      fed_stops result status feeds stops =
          let front = fed_front result feeds in
          let among : StopsPrinting form ((so_far.events ++ gained) ++ front.0.events) status before now = stops_among form (so_far.events ++ gained) front.0.events status before now stops in
          rw front.1 (by_status (walk_onto (so_far.events ++ gained) front.0) status among)
        where
          by_status : (walked : Walk) (status : EventsStatus) → StopsPrinting form walked.events status before now → StopsVerifying form walked status before now
          by_status walked (Unverified fault) stops = absurd stops
          by_status walked status stops = stops

      -- the watch goes on
      pub fed_sound : (answer : Watched) (next : Verifier) → Feeds old.watch piece [] new gained (Ok answer) → next.watch ≡ new → PrintsUpTo form (so_far.events ++ gained) next.place before now
          → IsVerified form signer seed (taken ++ piece) next before now
      fed_sound answer next feeds watch prints = by_taken (fed_by_point old.watch.at piece new gained (Ok answer) so_far.sound feeds)
        where
          by_answer : FeedsPiece old.watch piece [] new gained (Ok answer) → AnswersState new (Ok answer) → IsVerified form signer seed (taken ++ piece) next before now
          by_answer fed (inl all) = record {
            events = so_far.events ++ gained;
            signed = ap (λ (w : Watching). w.signer) watch ∙ fed.signer ∙ so_far.signed;
            walked = all_walk (Ok answer) fed all.0 ∙ ap (λ (w : Watching). record { events = so_far.events ++ gained; at = w.at }) (sym watch);
            sound = subst (λ (w : Watching). IsOk (state w.at)) (sym watch) (subst (λ (state : Result Watched ChainFault). IsOk state) all.1 refl);
            prints = prints;
          }
          by_answer fed (inr want) = absurd (let wrong = want in cc)

          by_taken : FeedsPiece old.watch piece [] new gained (Ok answer) ⊎ ((Ok answer ≡ Err chain.NoMemory) × DoesNothing old.watch [] new gained)
              → IsVerified form signer seed (taken ++ piece) next before now
          by_taken (inl fed) = by_answer fed fed.answer
          by_taken (inr none) = absurd (let wrong = none.0 in cc)

      -- the watch met a fault, and memory sufficed
      fed_unverified : (fault : ChainFault) (result : Result Watched ChainFault) → result ≡ Err fault → (result ≡ Err chain.NoMemory → ⊥) → Feeds old.watch piece [] new gained result
          → PrintsEvents form (so_far.events ++ gained) before now → StopsVerifying form (walk signer (seed_point seed) (taken ++ piece)) (Unverified fault) before now
      fed_unverified fault result is roomy feeds prints = by_taken (fed_by_point old.watch.at piece new gained result so_far.sound feeds)
        where
          by_answer : FeedsPiece old.watch piece [] new gained result → AnswersState new result → StopsVerifying form (walk signer (seed_point seed) (taken ++ piece)) (Unverified fault) before now
          by_answer fed (inl all) = rw (all_walk result fed all.0) (sym all.1 ∙ is, prints)
          by_answer fed (inr want) = absurd (roomy want)

          by_taken : FeedsPiece old.watch piece [] new gained result ⊎ ((result ≡ Err chain.NoMemory) × DoesNothing old.watch [] new gained)
              → StopsVerifying form (walk signer (seed_point seed) (taken ++ piece)) (Unverified fault) before now
          by_taken (inl fed) = by_answer fed fed.answer
          by_taken (inr none) = absurd (roomy none.0)

      -- the watch met a fault
      pub fed_fault : (fault : ChainFault) → Feeds old.watch piece [] new gained (Err fault) → PrintsEvents form (so_far.events ++ gained) before now
          → StopsVerifying form (walk signer (seed_point seed) (taken ++ piece)) (chain_status fault) before now
      fed_fault chain.NoMemory feeds prints =
          let front = fed_front (Err chain.NoMemory) feeds in rw front.1 (prints_front form (so_far.events ++ gained) front.0.events before now prints)
      fed_fault (chain.NotChain frame part) feeds prints = fed_unverified (chain.NotChain frame part) (Err (chain.NotChain frame part)) refl (λ is. let wrong = is in cc) feeds prints
      fed_fault (chain.Mismatch frame carried recomputed) feeds prints =
          fed_unverified (chain.Mismatch frame carried recomputed) (Err (chain.Mismatch frame carried recomputed)) refl (λ is. let wrong = is in cc) feeds prints

  -- ## How the input ends

  -- the input failed, or too much of it came
  pub ends_unread : (left : Option (List ℕ)) → EndsVerifying form (walk signer (seed_point seed) taken) left InputFault before mid
  ends_unread left = rw so_far.walked (so_far.sound, so_far.prints.0)

  reached : old.watch.at ≡ (unwalked old.watch).at
  reached = ap (λ (w : Walk). w.at) (sym so_far.walked ∙ ap (walk signer (seed_point seed)) (sym (append-nil taken)) ∙ walk_more [])

  -- the chain ends behind the input
  pub ends_done : (left : Option (List ℕ)) (gained : List Parts) → IsAtEnd left → EndsWatch old.watch [] gained (Ok tt) → EndsVerifying form (walk signer (seed_point seed) taken) left (Ended Done) before mid
  ends_done left gained done (inl ends) = rw so_far.walked (done, ap ending reached ∙ sym ends.1, so_far.prints.0)
  ends_done left gained done (inr want) = absurd (let wrong = want.0 in cc)

  -- the chain can't end behind it
  pub ends_fault : (left : Option (List ℕ)) (gained : List Parts) (fault : ChainFault) → IsAtEnd left → EndsWatch old.watch [] gained (Err fault)
      → EndsVerifying form (walk signer (seed_point seed) taken) left (chain_status fault) before mid
  ends_fault left gained chain.NoMemory done ends = rw so_far.walked (prints_whole form so_far.events before mid so_far.prints.0)
  ends_fault left gained fault done (inl ends) = rw so_far.walked (inr (done, ap ending reached ∙ sym ends.1), so_far.prints.0)
  ends_fault left gained fault done (inr want) = absurd (let wrong = want.0 in cc)

-- what stops a walk ends the run
pub stops_run : (form : EventForm) (walked : Walk) (left : Option (List ℕ)) (status : EventsStatus) (before now : Option (List ℕ)) → StopsVerifying form walked status before now
    → EndsVerifying form walked left status before now
stops_run form walked left (Unverified fault) before now stops = (inl stops.0, stops.1)
stops_run form walked left (Unspelled place) before now stops = stops
stops_run form walked left (Ended OutputFault) before now stops = stops
stops_run form walked left (Ended NoMemory) before now stops = stops
stops_run form walked left other before now stops = absurd stops

-- a piece that was fed counts
pub fed_counts : (old new : Watching) (piece : List ℕ) (events gained : List Parts) (answer : Watched) → Feeds old piece events new gained (Ok answer) → new.fed ≡ old.fed + length piece
fed_counts old new piece events gained answer feeds = by_point old.at feeds
  where
    by_taken : FeedsPiece old piece events new gained (Ok answer) ⊎ ((Ok answer ≡ Err chain.NoMemory) × DoesNothing old events new gained) → new.fed ≡ old.fed + length piece
    by_taken (inl fed) = fed.fed
    by_taken (inr none) = absurd (let wrong = none.0 in cc)

    by_point : (at : Point) → FeedsAt at old piece events new gained (Ok answer) → new.fed ≡ old.fed + length piece
    by_point (unclosed signature passed left) feeds = by_taken feeds
    by_point (closed passed) feeds = by_taken feeds
    by_point (failed fault) feeds = absurd (let wrong = feeds.0 in cc)

-- ## The run

-- memory ran out before the input was read
pub verifies_roomless : (form : EventForm) (signer : Signer) (seed : List ℕ) (all held : Option (List ℕ)) → VerifiesChain form signer seed all all (Ended NoMemory) held held
verifies_roomless form signer seed all held = (
  [],
  cut_at_start all,
  record { first = []; others = (walk signer (seed_point seed) []).events; cut = refl; spelled = refl; gains = prefix_at_start held [] },
)

module _ (options : OptionValues) (all held : Option (List ℕ)) where
  -- memory may always run out
  unverified : (planned : Result SignsFor SignRefusal) → VerifiesBy options planned all all (Ended NoMemory) held held
  unverified (Ok signs) = verifies_roomless _ _ _ all held
  unverified (Err refusal) = (tt, (refl, refl))

  unchosen : (fault : Fault) → VerifiesBy options (Err (refusal_of fault)) all all (Ended (fault_status fault)) held held
  unchosen run.NoMemory = (tt, (refl, refl))
  unchosen fault = (refl, (refl, refl))

  -- nobody is chosen
  pub signer_lacks : (planned : Result SignsFor SignRefusal) (fault : Fault) → IsFaultOf planned fault → VerifiesBy options planned all all (Ended (fault_status fault)) held held
  signer_lacks planned fault (inl is) = rw is (unchosen fault)
  signer_lacks planned fault (inr is) = rw is (unverified planned)

-- profile files that aren't loaded
pub files_lack : (gave : List FileText → Type 0) (unread : List ℕ → Type 0) (name : List ℕ) (error : EnvConfigFileLoadError) → LoadsAsked gave unread name (Err error)
    → LacksFiles unread (Ended (load_status error))
files_lack gave unread name (load.CouldNotReadFile fault) is = is
files_lack gave unread name (load.ParseError error) is = absurd is
files_lack gave unread name load.NoMemory is = tt
