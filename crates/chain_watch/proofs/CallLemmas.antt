-- What calls of a watch hand out, one after another.
use Rattle.std.proofs.Common.{◌≡◌, ℕ, ◌+◌, List, [], ◌∷◌, ◌++◌, length, Result, Ok, Err, inl, inr, ◌⊎◌, refl, sym, ap, subst, ◌∙◌, append-nil, append_assoc, arith, length-append}
use Rattle.std.proofs.lemmas.List.{append_cancel_left, nil_from_length}
use Rattle.smithy_core.specs.Message.{Parts}
use Rattle.eventstream.specs.Bind.{◌>>=◌}
use Rattle.eventstream.specs.Key.{Signer}
use Rattle.chain_watch.specs.declared.chain_fault.ChainFault.{ChainFault}
use Rattle.chain_watch.specs.declared.chain_fault.ChainFault.TheVariants.{NoMemory}
use Rattle.chain_watch.specs.declared.watch.Watched.{Watched}
use Rattle.chain_watch.specs.Calls.{AnswersWalk, AreFed, EndsChain, Feeding, HandOut, IsFed, handed_out, taken_by}
use Rattle.chain_watch.specs.Walk.{Point, Walk, chain_events, closed, ending, failed, outcome, seed_point, stays, unclosed, walk, walk_onto, walk_outcome}
use Rattle.chain_watch.specs.Watch.{AnswersState, Feeds, FeedsAt, EndsWatch, DoesNothing, FeedsPiece, Watching, new_watch, state, unwalked}
use Rattle.chain_watch.proofs.FrameLemmas.{fault_in}
use Rattle.chain_watch.proofs.WalkLemmas.{starts, walk_joined}

-- ## One call

none_gained : {A : Type 0} (before gained : List A) → before ++ gained ≡ before → gained ≡ []
none_gained before gained same = append_cancel_left before gained [] (same ∙ sym (append-nil before))

-- what a call does: the walk of the bytes that it takes has the events that it hands out, and then those of the bytes that are kept; and
-- where memory sufficed nothing of it is left
record Does (old : Watching) (call : Feeding) (new : Watching) : Type 0 where
  signer : new.signer ≡ old.signer
  walked : walk old.signer old.at call.taken ≡ walk_onto call.events (unwalked new)
  answer : AnswersState new call.answer

-- a call that takes nothing
idles : (old new : Watching) (call : Feeding) (before : List Parts) → new ≡ old → before ++ call.events ≡ before → new.fed ≡ old.fed + length call.taken
    → AnswersState new call.answer → Does old call new
idles old new call before same gained fed answer =
    let none : call.taken ≡ [] = nil_from_length call.taken (omega (arith, fed, ap (λ (watch : Watching). watch.fed) same)) in
    record {
      signer = ap (λ (watch : Watching). watch.signer) same;
      walked = rw (none, none_gained before call.events gained, same) refl;
      answer = answer;
    }

takes : (old new : Watching) (call : Feeding) (before : List Parts) → FeedsPiece old call.piece before new (before ++ call.events) call.answer
    → new.fed ≡ old.fed + length call.taken → (call.taken ≡ call.piece) ⊎ (call.taken ≡ []) → Does old call new
takes old new call before piece fed whole =
    let events : call.events ≡ piece.handed.given = append_cancel_left before call.events piece.handed.given piece.handed.gained in
    record {
      signer = piece.signer;
      walked = rw (all whole, events) piece.handed.split;
      answer = piece.answer;
    }
  where
    all : (call.taken ≡ call.piece) ⊎ (call.taken ≡ []) → call.taken ≡ call.piece
    all (inl is) = is
    all (inr none) = none ∙ sym (nil_from_length call.piece (omega (arith, fed, piece.fed, ap length none)))

does : (old new : Watching) (call : Feeding) → IsFed old call new → Does old call new
does old new call is = by_point old.at refl is.feeds
  where
    taken_or_not : FeedsPiece old call.piece is.before new (is.before ++ call.events) call.answer
        ⊎ ((call.answer ≡ Err NoMemory) × DoesNothing old is.before new (is.before ++ call.events)) → Does old call new
    taken_or_not (inl piece) = takes old new call is.before piece is.fed is.whole
    taken_or_not (inr none) = idles old new call is.before none.1.0 none.1.1 is.fed (inr none.0)

    by_point : (at : Point) → old.at ≡ at → FeedsAt at old call.piece is.before new (is.before ++ call.events) call.answer → Does old call new
    by_point (unclosed signature passed left) here feeds = taken_or_not feeds
    by_point (closed passed) here feeds = taken_or_not feeds
    by_point (failed told) here feeds =
        let now : new.at ≡ failed told = ap (λ (watch : Watching). watch.at) feeds.1.0 ∙ here in
        idles old new call is.before feeds.1.0 feeds.1.1 is.fed (inl (rw now refl, rw now feeds.0))

-- ## Calls, one after another

-- events before a walk, some and then others
pub onto_more : (first second : List Parts) (others : Walk) → walk_onto (first ++ second) others ≡ walk_onto first (walk_onto second others)
onto_more first second others = ap (λ (events : List Parts). record { events = events; at = others.at }) (append_assoc first second others.events)

-- what is walked after the bytes that a call took goes on from the point that it kept
pub goes_on : (signer : Signer) (at kept : Point) (taken others : List ℕ) (events : List Parts) → walk signer at taken ≡ walk_onto events (walk signer kept [])
    → walk signer at (taken ++ others) ≡ walk_onto events (walk signer kept others)
goes_on signer at kept taken others events walked =
    let left = walk signer kept [] in
    walk_joined signer at taken others
    ∙ ap (λ (reached : Walk). walk_onto reached.events (walk signer reached.at others)) walked
    ∙ onto_more events left.events (walk signer left.at others)
    ∙ ap (walk_onto events) (sym (walk_joined signer kept [] others))

pub hand_out : (calls : List Feeding) (old new : Watching) → AreFed old calls new → HandOut old calls new
hand_out [] old new same = rw same (record { fed = omega arith; signer = refl; walked = refl })
hand_out (call ∷ calls) old new (between, is, each) =
    let first = does old between call is in
    let others = hand_out calls between new each in
    let same : unwalked between ≡ walk old.signer between.at [] = ap (λ (signer : Signer). walk signer between.at []) first.signer in
    let later : walk old.signer between.at (taken_by calls) ≡ walk_onto (handed_out calls) (unwalked new) =
    ap (λ (signer : Signer). walk signer between.at (taken_by calls)) (sym first.signer) ∙ others.walked in
    record {
      fed = omega (arith, is.fed, others.fed, length-append call.taken (taken_by calls));
      signer = others.signer ∙ first.signer;
      walked =
          goes_on old.signer old.at between.at call.taken (taken_by calls) call.events (first.walked ∙ ap (walk_onto call.events) same)
          ∙ ap (walk_onto call.events) later ∙ sym (onto_more call.events (handed_out calls) (unwalked new));
    }

-- one call more
fed_more : (calls : List Feeding) (last : Feeding) (old between new : Watching) → AreFed old calls between → IsFed between last new → AreFed old (calls ++ last ∷ []) new
fed_more [] last old between new same is = (new, subst (λ (watch : Watching). IsFed watch last new) same is, refl)
fed_more (call ∷ calls) last old between new (next, first, each) is = (next, first, fed_more calls last next between new each is)

-- where memory sufficed at the last call all events of the bytes taken were handed out
pub answers_walk : (calls : List Feeding) (last : Feeding) (old between new : Watching) → AreFed old calls between → IsFed between last new
    → AnswersWalk old (calls ++ last ∷ []) last.answer
answers_walk calls last old between new each is = by_answer (does between new last is).answer
  where
    walked : walk old.signer old.at (taken_by (calls ++ last ∷ [])) ≡ walk_onto (handed_out (calls ++ last ∷ [])) (unwalked new)
    walked = (hand_out (calls ++ last ∷ []) old new (fed_more calls last old between new each is)).walked

    by_answer : AnswersState new last.answer → AnswersWalk old (calls ++ last ∷ []) last.answer
    by_answer (inr want) = inr want
    by_answer (inl all) =
        let reached : walk old.signer old.at (taken_by (calls ++ last ∷ [])) ≡ walk_onto (handed_out (calls ++ last ∷ [])) (stays new.at) =
        walked ∙ ap (walk_onto (handed_out (calls ++ last ∷ []))) all.0 in
        inl (
          sym (ap (λ (w : Walk). w.events) reached ∙ append-nil (handed_out (calls ++ last ∷ []))),
          all.1 ∙ ap state (sym (ap (λ (w : Walk). w.at) reached)),
        )

-- ## The end

-- the outcome of a walk after these events, where it ends like this
ended : (events : List Parts) (walked : Walk) (result : Result (Unit {0}) ChainFault) → result ≡ ending walked.at → EndsChain (walk_outcome events walked) (events ++ walked.events) result
ended events walked (Ok tt) is = ap (λ (end : Result (Unit {0}) ChainFault). end >>= (λ _. Ok (events ++ walked.events))) (sym is)
ended events walked (Err told) is = inl (ap (λ (end : Result (Unit {0}) ChainFault). end >>= (λ _. Ok (events ++ walked.events))) (sym is))

finished : (watch : Watching) (wanted : Result (List Parts) ChainFault) (before events given : List Parts) (result : Result (Unit {0}) ChainFault)
    → wanted ≡ walk_outcome given (unwalked watch) → EndsWatch watch before (before ++ events) result → EndsChain wanted (given ++ events) result
finished watch wanted before events given result is (inl all) =
    let same : events ≡ (unwalked watch).events = append_cancel_left before events (unwalked watch).events all.0 in
    rw (is, same) (ended given (unwalked watch) result all.1)
finished watch wanted before events given result is (inr want) = rw want.0 (inr refl)

-- with the events of `finish` the answer is that of all bytes taken
pub ends_chain : (signer : Signer) (seed : List ℕ) (calls : List Feeding) (watch : Watching) (before events : List Parts) (result : Result (Unit {0}) ChainFault)
    → AreFed (new_watch signer seed) calls watch → EndsWatch watch before (before ++ events) result
    → EndsChain (chain_events signer seed (taken_by calls)) (handed_out calls ++ events) result
ends_chain signer seed calls watch before events result each finishes =
    finished watch (chain_events signer seed (taken_by calls)) before events (handed_out calls) result
    (sym (starts signer seed (taken_by calls)) ∙ ap (walk_outcome []) (hand_out calls (new_watch signer seed) watch each).walked) finishes

-- the outcome at a fault
faulty : (at : Point) (events : List Parts) (told : ChainFault) → state at ≡ Err told → outcome events at ≡ Err told
faulty (unclosed signature passed left) events told is = cc
faulty (closed passed) events told is = cc
faulty (failed found) events told is = ap (λ (fault : ChainFault). Err fault) (ap (fault_in told) is)

-- the whole input as one piece, and then the end
pub check_ends : (signer : Signer) (seed bytes : List ℕ) (watch : Watching) (gained events : List Parts) (watched : Watched) (result : Result (Unit {0}) ChainFault)
    → Feeds (new_watch signer seed) bytes [] watch gained (Ok watched) → EndsWatch watch gained events result → EndsChain (chain_events signer seed bytes) events result
check_ends signer seed bytes watch gained events watched result (inr none) finishes = let wrong : Ok watched ≡ Err NoMemory = none.0 in cc
check_ends signer seed bytes watch gained events watched result (inl piece) finishes = by_end finishes
  where
    walked : chain_events signer seed bytes ≡ walk_outcome gained (unwalked watch)
    walked =
        sym (starts signer seed bytes) ∙ ap (walk_outcome []) piece.handed.split
        ∙ ap (λ (first : List Parts). walk_outcome first (unwalked watch)) (sym piece.handed.gained)

    by_end : EndsWatch watch gained events result → EndsChain (chain_events signer seed bytes) events result
    by_end (inl all) = rw (walked, all.0) (ended gained (unwalked watch) result all.1)
    by_end (inr want) = rw want.0 (inr refl)

-- a fault of it
pub check_fails : (signer : Signer) (seed bytes : List ℕ) (watch : Watching) (gained : List Parts) (told : ChainFault)
    → Feeds (new_watch signer seed) bytes [] watch gained (Err told) → (chain_events signer seed bytes ≡ Err told) ⊎ (told ≡ NoMemory)
check_fails signer seed bytes watch gained told (inr none) = inr (ap (fault_in NoMemory) none.0)
check_fails signer seed bytes watch gained told (inl piece) = by_answer piece.answer
  where
    by_answer : AnswersState watch (Err told) → (chain_events signer seed bytes ≡ Err told) ⊎ (told ≡ NoMemory)
    by_answer (inr want) = inr (ap (fault_in NoMemory) want)
    by_answer (inl all) =
        let walked : walk signer (seed_point seed) bytes ≡ walk_onto piece.handed.given (stays watch.at) = piece.handed.split ∙ ap (walk_onto piece.handed.given) all.0 in
        inl (sym (starts signer seed bytes) ∙ ap (walk_outcome []) walked ∙ faulty watch.at (piece.handed.given ++ []) told (sym all.1))
