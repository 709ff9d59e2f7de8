-- A stream that is checked piece by piece is checked as one piece.
use Rattle.std.proofs.Common.{◌≡◌, ◌∙◌, ℕ, ◌+◌, ◌⊎◌, inl, inr, List, [], ◌++◌, length, drop, get_or, Result, Ok, Err, refl, sym, ap, subst, ◌<◌, ◌≤◌, ◌∷◌, add-one, append-nil, append_assoc, length-append, arith}
use Rattle.std.proofs.Math.Seq.{drop-cons}
use Rattle.std.proofs.lemmas.List.{at_drop_all}
use Rattle.std.proofs.lemmas.List.Concat.{flat_map-cons}
use Rattle.std.specs.List.{flat_map}
use Rattle.smithy_core.specs.Message.{Parts}
use Rattle.eventstream.specs.Key.{Signer}
use Rattle.chain_watch.specs.Calls.{EndsChain}
use Rattle.chain_watch.specs.Walk.{Point, Walk, chain_events, closed, failed, seed_point, unclosed, walk, walk_frames, walk_onto, walk_outcome, walk_within}
use Rattle.chain_watch.specs.Watch.{AnswersState, FeedsAt, FeedsPiece, Watching, new_watch, state, unwalked}
use Rattle.chain_watch.specs.declared.chain_fault.ChainFault.{ChainFault}
use Rattle.chain_watch.specs.declared.chain_fault.ChainFault.TheVariants.{NoMemory}
use Rattle.chain_watch.specs.declared.watch.Watched.{Watched}
use Rattle.chain_watch.specs.declared.watch.Watched.TheVariants.{Open}
use Rattle.chain_watch.proofs.CallLemmas.{check_ends, goes_on}
use Rattle.chain_watch.proofs.FrameLemmas.{fault_in}
use Rattle.chain_watch.proofs.WalkLemmas.{starts}
use Rattle.aws_signing.specs.SigningFaults.{of_chain}
use Rattle.aws_signing.specs.Watched.{ChecksEvents, EndsWatched, FeedsWatched, IsFedSoFar}
use Rattle.aws_signing.specs.declared.fault.AwsSigningError.{AwsSigningError}

-- no byte was taken yet
pub fed_nothing : (signer : Signer) (seed all : List ℕ) → IsFedSoFar signer seed all all (new_watch signer seed) []
unfolding walk_frames walk_within
fed_nothing signer seed all = record {
  taken = [];
  split = refl;
  watched = Open;
  feeds = record { fed = refl; signer = refl; handed = record { given = []; gained = refl; split = refl }; answer = inl (refl, refl) };
}

-- two pieces, one after the other, are taken as one
pub fed_on : (old between new : Watching) (first second : List ℕ) (events gained all : List Parts) (before answer : Result Watched ChainFault)
    → FeedsPiece old first events between gained before → FeedsPiece between second gained new all answer → FeedsPiece old (first ++ second) events new all answer
fed_on old between new first second events gained all before answer one two =
    let given = one.handed.given in
    let more = two.handed.given in
    let kept : unwalked between ≡ walk old.signer between.at [] = ap (λ (signer : Signer). walk signer between.at []) one.signer in
    let later : walk old.signer between.at second ≡ walk_onto more (unwalked new) =
    ap (λ (signer : Signer). walk signer between.at second) (sym one.signer) ∙ two.handed.split in
    record {
      fed = omega (arith, one.fed, two.fed, length-append first second);
      signer = two.signer ∙ one.signer;
      handed = record {
        given = given ++ more;
        gained = two.handed.gained ∙ ap (λ (start : List Parts). start ++ more) one.handed.gained ∙ append_assoc events given more;
        split =
            goes_on old.signer old.at between.at first second given (one.handed.split ∙ ap (walk_onto given) kept) ∙ ap (walk_onto given) later
            ∙ ap (λ (each : List Parts). record { events = each; at = (unwalked new).at }) (sym (append_assoc given more (unwalked new).events));
      };
      answer = two.answer;
    }

-- a piece is taken, or the watch was at a fault, or memory ran out
taken_by : (at : Point) (old new : Watching) (piece : List ℕ) (events gained : List Parts) (answer : Result Watched ChainFault) → old.at ≡ at
    → FeedsAt at old piece events new gained answer
    → FeedsPiece old piece events new gained answer ⊎ (((told : ChainFault) × (old.at ≡ failed told) × (answer ≡ Err told)) ⊎ (answer ≡ Err NoMemory))
taken_by (unclosed signature passed left) old new piece events gained answer here (inl fed) = inl fed
taken_by (unclosed signature passed left) old new piece events gained answer here (inr none) = inr (inr none.0)
taken_by (closed passed) old new piece events gained answer here (inl fed) = inl fed
taken_by (closed passed) old new piece events gained answer here (inr none) = inr (inr none.0)
taken_by (failed told) old new piece events gained answer here feeds = inr (inl (told, here, feeds.0))

-- a watch whose last answer was no fault is at none
at_no_fault : (watch : Watching) (watched : Watched) (told : ChainFault) → AnswersState watch (Ok watched) → watch.at ≡ failed told → ⊥
at_no_fault watch watched told (inl all) is = let says : Ok watched ≡ Err told = all.1 ∙ ap state is in cc
at_no_fault watch watched told (inr want) is = cc

-- the piece at an index, of which this is a copy, is the next
pub piece_next : (signer : Signer) (seed all : List ℕ) (pieces : List (List ℕ)) (i : ℕ) (piece copy : List ℕ) (watch : Watching) (events : List Parts) → i < length pieces
    → piece ≡ get_or pieces i piece → copy ≡ piece → IsFedSoFar signer seed all (flat_map (λ (p : List ℕ). p) (drop i pieces)) watch events
    → IsFedSoFar signer seed all (copy ++ flat_map (λ (p : List ℕ). p) (drop (i + 1) pieces)) watch events
piece_next signer seed all pieces i piece copy watch events within is same so =
    let rest : List ℕ = flat_map (λ (p : List ℕ). p) (drop (i + 1) pieces) in
    let front : drop i pieces ≡ piece ∷ drop (i + 1) pieces = drop-cons pieces i piece within ∙ rw (← is, add-one) refl in
    let P : List ℕ → Type 0 = λ left. IsFedSoFar signer seed all left watch events in
    subst P
    (ap (flat_map (λ (p : List ℕ). p)) front ∙ flat_map-cons (λ (p : List ℕ). p) piece (drop (i + 1) pieces) ∙ ap (λ (p : List ℕ). p ++ rest) (sym same)) so

-- behind the last piece nothing is left
pub none_left : (signer : Signer) (seed all : List ℕ) (pieces : List (List ℕ)) (i : ℕ) (watch : Watching) (events : List Parts) → length pieces ≤ i
    → IsFedSoFar signer seed all (flat_map (λ (p : List ℕ). p) (drop i pieces)) watch events → IsFedSoFar signer seed all [] watch events
none_left signer seed all pieces i watch events behind so =
    let P : List ℕ → Type 0 = λ left. IsFedSoFar signer seed all left watch events in subst P (at_drop_all (flat_map (λ (p : List ℕ). p)) pieces i behind) so

-- the next piece is taken
pub fed_more : (signer : Signer) (seed all piece rest : List ℕ) (watch new : Watching) (events gained : List Parts) (watched : Watched)
    → IsFedSoFar signer seed all (piece ++ rest) watch events → FeedsWatched watch piece events new gained (Ok watched) → IsFedSoFar signer seed all rest new gained
fed_more signer seed all piece rest watch new events gained watched so feeds = by (taken_by watch.at watch new piece events gained (Ok watched) refl feeds)
  where
    by : FeedsPiece watch piece events new gained (Ok watched) ⊎ (((told : ChainFault) × (watch.at ≡ failed told) × (Ok watched ≡ Err told)) ⊎ (Ok watched ≡ Err NoMemory))
        → IsFedSoFar signer seed all rest new gained
    by (inl fed) = record {
      taken = so.taken ++ piece;
      split = so.split ∙ sym (append_assoc so.taken piece rest);
      watched = watched;
      feeds = fed_on (new_watch signer seed) watch new so.taken piece [] events gained (Ok so.watched) (Ok watched) so.feeds fed;
    }
    by (inr (inl failing)) = let wrong : Ok watched ≡ Err failing.0 = failing.2 in cc
    by (inr (inr wrong)) = cc

-- a fault of the first bytes is that of all
faulty : (signer : Signer) (seed first rest : List ℕ) (watch : Watching) (gained : List Parts) (told : ChainFault)
    → FeedsPiece (new_watch signer seed) first [] watch gained (Err told) → (chain_events signer seed (first ++ rest) ≡ Err told) ⊎ (told ≡ NoMemory)
faulty signer seed first rest watch gained told piece = by piece.answer
  where
    from : Point → Walk
    from at = walk signer at rest

    at_fault : (at : Point) → Err told ≡ state at → walk_outcome [] (walk_onto piece.handed.given (from at)) ≡ Err told
    at_fault (unclosed signature passed left) says = cc
    at_fault (closed passed) says = cc
    at_fault (failed found) says = ap (λ (fault : ChainFault). Err fault) (ap (fault_in told) (sym says))

    by : AnswersState watch (Err told) → (chain_events signer seed (first ++ rest) ≡ Err told) ⊎ (told ≡ NoMemory)
    by (inr want) = inr (ap (fault_in NoMemory) want)
    by (inl all) =
        let signs : unwalked watch ≡ walk signer watch.at [] = ap (λ (who : Signer). walk who watch.at []) piece.signer in
        inl (sym (starts signer seed (first ++ rest))
        ∙ ap (walk_outcome []) (goes_on signer (seed_point seed) watch.at first rest piece.handed.given (piece.handed.split ∙ ap (walk_onto piece.handed.given) signs))
        ∙ at_fault watch.at all.1)

-- the next piece isn't taken, or has a fault
pub fails_on : (signer : Signer) (seed all piece rest : List ℕ) (watch new : Watching) (events gained : List Parts) (told : AwsSigningError)
    → IsFedSoFar signer seed all (piece ++ rest) watch events → FeedsWatched watch piece events new gained (Err told) → ChecksEvents signer seed all (Err told)
fails_on signer seed all piece rest watch new events gained told so (inr long) =
    inr (inl (omega (arith, long.0, so.feeds.fed, ap length so.split, length-append so.taken (piece ++ rest), length-append piece rest), long.2))
fails_on signer seed all piece rest watch new events gained told so (inl (fault, feeds, is)) =
    by (taken_by watch.at watch new piece events gained (Err fault) refl feeds)
  where
    by_fault : (chain_events signer seed ((so.taken ++ piece) ++ rest) ≡ Err fault) ⊎ (fault ≡ NoMemory) → ChecksEvents signer seed all (Err told)
    by_fault (inl wrong) = inl (fault, ap (chain_events signer seed) (so.split ∙ sym (append_assoc so.taken piece rest)) ∙ wrong, is)
    by_fault (inr want) = inr (inr (is ∙ ap of_chain want))

    by : FeedsPiece watch piece events new gained (Err fault)
        ⊎ (((told : ChainFault) × (watch.at ≡ failed told) × ◌≡◌ {A = Result Watched ChainFault} (Err fault) (Err told)) ⊎ ◌≡◌ {A = Result Watched ChainFault} (Err fault) (Err NoMemory))
        → ChecksEvents signer seed all (Err told)
    by (inl fed) =
        by_fault (faulty signer seed (so.taken ++ piece) rest new gained fault (fed_on (new_watch signer seed) watch new so.taken piece [] events gained (Ok so.watched) (Err fault) so.feeds fed))
    by (inr (inl failing)) = absurd (at_no_fault watch so.watched failing.0 so.feeds.answer failing.1)
    by (inr (inr want)) = by_fault (inr (ap (fault_in NoMemory) want))

-- all pieces were taken, and the stream ends
pub ends_well : (signer : Signer) (seed all : List ℕ) (watch : Watching) (events gained : List Parts) → IsFedSoFar signer seed all [] watch events
    → EndsWatched watch events gained (Ok tt) → chain_events signer seed all ≡ Ok gained
ends_well signer seed all watch events gained so ends =
    ap (chain_events signer seed) (so.split ∙ append-nil so.taken) ∙ check_ends signer seed so.taken watch events gained so.watched (Ok tt) (inl so.feeds) ends

-- or it has a fault
pub ends_ill : (signer : Signer) (seed all : List ℕ) (watch : Watching) (events gained : List Parts) (told : AwsSigningError)
    → IsFedSoFar signer seed all [] watch events → EndsWatched watch events gained (Err told) → ChecksEvents signer seed all (Err told)
ends_ill signer seed all watch events gained told so (fault, ends, is) = by (check_ends signer seed so.taken watch events gained so.watched (Err fault) (inl so.feeds) ends)
  where
    by : EndsChain (chain_events signer seed so.taken) gained (Err fault) → ChecksEvents signer seed all (Err told)
    by (inl wrong) = inl (fault, ap (chain_events signer seed) (so.split ∙ append-nil so.taken) ∙ wrong, is)
    by (inr want) = inr (inr (is ∙ ap of_chain want))

pub ruleset checks = (fed_nothing, fed_more, fails_on, ends_well, ends_ill)
