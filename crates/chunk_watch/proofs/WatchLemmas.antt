-- What a watch does in a call.
use Rattle.std.proofs.Common.{◌≡◌, ℕ, true, List, [], ◌∷◌, ◌++◌, None, Option, Ok, Err, inl, inr, refl, sym, ap, ◌∙◌, subst, append-nil, append_assoc}
use Rattle.std.specs.Prelude.{Result}
use Rattle.aws_chunked.specs.Made.{joined}
use Rattle.chunk_watch.specs.Signing.{Signing}
use Rattle.chunk_watch.specs.Walk.{ChunkPoint, Rules, step, with_more}
use Rattle.chunk_watch.specs.Watch.{ChunkWatching, FeedsChunks, HandsChunks, chunk_state, rules_of, count_after}
use Rattle.chunk_watch.specs.WatchParts.{StepsChunk, chunk_point_of}
use Rattle.chunk_watch.specs.declared.fault.ChunkFault.{ChunkFault}
use Rattle.chunk_watch.specs.declared.fault.ChunkFault.TheVariants.{NoMemory}
use Rattle.chunk_watch.specs.declared.limits.ChunkLimits.{ChunkLimits}
use Rattle.chunk_watch.specs.declared.watch.Phase.{Phase}
use Rattle.chunk_watch.specs.declared.watch.Phase.TheVariants as phases
use Rattle.chunk_watch.proofs.CountLemmas.{counted_both}
use Rattle.chunk_watch.proofs.WalkLemmas.{joined_both, walks_join}

module _ (signing : Signing) (limits : ChunkLimits) (declared : Option ℕ) (taken : ℕ) (given : List ℕ) (place : ℕ) (before left piece : List ℕ) where
  abbrev watching : ChunkPoint → ChunkWatching
  watching point = record { signing = signing; limits = limits; declared = declared; point = point; taken = taken }

  pushed : (phase : Phase) → chunk_point_of phase place before (left ++ piece) ≡ with_more (chunk_point_of phase place before left) piece
  pushed phases.Chunks = refl
  pushed phases.End = refl
  pushed (phases.Failed fault) = refl

  -- a piece is taken
  pub hands_nothing : (phase : Phase) (rest : List ℕ) → rest ≡ left ++ piece
      → HandsChunks (watching (chunk_point_of phase place before left)) (with_more (chunk_point_of phase place before left) piece) given (watching (chunk_point_of phase place before rest)) given
  hands_nothing phase rest e = record {
    handed = [];
    gained_is = sym (append-nil given);
    walks = ap (chunk_point_of phase place before) e ∙ pushed phase;
    same = refl;
  }

  -- behind a fault nothing is
  pub feeds_failed : (phase : Phase) (fault : ChunkFault) → phase ≡ phases.Failed fault
      → FeedsChunks (watching (chunk_point_of phase place before left)) piece given (watching (chunk_point_of phase place before left)) given (Err fault)
  feeds_failed phase fault is =
      let P : Phase → Type 0 = λ p. FeedsChunks (watching (chunk_point_of p place before left)) piece given (watching (chunk_point_of p place before left)) given (Err fault) in
      subst P (sym is) (inl (record { handed = []; gained_is = sym (append-nil given); walks = refl; same = refl }, inl (refl, refl)))

  -- or there is no room for it
  pub feeds_unpushed : (phase : Phase) (rest : List ℕ) (fault : ChunkFault) → rest ≡ left → fault ≡ NoMemory
      → FeedsChunks (watching (chunk_point_of phase place before left)) piece given (watching (chunk_point_of phase place before rest)) given (Err fault)
  feeds_unpushed phase rest fault same room =
      inr (ap (λ (f : ChunkFault). Err f) room, ap (λ (l : List ℕ). watching (chunk_point_of phase place before l)) same, refl)

module _ (old mid new : ChunkWatching) (from : ChunkPoint) (given told gained : List ℕ) where
  same_rules : HandsChunks old from given mid told → rules_of mid ≡ rules_of old
  same_rules hands = ap rules_of hands.same

  counted_on : (bytes before : List ℕ) {all : List ℕ} → all ≡ before ++ bytes → count_after (count_after old.taken before) bytes ≡ count_after old.taken all
  counted_on bytes before e = counted_both old.taken before bytes ∙ ap (count_after old.taken) (sym e)

  -- a step more
  pub hands_more : HandsChunks old from given mid told → StepsChunk {E = Unit {0}} mid told new gained (Ok true) → HandsChunks old from given new gained
  hands_more hands (bytes, one, gained_is, same, less) = record {
    handed = hands.handed ++ bytes ∷ [];
    gained_is =
        gained_is ∙ (ap (λ (front : List ℕ). front ++ bytes) hands.gained_is ∙ (append_assoc given (joined hands.handed) bytes
        ∙ ap (λ (rest : List ℕ). given ++ rest) (sym (joined_both hands.handed (bytes ∷ []) ∙ ap (λ (rest : List ℕ). joined hands.handed ++ rest) (append-nil bytes)))));
    walks = walks_join (rules_of old) from hands.handed mid.point (bytes ∷ []) new.point hands.walks
        (new.point, ap (λ (rules : Rules). step rules mid.point) (sym (same_rules hands)) ∙ one, refl);
    same =
        same ∙ (ap (λ (watch : ChunkWatching). record watch { point = new.point; taken = count_after watch.taken bytes }) hands.same
        ∙ ap (λ (count : ℕ). record old { point = new.point; taken = count }) (counted_on bytes (joined hands.handed)
        (joined_both hands.handed (bytes ∷ []) ∙ ap (λ (rest : List ℕ). joined hands.handed ++ rest) (append-nil bytes))));
  }

module _ (old mid new : ChunkWatching) (piece given told gained : List ℕ) (hands : HandsChunks old (with_more old.point piece) given mid told) where
  moved : new ≡ mid → gained ≡ told → HandsChunks old (with_more old.point piece) given new gained
  moved same same_bytes =
      subst (λ (watch : ChunkWatching). HandsChunks old (with_more old.point piece) given watch gained) (sym same)
      (subst (λ (bytes : List ℕ). HandsChunks old (with_more old.point piece) given mid bytes) (sym same_bytes) hands)

  -- no step is left
  pub feeds_stopped : (result : Result (Unit {0}) ChunkFault) → step (rules_of mid) mid.point ≡ None → new ≡ mid → gained ≡ told → result ≡ chunk_state new.point
      → FeedsChunks old piece given new gained result
  feeds_stopped result none same same_bytes is =
      inl (moved same same_bytes, inl (ap (λ (watch : ChunkWatching). step (rules_of watch) watch.point) same ∙ none, is))

  -- memory ran out in the walk
  pub feeds_stalled : (fault : ChunkFault) → new ≡ mid → gained ≡ told → fault ≡ NoMemory → FeedsChunks old piece given new gained (Err fault)
  feeds_stalled fault same same_bytes room = inl (moved same same_bytes, inr (ap (λ (f : ChunkFault). Err f) room))

pub ruleset feeds = (hands_nothing, feeds_failed, feeds_unpushed, hands_more, feeds_stopped, feeds_stalled)
