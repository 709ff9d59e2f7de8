-- What holds of a watch at its end: where it is done, and where it could be.
use Rattle.std.proofs.Common.{◌≡◌, ℕ, ◌≤◌, inl, inr, ◌⊎◌, List, [], ◌++◌, length, Option, Some, Result, Ok, Err, refl, sym, ap, subst, ◌∙◌, length-append, arith}
use Rattle.smithy_core.specs.Message.{Parts}
use Rattle.smithy_core.specs.Outside.{CountsFault, Gains, IsAtEnd, IsCutOf, IsRestOf}
use Rattle.smithy_core.proofs.CutLemmas.{cut_at_end, cut_at_start}
use Rattle.smithy_core.proofs.GainLemmas.{prefix_from_whole}
use Rattle.eventstream.specs.Bind.{◌>>=◌}
use Rattle.eventstream.specs.Key.{Signer}
use Rattle.env_config.specs.Files.{Place}
use Rattle.env_config.specs.Loading.{selected_profile}
use Rattle.env_config.specs.Sections.{FileText}
use Rattle.chain_watch.specs.Walk.{Point, Walk, chain_events, ending, failed, seed_point, walk, walk_onto}
use Rattle.chain_watch.specs.declared.chain_fault.ChainFault.{ChainFault}
use Rattle.chain_watch.proofs.AcceptedLemmas.{accepted_chain}
use Rattle.chain_watch.proofs.WalkLemmas.{starts, walk_joined}
use Rattle.signed_stream.specs.Plan.{FilesRead, loaded, most_input, unloaded, unreadable}
use Rattle.signed_stream.specs.Running.{Completes, HasWatchedInput, Unless, WentWatching, When, takes_files, takes_input, to_watch}
use Rattle.signed_stream.specs.Settings.{Selected, settings}
use Rattle.signed_stream.specs.Sources.{or_refused, selection}
use Rattle.signed_stream.specs.Status.{Ending, RunFault, bad_words, check_failed, could_not_read_file, done, job_too_large, no_memory, output_fault, read_fault, refused}
use Rattle.signed_stream.specs.WatchChain.{EndsWalk, FailsFor, GainsFrontOf, HasWatched, IsWholeInput, UnlessRead, Watches, WatchesInput, WatchesSelected, WatchesWords, shown_chain, walk_taken, watch_signer}
use Rattle.signed_stream.specs.WatchWords.{WatchWanted}
use Rattle.signed_stream.specs.declared.status.CheckFault.TheVariants as checks
use Rattle.signed_stream.proofs.ProgressLemmas.{take_all}
use Rattle.signed_stream.proofs.SaidLemmas.{IsSaid}

-- ## The end that is said

front_of : (walked : Walk) (taken : List ℕ) (left : Option (List ℕ)) (end : Ending) (before now : Option (List ℕ)) → EndsWalk walked taken left end before now → GainsFrontOf walked taken left before now
front_of walked taken left done before now ends = inr (ends.0, ends.1, prefix_from_whole before now _ ends.2)
front_of walked taken left (check_failed (checks.Chain fault)) before now ends = inl (prefix_from_whole before now _ ends.1)
front_of walked taken left job_too_large before now ends = inl (prefix_from_whole before now _ ends.2)
front_of walked taken left read_fault before now ends = inl (prefix_from_whole before now _ ends.1)
front_of walked taken left output_fault before now ends = ends
front_of walked taken left no_memory before now ends = ends
front_of walked taken left other before now ends = absurd ends

said_watches : (signer : Signer) (seed : List ℕ) (all left : Option (List ℕ)) (end answer : Ending) (before now : Option (List ℕ)) → Watches signer seed all left end before now → IsSaid end answer
    → Watches signer seed all left answer before now
said_watches signer seed all left end answer before now watches (inl is) = rw is watches
said_watches signer seed all left end answer before now watches (inr is) =
    rw is (record { taken = watches.taken; cut = watches.cut; ends = front_of (walk_taken signer seed watches.taken) watches.taken left end before now watches.ends })

said_selected : (wanted : WatchWanted) (chosen : Result Selected Ending) (all left : Option (List ℕ)) (end answer : Ending) (before now : Option (List ℕ)) → WatchesSelected wanted chosen all left end before now → IsSaid end answer
    → WatchesSelected wanted chosen all left answer before now
said_selected wanted (Ok selected) all left end answer before now watches said = said_watches (watch_signer wanted selected) wanted.seed all left end answer before now watches said
said_selected wanted (Err early) all left end answer before now watches (inl is) = rw is watches
said_selected wanted (Err early) all left end answer before now watches (inr is) = (inr is, watches.1, watches.2)

pub said_input : (gave : List Place → FilesRead → Type 0) (env : List (List ℕ × List ℕ)) (wanted : WatchWanted) (all left : Option (List ℕ)) (end answer : Ending) (before now : Option (List ℕ))
    → WatchesInput gave env wanted all left end before now → IsSaid end answer → WatchesInput gave env wanted all left answer before now
said_input gave env wanted all left end answer before now watches said = record {
  files = watches.files;
  given = watches.given;
  watches = said_selected wanted (selection env wanted.profile.service_id watches.files) all left end answer before now watches.watches said;
}

-- ## Where it is done

-- the whole input was taken
taken_all : (bytes taken : List ℕ) (all left : Option (List ℕ)) → all ≡ Some bytes → IsCutOf all taken left → IsAtEnd left → taken ≡ bytes
taken_all bytes taken all left shown cut ended = cut_at_end (Some bytes) taken left (rw shown at cut) ended

-- a chain that may end there is a chain of the events of its walk
whole_chain : (signer : Signer) (seed bytes : List ℕ) → ending (walk signer (seed_point seed) bytes).at ≡ Ok tt → chain_events signer seed bytes ≡ Ok (walk signer (seed_point seed) bytes).events
whole_chain signer seed bytes may = sym (starts signer seed bytes) ∙ ap (λ (end : Result (Unit {0}) ChainFault). end >>= (λ _. Ok (walk signer (seed_point seed) bytes).events)) may

done_watch : (env : List (List ℕ × List ℕ)) (wanted : WatchWanted) (bytes : List ℕ) (texts : List FileText) (selected : Selected) (all left before now : Option (List ℕ))
    → settings texts (selected_profile env) env wanted.profile.service_id ≡ Ok selected → all ≡ Some bytes → Watches (watch_signer wanted selected) wanted.seed all left done before now
    → HasWatched env wanted bytes (loaded texts) before now
done_watch env wanted bytes texts selected all left before now settled shown watches =
    let signer = watch_signer wanted selected in
    let same : watches.taken ≡ bytes = taken_all bytes watches.taken all left shown watches.cut watches.ends.1.0 in
    let short : length watches.taken ≤ most_input = watches.ends.1.1 in
    let walked : walk_taken signer wanted.seed watches.taken ≡ walk signer (seed_point wanted.seed) bytes =
    ap (walk signer (seed_point wanted.seed)) (take_all most_input watches.taken short ∙ same) in
    let chained = whole_chain signer wanted.seed bytes (subst (λ (w : Walk). ending w.at ≡ Ok tt) walked watches.ends.0) in
    let input : IsWholeInput env wanted bytes (loaded texts) = record {
      texts = texts;
      selected = selected;
      events = (walk signer (seed_point wanted.seed) bytes).events;
      short = subst (λ (b : List ℕ). length b ≤ most_input) same short;
      read = refl;
      settled = settled;
      chained = chained;
    } in
    (input, λ are. accepted_chain signer wanted.seed bytes input.events are chained, subst (λ (w : Walk). Gains before now (shown_chain w.events)) walked watches.ends.2)

-- a run that ended early isn't done
undone : (early : Ending) → (early ≡ done → ⊥) → (done ≡ early) ⊎ (done ≡ no_memory) → ⊥
undone early other (inl is) = other (sym is)
undone early other (inr is) = cc

done_selected : (env : List (List ℕ × List ℕ)) (wanted : WatchWanted) (bytes : List ℕ) (files : FilesRead) (all left before now : Option (List ℕ)) → all ≡ Some bytes
    → WatchesSelected wanted (selection env wanted.profile.service_id files) all left done before now → HasWatched env wanted bytes files before now
done_selected env wanted bytes unloaded all left before now shown watches = absurd (undone no_memory (λ e. cc) watches.0)
done_selected env wanted bytes (unreadable path) all left before now shown watches = absurd (undone (could_not_read_file path) (λ e. cc) watches.0)
done_selected env wanted bytes (loaded texts) all left before now shown watches = by_settings (settings texts (selected_profile env) env wanted.profile.service_id) refl watches
  where
    by_settings : (chosen : Result Selected RunFault) → settings texts (selected_profile env) env wanted.profile.service_id ≡ chosen
        → WatchesSelected wanted (or_refused chosen) all left done before now → HasWatched env wanted bytes (loaded texts) before now
    by_settings (Ok selected) is watches = done_watch env wanted bytes texts selected all left before now is shown watches
    by_settings (Err fault) is watches = absurd (undone (refused fault) (λ e. cc) watches.0)

-- ## Where it could be

-- a whole chain may end where its walk is
not_ended : (signer : Signer) (seed bytes : List ℕ) (events : List Parts) (fault : ChainFault) → chain_events signer seed bytes ≡ Ok events → ending (walk signer (seed_point seed) bytes).at ≡ Err fault → ⊥
not_ended signer seed bytes events fault chained fails =
    let wrong : Ok events ≡ Err fault =
    sym chained ∙ sym (starts signer seed bytes) ∙ ap (λ (end : Result (Unit {0}) ChainFault). end >>= (λ _. Ok (walk signer (seed_point seed) bytes).events)) fails in
    cc

-- a front of the bytes has no fault where they are a whole chain
no_fault : (signer : Signer) (seed bytes front rest : List ℕ) (events : List Parts) (fault : ChainFault) → chain_events signer seed bytes ≡ Ok events → bytes ≡ front ++ rest
    → (walk signer (seed_point seed) front).at ≡ failed fault → ⊥
no_fault signer seed bytes front rest events fault chained cut fails =
    let joined : walk signer (seed_point seed) bytes ≡ walk_onto (walk signer (seed_point seed) front).events (walk signer (walk signer (seed_point seed) front).at rest) =
    ap (walk signer (seed_point seed)) cut ∙ walk_joined signer (seed_point seed) front rest in
    let at : (walk signer (seed_point seed) bytes).at ≡ failed fault =
    ap (λ (w : Walk). w.at) joined ∙ ap (λ (p : Point). (walk signer p rest).at) fails in
    not_ended signer seed bytes events fault chained (ap ending at)

complete_watch : (wanted : WatchWanted) (selected : Selected) (bytes : List ℕ) (events : List Parts) (all left : Option (List ℕ)) (answer : Ending) (before now : Option (List ℕ)) → length bytes ≤ most_input
    → chain_events (watch_signer wanted selected) wanted.seed bytes ≡ Ok events → all ≡ Some bytes → Watches (watch_signer wanted selected) wanted.seed all left answer before now → Completes answer
complete_watch wanted selected bytes events all left answer before now short chained shown watches = by_answer answer watches.ends
  where
    signer : Signer
    signer = watch_signer wanted selected

    cut : (rest : List ℕ) × (left ≡ Some rest) × (bytes ≡ watches.taken ++ rest)
    cut = rw shown at watches.cut

    few : length watches.taken ≤ most_input
    few = omega (arith, short, ap length cut.2, length-append watches.taken cut.0)

    by_fault : (fault : ChainFault) → FailsFor (walk_taken signer wanted.seed watches.taken) watches.taken left fault → ⊥
    by_fault fault (inl fails) =
        no_fault signer wanted.seed bytes watches.taken cut.0 events fault chained cut.2 (subst (λ (b : List ℕ). (walk signer (seed_point wanted.seed) b).at ≡ failed fault) (take_all most_input watches.taken few) fails)
    by_fault fault (inr ends) =
        let same : watches.taken ≡ bytes = taken_all bytes watches.taken all left shown watches.cut ends.1.0 in
        not_ended signer wanted.seed bytes events fault chained
        (subst (λ (b : List ℕ). ending (walk signer (seed_point wanted.seed) b).at ≡ Err fault) (take_all most_input watches.taken few ∙ same) ends.0)

    by_answer : (end : Ending) → EndsWalk (walk_taken signer wanted.seed watches.taken) watches.taken left end before now → Completes end
    by_answer done ends = inl refl
    by_answer read_fault ends = inr (inl refl)
    by_answer output_fault ends = inr (inr (inl refl))
    by_answer no_memory ends = inr (inr (inr refl))
    by_answer (check_failed (checks.Chain fault)) ends = absurd (by_fault fault ends.0)
    by_answer job_too_large ends = absurd (omega (arith, ends.1, few))
    by_answer other ends = absurd ends

complete_selected : (env : List (List ℕ × List ℕ)) (wanted : WatchWanted) (bytes : List ℕ) (files : FilesRead) (all left : Option (List ℕ)) (answer : Ending) (before now : Option (List ℕ)) → all ≡ Some bytes
    → WatchesSelected wanted (selection env wanted.profile.service_id files) all left answer before now → IsWholeInput env wanted bytes files → Completes answer
complete_selected env wanted bytes files all left answer before now shown watches input =
    let chosen : selection env wanted.profile.service_id files ≡ Ok input.selected = ap (selection env wanted.profile.service_id) input.read ∙ ap or_refused input.settled in
    complete_watch wanted input.selected bytes input.events all left answer before now input.short input.chained shown
    (subst (λ (chosen : Result Selected Ending). WatchesSelected wanted chosen all left answer before now) chosen watches)

-- how a watch went
pub has_watched : (gave : List Place → FilesRead → Type 0) (env : List (List ℕ × List ℕ)) (wanted : WatchWanted) (all left : Option (List ℕ)) (end answer : Ending) (before now : Option (List ℕ))
    → WatchesInput gave env wanted all left end before now → IsSaid end answer → HasWatchedInput gave env wanted all left answer before now
has_watched gave env wanted all left end answer before now watches said =
    let input = said_input gave env wanted all left end answer before now watches said in
    record {
      input = input;
      headline = λ bytes shown is. done_selected env wanted bytes input.files all left before now shown (subst (λ (end : Ending). WatchesSelected wanted (selection env wanted.profile.service_id input.files) all left end before now) is input.watches);
      complete = λ bytes shown whole. complete_selected env wanted bytes input.files all left answer before now shown input.watches whole;
    }

-- what the words behind `watch` asked for went so
pub went_watching : (gave : List Place → FilesRead → Type 0) (env : List (List ℕ × List ℕ)) (read : Result WatchWanted ℕ) (all left : Option (List ℕ)) (end answer : Ending) (before now : Option (List ℕ))
    → WatchesWords gave env read all left end before now → IsSaid end answer → WentWatching gave env read all left answer before now
went_watching gave env (Ok wanted) all left end answer before now watches said = has_watched gave env wanted all left end answer before now watches said
went_watching gave env (Err place) all left end answer before now watches (inl is) = rw is watches
went_watching gave env (Err place) all left end answer before now watches (inr is) = (inr is, watches.1, watches.2)

-- and a rest of the input is left
pub rest_watched : (gave : List Place → FilesRead → Type 0) (env : List (List ℕ × List ℕ)) (read : Result WatchWanted ℕ) (all left : Option (List ℕ)) (end : Ending) (before now : Option (List ℕ))
    → WatchesWords gave env read all left end before now → IsRestOf all left
rest_watched gave env (Err place) all left end before now watches = rw watches.1 ([], cut_at_start all)
rest_watched gave env (Ok wanted) all left end before now watches = by_chosen (selection env wanted.profile.service_id watches.files) watches.watches
  where
    by_chosen : (chosen : Result Selected Ending) → WatchesSelected wanted chosen all left end before now → IsRestOf all left
    by_chosen (Ok selected) watched = (watched.taken, watched.cut)
    by_chosen (Err early) watched = rw watched.1 ([], cut_at_start all)

-- where it is done, the input was read to its end
pub watched_to_end : (gave : List Place → FilesRead → Type 0) (env : List (List ℕ × List ℕ)) (read : Result WatchWanted ℕ) (all left : Option (List ℕ)) (answer : Ending) (before now : Option (List ℕ))
    → WentWatching gave env read all left answer before now → answer ≡ done → IsAtEnd left
watched_to_end gave env (Err place) all left answer before now went is = absurd (undone (bad_words place) (λ e. cc) (rw is at went.0))
watched_to_end gave env (Ok wanted) all left answer before now went is = by_files went.input.files (rw is at went.input.watches)
  where
    by_chosen : (chosen : Result Selected RunFault) → WatchesSelected wanted (or_refused chosen) all left done before now → IsAtEnd left
    by_chosen (Ok selected) watched = watched.ends.1.0
    by_chosen (Err fault) watched = absurd (undone (refused fault) (λ e. cc) watched.0)

    by_files : (files : FilesRead) → WatchesSelected wanted (selection env wanted.profile.service_id files) all left done before now → IsAtEnd left
    by_files unloaded watched = absurd (undone no_memory (λ e. cc) watched.0)
    by_files (unreadable path) watched = absurd (undone (could_not_read_file path) (λ e. cc) watched.0)
    by_files (loaded texts) watched = by_chosen (settings texts (selected_profile env) env wanted.profile.service_id) watched

-- what holds after a watch holds where one is asked for
pub when_watched : (read : Result WatchWanted ℕ) (P : Type 0) → P → When (takes_input (to_watch read)) P
when_watched (Ok wanted) P holds = holds
when_watched (Err place) P holds = tt

-- ## Where a word is bad

-- nothing was read
pub unread_watched : (gave : List Place → FilesRead → Type 0) (env : List (List ℕ × List ℕ)) (read : Result WatchWanted ℕ) (all left : Option (List ℕ)) (end : Ending) (before now : Option (List ℕ)) (reads_before reads_now : ℕ)
    → WatchesWords gave env read all left end before now → CountsFault (end ≡ read_fault) reads_before reads_now → Unless (takes_input (to_watch read)) ((left ≡ all) × (reads_now ≡ reads_before))
unread_watched gave env (Ok wanted) all left end before now reads_before reads_now watches counts = tt
unread_watched gave env (Err place) all left end before now reads_before reads_now (inl is, same, held) counts = (same, counts.stayed (λ e. let wrong : bad_words place ≡ read_fault = sym is ∙ e in cc))
unread_watched gave env (Err place) all left end before now reads_before reads_now (inr is, same, held) counts = (same, counts.stayed (λ e. let wrong : no_memory ≡ read_fault = sym is ∙ e in cc))

-- nothing was written
pub unwritten_watched : (gave : List Place → FilesRead → Type 0) (env : List (List ℕ × List ℕ)) (read : Result WatchWanted ℕ) (all left : Option (List ℕ)) (end : Ending) (before now : Option (List ℕ)) (writes_before writes_now : ℕ)
    → WatchesWords gave env read all left end before now → CountsFault (end ≡ output_fault) writes_before writes_now → UnlessRead read ((now ≡ before) × (writes_now ≡ writes_before))
unwritten_watched gave env (Ok wanted) all left end before now writes_before writes_now watches counts = tt
unwritten_watched gave env (Err place) all left end before now writes_before writes_now (inl is, same, held) counts = (held, counts.stayed (λ e. let wrong : bad_words place ≡ output_fault = sym is ∙ e in cc))
unwritten_watched gave env (Err place) all left end before now writes_before writes_now (inr is, same, held) counts = (held, counts.stayed (λ e. let wrong : no_memory ≡ output_fault = sym is ∙ e in cc))

-- no file was asked for
pub unasked_watched : (read : Result WatchWanted ℕ) (P : Type 0) → UnlessRead read P → Unless (takes_files (to_watch read)) P
unasked_watched (Ok wanted) P holds = tt
unasked_watched (Err place) P holds = holds
