-- The command `watch`: a chain of signed frames, checked while it comes. The frame of each event is shown once it has passed.
use Rattle.std.specs.Prelude.{◌≡◌, ℕ, ◌+◌, ◌-◌, ◌<◌, ◌≤◌, ◌⊎◌, List, [], ◌++◌, All, length, take, Option, Some, None, Result, Ok, Err}
use Rattle.smithy_core.specs.Message.{Parts}
use Rattle.smithy_core.specs.Outside.{Gains, GainsPrefix, IsAtEnd, IsCutOf}
use Rattle.eventstream.specs.Key.{Signer}
use Rattle.env_config.specs.Files.{Place}
use Rattle.env_config.specs.Loading.{selected_profile}
use Rattle.env_config.specs.Sections.{FileText}
use Rattle.job_text.specs.ProfileTexts.{no_texts}
use Rattle.chain_watch.specs.Chain.{IsByte, IsChainOf}
use Rattle.chain_watch.specs.Walk.{Point, Walk, chain_events, ending, failed, seed_point, stays, walk, walk_onto}
use Rattle.chain_watch.specs.Watch.{Watching, left_over, unwalked}
use Rattle.chain_watch.specs.declared.chain_fault.ChainFault.{ChainFault}
use Rattle.signed_stream.specs.EventLines.{count_line, event_lines}
use Rattle.signed_stream.specs.Plan.{FilesRead, loaded, most_input, unreadable}
use Rattle.signed_stream.specs.Settings.{Selected, settings}
use Rattle.signed_stream.specs.Sources.{selection, source_places}
use Rattle.signed_stream.specs.Status.{Ending, bad_words, check_failed, done, ending_of, job_too_large, no_memory, output_fault, read_fault}
use Rattle.signed_stream.specs.WatchWords.{WatchWanted}
use Rattle.signed_stream.specs.declared.status.CheckFault.TheVariants.{Chain}
use Rattle.signed_stream.specs.declared.status.Status.{Status}
use Rattle.signed_stream.specs.declared.watch_chain.Progress.{Progress}

-- ## What is shown

-- what is shown of a whole chain: the lines of its events, and then how many there are
abbrev pub shown_chain : List Parts → List ℕ
shown_chain events = event_lines events ++ count_line (length events)

-- ## How it ends

-- who signs the chain, and for which region and service
abbrev pub watch_signer : WatchWanted → Selected → Signer
watch_signer wanted selected = record { secret = selected.secret; region = selected.region; name = wanted.name }

-- the walk of the bytes that were taken, of which no more count than an input may have
abbrev pub walk_taken : Signer → List ℕ → List ℕ → Walk
walk_taken signer seed taken = walk signer (seed_point seed) (take most_input taken)

-- no fault was met
abbrev pub IsSound : Point → Type 0
IsSound (failed fault) = ⊥
IsSound at = Unit {0}

-- the bytes taken are the whole input, which isn't too large
abbrev pub AreAll : List ℕ → Option (List ℕ) → Type 0
AreAll taken left = IsAtEnd left × (length taken ≤ most_input)

-- a front of the lines of the events was written, or, where all bytes are a whole chain, of what is shown of it
abbrev pub GainsFrontOf : Walk → List ℕ → Option (List ℕ) → Option (List ℕ) → Option (List ℕ) → Type 0
GainsFrontOf walked taken left before now =
    GainsPrefix before now (event_lines walked.events) ⊎ ((ending walked.at ≡ Ok tt) × AreAll taken left × GainsPrefix before now (shown_chain walked.events))

-- the walk met this fault, or the input ended where a chain can't
abbrev pub FailsFor : Walk → List ℕ → Option (List ℕ) → ChainFault → Type 0
FailsFor walked taken left fault = (walked.at ≡ failed fault) ⊎ ((ending walked.at ≡ Err fault) × AreAll taken left)

-- How a watch ends whose bytes taken are walked so, and what the output gained: all that is shown of a whole chain, and else the lines of the events that
-- passed, once the walk meets a fault, or more bytes came than an input may have, or the input fails; a front of these where the output fails or memory
-- runs out.
abbrev pub EndsWalk : Walk → List ℕ → Option (List ℕ) → Ending → Option (List ℕ) → Option (List ℕ) → Type 0
EndsWalk walked taken left done before now = (ending walked.at ≡ Ok tt) × AreAll taken left × Gains before now (shown_chain walked.events)
EndsWalk walked taken left (check_failed (Chain fault)) before now = FailsFor walked taken left fault × Gains before now (event_lines walked.events)
EndsWalk walked taken left job_too_large before now = IsSound walked.at × (most_input < length taken) × Gains before now (event_lines walked.events)
EndsWalk walked taken left read_fault before now = IsSound walked.at × Gains before now (event_lines walked.events)
EndsWalk walked taken left output_fault before now = GainsFrontOf walked taken left before now
EndsWalk walked taken left no_memory before now = GainsFrontOf walked taken left before now
EndsWalk walked taken left end before now = ⊥

-- bytes of the input were taken, and the watch of them ended so; where the input shows it, `all` is what it had and `left` what it has left
pub record Watches (signer : Signer) (seed : List ℕ) (all left : Option (List ℕ)) (answer : Ending) (before now : Option (List ℕ)) : Type 0 where
  pub taken : List ℕ
  pub cut : IsCutOf all taken left
  pub ends : EndsWalk (walk_taken signer seed taken) taken left answer before now

-- what is selected signs the chain that is watched; or nothing is selected, and nothing read or written
abbrev pub WatchesSelected : WatchWanted → Result Selected Ending → Option (List ℕ) → Option (List ℕ) → Ending → Option (List ℕ) → Option (List ℕ) → Type 0
WatchesSelected wanted (Ok selected) all left answer before now = Watches (watch_signer wanted selected) wanted.seed all left answer before now
WatchesSelected wanted (Err end) all left answer before now = ((answer ≡ end) ⊎ (answer ≡ no_memory)) × (left ≡ all) × (now ≡ before)

-- there is what the files gave, for which the chain is watched
pub record WatchesInput (gave : List Place → FilesRead → Type 0) (env : List (List ℕ × List ℕ)) (wanted : WatchWanted) (all left : Option (List ℕ)) (answer : Ending) (before now : Option (List ℕ)) : Type 0 where
  pub files : FilesRead
  pub given : gave (source_places wanted.profile.files no_texts) files
  pub watches : WatchesSelected wanted (selection env wanted.profile.service_id files) all left answer before now

-- the chain is watched as the words ask for; or one of them is bad, and nothing was read or written
abbrev pub WatchesWords : (List Place → FilesRead → Type 0) → List (List ℕ × List ℕ) → Result WatchWanted ℕ → Option (List ℕ) → Option (List ℕ) → Ending → Option (List ℕ) → Option (List ℕ) → Type 0
WatchesWords gave env (Ok wanted) all left answer before now = WatchesInput gave env wanted all left answer before now
WatchesWords gave env (Err place) all left answer before now = ((answer ≡ bad_words place) ⊎ (answer ≡ no_memory)) × (left ≡ all) × (now ≡ before)

-- where a word behind `watch` is bad
abbrev pub UnlessRead : Result WatchWanted ℕ → Type 0 → Type 0
UnlessRead (Err place) P = P
UnlessRead (Ok wanted) P = Unit {0}

-- the file at this path is the first that the words of `watch` name and that couldn't be read
abbrev pub NamesUnread : (List Place → FilesRead → Type 0) → Result WatchWanted ℕ → List ℕ → Type 0
NamesUnread gave (Ok wanted) path = gave wanted.profile.files (unreadable path)
NamesUnread gave (Err place) path = ⊥

-- The bytes are a whole chain with these files: they aren't too many, the files are there and give a key id, a secret and a region, and each frame is
-- signed over the one before it, the first over the seed.
pub record IsWholeInput (env : List (List ℕ × List ℕ)) (wanted : WatchWanted) (bytes : List ℕ) (files : FilesRead) : Type 0 where
  pub texts : List FileText
  pub selected : Selected
  pub events : List Parts
  pub short : length bytes ≤ most_input
  pub read : files ≡ loaded texts
  pub settled : settings texts (selected_profile env) env wanted.profile.service_id ≡ Ok selected
  pub chained : chain_events (watch_signer wanted selected) wanted.seed bytes ≡ Ok events

-- what a watch that is done has done: the bytes are a whole chain, and its events are shown, whose chain they are, where each is a number under 256
abbrev pub HasWatched : List (List ℕ × List ℕ) → WatchWanted → List ℕ → FilesRead → Option (List ℕ) → Option (List ℕ) → Type 0
HasWatched env wanted bytes files before now =
    (input : IsWholeInput env wanted bytes files) × (All IsByte bytes → IsChainOf (watch_signer wanted input.selected) wanted.seed bytes input.events)
    × Gains before now (shown_chain input.events)

-- ## Between the functions of `watch`: a reader of `run` needs none of it

-- a watch has walked over all that it took, and met no fault
pub record IsCurrent (watch : Watching) : Type 0 where
  pub walked : unwalked watch ≡ stays watch.at
  pub sound : IsSound watch.at

-- nothing was read
pub record IsUnfed (progress : Progress) : Type 0 where
  pub unfed : progress.watch.fed ≡ 0
  pub empty : progress.waiting.items ≡ []
  pub unshown : progress.shown ≡ 0

-- no more bytes were read than an input may have, and each event that was written took one at least of those that the watch was fed
pub record IsFit (progress : Progress) : Type 0 where
  pub short : progress.watch.fed + length progress.waiting.items ≤ most_input
  pub few : progress.shown + length (left_over progress.watch.at) ≤ progress.watch.fed
  pub current : IsCurrent progress.watch

-- the walk of the bytes that wait, and then of these
abbrev pub walk_with : Progress → List ℕ → Walk
walk_with progress bytes = walk progress.watch.signer progress.watch.at (progress.waiting.items ++ bytes)

-- these bytes were read, and the lines of the events that their walk has up to the point reached were written, so many
pub record Advances (old : Progress) (read : List ℕ) (new : Progress) (before now : Option (List ℕ)) : Type 0 where
  pub signer : new.watch.signer ≡ old.watch.signer
  pub counted : new.watch.fed + length new.waiting.items ≡ old.watch.fed + length old.waiting.items + length read
  pub events : List Parts
  pub walked : walk_with old read ≡ walk_onto events (walk_with new [])
  pub shown : new.shown ≡ old.shown + length events
  pub gains : Gains before now (event_lines events)

-- no event and no fault is in the bytes that wait
pub record IsIdle (progress : Progress) : Type 0 where
  pub none : (walk_with progress []).events ≡ []
  pub sound : IsSound (walk_with progress []).at

-- why a walk's events are the last ones: it ends at a fault, and their lines were written, or a front of these was
abbrev pub StopsShowing : Walk → Ending → Option (List ℕ) → Option (List ℕ) → Type 0
StopsShowing walked (check_failed (Chain fault)) before now = (walked.at ≡ failed fault) × Gains before now (event_lines walked.events)
StopsShowing walked output_fault before now = GainsPrefix before now (event_lines walked.events)
StopsShowing walked no_memory before now = GainsPrefix before now (event_lines walked.events)
StopsShowing walked end before now = ⊥

-- where a watch is that walked over all that it took: at this fault, or at none
abbrev pub StandsAt : Watching → Option ChainFault → Type 0
StandsAt watch None = IsCurrent watch
StandsAt watch (Some fault) = watch.at ≡ failed fault

-- the bytes that waited were walked, with these events, and none waits any more
pub record WalksWaiting (old new : Progress) (events : List Parts) (fault : Option ChainFault) : Type 0 where
  pub fed : new.watch.fed ≡ old.watch.fed + length old.waiting.items
  pub signer : new.watch.signer ≡ old.watch.signer
  pub none : new.waiting.items ≡ []
  pub shown : new.shown ≡ old.shown
  pub walked : walk_with old [] ≡ record { events = events; at = new.watch.at }
  pub stands : StandsAt new.watch fault

-- the bytes that wait are walked and the lines of their events written, and none waits any more
pub record ShowsAll (old new : Progress) (before now : Option (List ℕ)) : Type 0 where
  pub advances : Advances old [] new before now
  pub none : new.waiting.items ≡ []

abbrev pub ShowsWaiting : Progress → Progress → Option (List ℕ) → Option (List ℕ) → Result (Unit {0}) Status → Type 0
ShowsWaiting old new before now (Ok _) = ShowsAll old new before now
ShowsWaiting old new before now (Err status) = StopsShowing (walk_with old []) (ending_of status) before now

-- how many bytes more an input may have
abbrev pub room_of : Progress → ℕ
room_of progress = most_input - (progress.watch.fed + length progress.waiting.items)

-- why a piece is the last one: it goes past the most bytes, and else as the walk of it says
abbrev pub StopsTaking : Progress → List ℕ → Ending → Option (List ℕ) → Option (List ℕ) → Type 0
StopsTaking old piece job_too_large before now =
    let walked = walk_with old (take (room_of old) piece) in (room_of old < length piece) × IsSound walked.at × Gains before now (event_lines walked.events)
StopsTaking old piece end before now = StopsShowing (walk_with old (take (room_of old) piece)) end before now

abbrev pub TakesNext : Progress → List ℕ → Progress → Option (List ℕ) → Option (List ℕ) → Result (Unit {0}) Status → Type 0
TakesNext old piece new before now (Ok _) = Advances old piece new before now
TakesNext old piece new before now (Err status) = StopsTaking old piece (ending_of status) before now

-- the whole input was read, and none of it waits
pub record ReadsAll (old : Progress) (all left : Option (List ℕ)) (new : Progress) (before now : Option (List ℕ)) : Type 0 where
  pub taken : List ℕ
  pub cut : IsCutOf all taken left
  pub ended : IsAtEnd left
  pub advances : Advances old taken new before now
  pub none : new.waiting.items ≡ []

-- the input isn't read to its end
pub record ReadsSome (old : Progress) (all left : Option (List ℕ)) (answer : Ending) (before now : Option (List ℕ)) : Type 0 where
  pub taken : List ℕ
  pub cut : IsCutOf all taken left
  pub ends : EndsWalk (walk_with old (take most_input taken)) taken left answer before now

abbrev pub ReadsInput : Progress → Option (List ℕ) → Option (List ℕ) → Progress → Option (List ℕ) → Option (List ℕ) → Result (Unit {0}) Status → Type 0
ReadsInput old all left new before now (Ok _) = ReadsAll old all left new before now
ReadsInput old all left new before now (Err status) = ReadsSome old all left (ending_of status) before now

-- a whole chain was read, or one that can't end there
abbrev pub EndsInput : Progress → Ending → Option (List ℕ) → Option (List ℕ) → Type 0
EndsInput progress done before now = (ending progress.watch.at ≡ Ok tt) × Gains before now (count_line progress.shown)
EndsInput progress (check_failed (Chain fault)) before now = (ending progress.watch.at ≡ Err fault) × (now ≡ before)
EndsInput progress output_fault before now = (ending progress.watch.at ≡ Ok tt) × GainsPrefix before now (count_line progress.shown)
EndsInput progress no_memory before now = (now ≡ before) ⊎ ((ending progress.watch.at ≡ Ok tt) × GainsPrefix before now (count_line progress.shown))
EndsInput progress end before now = ⊥
