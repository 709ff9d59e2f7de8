-- How a chain of frames is verified: the events of its walk over the seed, of which each was signed over all before it, and what the output gained.
use Rattle.std.specs.Prelude.{◌≡◌, ◌⊎◌, ℕ, IsOk, true, false, List, [], ◌∷◌, ◌++◌, length, codes, Option, unwrap_or, Result, Ok, Err, string_bytes}
use Rattle.std.specs.List.{list_all}
use Rattle.smithy_core.specs.Calls.{one_more}
use Rattle.smithy_core.specs.Message.{Parts}
use Rattle.smithy_core.specs.Outside.{Gains, GainsPrefix, IsAtEnd, IsCutOf}
use Rattle.smithy_core.specs.TextPairs.{last_value}
use Rattle.eventstream.specs.Key.{Signer}
use Rattle.chain_watch.specs.Walk.{Walk, ending, seed_point, walk}
use Rattle.chain_watch.specs.Watch.{new_watch, state}
use Rattle.env_config.specs.Sections.{FileText}
use Rattle.awsign_words.specs.EventWords.{asked_event_form}
use Rattle.awsign_words.specs.Words.{OptionValues}
use Rattle.awsign_words.specs.declared.events.EventForm.{EventForm}
use Rattle.awsign_run.specs.Chosen.{SignRefusal, SignsFor, asked_profile, refusal_of, signer_by, who_signs}
use Rattle.awsign_run.specs.declared.status.Status.TheVariants.{CouldNotReadFile, Done, NoMemory, OutputFault, Refused}
use Rattle.awsign_events.specs.EventText.{is_spelled, message_texts}
use Rattle.awsign_events.specs.declared.status.EventsStatus.{EventsStatus}
use Rattle.awsign_events.specs.declared.status.EventsStatus.TheVariants.{Ended, InputFault, Unspelled, Unverified}
use Rattle.awsign_events.specs.declared.verify.Verifier.{Verifier}

-- ## What is printed of events

-- the form can spell these events, and the output gained their texts
pub record PrintsEvents (form : EventForm) (events : List Parts) (before now : Option (List ℕ)) : Type 0 where
  pub spelled : list_all (is_spelled form) events ≡ true
  pub gains : Gains before now (message_texts form events)

-- the form can spell the first of these events, and the output gained a front of the texts of those
pub record PrintsFront (form : EventForm) (events : List Parts) (before now : Option (List ℕ)) : Type 0 where
  pub first : List Parts
  pub others : List Parts
  pub cut : events ≡ first ++ others
  pub spelled : list_all (is_spelled form) first ≡ true
  pub gains : GainsPrefix before now (message_texts form first)

-- the form can't spell the event at this place, which is counted up to 2^64 - 1, and those before it are printed
pub record PrintsUntil (form : EventForm) (events : List Parts) (place : ℕ) (before now : Option (List ℕ)) : Type 0 where
  pub first : List Parts
  pub event : Parts
  pub others : List Parts
  pub cut : events ≡ first ++ event ∷ others
  pub prints : PrintsEvents form first before now
  pub unspelled : is_spelled form event ≡ false
  pub placed : place ≡ one_more (length first)

-- ## How it ends

-- How bytes that were taken end a run, whose walk from the seed this is: a whole chain, all events of which are printed; or a fault of it, the input's end
-- where a chain can't end, or a fault of the input, and all events before it are printed; or an event that the form can't spell. Where the output
-- failed or memory ran out, a front of the events' texts is there. No event is printed that isn't one of the walk.
abbrev pub EndsVerifying : EventForm → Walk → Option (List ℕ) → EventsStatus → Option (List ℕ) → Option (List ℕ) → Type 0
EndsVerifying form walked left (Ended Done) before now = IsAtEnd left × (ending walked.at ≡ Ok tt) × PrintsEvents form walked.events before now
EndsVerifying form walked left (Unverified fault) before now =
    ((state walked.at ≡ Err fault) ⊎ (IsAtEnd left × (ending walked.at ≡ Err fault))) × PrintsEvents form walked.events before now
EndsVerifying form walked left InputFault before now = IsOk (state walked.at) × PrintsEvents form walked.events before now
EndsVerifying form walked left (Unspelled place) before now = PrintsUntil form walked.events place before now
EndsVerifying form walked left (Ended OutputFault) before now = PrintsFront form walked.events before now
EndsVerifying form walked left (Ended NoMemory) before now = PrintsFront form walked.events before now
EndsVerifying form walked left status before now = ⊥

-- bytes of the input were taken, whose walk from the seed ended the run so; where the input tells, `all` is what it had and `left` what it has left
abbrev pub VerifiesChain : EventForm → Signer → List ℕ → Option (List ℕ) → Option (List ℕ) → EventsStatus → Option (List ℕ) → Option (List ℕ) → Type 0
VerifiesChain form signer seed all left status before now =
    (taken : List ℕ) × IsCutOf all taken left × EndsVerifying form (walk signer (seed_point seed) taken) left status before now

-- ## The run

-- the seed that an option gives: the signature of the request that began the chain
abbrev pub asked_seed : OptionValues → List ℕ
asked_seed options = unwrap_or (last_value options (codes "--seed")) []

-- nothing was read or written
abbrev pub TouchesNothing : Option (List ℕ) → Option (List ℕ) → Option (List ℕ) → Option (List ℕ) → Type 0
TouchesNothing all left before now = (left ≡ all) × (now ≡ before)

-- this is why there is nobody whose signatures are computed, or memory ran out
abbrev pub LacksSigner : SignRefusal → EventsStatus → Type 0
LacksSigner refusal (Ended (Refused fault)) = refusal ≡ refusal_of fault
LacksSigner refusal (Ended NoMemory) = Unit {0}
LacksSigner refusal status = ⊥

-- the chain is verified as one of this signer; or there is none, and nothing was read or written
abbrev pub VerifiesBy : OptionValues → Result SignsFor SignRefusal → Option (List ℕ) → Option (List ℕ) → EventsStatus → Option (List ℕ) → Option (List ℕ) → Type 0
VerifiesBy options (Ok signs) all left status before now = VerifiesChain (asked_event_form options) (who_signs signs) (asked_seed options) all left status before now
VerifiesBy options (Err refusal) all left status before now = LacksSigner refusal status × TouchesNothing all left before now

-- who signs, by options, variables and the texts of profile files; there is no host that would name the service
abbrev pub chain_signer : OptionValues → List (List ℕ × List ℕ) → List FileText → Result SignsFor SignRefusal
chain_signer options env files = signer_by options [] env (asked_profile options env) files

-- a profile file couldn't be read, at a path that `unread` tells of, or memory ran out
abbrev pub LacksFiles : (List ℕ → Type 0) → EventsStatus → Type 0
LacksFiles unread (Ended (CouldNotReadFile path)) = unread (string_bytes path)
LacksFiles unread (Ended NoMemory) = Unit {0}
LacksFiles unread status = ⊥

-- the chain is verified by texts of profile files that `gave` tells of; or these aren't there, and nothing was read or written
abbrev pub RanVerifying : (List FileText → Type 0) → (List ℕ → Type 0) → OptionValues → List (List ℕ × List ℕ) → Option (List ℕ) → Option (List ℕ) → EventsStatus → Option (List ℕ) → Option (List ℕ) → Type 0
RanVerifying gave unread options env all left status before now =
    ((files : List FileText) × gave files × VerifiesBy options (chain_signer options env files) all left status before now)
    ⊎ (LacksFiles unread status × TouchesNothing all left before now)

-- ## Between the functions of `verify_events`

-- the events are printed, and the place is the next one's
abbrev pub PrintsUpTo : EventForm → List Parts → ℕ → Option (List ℕ) → Option (List ℕ) → Type 0
PrintsUpTo form events place before now = PrintsEvents form events before now × (place ≡ one_more (length events))

-- how printing these events stops
abbrev pub StopsPrinting : EventForm → List Parts → EventsStatus → Option (List ℕ) → Option (List ℕ) → Type 0
StopsPrinting form events (Unspelled place) before now = PrintsUntil form events place before now
StopsPrinting form events (Ended OutputFault) before now = PrintsFront form events before now
StopsPrinting form events (Ended NoMemory) before now = PrintsFront form events before now
StopsPrinting form events status before now = ⊥

-- these events are printed, or printing them stops
abbrev pub PrintsAll : EventForm → List Parts → Option (List ℕ) → Option (List ℕ) → Result ℕ EventsStatus → Type 0
PrintsAll form events before now (Ok place) = PrintsUpTo form events place before now
PrintsAll form events before now (Err status) = StopsPrinting form events status before now

-- a verifier that has taken nothing
abbrev pub IsNewVerifier : Signer → List ℕ → Verifier → Type 0
IsNewVerifier signer seed verifier = (verifier.watch ≡ new_watch signer seed) × (verifier.place ≡ 1)

-- the walk of the bytes taken has these events, which are printed, and reached the point where the watch is, and no fault
pub record IsVerified (form : EventForm) (signer : Signer) (seed taken : List ℕ) (verifier : Verifier) (before now : Option (List ℕ)) : Type 0 where
  pub events : List Parts
  pub signed : verifier.watch.signer ≡ signer
  pub walked : walk signer (seed_point seed) taken ≡ record { events = events; at = verifier.watch.at }
  pub sound : IsOk (state verifier.watch.at)
  pub prints : PrintsUpTo form events verifier.place before now

-- how a walk stops a run before the input ends
abbrev pub StopsVerifying : EventForm → Walk → EventsStatus → Option (List ℕ) → Option (List ℕ) → Type 0
StopsVerifying form walked (Unverified fault) before now = (state walked.at ≡ Err fault) × PrintsEvents form walked.events before now
StopsVerifying form walked status before now = StopsPrinting form walked.events status before now

-- the bytes taken are verified, or their walk stops the run
abbrev pub VerifiesTaken : EventForm → Signer → List ℕ → List ℕ → Verifier → Option (List ℕ) → Option (List ℕ) → Result (Unit {0}) EventsStatus → Type 0
VerifiesTaken form signer seed taken verifier before now (Ok _) = IsVerified form signer seed taken verifier before now
VerifiesTaken form signer seed taken verifier before now (Err status) = StopsVerifying form (walk signer (seed_point seed) taken) status before now

-- the input was read to its end, and all of it is verified; or it wasn't
abbrev pub ReadsVerified : EventForm → Signer → List ℕ → Option (List ℕ) → Option (List ℕ) → Verifier → Option (List ℕ) → Option (List ℕ) → Result (Unit {0}) EventsStatus → Type 0
ReadsVerified form signer seed all left verifier before now (Ok _) =
    (taken : List ℕ) × IsCutOf all taken left × IsAtEnd left × IsVerified form signer seed taken verifier before now
ReadsVerified form signer seed all left verifier before now (Err status) = VerifiesChain form signer seed all left status before now
