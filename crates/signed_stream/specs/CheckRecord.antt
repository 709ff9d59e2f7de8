-- The command `check`: the frames of a record, checked as the chain over the signature that the record's request carries.
use Rattle.std.specs.Prelude.{◌≡◌, ℕ, ◌≤◌, List, ◌++◌, length, Option, Result, Ok, Err, string_bytes}
use Rattle.std.specs.Global.{Vec}
use Rattle.smithy_core.specs.Message.{Parts}
use Rattle.smithy_core.specs.declared.request.HttpRequest.{HttpRequest}
use Rattle.eventstream.specs.Key.{Signer}
use Rattle.chain_watch.specs.Walk.{chain_events}
use Rattle.chain_watch.specs.declared.chain_fault.ChainFault.{ChainFault}
use Rattle.request_check.specs.Sealed.{IsSealedAt, SealParts}
use Rattle.sigv4.specs.Query.{Pair}
use Rattle.env_config.specs.Files.{Place}
use Rattle.env_config.specs.Loading.{selected_profile}
use Rattle.env_config.specs.Sections.{FileText}
use Rattle.signed_stream.specs.Command.{CheckWanted}
use Rattle.signed_stream.specs.EventLines.{AreFramed, count_line, event_lines}
use Rattle.signed_stream.specs.Plan.{FilesRead, GoesAsPlanned, Plan, SealRead, Supplied, loaded, most_input, sealed_over, stops, unsealed, unsought, writes}
use Rattle.job_text.specs.Record.{RecordParts, spelled_record}
use Rattle.signed_stream.specs.Settings.{Selected, settings}
use Rattle.signed_stream.specs.Sources.{selection, source_places, when_selected}
use Rattle.signed_stream.specs.Status.{Ending, bad_job, check_failed, done, ending_of, no_memory}
use Rattle.signed_stream.specs.declared.status.CheckFault.TheVariants.{NoSignature, Chain}
use Rattle.signed_stream.specs.declared.status.Status.{Status}

-- ## What is shown

-- how many events there are, and then their frames
unfoldable pub shown_events : List Parts → List ℕ
shown_events events = count_line (length events) ++ event_lines events

-- ## What I/O supplied

-- headers and a target carry a seal for the region and the name, whose signature this is, or none; or it wasn't looked for
abbrev pub CarriesSeal : List Pair → List ℕ → List ℕ → List ℕ → SealRead → Type 0
CarriesSeal headers target region name unsought = Unit {0}
CarriesSeal headers target region name unsealed = (seal : SealParts) → IsSealedAt seal.place headers target region name seal → ⊥
CarriesSeal headers target region name (sealed_over signature) =
    (seal : SealParts) × IsSealedAt seal.place headers target region name seal × (seal.signature ≡ signature)
    × ((other : SealParts) → IsSealedAt other.place headers target region name other → other ≡ seal)

-- the request that was recorded carries it for what is selected
abbrev pub SelectedSeal : RecordParts → List ℕ → SealRead → Result Selected Ending → Type 0
SelectedSeal parts name seal (Ok selected) = CarriesSeal parts.headers parts.target selected.region name seal
SelectedSeal parts name seal (Err end) = Unit {0}

-- for a record: what the files give, and the seal that its request carries
pub record GaveRecordParts (gave : List Place → FilesRead → Type 0) (env : List (List ℕ × List ℕ)) (wanted : CheckWanted) (parts : RecordParts) (given : Supplied) : Type 0 where
  pub files : gave (source_places wanted.profile.files parts.texts) given.files
  pub seal : SelectedSeal parts wanted.name given.seal (selection env wanted.profile.service_id given.files)

-- for what was read
abbrev pub GaveRecord : (List Place → FilesRead → Type 0) → List (List ℕ × List ℕ) → CheckWanted → Result RecordParts ℕ → Supplied → Type 0
GaveRecord gave env wanted (Ok parts) given = GaveRecordParts gave env wanted parts given
GaveRecord gave env wanted (Err place) given = Unit {0}

-- ## The plan

-- who signed, and for which region and service
abbrev pub check_signer : CheckWanted → Selected → Signer
check_signer wanted selected = record { secret = selected.secret; region = selected.region; name = wanted.name }

-- to write the events of the chain, or to fail for the first test that it fails
abbrev pub checked_plan : Result (List Parts) ChainFault → Plan
checked_plan (Ok events) = writes (shown_events events) done
checked_plan (Err fault) = stops (check_failed (Chain fault))

-- with the seal; it wasn't looked for where memory ran out before
abbrev pub sealed_plan : Signer → List ℕ → SealRead → Plan
sealed_plan signer chain unsought = stops no_memory
sealed_plan signer chain unsealed = stops (check_failed NoSignature)
sealed_plan signer chain (sealed_over signature) = checked_plan (chain_events signer signature chain)

-- with what was read, under these variables
abbrev pub check_plan : List (List ℕ × List ℕ) → CheckWanted → Supplied → Result RecordParts ℕ → Plan
check_plan env wanted given (Ok parts) = when_selected (λ selected. sealed_plan (check_signer wanted selected) parts.chain given.seal) (selection env wanted.profile.service_id given.files)
check_plan env wanted given (Err place) = stops (bad_job place)

-- ## What passes

-- The record passes with what I/O supplied: the input isn't too large, and is a record; the files are there, and give a key id, a secret and a region; its
-- request carries a seal, and its frames are a chain over the signature of that.
pub record IsSoundRecord (gave : List Place → FilesRead → Type 0) (env : List (List ℕ × List ℕ)) (wanted : CheckWanted) (bytes : List ℕ) (given : Supplied) : Type 0 where
  pub read : RecordParts
  pub texts : List FileText
  pub selected : Selected
  pub signature : List ℕ
  pub events : List Parts
  pub short : length bytes ≤ most_input
  pub spelled : spelled_record bytes ≡ Ok read
  pub supplied : GaveRecordParts gave env wanted read given
  pub files : given.files ≡ loaded texts
  pub settled : settings texts (selected_profile env) env wanted.profile.service_id ≡ Ok selected
  pub sealed : given.seal ≡ sealed_over signature
  pub chained : chain_events (check_signer wanted selected) signature read.chain ≡ Ok events

-- ## Between the functions of `check`: a reader of its plan needs none of it

-- there is a seal, or none, for which the answer is as planned
abbrev pub GoesForSeal : HttpRequest → List ℕ → Selected → List ℕ → Ending → Option (List ℕ) → Option (List ℕ) → Type 0
GoesForSeal request name selected chain answer before now =
    (seal : SealRead) × CarriesSeal request.headers (string_bytes request.target) selected.region name seal
    × GoesAsPlanned (sealed_plan (record { secret = selected.secret; region = selected.region; name = name }) chain seal) answer before now

-- there is a seal for which these are the events; or there is one, or none, for which the run is to stop so
abbrev pub ChecksRecord : HttpRequest → List ℕ → Selected → List ℕ → Result (Vec Parts) Status → Type 0
ChecksRecord request name selected chain (Ok events) =
    (signature : List ℕ) × CarriesSeal request.headers (string_bytes request.target) selected.region name (sealed_over signature)
    × (chain_events (record { secret = selected.secret; region = selected.region; name = name }) signature chain ≡ Ok events.items) × AreFramed events.items
ChecksRecord request name selected chain (Err status) =
    (seal : SealRead) × CarriesSeal request.headers (string_bytes request.target) selected.region name seal
    × (sealed_plan (record { secret = selected.secret; region = selected.region; name = name }) chain seal ≡ stops (ending_of status))
