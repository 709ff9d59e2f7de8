-- How a run goes as planned, and what it keeps.
use Rattle.std.proofs.Common.{◌≡◌, ℕ, ◌+◌, ◌<◌, ◌≤◌, inl, inr, Bool, true, false, nat_lt, List, [], ◌∷◌, ◌++◌, length, replicate, Option, Some, None, option_map, refl, ◌∙◌, arith}
use Rattle.std.specs.Prelude.{if◌then◌else◌, Result, Ok, Err}
use Rattle.std.specs.Option.{option_or}
use Rattle.std.proofs.lemmas.Bool.Decides.{nat_tests}
use Rattle.smithy_core.specs.Civil.{is_in_years}
use Rattle.smithy_core.specs.Moment.{Instant}
use Rattle.smithy_core.specs.Outside.{IsAllOf, IsLongerThan, IsRestOf}
use Rattle.smithy_core.specs.Message.{Parts}
use Rattle.smithy_core.proofs.CutLemmas.{cut_at_start}
use Rattle.smithy_core.proofs.GainLemmas.{prefix_at_start}
use Rattle.smithy_http.specs.Target.{Target}
use Rattle.eventstream.specs.Frame.{frame, unframed}
use Rattle.eventstream.specs.Key.{Signer}
use Rattle.eventstream.specs.Link.{link_message, link_signature}
use Rattle.eventstream.specs.declared.error.ErrorKind.{ErrorKind}
use Rattle.eventstream.specs.declared.error.ErrorKind.TheVariants as reasons
use Rattle.env_config.specs.Files.{Place}
use Rattle.sigv4.specs.Request.{Case}
use Rattle.sigv4.specs.Signed.{signature_of}
use Rattle.signed_stream.specs.declared.form.Form.{Form}
use Rattle.signed_stream.specs.Carriers.{GoesForBytes, GoesForInput, GoesForJob, IsAfterInput}
use Rattle.signed_stream.specs.Case.{job_case, request_moment}
use Rattle.signed_stream.specs.Chain.{Refusal, fault_at, first_refusal, outside_years, refusal_at, unframed_at, unlinked}
use Rattle.signed_stream.specs.CheckRecord.{GaveRecord, check_plan, check_signer, checked_plan, sealed_plan, shown_events}
use Rattle.signed_stream.specs.ChunkJob.{chunk_plan, shown_chunks}
use Rattle.signed_stream.specs.ChunkWords.{ChunkWanted}
use Rattle.signed_stream.specs.Command.{CheckWanted, Command, Wanted, bad_word, check_record, generate, show_settings, stream, write_chunks}
use Rattle.signed_stream.specs.Generate.{generate_plan, shown_stream}
use Rattle.signed_stream.specs.Generator.{drawn_events}
use Rattle.signed_stream.specs.ProfileOptions.{ProfileWanted}
use Rattle.job_text.specs.Job.{JobParts, job}
use Rattle.signed_stream.specs.Plan.{EndsAsPlanned, FilesRead, GainsAsPlanned, GoesAsPlanned, Plan, SealRead, Supplied, sealed_over, unsealed, TargetRead, accepted, plan_end, most_input, stops, unaccepted, unloaded, unread, unsought, writes}
use Rattle.job_text.specs.ProfileTexts.{ProfileTexts, profile_texts}
use Rattle.chain_watch.specs.Walk.{chain_events}
use Rattle.chain_watch.specs.declared.chain_fault.ChainFault.{ChainFault}
use Rattle.job_text.specs.Record.{RecordParts, spelled_record}
use Rattle.signed_stream.specs.Running.{EndsAsAsked, Gave, IsOfCommand, KeepsOutput, OfClock, RunsAsPlanned, TakesMoments, ShowsInput, Unless, UnlessCommand, When, comes_late, command_plan, may_be_in_years, may_be_of_frame, read_plan, reads_input, IsOfOutput}
use Rattle.signed_stream.specs.Settings.{Selected}
use Rattle.signed_stream.specs.ShowSettings.{GaveTexts, settings_plan, shown_plan}
use Rattle.signed_stream.specs.Shown.{shown_settings}
use Rattle.signed_stream.specs.Sign.{case_fault}
use Rattle.signed_stream.specs.Sources.{selection, when_selected}
use Rattle.signed_stream.specs.Status.{Ending, RunFault, bad_job, bad_words, done, header_value_too_long, headers_too_long, invalid_header_name_length, job_too_large, message_too_long, moment_out_of_range, no_memory, output_fault, payload_too_long, read_fault, refused, timestamp_value_too_large}
use Rattle.signed_stream.specs.Stream.{GaveReading, case_plan, job_plan, request_plan, selected_plan, target_plan}
use Rattle.signed_stream.specs.Written.{case_refusal, written_end, written_until}

-- ## As planned

-- a run that is to stop and does
pub goes_stopped : (end : Ending) (held : Option (List ℕ)) → GoesAsPlanned (stops end) end held held
goes_stopped end held = record { ends = inl refl; gains = refl }

-- running out of memory before any write goes as every plan
pub goes_no_memory : (plan : Plan) (held : Option (List ℕ)) → GoesAsPlanned plan no_memory held held
goes_no_memory (stops end) held = record { ends = inr (inr refl); gains = refl }
goes_no_memory (writes text end) held = record { ends = inr (inr (inr refl)); gains = prefix_at_start held text }

-- and so does a fault of the input
pub goes_read_fault : (plan : Plan) (held : Option (List ℕ)) → GoesAsPlanned plan read_fault held held
goes_read_fault (stops end) held = record { ends = inr (inl refl); gains = refl }
goes_read_fault (writes text end) held = record { ends = inr (inl refl); gains = refl }

-- ## What is kept

-- what holds in any case
pub holds_unless : (test : Bool) (P : Type 0) → P → Unless test P
holds_unless true P holds = tt
holds_unless false P holds = holds

-- what stays as it was is kept by every answer
pub keeps_same : (late : RunFault → Bool) (answer : Ending) (before now : Option (List ℕ)) → now ≡ before → KeepsOutput late answer before now
keeps_same late done before now same = tt
keeps_same late output_fault before now same = tt
keeps_same late no_memory before now same = tt
keeps_same late (refused fault) before now same = holds_unless (late fault) _ same
keeps_same late other before now same = same

-- the faults of frames
abbrev pub IsOfFrame : RunFault → Type 0
IsOfFrame (moment_out_of_range moment) = Unit {0}
IsOfFrame (invalid_header_name_length place) = Unit {0}
IsOfFrame (header_value_too_long place) = Unit {0}
IsOfFrame (timestamp_value_too_large place) = Unit {0}
IsOfFrame (headers_too_long place) = Unit {0}
IsOfFrame (payload_too_long place) = Unit {0}
IsOfFrame (message_too_long place) = Unit {0}
IsOfFrame fault = ⊥

-- no fault, or one of these
abbrev OfFrames : Option RunFault → Type 0
OfFrames None = Unit {0}
OfFrames (Some fault) = IsOfFrame fault

either : (a b : Option RunFault) → OfFrames a → OfFrames b → OfFrames (option_or a b)
either None b first second = second
either (Some fault) b first second = first

of_reason : (place : ℕ) (reason : ErrorKind) → IsOfFrame (fault_at place reason)
of_reason place reasons.InvalidHeaderNameLength = tt
of_reason place reasons.HeaderValueTooLong = tt
of_reason place (reasons.TimestampValueTooLarge moment) = tt
of_reason place reasons.HeadersTooLong = tt
of_reason place reasons.PayloadTooLong = tt
of_reason place reason = tt

of_message : (place : ℕ) (message : Parts) → OfFrames (unframed_at place message)
of_message place message = by_reason (unframed message)
  where
    by_reason : (reason : Option ErrorKind) → OfFrames (option_map (fault_at place) reason)
    by_reason None = tt
    by_reason (Some reason) = of_reason place reason

of_moment : (t : Instant) → OfFrames (outside_years t)
of_moment t = by_years (is_in_years t)
  where
    by_years : (years : Bool) → OfFrames (if years then None else Some (moment_out_of_range t))
    by_years true = tt
    by_years false = tt

of_link : (signer : Signer) (place : ℕ) (signature : List ℕ) (event : Parts) (t : Instant) → OfFrames (unlinked signer place signature event t)
unfolding unlinked
of_link signer place signature event t = either _ _ (of_message place event) (either _ _ (of_moment t) (of_message place (link_message signer signature (frame event) t)))

-- no refusal, or one for such a fault
abbrev pub RefusesFrames : Option Refusal → Type 0
RefusesFrames None = Unit {0}
RefusesFrames (Some refusal) = IsOfFrame refusal.fault

refuses_at : (place : ℕ) (fault : Option RunFault) → OfFrames fault → RefusesFrames (option_map (refusal_at place) fault)
refuses_at place None of = tt
refuses_at place (Some fault) of = of

refuses_first : (a b : Option Refusal) → RefusesFrames a → RefusesFrames b → RefusesFrames (option_or a b)
refuses_first None b first second = second
refuses_first (Some refusal) b first second = first

pub refuses_frames : (signer : Signer) (place : ℕ) (events : List Parts) (moments : List Instant) (signature : List ℕ) → RefusesFrames (first_refusal signer place events moments signature)
refuses_frames signer place [] [] signature = tt
refuses_frames signer place (event ∷ events) [] signature = tt
refuses_frames signer place [] (t ∷ moments) signature = refuses_at place (outside_years t) (of_moment t)
refuses_frames signer place (event ∷ events) (t ∷ moments) signature =
    refuses_first _ _ (refuses_at place (unlinked signer place signature event t) (of_link signer place signature event t))
    (refuses_frames signer (place + 1) events moments (link_signature signer signature (frame event) t))

-- what is refused for the fault of a frame keeps nothing
keeps_frame : (fault : RunFault) (before now : Option (List ℕ)) → IsOfFrame fault → KeepsOutput (may_be_of_frame true) (refused fault) before now
keeps_frame (moment_out_of_range moment) before now of = tt
keeps_frame (invalid_header_name_length place) before now of = tt
keeps_frame (header_value_too_long place) before now of = tt
keeps_frame (timestamp_value_too_large place) before now of = tt
keeps_frame (headers_too_long place) before now of = tt
keeps_frame (payload_too_long place) before now of = tt
keeps_frame (message_too_long place) before now of = tt
keeps_frame fault before now of = absurd of

-- how what is written ends keeps nothing
keeps_end : (refusal : Option Refusal) (events : List Parts) (moments : List Instant) (before now : Option (List ℕ)) → RefusesFrames refusal → KeepsOutput (may_be_of_frame true) (written_end refusal events moments) before now
keeps_end (Some refusal) events moments before now of = keeps_frame refusal.fault before now of
keeps_end None events moments before now of = by_count _
  where
    by_count : (whole : Bool) → KeepsOutput (may_be_of_frame true) (if whole then done else no_memory) before now
    by_count true = tt
    by_count false = tt

keeps_written : (late : RunFault → Bool) (text : List ℕ) (end answer : Ending) (before now : Option (List ℕ)) → KeepsOutput late end before now → GoesAsPlanned (writes text end) answer before now → KeepsOutput late answer before now
keeps_written late text end answer before now keeps goes = by_answer goes.ends goes.gains
  where
    by_answer : EndsAsPlanned (writes text end) answer → GainsAsPlanned (writes text end) answer before now → KeepsOutput late answer before now
    by_answer (inl is) gains = rw is keeps
    by_answer (inr (inl is)) gains = rw is (rw is at gains)
    by_answer (inr (inr (inl is))) gains = rw is tt
    by_answer (inr (inr (inr is))) gains = rw is tt

-- an answer as planned keeps the output, but where it is done, is refused for the fault of a frame or was cut short
keeps_target : (form : Form) (text : List ℕ) (case : Target → Case) (events : List Parts) (moments : List Instant) (target : TargetRead) (answer : Ending) (before now : Option (List ℕ))
    → GoesAsPlanned (target_plan form text case events moments target) answer before now → KeepsOutput (may_be_of_frame true) answer before now
keeps_target form text case events moments unread answer before now goes = keeps_same (may_be_of_frame true) answer before now goes.gains
keeps_target form text case events moments unaccepted answer before now goes = keeps_same (may_be_of_frame true) answer before now goes.gains
keeps_target form text case events moments (accepted target) answer before now goes = by_fault (case_fault (case target)) goes
  where
    by_fault : (fault : Option RunFault) → GoesAsPlanned (case_plan form text (case target) events moments fault) answer before now → KeepsOutput (may_be_of_frame true) answer before now
    by_fault (Some fault) goes = keeps_same (may_be_of_frame true) answer before now goes.gains
    by_fault None goes =
        let c = case target in
        let refusal = case_refusal c events moments in
        keeps_written (may_be_of_frame true) (written_until form refusal text c events moments) (written_end refusal events moments) answer before now
        (keeps_end refusal events moments before now (refuses_frames c.signer 1 events moments (signature_of c))) goes

keeps_request : (form : Form) (text : List ℕ) (at : Instant) (case : Target → Case) (events : List Parts) (moments : List Instant) (target : TargetRead) (answer : Ending) (before now : Option (List ℕ))
    → GoesAsPlanned (request_plan form text at case events moments target) answer before now → KeepsOutput (may_be_of_frame (is_in_years at)) answer before now
keeps_request form text at case events moments target answer before now goes = by_years (is_in_years at) goes
  where
    by_years : (years : Bool) → GoesAsPlanned (if years then target_plan form text case events moments target else stops (refused (moment_out_of_range at))) answer before now → KeepsOutput (may_be_of_frame years) answer before now
    by_years true goes = keeps_target form text case events moments target answer before now goes
    by_years false goes = keeps_same (may_be_of_frame false) answer before now goes.gains

-- where the moment may lie in the years no more is kept
keeps_later : (years : Bool) (answer : Ending) (before now : Option (List ℕ)) → KeepsOutput (may_be_of_frame years) answer before now → KeepsOutput (may_be_of_frame true) answer before now
keeps_later true answer before now keeps = keeps
keeps_later false (refused fault) before now keeps = by_fault fault keeps
  where
    by_fault : (fault : RunFault) → Unless (may_be_of_frame false fault) (now ≡ before) → Unless (may_be_of_frame true fault) (now ≡ before)
    by_fault (moment_out_of_range moment) keeps = tt
    by_fault (invalid_header_name_length place) keeps = tt
    by_fault (header_value_too_long place) keeps = tt
    by_fault (timestamp_value_too_large place) keeps = tt
    by_fault (headers_too_long place) keeps = tt
    by_fault (payload_too_long place) keeps = tt
    by_fault (message_too_long place) keeps = tt
    by_fault fault keeps = keeps
keeps_later false done before now keeps = tt
keeps_later false output_fault before now keeps = tt
keeps_later false no_memory before now keeps = tt
keeps_later false other before now keeps = keeps

module _ (gave : List Place → FilesRead → Type 0) (clock : List Instant → Type 0) where
  keeps_selected : (wanted : Wanted) (j : JobParts) (target : TargetRead) (answer : Ending) (before now : Option (List ℕ)) (moments : List Instant) → OfClock clock wanted.at moments
      → (outcome : Result Selected Ending) → GoesAsPlanned (when_selected (selected_plan j wanted target moments) outcome) answer before now → KeepsOutput (comes_late (stream wanted)) answer before now
  keeps_selected wanted j target answer before now moments of (Err end) goes = keeps_same (comes_late (stream wanted)) answer before now goes.gains
  keeps_selected wanted j target answer before now [] of (Ok selected) goes = keeps_same (comes_late (stream wanted)) answer before now goes.gains
  keeps_selected wanted j target answer before now (first ∷ others) of (Ok selected) goes =
      by_at wanted.at of (keeps_request wanted.form j.target (request_moment wanted first) (job_case j wanted selected first) j.events others target answer before now goes)
    where
      by_at : (asked : Option Instant) → OfClock clock asked (first ∷ others) → KeepsOutput (may_be_of_frame (is_in_years (request_moment wanted first))) answer before now
          → KeepsOutput (may_be_of_frame (may_be_in_years wanted asked)) answer before now
      by_at None of keeps = keeps_later (is_in_years (request_moment wanted first)) answer before now keeps
      by_at (Some at) of keeps = let same : first ≡ at = (let all : first ∷ others ≡ at ∷ replicate (length others) at = of.0 in cc) in rw (← same) keeps

  keeps_reading : (env : List (List ℕ × List ℕ)) (wanted : Wanted) (given : Supplied) (answer : Ending) (before now : Option (List ℕ)) (reading : Result JobParts ℕ)
      → OfClock clock wanted.at given.moments → GoesAsPlanned (job_plan env wanted given reading) answer before now → KeepsOutput (comes_late (stream wanted)) answer before now
  keeps_reading env wanted given answer before now (Ok j) of goes =
      keeps_selected wanted j given.target answer before now given.moments of (selection env wanted.profile.service_id given.files) goes
  keeps_reading env wanted given answer before now (Err place) of goes = keeps_same (comes_late (stream wanted)) answer before now goes.gains

keeps_shown : (wanted : ProfileWanted) (answer : Ending) (before now : Option (List ℕ)) (outcome : Result Selected Ending)
    → GoesAsPlanned (when_selected shown_plan outcome) answer before now → KeepsOutput (comes_late (show_settings wanted)) answer before now
keeps_shown wanted answer before now (Ok selected) goes = keeps_written (comes_late (show_settings wanted)) (shown_settings selected) done answer before now tt goes
keeps_shown wanted answer before now (Err end) goes = keeps_same (comes_late (show_settings wanted)) answer before now goes.gains

keeps_texts : (env : List (List ℕ × List ℕ)) (wanted : ProfileWanted) (given : Supplied) (answer : Ending) (before now : Option (List ℕ)) (reading : Result ProfileTexts ℕ)
    → GoesAsPlanned (settings_plan env wanted given reading) answer before now → KeepsOutput (comes_late (show_settings wanted)) answer before now
keeps_texts env wanted given answer before now (Ok texts) goes = keeps_shown wanted answer before now (selection env wanted.service_id given.files) goes
keeps_texts env wanted given answer before now (Err place) goes = keeps_same (comes_late (show_settings wanted)) answer before now goes.gains

keeps_checked : (wanted : CheckWanted) (answer : Ending) (before now : Option (List ℕ)) (outcome : Result (List Parts) ChainFault) → GoesAsPlanned (checked_plan outcome) answer before now → KeepsOutput (comes_late (check_record wanted)) answer before now
keeps_checked wanted answer before now (Ok events) goes = keeps_written (comes_late (check_record wanted)) (shown_events events) done answer before now tt goes
keeps_checked wanted answer before now (Err fault) goes = keeps_same (comes_late (check_record wanted)) answer before now goes.gains

keeps_sealed : (wanted : CheckWanted) (signer : Signer) (chain : List ℕ) (seal : SealRead) (answer : Ending) (before now : Option (List ℕ)) → GoesAsPlanned (sealed_plan signer chain seal) answer before now → KeepsOutput (comes_late (check_record wanted)) answer before now
keeps_sealed wanted signer chain unsought answer before now goes = keeps_same (comes_late (check_record wanted)) answer before now goes.gains
keeps_sealed wanted signer chain unsealed answer before now goes = keeps_same (comes_late (check_record wanted)) answer before now goes.gains
keeps_sealed wanted signer chain (sealed_over signature) answer before now goes = keeps_checked wanted answer before now (chain_events signer signature chain) goes

keeps_record : (env : List (List ℕ × List ℕ)) (wanted : CheckWanted) (given : Supplied) (answer : Ending) (before now : Option (List ℕ)) (reading : Result RecordParts ℕ)
    → GoesAsPlanned (check_plan env wanted given reading) answer before now → KeepsOutput (comes_late (check_record wanted)) answer before now
keeps_record env wanted given answer before now (Ok parts) goes = by_selection (selection env wanted.profile.service_id given.files) goes
  where
    by_selection : (outcome : Result Selected Ending) → GoesAsPlanned (when_selected (λ selected. sealed_plan (check_signer wanted selected) parts.chain given.seal) outcome) answer before now
        → KeepsOutput (comes_late (check_record wanted)) answer before now
    by_selection (Ok selected) goes = keeps_sealed wanted (check_signer wanted selected) parts.chain given.seal answer before now goes
    by_selection (Err end) goes = keeps_same (comes_late (check_record wanted)) answer before now goes.gains
keeps_record env wanted given answer before now (Err place) goes = keeps_same (comes_late (check_record wanted)) answer before now goes.gains

pub keeps_generated : (seed count : ℕ) (answer : Ending) (before now : Option (List ℕ)) → GoesAsPlanned (generate_plan seed count) answer before now → KeepsOutput (comes_late (generate seed count)) answer before now
keeps_generated seed count answer before now goes = keeps_written (comes_late (generate seed count)) (shown_stream (drawn_events count seed)) done answer before now tt goes

keeps_chunked : (wanted : ChunkWanted) (bytes : List ℕ) (answer : Ending) (before now : Option (List ℕ)) → GoesAsPlanned (chunk_plan wanted bytes) answer before now → KeepsOutput (comes_late (write_chunks wanted)) answer before now
keeps_chunked wanted bytes answer before now goes = keeps_written (comes_late (write_chunks wanted)) (shown_chunks wanted bytes) done answer before now tt goes

pub keeps_bytes : (gave : List Place → FilesRead → Type 0) (clock : List Instant → Type 0) (env : List (List ℕ × List ℕ)) (command : Command) (bytes : List ℕ) (answer : Ending) (before now : Option (List ℕ))
    → GoesForBytes gave clock env command bytes answer before now → KeepsOutput (comes_late command) answer before now
keeps_bytes gave clock env (bad_word place) bytes answer before now found = keeps_same (comes_late (bad_word place)) answer before now found.goes.gains
keeps_bytes gave clock env (stream wanted) bytes answer before now found = keeps_reading gave clock env wanted found.given answer before now (job bytes) found.moments found.goes
keeps_bytes gave clock env (show_settings wanted) bytes answer before now found = keeps_texts env wanted found.given answer before now (profile_texts bytes) found.goes
keeps_bytes gave clock env (check_record wanted) bytes answer before now found = keeps_record env wanted found.given answer before now (spelled_record bytes) found.goes
keeps_bytes gave clock env (write_chunks wanted) bytes answer before now found = keeps_chunked wanted bytes answer before now found.goes
keeps_bytes gave clock env (generate seed count) bytes answer before now found = keeps_generated seed count answer before now found.goes

-- ## The bytes of the input

-- what the outside gave where neither files nor target were read, and no moment was taken
abbrev pub nothing_given : Supplied
nothing_given = record { files = unloaded; moments = []; target = unread; seal = unsought }

-- no moment stands in no list
pub no_moment : (front : List Instant) (t : Instant) (rest : List Instant) → [] ≡ front ++ t ∷ rest → ⊥
no_moment [] t rest e = cc
no_moment (u ∷ front) t rest e = cc

-- as planned for a job that was read
pub job_was_read : (gave : List Place → FilesRead → Type 0) (clock : List Instant → Type 0) (env : List (List ℕ × List ℕ)) (wanted : Wanted) (bytes : List ℕ) (j : JobParts) (answer : Ending) (before now : Option (List ℕ))
    → job bytes ≡ Ok j → GoesForJob gave clock env wanted j answer before now → GoesForBytes gave clock env (stream wanted) bytes answer before now
job_was_read gave clock env wanted bytes j answer before now is goes = record {
  given = goes.given;
  found = rw is goes.found;
  moments = goes.moments;
  goes = rw is goes.goes;
  needed = rw is goes.needed;
}

-- a clock that isn't asked gives no moment, whatever is asked for
pub unasked_at : (clock : List Instant → Type 0) → clock [] → (asked : Option Instant) → OfClock clock asked []
unasked_at clock unasked None = unasked
unasked_at clock unasked (Some at) = (refl, unasked)

-- `free` says that files need not be loaded, and `unasked` that the clock wasn't asked
module _ (gave : List Place → FilesRead → Type 0) (free : (places : List Place) → gave places unloaded) (clock : List Instant → Type 0) (unasked : clock []) where
  -- no moment is taken
  takes_none : (command : Command) → TakesMoments clock command []
  takes_none (stream wanted) = unasked_at clock unasked wanted.at
  takes_none other = (refl, unasked)

  -- an outside that has given nothing, which is always so
  gave_nothing : (env : List (List ℕ × List ℕ)) (command : Command) (bytes : List ℕ) → Gave gave env command bytes nothing_given
  gave_nothing env (bad_word place) bytes = tt
  gave_nothing env (generate seed count) bytes = tt
  gave_nothing env (write_chunks wanted) bytes = tt
  gave_nothing env (stream wanted) bytes = by_reading (job bytes)
    where
      by_reading : (reading : Result JobParts ℕ) → GaveReading gave wanted reading nothing_given
      by_reading (Ok j) = record { files = free _; target = tt }
      by_reading (Err place) = tt
  gave_nothing env (check_record wanted) bytes = by_reading (spelled_record bytes)
    where
      by_reading : (reading : Result RecordParts ℕ) → GaveRecord gave env wanted reading nothing_given
      by_reading (Ok parts) = record { files = free _; seal = tt }
      by_reading (Err place) = tt
  gave_nothing env (show_settings wanted) bytes = by_reading (profile_texts bytes)
    where
      by_reading : (reading : Result ProfileTexts ℕ) → GaveTexts gave wanted reading nothing_given
      by_reading (Ok texts) = free _
      by_reading (Err place) = tt

  -- as planned for a command that takes no moment
  pub bytes_go : (env : List (List ℕ × List ℕ)) (command : Command) (bytes : List ℕ) (given : Supplied) (answer : Ending) (before now : Option (List ℕ)) → Gave gave env command bytes (record given { moments = [] })
      → GoesAsPlanned (read_plan env command bytes (record given { moments = [] })) answer before now → GoesForBytes gave clock env command bytes answer before now
  bytes_go env command bytes given answer before now found goes = record {
    given = record given { moments = [] };
    found = found;
    moments = takes_none command;
    goes = goes;
    needed = λ front t rest is. absurd (no_moment front t rest is);
  }

  pub bytes_no_memory : (env : List (List ℕ × List ℕ)) (command : Command) (bytes : List ℕ) (held : Option (List ℕ)) → GoesForBytes gave clock env command bytes no_memory held held
  bytes_no_memory env command bytes held =
      bytes_go env command bytes nothing_given no_memory held held (gave_nothing env command bytes) (goes_no_memory (read_plan env command bytes nothing_given) held)

  -- an input with a bad line
  pub bytes_are_bad : (env : List (List ℕ × List ℕ)) (command : Command) (bytes : List ℕ) (place : ℕ) (held : Option (List ℕ)) → read_plan env command bytes nothing_given ≡ stops (bad_job place)
      → GoesForBytes gave clock env command bytes (bad_job place) held held
  bytes_are_bad env command bytes place held is =
      bytes_go env command bytes nothing_given (bad_job place) held held (gave_nothing env command bytes) (rw is (goes_stopped (bad_job place) held))

-- ## The input

-- an input that shows its bytes was read to its end
pub all_read : (left : Option (List ℕ)) (read bytes : List ℕ) → IsAllOf left read → left ≡ Some bytes → read ≡ bytes
all_read None read bytes all shown = cc
all_read (Some shown_bytes) read bytes all shown = all ∙ (let e : Some shown_bytes ≡ Some bytes = shown in cc)

-- a command that reads the input goes with the bytes that it shows
shown_read : (command : Command) (left : Option (List ℕ)) (bytes : List ℕ) → reads_input command ≡ true → ShowsInput command left bytes → left ≡ Some bytes
shown_read command left bytes reads shown = rw reads at shown

-- its plan
plan_of_read : (env : List (List ℕ × List ℕ)) (command : Command) (bytes : List ℕ) (given : Supplied) → length bytes ≤ most_input → command_plan env command bytes given ≡ read_plan env command bytes given
unfolding command_plan
plan_of_read env command bytes given short = by_command command
  where
    within : nat_lt most_input (length bytes) ≡ false
    within = grind (arith, nat_tests)

    by_command : (command : Command) → command_plan env command bytes given ≡ read_plan env command bytes given
    by_command (bad_word place) = refl
    by_command (generate seed count) = refl
    by_command other = rw within refl

-- an answer as planned for its bytes goes as planned for an input that was read to its end
pub read_runs : (gave : List Place → FilesRead → Type 0) (clock : List Instant → Type 0) (env : List (List ℕ × List ℕ)) (command : Command) (left : Option (List ℕ)) (read : List ℕ) (answer : Ending) (before now : Option (List ℕ))
    → reads_input command ≡ true → IsAllOf left read → length read ≤ most_input → GoesForBytes gave clock env command read answer before now → GoesForInput gave clock env command left answer before now
read_runs gave clock env command left read answer before now reads all short found =
    (found.given, found.moments, λ bytes shown. rw (← all_read left read bytes all (shown_read command left bytes reads shown)) runs)
  where
    plans : (moments : List Instant) → command_plan env command read (record found.given { moments = moments }) ≡ read_plan env command read (record found.given { moments = moments })
    plans moments = plan_of_read env command read (record found.given { moments = moments }) short

    ends : (moments : List Instant) → plan_end (command_plan env command read (record found.given { moments = moments })) ≡ plan_end (read_plan env command read (record found.given { moments = moments }))
    ends moments = rw (plans moments) refl

    runs : RunsAsPlanned gave env command read found.given answer before now
    runs = record {
      supplied = found.found;
      goes = rw (plan_of_read env command read found.given short) found.goes;
      needed = λ front t rest is. ends front ∙ found.needed front t rest is;
    }

-- the plan of an input that is too large
plan_too_large : (env : List (List ℕ × List ℕ)) (command : Command) (left : Option (List ℕ)) (bytes : List ℕ) (given : Supplied)
    → reads_input command ≡ true → IsLongerThan left most_input → left ≡ Some bytes → command_plan env command bytes given ≡ stops job_too_large
unfolding command_plan
plan_too_large env command None bytes given is long shown = cc
plan_too_large env command (Some shown_bytes) bytes given is long shown = by_command command is
  where
    same : shown_bytes ≡ bytes
    same = let e : Some shown_bytes ≡ Some bytes = shown in cc

    large : nat_lt most_input (length bytes) ≡ true
    large = let past : most_input < length bytes = rw (← same) long in grind (arith, nat_tests)

    by_command : (command : Command) → reads_input command ≡ true → command_plan env command bytes given ≡ stops job_too_large
    by_command (bad_word place) is = cc
    by_command (generate seed count) is = cc
    by_command other is = rw large refl

module _ (gave : List Place → FilesRead → Type 0) (free : (places : List Place) → gave places unloaded) (clock : List Instant → Type 0) (unasked : clock []) where
  -- with nothing given
  nothing_runs : (env : List (List ℕ × List ℕ)) (command : Command) (left : Option (List ℕ)) (answer : Ending) (held : Option (List ℕ))
      → ((bytes : List ℕ) → ShowsInput command left bytes → GoesAsPlanned (command_plan env command bytes nothing_given) answer held held) → GoesForInput gave clock env command left answer held held
  nothing_runs env command left answer held goes = (
    nothing_given,
    takes_none gave free clock unasked command,
    λ bytes shown. record {
      supplied = gave_nothing gave free clock unasked env command bytes;
      goes = goes bytes shown;
      needed = λ front t rest is. absurd (no_moment front t rest is);
    },
  )

  pub too_large_runs : (env : List (List ℕ × List ℕ)) (command : Command) (left : Option (List ℕ)) (held : Option (List ℕ)) → reads_input command ≡ true → IsLongerThan left most_input
      → GoesForInput gave clock env command left job_too_large held held
  too_large_runs env command left held is long =
      nothing_runs env command left job_too_large held (λ bytes shown. rw (plan_too_large env command left bytes nothing_given is long (shown_read command left bytes is shown)) (goes_stopped job_too_large held))

  pub read_fault_runs : (env : List (List ℕ × List ℕ)) (command : Command) (left : Option (List ℕ)) (held : Option (List ℕ)) → GoesForInput gave clock env command left read_fault held held
  read_fault_runs env command left held = nothing_runs env command left read_fault held (λ bytes shown. goes_read_fault (command_plan env command bytes nothing_given) held)

  pub no_memory_runs : (env : List (List ℕ × List ℕ)) (command : Command) (left : Option (List ℕ)) (held : Option (List ℕ)) → GoesForInput gave clock env command left no_memory held held
  no_memory_runs env command left held = nothing_runs env command left no_memory held (λ bytes shown. goes_no_memory (command_plan env command bytes nothing_given) held)

  -- ## Words

  -- words that are no command
  pub bad_word_runs : (env : List (List ℕ × List ℕ)) (command : Command) (place : ℕ) (left : Option (List ℕ)) (held : Option (List ℕ)) → command ≡ bad_word place
      → GoesForInput gave clock env command left (bad_words place) held held
  unfolding command_plan
  bad_word_runs env command place left held is = rw is (nothing_runs env (bad_word place) left (bad_words place) held (λ bytes shown. goes_stopped (bad_words place) held))

-- a generated job, for which nothing is asked
module _ (gave : List Place → FilesRead → Type 0) (free : (places : List Place) → gave places unloaded) (clock : List Instant → Type 0) (unasked : clock []) where
  pub generated_runs : (env : List (List ℕ × List ℕ)) (seed count : ℕ) (left : Option (List ℕ)) (answer : Ending) (before now : Option (List ℕ)) → GoesAsPlanned (generate_plan seed count) answer before now
      → GoesForInput gave clock env (generate seed count) left answer before now
  unfolding command_plan
  generated_runs env seed count left answer before now goes = (
    nothing_given,
    (refl, unasked),
    λ bytes shown. record {
      supplied = tt;
      goes = goes;
      needed = λ front t rest is. absurd (no_moment front t rest is);
    },
  )

pub holds_untouched : (command : Command) (P : Type 0) → P → UnlessCommand command P
holds_untouched (bad_word place) P holds = holds
holds_untouched other P holds = tt

pub holds_when : (test : Bool) (P : Type 0) → P → When test P
holds_when true P holds = holds
holds_when false P holds = tt

-- an input that isn't read
pub unread_rest : (left : Option (List ℕ)) → IsRestOf left left
unread_rest left = ([], cut_at_start left)

-- running out of memory ends every run
pub asked_no_memory : (command : Command) → EndsAsAsked command no_memory
asked_no_memory (bad_word place) = inr refl
asked_no_memory other = tt

pub of_command : (command : Command) (end : Ending) → reads_input command ≡ true → IsOfCommand end → EndsAsAsked command end
of_command (bad_word place) end is of = cc
of_command (generate seed count) end is of = cc
of_command other end is of = of

pub after_input : (end : Ending) → IsAfterInput end → IsOfCommand end
after_input (bad_words place) of = absurd of
after_input job_too_large of = absurd of
after_input read_fault of = absurd of
after_input other of = tt

-- a run that only writes ends after its input
pub after_output : (end : Ending) → IsOfOutput end → IsAfterInput end
after_output done of = tt
after_output output_fault of = tt
after_output no_memory of = tt
after_output other of = absurd of

pub ruleset words_of_runs = (keeps_same, holds_untouched, holds_unless, holds_when, unread_rest, asked_no_memory)
