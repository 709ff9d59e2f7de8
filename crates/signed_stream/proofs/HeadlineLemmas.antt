-- A run that is done has streamed, and what is valid is done.
use Rattle.std.proofs.Common.{◌≡◌, ◌==◌, ℕ, ◌+◌, ◌≤◌, ◌⊎◌, inl, inr, Bool, true, false, List, [], ◌∷◌, ◌++◌, Option, Some, None, option_map, nat_lt, length, refl, sym, ap, subst, ◌∙◌, arith}
use Rattle.std.specs.Prelude.{if◌then◌else◌, Result, Ok, Err, IfOk, string_bytes}
use Rattle.std.specs.Option.{option_or}
use Rattle.std.proofs.lemmas.Bool.{eqb-true}
use Rattle.std.proofs.lemmas.Bool.Decides.{nat_tests}
use Rattle.smithy_core.specs.Civil.{IsInYears, is_in_years}
use Rattle.smithy_core.specs.Moment.{Instant}
use Rattle.smithy_core.specs.Outside.{Gains}
use Rattle.smithy_core.specs.Message.{Parts}
use Rattle.smithy_core.specs.declared.request.HttpRequest.{HttpRequest}
use Rattle.smithy_core.proofs.YearLemmas.{in_years, years_in}
use Rattle.smithy_http.specs.Target.{Target}
use Rattle.sigv4.specs.Query.{Pair}
use Rattle.sigv4.specs.Request.{Case}
use Rattle.sigv4.specs.Refusal.{unfit, unfit_signed_target, unfit_request}
use Rattle.sigv4.specs.Signed.{signature_of}
use Rattle.sigv4.specs.declared.error.SigningError.{SigningError}
use Rattle.env_config.specs.Files.{Place}
use Rattle.env_config.specs.Loading.{selected_profile}
use Rattle.env_config.specs.Sections.{FileText}
use Rattle.signed_stream.specs.declared.form.Form.{Form}
use Rattle.signed_stream.specs.declared.status.StreamFault.{StreamFault}
use Rattle.signed_stream.specs.declared.status.StreamFault.TheVariants as faults
use Rattle.signed_stream.specs.Case.{job_case, request_moment}
use Rattle.chain_watch.specs.Chain.{IsChainOf, IsWholeChain}
use Rattle.chain_watch.proofs.AcceptedLemmas.{accepted_chain}
use Rattle.signed_stream.specs.Chain.{Refusal, first_refusal}
use Rattle.signed_stream.specs.CheckRecord.{CarriesSeal, GaveRecord, GaveRecordParts, IsSoundRecord, check_plan, check_signer, checked_plan, sealed_plan, shown_events}
use Rattle.signed_stream.specs.ChunkJob.{chunk_plan, shown_chunks}
use Rattle.signed_stream.specs.ChunkWords.{ChunkWanted}
use Rattle.signed_stream.specs.Command.{CheckWanted, Command, Wanted, bad_word, check_record, generate, show_settings, stream, write_chunks}
use Rattle.signed_stream.specs.Generate.{generate_plan, shown_stream}
use Rattle.signed_stream.specs.Generator.{drawn_events}
use Rattle.signed_stream.specs.ProfileOptions.{ProfileWanted}
use Rattle.job_text.specs.Job.{JobParts, job}
use Rattle.signed_stream.specs.Plan.{EndsAsPlanned, FilesRead, GoesAsPlanned, Plan, SealRead, sealed_over, unsealed, unsought, TargetSpells, Supplied, TargetRead, accepted, loaded, most_input, stops, unaccepted, unloaded, unless_large, unread, unreadable, writes}
use Rattle.job_text.specs.ProfileTexts.{ProfileTexts, profile_texts}
use Rattle.request_check.specs.Sealed.{SealParts}
use Rattle.chain_watch.specs.Walk.{chain_events}
use Rattle.chain_watch.specs.declared.chain_fault.ChainFault.{ChainFault}
use Rattle.eventstream.specs.Key.{Signer}
use Rattle.job_text.specs.Record.{RecordParts, spelled_record}
use Rattle.job_text.proofs.RecordLemmas.{spelled_bytes}
use Rattle.signed_stream.specs.Running.{CanBeDone, Completes, HasDone, RunsAsPlanned, command_plan}
use Rattle.signed_stream.specs.Settings.{Selected, settings}
use Rattle.signed_stream.specs.ShowSettings.{GaveTexts, IsShowable, settings_plan, shown_plan}
use Rattle.signed_stream.specs.Shown.{shown_settings}
use Rattle.signed_stream.specs.Sign.{IsSignedFor, case_fault, run_fault_for}
use Rattle.signed_stream.specs.Sources.{or_refused, selection, when_selected}
use Rattle.signed_stream.specs.Status.{Ending, RunFault, done, job_too_large, moment_out_of_range, no_memory, output_fault, read_fault, refused, ended}
use Rattle.signed_stream.specs.Stream.{GaveJob, GaveReading, IsStreamable, IsValid, case_plan, job_plan, selected_plan, streamed, target_plan, written_valid}
use Rattle.signed_stream.specs.Streaming.{CompletesStream, HasSentStream, IsSentSigned, job_with, stream_plan}
use Rattle.signed_stream.specs.Written.{case_refusal, written_stream, written_end, written_until}
use Rattle.signed_stream.proofs.ChainLemmas.{frames_unrefused, front_unrefused, unrefused_frames}
use Rattle.signed_stream.proofs.TargetLemmas.{reads_one, reads_one_way}

-- ## Done

-- a plan to stop isn't done, but where its end says so
stops_undone : (end : Ending) (before now : Option (List ℕ)) → (end ≡ done → ⊥) → GoesAsPlanned (stops end) done before now → ⊥
stops_undone end before now other goes = by_end goes.ends
  where
    by_end : (done ≡ end) ⊎ (done ≡ read_fault) ⊎ (done ≡ no_memory) → ⊥
    by_end (inl is) = other (sym is)
    by_end (inr (inl is)) = cc
    by_end (inr (inr is)) = cc

-- a plan to write is done where its end says so
writes_done : (text : List ℕ) (end : Ending) (before now : Option (List ℕ)) → GoesAsPlanned (writes text end) done before now → end ≡ done
writes_done text end before now goes = by_end goes.ends
  where
    by_end : (done ≡ end) ⊎ (done ≡ read_fault) ⊎ (done ≡ output_fault) ⊎ (done ≡ no_memory) → end ≡ done
    by_end (inl is) = sym is
    by_end (inr (inl is)) = cc
    by_end (inr (inr (inl is))) = cc
    by_end (inr (inr (inr is))) = cc

-- a case that is done
record DoneCase (form : Form) (text : List ℕ) (c : Case) (events : List Parts) (moments : List Instant) (before now : Option (List ℕ)) : Type 0 where
  fit : unfit c ≡ None
  fits : unfit_signed_target c ≡ None
  chained : IsWholeChain c.signer events moments (signature_of c)
  gains : Gains before now (written_stream form text c events moments)

no_fault : (error : Option SigningError) → option_map run_fault_for error ≡ None → error ≡ None
no_fault None none = refl
no_fault (Some error) none = cc

none_of : (a b : Option SigningError) → option_or a b ≡ None → (a ≡ None) × (b ≡ None)
none_of None b none = (refl, none)
none_of (Some error) b none = cc

done_case : (form : Form) (text : List ℕ) (c : Case) (events : List Parts) (moments : List Instant) (before now : Option (List ℕ)) (fault : Option RunFault) → case_fault c ≡ fault
    → GoesAsPlanned (case_plan form text c events moments fault) done before now → DoneCase form text c events moments before now
done_case form text c events moments before now (Some fault) is goes = absurd (stops_undone _ before now (λ e. cc) goes)
done_case form text c events moments before now None is goes = by_refusal (case_refusal c events moments) refl goes
  where
    passed : (unfit c ≡ None) × (unfit_signed_target c ≡ None)
    passed = none_of (unfit c) (unfit_signed_target c) (no_fault (unfit_request c) is)

    by_count : (whole : Bool) → (length moments == length events + 1) ≡ whole → case_refusal c events moments ≡ None
        → GoesAsPlanned (writes (written_stream form text c events moments) (if whole then done else no_memory)) done before now → DoneCase form text c events moments before now
    by_count false counted none goes = let wrong : no_memory ≡ done = writes_done _ _ before now goes in cc
    by_count true counted none goes = record {
      fit = passed.0;
      fits = passed.1;
      chained = unrefused_frames c.signer 1 events moments (signature_of c) (eqb-true _ _ counted) none;
      gains = goes.gains;
    }

    by_refusal : (refusal : Option Refusal) → case_refusal c events moments ≡ refusal
        → GoesAsPlanned (writes (written_until form refusal text c events moments) (written_end refusal events moments)) done before now → DoneCase form text c events moments before now
    by_refusal (Some refusal) is goes = let wrong : refused refusal.fault ≡ done = writes_done _ _ before now goes in cc
    by_refusal None none goes = by_count (length moments == length events + 1) refl none goes

-- what is valid and was written
abbrev pub HasWritten : List FileText → List ℕ → List (List ℕ × List ℕ) → Wanted → JobParts → TargetRead → List Instant → Option (List ℕ) → Option (List ℕ) → Type 0
HasWritten files profile env wanted j target moments before now = (input : IsValid files profile env wanted j target moments) × Gains before now (written_valid input)

module _ (files : List FileText) (profile : List ℕ) (env : List (List ℕ × List ℕ)) (wanted : Wanted) (j : JobParts) (before now : Option (List ℕ)) (selected : Selected)
    (settled : settings files profile env wanted.profile.service_id ≡ Ok selected) where
  done_target : (first : Instant) (others : List Instant) → IsInYears (request_moment wanted first) → (target : TargetRead)
      → GoesAsPlanned (target_plan wanted.form j.target (job_case j wanted selected first) j.events others target) done before now → HasWritten files profile env wanted j target (first ∷ others) before now
  done_target first others years unread goes = absurd (stops_undone _ before now (λ e. cc) goes)
  done_target first others years unaccepted goes = absurd (stops_undone _ before now (λ e. cc) goes)
  done_target first others years (accepted target) goes =
      let c = job_case j wanted selected first target in
      let case = done_case wanted.form j.target c j.events others before now (case_fault c) refl goes in
      let input : IsValid files profile env wanted j (accepted target) (first ∷ others) = record {
        selected = selected;
        first = first;
        others = others;
        parts = target;
        settled = settled;
        begins = refl;
        accepts = refl;
        years = years;
        fit = case.fit;
        fits = case.fits;
        chained = case.chained;
      } in
      (input, case.gains)

  done_selected : (target : TargetRead) (moments : List Instant) → GoesAsPlanned (selected_plan j wanted target moments selected) done before now → HasWritten files profile env wanted j target moments before now
  done_selected target [] goes = absurd (stops_undone _ before now (λ e. cc) goes)
  done_selected target (first ∷ others) goes = by_years (is_in_years (request_moment wanted first)) refl goes
    where
      by_years : (years : Bool) → is_in_years (request_moment wanted first) ≡ years
          → GoesAsPlanned (if years then target_plan wanted.form j.target (job_case j wanted selected first) j.events others target else stops (refused (moment_out_of_range (request_moment wanted first)))) done before now
          → HasWritten files profile env wanted j target (first ∷ others) before now
      by_years true within goes = done_target first others (in_years (request_moment wanted first) within) target goes
      by_years false within goes = absurd (stops_undone _ before now (λ e. cc) goes)

-- a stream that is done was valid, and was written
pub done_stream : (files : List FileText) (profile : List ℕ) (env : List (List ℕ × List ℕ)) (wanted : Wanted) (j : JobParts) (target : TargetRead) (moments : List Instant) (before now : Option (List ℕ))
    → GoesAsPlanned (stream_plan files profile env wanted j target moments) done before now → HasWritten files profile env wanted j target moments before now
done_stream files profile env wanted j target moments before now goes = by_settings (settings files profile env wanted.profile.service_id) refl goes
  where
    by_settings : (outcome : Result Selected RunFault) → settings files profile env wanted.profile.service_id ≡ outcome
        → GoesAsPlanned (when_selected (selected_plan j wanted target moments) (or_refused outcome)) done before now → HasWritten files profile env wanted j target moments before now
    by_settings (Ok selected) is goes = done_selected files profile env wanted j before now selected is target moments goes
    by_settings (Err fault) is goes = absurd (stops_undone _ before now (λ e. cc) goes)

-- a run that is done has its files, and they select what it goes on with
record HasSelected (env : List (List ℕ × List ℕ)) (service_id : Option (List ℕ)) (files : FilesRead) (others : Selected → Plan) (before now : Option (List ℕ)) : Type 0 where
  texts : List FileText
  selected : Selected
  all : files ≡ loaded texts
  settled : settings texts (selected_profile env) env service_id ≡ Ok selected
  goes : GoesAsPlanned (others selected) done before now

done_files : (env : List (List ℕ × List ℕ)) (service_id : Option (List ℕ)) (files : FilesRead) (others : Selected → Plan) (before now : Option (List ℕ))
    → GoesAsPlanned (when_selected others (selection env service_id files)) done before now → HasSelected env service_id files others before now
done_files env service_id unloaded others before now goes = absurd (stops_undone _ before now (λ e. cc) goes)
done_files env service_id (unreadable path) others before now goes = absurd (stops_undone _ before now (λ e. cc) goes)
done_files env service_id (loaded texts) others before now goes = by_settings (settings texts (selected_profile env) env service_id) refl goes
  where
    by_settings : (outcome : Result Selected RunFault) → settings texts (selected_profile env) env service_id ≡ outcome
        → GoesAsPlanned (when_selected others (or_refused outcome)) done before now → HasSelected env service_id (loaded texts) others before now
    by_settings (Ok selected) is goes = record { texts = texts; selected = selected; all = refl; settled = is; goes = goes }
    by_settings (Err fault) is goes = absurd (stops_undone _ before now (λ e. cc) goes)

-- an input that has streamed
abbrev HasStreamed : (List Place → FilesRead → Type 0) → List (List ℕ × List ℕ) → Wanted → List ℕ → Supplied → Option (List ℕ) → Option (List ℕ) → Type 0
HasStreamed gave env wanted bytes given before now = (input : IsStreamable gave env wanted bytes given) × Gains before now (streamed input)

done_reading : (gave : List Place → FilesRead → Type 0) (env : List (List ℕ × List ℕ)) (wanted : Wanted) (bytes : List ℕ) (reading : Result JobParts ℕ) (given : Supplied) (before now : Option (List ℕ))
    → length bytes ≤ most_input → job bytes ≡ reading → GaveReading gave wanted reading given → GoesAsPlanned (job_plan env wanted given reading) done before now → HasStreamed gave env wanted bytes given before now
done_reading gave env wanted bytes (Err place) given before now short spelled found goes = absurd (stops_undone _ before now (λ e. cc) goes)
done_reading gave env wanted bytes (Ok j) given before now short spelled found goes = by_files given.files refl goes
  where
    by_files : (files : FilesRead) → given.files ≡ files → GoesAsPlanned (when_selected (selected_plan j wanted given.target given.moments) (selection env wanted.profile.service_id files)) done before now
        → HasStreamed gave env wanted bytes given before now
    by_files unloaded is goes = absurd (stops_undone _ before now (λ e. cc) goes)
    by_files (unreadable path) is goes = absurd (stops_undone _ before now (λ e. cc) goes)
    by_files (loaded texts) is goes =
        let did = done_stream texts (selected_profile env) env wanted j given.target given.moments before now goes in
        let input : IsStreamable gave env wanted bytes given = record {
          read = j;
          texts = texts;
          short = short;
          spelled = spelled;
          supplied = found;
          files = is;
          valid = did.0;
        } in
        (input, did.1)

-- an input for which is shown what is selected
abbrev HasShown : (List Place → FilesRead → Type 0) → List (List ℕ × List ℕ) → ProfileWanted → List ℕ → Supplied → Option (List ℕ) → Option (List ℕ) → Type 0
HasShown gave env wanted bytes given before now = (input : IsShowable gave env wanted bytes given) × Gains before now (shown_settings input.selected)

done_texts : (gave : List Place → FilesRead → Type 0) (env : List (List ℕ × List ℕ)) (wanted : ProfileWanted) (bytes : List ℕ) (reading : Result ProfileTexts ℕ) (given : Supplied) (before now : Option (List ℕ))
    → length bytes ≤ most_input → profile_texts bytes ≡ reading → GaveTexts gave wanted reading given → GoesAsPlanned (settings_plan env wanted given reading) done before now → HasShown gave env wanted bytes given before now
done_texts gave env wanted bytes (Err place) given before now short spelled found goes = absurd (stops_undone _ before now (λ e. cc) goes)
done_texts gave env wanted bytes (Ok texts) given before now short spelled found goes =
    let has = done_files env wanted.service_id given.files shown_plan before now goes in
    let input : IsShowable gave env wanted bytes given = record {
      read = texts;
      texts = has.texts;
      selected = has.selected;
      short = short;
      spelled = spelled;
      supplied = found;
      files = has.all;
      settled = has.settled;
    } in
    (input, has.goes.gains)

-- an input whose record passes
abbrev HasChecked : (List Place → FilesRead → Type 0) → List (List ℕ × List ℕ) → CheckWanted → List ℕ → Supplied → Option (List ℕ) → Option (List ℕ) → Type 0
HasChecked gave env wanted bytes given before now =
    (input : IsSoundRecord gave env wanted bytes given) × IsChainOf (check_signer wanted input.selected) input.signature input.read.chain input.events × Gains before now (shown_events input.events)

-- a chain that passes over a seal
record HasPassed (signer : Signer) (chain : List ℕ) (seal : SealRead) (before now : Option (List ℕ)) : Type 0 where
  signature : List ℕ
  events : List Parts
  sealed : seal ≡ sealed_over signature
  chained : chain_events signer signature chain ≡ Ok events
  gains : Gains before now (shown_events events)

done_seal : (signer : Signer) (chain : List ℕ) (seal : SealRead) (before now : Option (List ℕ)) → GoesAsPlanned (sealed_plan signer chain seal) done before now → HasPassed signer chain seal before now
done_seal signer chain unsought before now goes = absurd (stops_undone _ before now (λ e. cc) goes)
done_seal signer chain unsealed before now goes = absurd (stops_undone _ before now (λ e. cc) goes)
done_seal signer chain (sealed_over signature) before now goes = by_events (chain_events signer signature chain) refl goes
  where
    by_events : (outcome : Result (List Parts) ChainFault) → chain_events signer signature chain ≡ outcome → GoesAsPlanned (checked_plan outcome) done before now → HasPassed signer chain (sealed_over signature) before now
    by_events (Ok events) is goes = record { signature = signature; events = events; sealed = refl; chained = is; gains = goes.gains }
    by_events (Err fault) is goes = absurd (stops_undone _ before now (λ e. cc) goes)

done_record : (gave : List Place → FilesRead → Type 0) (env : List (List ℕ × List ℕ)) (wanted : CheckWanted) (bytes : List ℕ) (reading : Result RecordParts ℕ) (given : Supplied) (before now : Option (List ℕ))
    → length bytes ≤ most_input → spelled_record bytes ≡ reading → GaveRecord gave env wanted reading given → GoesAsPlanned (check_plan env wanted given reading) done before now → HasChecked gave env wanted bytes given before now
done_record gave env wanted bytes (Err place) given before now short spelled found goes = absurd (stops_undone _ before now (λ e. cc) goes)
done_record gave env wanted bytes (Ok parts) given before now short spelled found goes =
    let has = done_files env wanted.profile.service_id given.files (λ selected. sealed_plan (check_signer wanted selected) parts.chain given.seal) before now goes in
    let passed = done_seal (check_signer wanted has.selected) parts.chain given.seal before now has.goes in
    let input : IsSoundRecord gave env wanted bytes given = record {
      read = parts;
      texts = has.texts;
      selected = has.selected;
      signature = passed.signature;
      events = passed.events;
      short = short;
      spelled = spelled;
      supplied = found;
      files = has.all;
      settled = has.settled;
      sealed = passed.sealed;
      chained = passed.chained;
    } in
    (input, accepted_chain _ passed.signature parts.chain passed.events (spelled_bytes bytes parts spelled) passed.chained, passed.gains)

-- a run that is done has an input that isn't too large
short_done : (bytes : List ℕ) (plan : Plan) (before now : Option (List ℕ)) → GoesAsPlanned (unless_large bytes plan) done before now → (length bytes ≤ most_input) × GoesAsPlanned plan done before now
short_done bytes plan before now goes = by_length (nat_lt most_input (length bytes)) refl goes
  where
    by_length : (large : Bool) → nat_lt most_input (length bytes) ≡ large → GoesAsPlanned (if large then stops job_too_large else plan) done before now → (length bytes ≤ most_input) × GoesAsPlanned plan done before now
    by_length true is goes = absurd (stops_undone _ before now (λ e. cc) goes)
    by_length false is goes = (grind (arith, nat_tests), goes)

-- a run that is done has done what it was asked
has_done : (gave : List Place → FilesRead → Type 0) (env : List (List ℕ × List ℕ)) (command : Command) (bytes : List ℕ) (given : Supplied) (before now : Option (List ℕ)) → RunsAsPlanned gave env command bytes given done before now
    → HasDone gave env command bytes given before now
unfolding command_plan
has_done gave env (bad_word place) bytes given before now runs = stops_undone _ before now (λ e. cc) runs.goes
has_done gave env (stream wanted) bytes given before now runs =
    let short = short_done bytes (job_plan env wanted given (job bytes)) before now runs.goes in
    done_reading gave env wanted bytes (job bytes) given before now short.0 refl runs.supplied short.1
has_done gave env (show_settings wanted) bytes given before now runs =
    let short = short_done bytes (settings_plan env wanted given (profile_texts bytes)) before now runs.goes in
    done_texts gave env wanted bytes (profile_texts bytes) given before now short.0 refl runs.supplied short.1
has_done gave env (check_record wanted) bytes given before now runs =
    let short = short_done bytes (check_plan env wanted given (spelled_record bytes)) before now runs.goes in
    done_record gave env wanted bytes (spelled_record bytes) given before now short.0 refl runs.supplied short.1
has_done gave env (write_chunks wanted) bytes given before now runs =
    let short = short_done bytes (chunk_plan wanted bytes) before now runs.goes in
    (short.0, short.1.gains)
has_done gave env (generate seed count) bytes given before now runs = runs.goes.gains

pub has_done_where : (gave : List Place → FilesRead → Type 0) (env : List (List ℕ × List ℕ)) (command : Command) (bytes : List ℕ) (given : Supplied) (answer : Ending) (before now : Option (List ℕ)) → answer ≡ done
    → RunsAsPlanned gave env command bytes given answer before now → HasDone gave env command bytes given before now
has_done_where gave env command bytes given answer before now is runs = has_done gave env command bytes given before now (rw is at runs)

-- ## What can be done

-- what stops where memory ran out completes
stopped_completes : (answer : Ending) → EndsAsPlanned (stops no_memory) answer → Completes answer
stopped_completes answer (inl is) = inr (inr (inr is))
stopped_completes answer (inr (inl is)) = inr (inl is)
stopped_completes answer (inr (inr is)) = inr (inr (inr is))

-- and so does what is written to such an end, or to the whole
written_completes : (text : List ℕ) (whole : Bool) (answer : Ending) → EndsAsPlanned (writes text (if whole then done else no_memory)) answer → Completes answer
written_completes text true answer (inl is) = inl is
written_completes text false answer (inl is) = inr (inr (inr is))
written_completes text whole answer (inr (inl is)) = inr (inl is)
written_completes text whole answer (inr (inr (inl is))) = inr (inr (inl is))
written_completes text whole answer (inr (inr (inr is))) = inr (inr (inr is))

module _ (files : List FileText) (profile : List ℕ) (env : List (List ℕ × List ℕ)) (wanted : Wanted) (j : JobParts) (other : TargetRead) (taken later : List Instant) (answer : Ending)
    (spells : TargetSpells j.target other) (input : IsValid files profile env wanted j other (taken ++ later)) where
  -- the first moment and the others begin those that are valid
  completes_others : (others : List Instant) → input.others ≡ others ++ later → (target : TargetRead) → TargetSpells j.target target
      → EndsAsPlanned (target_plan wanted.form j.target (job_case j wanted input.selected input.first) j.events others target) answer → Completes answer
  completes_others others rest unread reads goes = stopped_completes answer goes
  completes_others others rest unaccepted reads goes = absurd (reads_one_way j.target input.parts reads (rw input.accepts at spells))
  completes_others others rest (accepted target) reads goes =
      let same : target ≡ input.parts = reads_one j.target target input.parts reads (rw input.accepts at spells) in
      let c = job_case j wanted input.selected input.first input.parts in
      let whole : first_refusal c.signer 1 j.events (others ++ later) (signature_of c) ≡ None = rw (← rest) (frames_unrefused c.signer 1 j.events input.others (signature_of c) input.chained) in
      let none = front_unrefused c.signer 1 j.events others later (signature_of c) whole in
      written_completes (written_stream wanted.form j.target c j.events others) (length others == length j.events + 1) answer (rw (same, input.fit, input.fits, none) at goes)

  -- what is valid at these moments and any later ones completes, also where the target wasn't read
  pub completes_stream : (target : TargetRead) → TargetSpells j.target target → EndsAsPlanned (stream_plan files profile env wanted j target taken) answer → Completes answer
  completes_stream target reads goes = by_taken taken input.begins (rw input.settled at goes)
    where
      by_taken : (taken : List Instant) → taken ++ later ≡ input.first ∷ input.others → EndsAsPlanned (selected_plan j wanted target taken input.selected) answer → Completes answer
      by_taken [] begins goes = stopped_completes answer goes
      by_taken (first ∷ others) begins goes =
          let same : first ≡ input.first = cc in
          let rest : others ++ later ≡ input.others = cc in
          completes_others others (sym rest) target reads (rw (same, years_in (request_moment wanted input.first) input.years) at goes)

-- what can be shown completes
completes_shown : (gave : List Place → FilesRead → Type 0) (env : List (List ℕ × List ℕ)) (wanted : ProfileWanted) (bytes : List ℕ) (given other : Supplied) (answer : Ending) (input : IsShowable gave env wanted bytes other)
    → other.files ≡ given.files → EndsAsPlanned (command_plan env (show_settings wanted) bytes given) answer → Completes answer
unfolding command_plan
completes_shown gave env wanted bytes given other answer input files goes =
    let large : nat_lt most_input (length bytes) ≡ false = (let short = input.short in grind (arith, nat_tests)) in
    let are : given.files ≡ loaded input.texts = sym files ∙ input.files in
    rw (large, input.spelled, are, input.settled) at goes

-- what can be streamed completes
completes_job : (gave : List Place → FilesRead → Type 0) (env : List (List ℕ × List ℕ)) (wanted : Wanted) (bytes : List ℕ) (given other : Supplied) (later : List Instant) (answer : Ending)
    (input : IsStreamable gave env wanted bytes other) → other.files ≡ given.files → other.moments ≡ given.moments ++ later → GaveJob gave wanted input.read given
    → EndsAsPlanned (command_plan env (stream wanted) bytes given) answer → Completes answer
unfolding command_plan
completes_job gave env wanted bytes given other later answer input files moments found goes =
    let large : nat_lt most_input (length bytes) ≡ false = (let short = input.short in grind (arith, nat_tests)) in
    let are : given.files ≡ loaded input.texts = sym files ∙ input.files in
    let valid : IsValid input.texts (selected_profile env) env wanted input.read other.target (given.moments ++ later) = rw moments at input.valid in
    completes_stream input.texts (selected_profile env) env wanted input.read other.target given.moments later answer input.supplied.target valid given.target found.target
    (rw (large, input.spelled, are) at goes)

-- what is written in chunks completes
completes_chunked : (env : List (List ℕ × List ℕ)) (wanted : ChunkWanted) (bytes : List ℕ) (given : Supplied) (answer : Ending) → length bytes ≤ most_input
    → EndsAsPlanned (command_plan env (write_chunks wanted) bytes given) answer → Completes answer
unfolding command_plan
completes_chunked env wanted bytes given answer short goes =
    let large : nat_lt most_input (length bytes) ≡ false = grind (arith, nat_tests) in
    written_completes (shown_chunks wanted bytes) true answer (rw large at goes)

-- what is generated completes
generated_completes : (seed count : ℕ) (answer : Ending) → EndsAsPlanned (generate_plan seed count) answer → Completes answer
generated_completes seed count answer goes = written_completes (shown_stream (drawn_events count seed)) true answer goes

-- the seal that a request carries is one
seal_is : (headers : List Pair) (target region name : List ℕ) (seal : SealRead) (signature : List ℕ) → CarriesSeal headers target region name seal → CarriesSeal headers target region name (sealed_over signature)
    → (seal ≡ unsought) ⊎ (seal ≡ sealed_over signature)
seal_is headers target region name unsought signature carries other = inl refl
seal_is headers target region name unsealed signature carries other = absurd (carries other.0 other.1)
seal_is headers target region name (sealed_over own) signature carries other =
    inr (ap sealed_over (sym carries.2 ∙ sym (ap (λ (seal : SealParts). seal.signature) (carries.3 other.0 other.1)) ∙ other.2))

-- what passes completes
completes_record : (gave : List Place → FilesRead → Type 0) (env : List (List ℕ × List ℕ)) (wanted : CheckWanted) (bytes : List ℕ) (given other : Supplied) (answer : Ending) (input : IsSoundRecord gave env wanted bytes other)
    → other.files ≡ given.files → GaveRecordParts gave env wanted input.read given → EndsAsPlanned (command_plan env (check_record wanted) bytes given) answer → Completes answer
unfolding command_plan
completes_record gave env wanted bytes given other answer input files found goes =
    let large : nat_lt most_input (length bytes) ≡ false = (let short = input.short in grind (arith, nat_tests)) in
    let are : given.files ≡ loaded input.texts = sym files ∙ input.files in
    let carries : CarriesSeal input.read.headers input.read.target input.selected.region wanted.name given.seal = rw (are, input.settled) at found.seal in
    let carried : CarriesSeal input.read.headers input.read.target input.selected.region wanted.name (sealed_over input.signature) = rw (input.files, input.settled, input.sealed) at input.supplied.seal in
    by_seal (seal_is input.read.headers input.read.target input.selected.region wanted.name given.seal input.signature carries carried) (rw (large, input.spelled, are, input.settled) at goes)
  where
    by_seal : (given.seal ≡ unsought) ⊎ (given.seal ≡ sealed_over input.signature) → EndsAsPlanned (sealed_plan (check_signer wanted input.selected) input.read.chain given.seal) answer → Completes answer
    by_seal (inl is) goes = stopped_completes answer (rw is at goes)
    by_seal (inr is) goes = written_completes (shown_events input.events) true answer (rw (is, input.chained) at goes)

-- what can be done with these files is done
pub completes : (gave : List Place → FilesRead → Type 0) (env : List (List ℕ × List ℕ)) (command : Command) (bytes : List ℕ) (given other : Supplied) (later : List Instant) (answer : Ending) (before now : Option (List ℕ))
    → RunsAsPlanned gave env command bytes given answer before now → other.files ≡ given.files → other.moments ≡ given.moments ++ later → CanBeDone gave env command bytes other → Completes answer
unfolding command_plan
completes gave env (bad_word place) bytes given other later answer before now runs files moments can = absurd can
completes gave env (stream wanted) bytes given other later answer before now runs files moments can =
    let found : GaveJob gave wanted can.read given = rw can.spelled at runs.supplied in
    completes_job gave env wanted bytes given other later answer can files moments found runs.goes.ends
completes gave env (check_record wanted) bytes given other later answer before now runs files moments can =
    let found : GaveRecordParts gave env wanted can.read given = rw can.spelled at runs.supplied in
    completes_record gave env wanted bytes given other answer can files found runs.goes.ends
completes gave env (write_chunks wanted) bytes given other later answer before now runs files moments can = completes_chunked env wanted bytes given answer can runs.goes.ends
completes gave env (generate seed count) bytes given other later answer before now runs files moments can = generated_completes seed count answer runs.goes.ends
completes gave env (show_settings wanted) bytes given other later answer before now runs files moments can = completes_shown gave env wanted bytes given other answer can files runs.goes.ends

-- ## The library's call

-- lists behind one front
same_back : (front a b : List Instant) → front ++ a ≡ front ++ b → a ≡ b
same_back [] a b is = is
same_back (t ∷ front) a b is = same_back front a b (let others : front ++ a ≡ front ++ b = cc in others)

-- the signed request is the one that is answered
pub headline_sent : (files : List FileText) (profile : List ℕ) (env : List (List ℕ × List ℕ)) (wanted : Wanted) (request : HttpRequest) (events : List Parts) (target : TargetRead) (selected : Selected)
    (old new taken : List Instant) (before now : Option (List ℕ)) (result : Result HttpRequest StreamFault) → settings files profile env wanted.profile.service_id ≡ Ok selected → new ≡ old ++ taken
    → TargetSpells (string_bytes request.target) target → GoesAsPlanned (stream_plan files profile env wanted (job_with request events) target taken) (ended result) before now
    → IfOk result (IsSentSigned (job_with request events) wanted selected request old new) → HasSentStream files profile env wanted request events target taken before now result
headline_sent files profile env wanted request events target selected old new taken before now (Err fault) settled gained spells goes sent = tt
headline_sent files profile env wanted request events target selected old new taken before now (Ok answer) settled gained spells goes sent =
    let did = done_stream files profile env wanted (job_with request events) target taken before now goes in
    let valid = did.0 in
    let moments : valid.first ∷ valid.others ≡ sent.first ∷ sent.others = sym valid.begins ∙ same_back old taken (sent.first ∷ sent.others) (sym gained ∙ sent.taken) in
    let first : sent.first ≡ valid.first = (let is = moments in cc) in
    let same : selected ≡ valid.selected = (let is : Ok selected ≡ Ok valid.selected = sym settled ∙ valid.settled in cc) in
    let parts : sent.target ≡ valid.parts = reads_one (string_bytes request.target) sent.target valid.parts sent.spelled (rw valid.accepts at spells) in
    (valid, did.1, signed_for sent.first valid.first selected valid.selected sent.target valid.parts first same parts sent.signed)
  where
    signed_for : (first one : Instant) (selected other : Selected) (parts target : Target) → first ≡ one → selected ≡ other → parts ≡ target
        → IsSignedFor (job_case (job_with request events) wanted selected first parts) request answer → IsSignedFor (job_case (job_with request events) wanted other one target) request answer
    signed_for first one selected other parts target is same spelled signed =
        subst (λ (t : Target). IsSignedFor (job_case (job_with request events) wanted other one t) request answer) spelled
        (subst (λ (s : Selected). IsSignedFor (job_case (job_with request events) wanted s one parts) request answer) same
        (subst (λ (m : Instant). IsSignedFor (job_case (job_with request events) wanted selected m parts) request answer) is signed))

-- it ends for no input
pub completes_sent : {T : Type 0} (answer : Result T StreamFault) → Completes (ended answer) → CompletesStream (ended answer)
completes_sent answer (inl is) = inl is
completes_sent answer (inr (inr is)) = inr is
completes_sent answer (inr (inl is)) = absurd (by_answer answer is)
  where
    by_answer : {T : Type 0} (answer : Result T StreamFault) → ended answer ≡ read_fault → ⊥
    by_answer (Err faults.SinkFault) is = cc
    by_answer other is = cc
