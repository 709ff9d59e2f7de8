-- How a run of the program goes as is to be.
use Rattle.std.proofs.Common.{◌≡◌, ℕ, zero, suc, ◌≤◌, ◌<◌, ◌⊎◌, inl, inr, Bool, true, false, nat_lt, List, [], ◌∷◌, length, map, take, Option, Some, None, refl, sym, ap, subst, ◌∙◌, arith}
use Rattle.std.specs.Prelude.{if◌then◌else◌, Result, Ok, Err}
use Rattle.std.proofs.lemmas.Bool.Decides.{nat_tests}
use Rattle.smithy_core.specs.Outside.{Gains, IsAllOf, IsLongerThan}
use Rattle.smithy_core.proofs.GainLemmas.{prefix_at_start, prefix_from_whole}
use Rattle.env_config.specs.Files.{Place}
use Rattle.env_config.specs.Loading.{selected_profile}
use Rattle.env_config.specs.Sections.{FileText}
use Rattle.job_text.specs.OperationJob.{OperationInput, operation_job}
use Rattle.signed_stream.specs.Plan.{FilesRead, TargetRead, TargetSpells, accepted, loaded, most_input, unaccepted, unloaded, unread, unreadable}
use Rattle.signed_stream.specs.Running.{SinkChange}
use Rattle.signed_stream.specs.Selecting.{selection_ending}
use Rattle.signed_stream.specs.Settings.{Selected, settings}
use Rattle.signed_stream.specs.declared.sources.SelectFault.{SelectFault}
use Rattle.signed_stream.specs.declared.sources.SelectFault.TheVariants as selections
use Rattle.std.specs.Global.{Vec}
use Rattle.signed_stream.specs.Sources.{or_refused, selection, source_places}
use Rattle.signed_stream.specs.Status.{Ending, RunFault, bad_job, bad_words, check_failed, could_not_read_file, done, job_too_large, no_memory, output_fault, read_fault, refused}
use Rattle.operation_program.specs.Attempting.{Scripted, attempts_made, heads_text, operation_outcome, scripted_fault, scripted_moment, scripted_request, scripted_rounds, first_attempt_end, unless_stopped}
use Rattle.operation_program.specs.Carriers.{GoesFor, GoesRead, GoesScripted, IsAfterBytes, IsAfterJob, IsAfterSelected}
use Rattle.operation_program.specs.Outcome.{GivesText, IsStop}
use Rattle.operation_program.specs.Running.{CanOperate, CountsFor, EndsByWords, EndsSo, GainsSo, GoesSo, HasFailed, HasOperated, IsOperable, KeepsFiles, KeepsOut, NamesFile, OperationSupplied, OperationWanted, RanOperation, SaysOperation, Supplies, SuppliesRead, ShowsBytes, outcome_read, outcome_selected, run_outcome, scripted}
use Rattle.operation_program.specs.Status.{OperationEnding, operation_ending, transport_fault, usual}
use Rattle.operation_program.specs.declared.status.OperationStatus.{OperationStatus}
use Rattle.operation_run.specs.Again.{Round}
use Rattle.operation_run.specs.Rounds.{first_there, fronts, is_used_up, tries}
use Rattle.signed_stream.specs.Chain.{outside_years}
use Rattle.signed_stream.proofs.TargetLemmas.{reads_one, reads_one_way}
use Rattle.std.specs.Option.{option_or}

-- ## As is to be

-- a run that is to end so and does
pub goes_stopped : (end : OperationEnding) (held : Option (List ℕ)) → GoesSo (Err end) end held held
goes_stopped end held = record { ends = inl refl; gains = refl }

-- running out of memory before any write goes as is to be
pub goes_no_memory : (outcome : Result (List ℕ) OperationEnding) (held : Option (List ℕ)) → GoesSo outcome (usual no_memory) held held
goes_no_memory (Err end) held = record { ends = inr (inr refl); gains = refl }
goes_no_memory (Ok text) held = record { ends = inr (inr (inr refl)); gains = prefix_at_start held text }

-- and so does a fault of the input
pub goes_read_fault : (outcome : Result (List ℕ) OperationEnding) (held : Option (List ℕ)) → GoesSo outcome (usual read_fault) held held
goes_read_fault (Err end) held = record { ends = inr (inl refl); gains = refl }
goes_read_fault (Ok text) held = record { ends = inr (inl refl); gains = refl }

-- what stays as it was is kept by every answer
pub keeps_same : (answer : OperationEnding) (before now : Option (List ℕ)) → now ≡ before → KeepsOut answer before now
keeps_same (usual done) before now same = tt
keeps_same (usual output_fault) before now same = tt
keeps_same (usual no_memory) before now same = tt
keeps_same other before now same = same

-- a run that goes as is to be keeps the output, but where it is done or was cut short
pub keeps_out : (outcome : Result (List ℕ) OperationEnding) (answer : OperationEnding) (before now : Option (List ℕ)) → GoesSo outcome answer before now → KeepsOut answer before now
keeps_out (Err end) answer before now goes = keeps_same answer before now goes.gains
keeps_out (Ok text) transport_fault before now goes = goes.gains
keeps_out (Ok text) (usual done) before now goes = tt
keeps_out (Ok text) (usual output_fault) before now goes = tt
keeps_out (Ok text) (usual no_memory) before now goes = tt
keeps_out (Ok text) (usual (bad_words place)) before now goes = goes.gains
keeps_out (Ok text) (usual job_too_large) before now goes = goes.gains
keeps_out (Ok text) (usual (bad_job place)) before now goes = goes.gains
keeps_out (Ok text) (usual read_fault) before now goes = goes.gains
keeps_out (Ok text) (usual (could_not_read_file path)) before now goes = goes.gains
keeps_out (Ok text) (usual (refused fault)) before now goes = goes.gains
keeps_out (Ok text) (usual (check_failed fault)) before now goes = goes.gains

module _ (gave : List Place → FilesRead → Type 0) (env : List (List ℕ × List ℕ)) (wanted : OperationWanted) (input : OperationInput) where
  -- ## A job

  -- nothing is selected
  pub unselected : (files : FilesRead) → gave (source_places wanted.profile.files input.request.texts) files → (end : Ending)
      → selection env wanted.profile.service_id files ≡ Err end → (held : Option (List ℕ)) → GoesRead gave env wanted (Ok input) (usual end) held held
  unselected files found end is held = record {
    given = record { files = files; target = unread };
    found = record { files = found; target = tt };
    goes = rw is (goes_stopped (usual end) held);
  }

  module _ (files : FilesRead) (found : gave (source_places wanted.profile.files input.request.texts) files) (selected : Selected) (is : selection env wanted.profile.service_id files ≡ Ok selected) where
    -- what is to be written of the operation, or how it ends
    pub goes_outcome : (target : TargetRead) → TargetSpells input.request.target target → (outcome : Result (List ℕ) OperationEnding) → operation_outcome (scripted env wanted input selected) target ≡ outcome
        → (answer : OperationEnding) (before now : Option (List ℕ)) → GoesSo outcome answer before now → GoesRead gave env wanted (Ok input) answer before now
    goes_outcome target spells outcome so answer before now goes = record {
      given = record { files = files; target = target };
      found = record { files = found; target = spells };
      goes = subst (λ o. GoesSo o answer before now) (sym (ap (outcome_selected (λ s. operation_outcome (scripted env wanted input s) target)) is ∙ so)) goes;
    }

-- ## The input

module _ (gave : List Place → FilesRead → Type 0) (unasked : (places : List Place) → gave places unloaded) (env : List (List ℕ × List ℕ)) where
  abbrev nothing : OperationSupplied
  nothing = record { files = unloaded; target = unread }

  supplies_nothing : (wanted : OperationWanted) (read : Result OperationInput ℕ) → SuppliesRead gave wanted read nothing
  supplies_nothing wanted (Ok input) = record { files = unasked _; target = tt }
  supplies_nothing wanted (Err place) = tt

  -- a line is bad
  pub bad_line : (wanted : OperationWanted) (read : Result OperationInput ℕ) (place : ℕ) (held : Option (List ℕ)) → read ≡ Err place → GoesRead gave env wanted read (usual (bad_job place)) held held
  bad_line wanted read place held is = record { given = nothing; found = supplies_nothing wanted read; goes = rw is (goes_stopped (usual (bad_job place)) held) }

  -- memory ran out before the job was read
  pub unread_no_memory : (wanted : OperationWanted) (read : Result OperationInput ℕ) (held : Option (List ℕ)) → GoesRead gave env wanted read (usual no_memory) held held
  unread_no_memory wanted read held = record { given = nothing; found = supplies_nothing wanted read; goes = goes_no_memory _ held }

  -- the input is too large
  pub too_large : (wanted : OperationWanted) (left held : Option (List ℕ)) → IsLongerThan left most_input → GoesFor gave env (Ok wanted) left (usual job_too_large) held held
  unfolding run_outcome
  too_large wanted left held long = (nothing, λ bytes shown. (supplies_nothing wanted (operation_job bytes), by_long bytes (let more : IsLongerThan (Some bytes) most_input = rw shown at long in more)))
    where
      by_long : (bytes : List ℕ) → most_input < length bytes → GoesSo (run_outcome env (Ok wanted) bytes nothing) (usual job_too_large) held held
      by_long bytes more = let less : nat_lt most_input (length bytes) ≡ true = grind (arith, nat_tests, more) in rw less (goes_stopped (usual job_too_large) held)

  -- the input failed
  pub input_failed : (wanted : OperationWanted) (left held : Option (List ℕ)) → GoesFor gave env (Ok wanted) left (usual read_fault) held held
  input_failed wanted left held = (nothing, λ bytes shown. (supplies_nothing wanted (operation_job bytes), goes_read_fault _ held))

  -- memory ran out before the input was read
  pub input_no_memory : (read : Result OperationWanted ℕ) (left held : Option (List ℕ)) → GoesFor gave env read left (usual no_memory) held held
  input_no_memory (Ok wanted) left held = (nothing, λ bytes shown. (supplies_nothing wanted (operation_job bytes), goes_no_memory _ held))
  input_no_memory (Err place) left held = (nothing, λ bytes shown. (tt, goes_no_memory _ held))

  -- a word is bad
  pub bad_word : (read : Result OperationWanted ℕ) (place : ℕ) (left held : Option (List ℕ)) → read ≡ Err place → GoesFor gave env read left (usual (bad_words place)) held held
  unfolding run_outcome
  bad_word read place left held is = rw is (nothing, λ bytes shown. (tt, goes_stopped (usual (bad_words place)) held))

-- the input was read
pub input_read : (gave : List Place → FilesRead → Type 0) (env : List (List ℕ × List ℕ)) (wanted : OperationWanted) (left : Option (List ℕ)) (bytes : List ℕ) (answer : OperationEnding) (before now : Option (List ℕ))
    → IsAllOf left bytes → length bytes ≤ most_input → GoesRead gave env wanted (operation_job bytes) answer before now → GoesFor gave env (Ok wanted) left answer before now
unfolding run_outcome
input_read gave env wanted left bytes answer before now all short goes = (goes.given, by_left left all)
  where
    own : GoesSo (run_outcome env (Ok wanted) bytes goes.given) answer before now
    own = let less : nat_lt most_input (length bytes) ≡ false = grind (arith, nat_tests, short) in rw less goes.goes

    by_left : (left : Option (List ℕ)) → IsAllOf left bytes → (other : List ℕ) → ShowsBytes (Ok wanted) left other → Supplies gave (Ok wanted) other goes.given × GoesSo (run_outcome env (Ok wanted) other goes.given) answer before now
    by_left None all other shown = cc
    by_left (Some held) all other shown = let same : other ≡ bytes = cc in rw same (goes.found, own)

-- ## The headline

module _ (gave : List Place → FilesRead → Type 0) (env : List (List ℕ × List ℕ)) (wanted : OperationWanted) (bytes : List ℕ) (given : OperationSupplied) where
  -- what was read, selected and spelled, of an outcome that the operation itself gives
  pub record Reached (outcome : Result (List ℕ) OperationEnding) : Type 0 where
    pub input : OperationInput
    pub texts : List FileText
    pub selected : Selected
    pub short : length bytes ≤ most_input
    pub spelled : operation_job bytes ≡ Ok input
    pub files : given.files ≡ loaded texts
    pub settled : settings texts (selected_profile env) env wanted.profile.service_id ≡ Ok selected
    pub gives : operation_outcome (scripted env wanted input selected) given.target ≡ outcome

  -- outcomes that nothing but the operation gives
  abbrev IsOwn : Result (List ℕ) OperationEnding → Type 0
  IsOwn (Ok text) = Unit {0}
  IsOwn (Err transport_fault) = Unit {0}
  IsOwn (Err (usual done)) = Unit {0}
  IsOwn (Err (usual end)) = ⊥

  reached : (outcome : Result (List ℕ) OperationEnding) → IsOwn outcome → run_outcome env (Ok wanted) bytes given ≡ outcome → Reached outcome
  unfolding run_outcome
  reached outcome own is = by_long (nat_lt most_input (length bytes)) refl is
    where
      wrong : (end : Ending) → (IsOwn (Err (usual end)) → ⊥) → Err (usual end) ≡ outcome → Reached outcome
      wrong end other same = absurd (other (subst IsOwn (sym same) own))

      by_settings : (input : OperationInput) → operation_job bytes ≡ Ok input → length bytes ≤ most_input → (texts : List FileText) → given.files ≡ loaded texts
          → (settled : Result Selected RunFault) → settings texts (selected_profile env) env wanted.profile.service_id ≡ settled
          → outcome_selected (λ selected. operation_outcome (scripted env wanted input selected) given.target) (or_refused settled) ≡ outcome → Reached outcome
      by_settings input spelled short texts files (Ok selected) settled is =
          record { input = input; texts = texts; selected = selected; short = short; spelled = spelled; files = files; settled = settled; gives = is }
      by_settings input spelled short texts files (Err fault) settled is = wrong (refused fault) (λ no. no) is

      by_files : (input : OperationInput) → operation_job bytes ≡ Ok input → length bytes ≤ most_input → (files : FilesRead) → given.files ≡ files
          → outcome_selected (λ selected. operation_outcome (scripted env wanted input selected) given.target) (selection env wanted.profile.service_id files) ≡ outcome → Reached outcome
      by_files input spelled short unloaded files is = wrong no_memory (λ no. no) is
      by_files input spelled short (unreadable path) files is = wrong (could_not_read_file path) (λ no. no) is
      by_files input spelled short (loaded texts) files is =
          by_settings input spelled short texts files (settings texts (selected_profile env) env wanted.profile.service_id) refl is

      by_job : (read : Result OperationInput ℕ) → operation_job bytes ≡ read → length bytes ≤ most_input → outcome_read env wanted given read ≡ outcome → Reached outcome
      by_job (Err place) spelled short is = wrong (bad_job place) (λ no. no) is
      by_job (Ok input) spelled short is = by_files input spelled short given.files refl is

      by_long : (large : Bool) → nat_lt most_input (length bytes) ≡ large → (if large then Err (usual job_too_large) else outcome_read env wanted given (operation_job bytes)) ≡ outcome → Reached outcome
      by_long true long is = wrong job_too_large (λ no. no) is
      by_long false long is = by_job (operation_job bytes) refl (let short : length bytes ≤ most_input = grind (arith, nat_tests, long) in short) is

  -- an outcome is only given of a target that is accepted, and where no attempt is refused
  by_target : (s : Scripted) (target : TargetRead) (outcome : Result (List ℕ) OperationEnding) → IsOwn outcome → operation_outcome s target ≡ outcome
      → (t : _) × (target ≡ accepted t) × (first_there (map (scripted_fault s (accepted t)) (attempts_made s)) ≡ None)
      × (unless_stopped None (is_used_up (scripted_rounds s)) (heads_text (map (scripted_request s t) (attempts_made s)) (tries (scripted_rounds s))) ≡ outcome)
  by_target s unread outcome own is = absurd (by_end (scripted_fault s unread []) is)
    where
      by_end : (fault : Option RunFault) → Err (first_attempt_end fault) ≡ outcome → ⊥
      by_end None same = subst IsOwn (sym same) own
      by_end (Some fault) same = subst IsOwn (sym same) own
  by_target s unaccepted outcome own is = absurd (by_end (scripted_fault s unaccepted []) is)
    where
      by_end : (fault : Option RunFault) → Err (first_attempt_end fault) ≡ outcome → ⊥
      by_end None same = subst IsOwn (sym same) own
      by_end (Some fault) same = subst IsOwn (sym same) own
  by_target s (accepted t) outcome own is = by_fault (first_there (map (scripted_fault s (accepted t)) (attempts_made s))) refl is
    where
      text : List ℕ
      text = heads_text (map (scripted_request s t) (attempts_made s)) (tries (scripted_rounds s))

      by_fault : (fault : Option RunFault) → first_there (map (scripted_fault s (accepted t)) (attempts_made s)) ≡ fault → unless_stopped fault (is_used_up (scripted_rounds s)) text ≡ outcome
          → (u : _) × (accepted t ≡ accepted u) × (first_there (map (scripted_fault s (accepted u)) (attempts_made s)) ≡ None)
          × (unless_stopped None (is_used_up (scripted_rounds s)) (heads_text (map (scripted_request s u) (attempts_made s)) (tries (scripted_rounds s))) ≡ outcome)
      by_fault (Some fault) first same = absurd (subst IsOwn (sym same) own)
      by_fault None first same = (t, refl, first, same)

  -- so the operation could be made
  operable : (outcome : Result (List ℕ) OperationEnding) → IsOwn outcome → Supplies gave (Ok wanted) bytes given → run_outcome env (Ok wanted) bytes given ≡ outcome
      → (job : IsOperable gave env wanted bytes given)
      × (let s = scripted env wanted job.input job.selected in
      unless_stopped None (is_used_up (scripted_rounds s)) (heads_text (map (scripted_request s job.target) (attempts_made s)) (tries (scripted_rounds s))) ≡ outcome)
  operable outcome own supplied is =
      let at = reached outcome own is in
      let found = by_target (scripted env wanted at.input at.selected) given.target outcome own at.gives in (
        record {
          input = at.input;
          texts = at.texts;
          selected = at.selected;
          target = found.0;
          short = at.short;
          spelled = at.spelled;
          supplied = rw at.spelled at supplied;
          files = at.files;
          settled = at.settled;
          accepts = found.1;
          passed = found.2;
        },
        found.3,
      )

  -- where the run is done, the headline
  pub has_operated : (answer : OperationEnding) (before now : Option (List ℕ)) → Supplies gave (Ok wanted) bytes given → GoesSo (run_outcome env (Ok wanted) bytes given) answer before now
      → answer ≡ usual done → HasOperated gave env (Ok wanted) bytes given before now
  has_operated answer before now supplied goes is = by_outcome (run_outcome env (Ok wanted) bytes given) refl (subst (λ a. GoesSo (run_outcome env (Ok wanted) bytes given) a before now) is goes)
    where
      by_used : (used : Bool) (written text : List ℕ) → unless_stopped None used written ≡ Ok text → (used ≡ false) × (written ≡ text)
      by_used true written text same = cc
      by_used false written text same = (refl, cc)

      by_outcome : (outcome : Result (List ℕ) OperationEnding) → run_outcome env (Ok wanted) bytes given ≡ outcome → GoesSo outcome (usual done) before now → HasOperated gave env (Ok wanted) bytes given before now
      by_outcome (Ok text) so goes =
          let job = operable (Ok text) tt supplied so in
          let written = by_used _ _ text job.1 in (job.0, (written.0, subst (λ t. Gains before now t) (sym written.1) goes.gains))
      by_outcome (Err end) so goes = absurd (by_end goes.ends)
        where
          never : (used : Bool) (written : List ℕ) → unless_stopped None used written ≡ Err (usual done) → ⊥
          never true written same = cc
          never false written same = cc

          by_end : EndsSo (Err end) (usual done) → ⊥
          by_end (inl same) = never _ _ (operable (Err (usual done)) tt supplied (so ∙ ap Err (sym same))).1
          by_end (inr (inl same)) = cc
          by_end (inr (inr same)) = cc

  -- where the transport failed, the replies are used up
  pub has_failed : (answer : OperationEnding) (before now : Option (List ℕ)) → Supplies gave (Ok wanted) bytes given → GoesSo (run_outcome env (Ok wanted) bytes given) answer before now
      → answer ≡ transport_fault → HasFailed gave env (Ok wanted) bytes given
  has_failed answer before now supplied goes is = by_outcome (run_outcome env (Ok wanted) bytes given) refl (subst (EndsSo (run_outcome env (Ok wanted) bytes given)) is goes.ends)
    where
      by_used : (used : Bool) (written : List ℕ) → unless_stopped None used written ≡ Err transport_fault → used ≡ true
      by_used true written same = refl
      by_used false written same = cc

      by_outcome : (outcome : Result (List ℕ) OperationEnding) → run_outcome env (Ok wanted) bytes given ≡ outcome → EndsSo outcome transport_fault → HasFailed gave env (Ok wanted) bytes given
      by_outcome (Ok text) so (inl same) = cc
      by_outcome (Ok text) so (inr (inl same)) = cc
      by_outcome (Ok text) so (inr (inr (inl same))) = cc
      by_outcome (Ok text) so (inr (inr (inr same))) = cc
      by_outcome (Err end) so (inl same) = let job = operable (Err transport_fault) tt supplied (so ∙ ap Err (sym same)) in (job.0, by_used _ _ job.1)
      by_outcome (Err end) so (inr (inl same)) = cc
      by_outcome (Err end) so (inr (inr same)) = cc

  -- what can be done is done
  pub completes : (target : TargetRead) → CanOperate gave env (Ok wanted) bytes (record given { target = target }) → (answer : OperationEnding) (before now : Option (List ℕ))
      → Supplies gave (Ok wanted) bytes given → GoesSo (run_outcome env (Ok wanted) bytes given) answer before now → EndsSo (Ok []) answer
  unfolding run_outcome
  completes target (job, unused) answer before now supplied goes =
      let less : nat_lt most_input (length bytes) ≡ false = (let short = job.short in grind (arith, nat_tests, short)) in
      let files : given.files ≡ loaded job.texts = job.files in
      let own : SuppliesRead gave wanted (Ok job.input) given = rw job.spelled at supplied in
      let spells : TargetSpells job.input.request.target (accepted job.target) = subst (TargetSpells job.input.request.target) job.accepts job.supplied.target in
      by_target given.target own.target spells (rw (less, job.spelled, files, job.settled) at goes.ends)
    where
      s : Scripted
      s = scripted env wanted job.input job.selected

      by_target : (read : TargetRead) → TargetSpells job.input.request.target read → TargetSpells job.input.request.target (accepted job.target) → EndsSo (operation_outcome s read) answer → EndsSo (Ok []) answer
      by_target (accepted other) reads spells ends =
          let same : other ≡ job.target = reads_one job.input.request.target other job.target reads spells in
          let here : EndsSo (operation_outcome s (accepted job.target)) answer = subst (λ t. EndsSo (operation_outcome s (accepted t)) answer) same ends in
          rw (job.passed, unused) at here
      by_target unaccepted reads spells ends = absurd (reads_one_way job.input.request.target job.target reads spells)
      by_target unread reads spells ends = by_years (outside_years (scripted_moment s [])) (first_passes (scripted_rounds s) job.passed) ends
        where
          by_years : (outside : Option RunFault) → outside ≡ None → EndsSo (Err (first_attempt_end (option_or outside None))) answer → EndsSo (Ok []) answer
          by_years None none (inl is) = inr (inr (inr is))
          by_years None none (inr (inl is)) = inr (inl is)
          by_years None none (inr (inr is)) = inr (inr (inr is))
          by_years (Some fault) none ends = cc

          option_none : (outside other : Option RunFault) → option_or outside other ≡ None → outside ≡ None
          option_none None other is = refl
          option_none (Some fault) other is = cc

          first_passes : (rounds : List Round) → first_there (map (scripted_fault s (accepted job.target)) (take (tries rounds) (fronts [] rounds))) ≡ None → outside_years (scripted_moment s []) ≡ None
          first_passes rounds passed = by_count (tries rounds) (omega arith) rounds passed
            where
              by_count : (n : ℕ) → 1 ≤ n → (rounds : List Round) → first_there (map (scripted_fault s (accepted job.target)) (take n (fronts [] rounds))) ≡ None → outside_years (scripted_moment s []) ≡ None
              by_count zero some rounds passed = absurd (omega (arith, some))
              by_count (suc n) some [] passed = option_none _ _ (option_none _ _ passed)
              by_count (suc n) some (round ∷ rounds) passed = option_none _ _ (option_none _ _ passed)

-- ## What is said

-- the answer is the end, or that memory ran out
abbrev pub IsSaid : OperationEnding → OperationEnding → Type 0
IsSaid end answer = (answer ≡ end) ⊎ (answer ≡ usual no_memory)

-- what was written before memory ran out is a front of the text
cut_short : (outcome : Result (List ℕ) OperationEnding) (end : OperationEnding) (before now : Option (List ℕ)) → GainsSo outcome end before now → GainsSo outcome (usual no_memory) before now
cut_short (Err early) end before now gains = gains
cut_short (Ok text) transport_fault before now gains = rw gains (prefix_at_start before text)
cut_short (Ok text) (usual done) before now gains = prefix_from_whole before now text gains
cut_short (Ok text) (usual output_fault) before now gains = gains
cut_short (Ok text) (usual no_memory) before now gains = gains
cut_short (Ok text) (usual (refused reason)) before now gains = rw gains (prefix_at_start before text)
cut_short (Ok text) (usual (bad_words place)) before now gains = rw gains (prefix_at_start before text)
cut_short (Ok text) (usual job_too_large) before now gains = rw gains (prefix_at_start before text)
cut_short (Ok text) (usual (bad_job place)) before now gains = rw gains (prefix_at_start before text)
cut_short (Ok text) (usual read_fault) before now gains = rw gains (prefix_at_start before text)
cut_short (Ok text) (usual (check_failed fault)) before now gains = rw gains (prefix_at_start before text)
cut_short (Ok text) (usual (could_not_read_file path)) before now gains = rw gains (prefix_at_start before text)

-- a run whose end is said goes as it did
pub said_goes : (outcome : Result (List ℕ) OperationEnding) (end answer : OperationEnding) (before now : Option (List ℕ)) → GoesSo outcome end before now → IsSaid end answer → GoesSo outcome answer before now
said_goes outcome end answer before now goes (inl is) = rw is goes
said_goes outcome end answer before now goes (inr is) =
    rw is (record { ends = (goes_no_memory outcome before).ends; gains = cut_short outcome end before now goes.gains })

pub said_keeps : (end answer : OperationEnding) (before now : Option (List ℕ)) → KeepsOut end before now → IsSaid end answer → KeepsOut answer before now
said_keeps end answer before now keeps (inl is) = rw is keeps
said_keeps end answer before now keeps (inr is) = rw is tt

pub said_files : {D : Type 0} (end answer : OperationEnding) (before now : D) → KeepsFiles end before now → IsSaid end answer → KeepsFiles answer before now
said_files end answer before now keeps (inl is) = rw is keeps
said_files end answer before now keeps (inr is) = rw is tt

pub said_words : (read : Result OperationWanted ℕ) (end answer : OperationEnding) → EndsByWords read end → IsSaid end answer → EndsByWords read answer
said_words read end answer fits (inl is) = rw is fits
said_words (Ok wanted) end answer fits (inr is) = rw is tt
said_words (Err place) end answer fits (inr is) = inr is

-- an answer other than that memory ran out is the end itself
pub said_is : (end answer known : OperationEnding) → IsSaid end answer → answer ≡ known → (known ≡ usual no_memory → ⊥) → end ≡ known
said_is end answer known (inl is) reached other = sym is ∙ reached
said_is end answer known (inr is) reached other = absurd (other (sym reached ∙ is))

-- the count of a fault other than want of memory
pub said_counts : (fault : Ending) → (usual no_memory ≡ usual fault → ⊥) → (end answer : OperationEnding) (before now : ℕ) → CountsFor fault end before now → IsSaid end answer → CountsFor fault answer before now
said_counts fault other end answer before now counts (inl is) = rw is counts
said_counts fault other end answer before now counts (inr is) = ((λ same. absurd (other (sym is ∙ same))), (λ no wants. absurd (wants is)), counts.2)

-- ## Between the functions

-- the text of an operation, written
pub text_written : (s : Scripted) (text : Vec ℕ) (answer : OperationEnding) (before now : Option (List ℕ)) → GivesText s (Ok text) → GoesSo (Ok text.items) answer before now → GoesScripted s answer before now
text_written s text answer before now (target, spells, so) goes = (target, spells, subst (λ o. GoesSo o answer before now) (sym so) goes)

-- an operation of which nothing is written
pub text_stops : (s : Scripted) (status : OperationStatus) (held : Option (List ℕ)) → GivesText s (Err status) → GoesScripted s (operation_ending status) held held
text_stops s status held (inl (target, spells, so)) = (target, spells, subst (λ o. GoesSo o (operation_ending status) held held) (sym so) (goes_stopped (operation_ending status) held))
text_stops s status held (inr is) = (unread, tt, rw is (goes_no_memory (operation_outcome s unread) held))

pub stops_selected : (end : OperationEnding) → IsStop end → IsAfterSelected end
stops_selected transport_fault stop = tt
stops_selected (usual (refused fault)) stop = tt
stops_selected (usual no_memory) stop = tt
stops_selected other stop = absurd stop

-- no count rose
counts_stay : (fault : Ending) (answer : OperationEnding) (count : ℕ) → (answer ≡ usual fault → ⊥) → CountsFor fault answer count count
counts_stay fault answer count other = ((λ is. absurd (other is)), (λ no wants. refl), omega arith)

pub stop_counts : (end : OperationEnding) (count : ℕ) → IsStop end → CountsFor output_fault end count count
stop_counts end count stop = counts_stay output_fault end count (λ is. subst IsStop is stop)

pub unselected_counts : (fault : SelectFault) (count : ℕ) → CountsFor output_fault (usual (selection_ending fault)) count count
unselected_counts (selections.CouldNotReadFile path) count = counts_stay output_fault _ count (λ is. cc)
unselected_counts other count = counts_stay output_fault _ count (λ is. cc)

pub unselected_job : (fault : SelectFault) → IsAfterJob (usual (selection_ending fault))
unselected_job (selections.CouldNotReadFile path) = tt
unselected_job other = tt

-- an operation under what is selected
pub goes_selected : (gave : List Place → FilesRead → Type 0) (env : List (List ℕ × List ℕ)) (wanted : OperationWanted) (input : OperationInput) (files : FilesRead)
    → gave (source_places wanted.profile.files input.request.texts) files → (selected : Selected) → selection env wanted.profile.service_id files ≡ Ok selected
    → (answer : OperationEnding) (before now : Option (List ℕ)) → GoesScripted (scripted env wanted input selected) answer before now → GoesRead gave env wanted (Ok input) answer before now
goes_selected gave env wanted input files found selected is answer before now (target, spells, goes) =
    goes_outcome gave env wanted input files found selected is target spells (operation_outcome (scripted env wanted input selected) target) refl answer before now goes

pub selected_job : (end : OperationEnding) → IsAfterSelected end → IsAfterJob end
selected_job transport_fault after = tt
selected_job (usual done) after = tt
selected_job (usual (refused fault)) after = tt
selected_job (usual output_fault) after = tt
selected_job (usual no_memory) after = tt
selected_job other after = absurd after

pub job_bytes : (end : OperationEnding) → IsAfterJob end → IsAfterBytes end
job_bytes (usual (bad_words place)) after = absurd after
job_bytes (usual job_too_large) after = absurd after
job_bytes (usual read_fault) after = absurd after
job_bytes (usual (check_failed fault)) after = absurd after
job_bytes other after = tt

pub job_files : {D : Type 0} (end : OperationEnding) (before now : D) → IsAfterJob end → KeepsFiles end before now
job_files (usual (bad_job place)) before now after = absurd after
job_files (usual (bad_words place)) before now after = absurd after
job_files (usual job_too_large) before now after = absurd after
job_files (usual read_fault) before now after = absurd after
job_files other before now after = tt

pub bytes_words : (wanted : OperationWanted) (end : OperationEnding) → IsAfterBytes end → EndsByWords (Ok wanted) end
bytes_words wanted (usual (bad_words place)) after = absurd after
bytes_words wanted other after = tt

-- the input that was read to its end had no fault
pub bytes_counts : (end : OperationEnding) (before now : ℕ) → IsAfterBytes end → now ≡ before → before ≤ now → CountsFor read_fault end before now
bytes_counts end before now after same grew = ((λ is. absurd (subst IsAfterBytes is after)), (λ no wants. same), grew)

pub words_no_memory : (read : Result OperationWanted ℕ) → EndsByWords read (usual no_memory)
words_no_memory (Ok wanted) = tt
words_no_memory (Err place) = inr refl

-- ## The run

-- what holds where the run is done holds where it says so
pub said_done : (end answer : OperationEnding) (P : Type 0) → (end ≡ usual done → P) → IsSaid end answer → answer ≡ usual done → P
said_done end answer P ends said is = ends (said_is end answer (usual done) said is (λ e. cc))

-- a run goes so
pub said_ran : (gave : List Place → FilesRead → Type 0) (env : List (List ℕ × List ℕ)) (read : Result OperationWanted ℕ) (left : Option (List ℕ)) (end answer : OperationEnding) (reads_before reads_now : ℕ) (out err : SinkChange)
    → IsSaid end answer → GoesFor gave env read left end out.held_before out.held_now → EndsByWords read end → KeepsOut end out.held_before out.held_now
    → ((path : List ℕ) → end ≡ usual (could_not_read_file path) → NamesFile gave read path)
    → SaysOperation answer err.held_before err.held_now err.faults_before err.faults_now → CountsFor read_fault end reads_before reads_now → CountsFor output_fault end out.faults_before out.faults_now
    → RanOperation gave env read left answer reads_before reads_now out err
unfolding run_outcome
said_ran gave env read left end answer reads_before reads_now out err said goes ended kept named says reads writes = record {
  given = goes.0;
  headline = λ bytes shown is. by_done read bytes (supplied bytes shown) (gone bytes shown) is;
  failed = λ bytes shown is. by_failed read bytes (supplied bytes shown) (gone bytes shown) is;
  complete = λ bytes shown target can. by_can read bytes target can (supplied bytes shown) (gone bytes shown);
  ended = said_words read end answer ended said;
  supplied = supplied;
  goes = gone;
  kept = said_keeps end answer out.held_before out.held_now kept said;
  named = λ path is. named path (said_is end answer (usual (could_not_read_file path)) said is (λ e. cc));
  said = says;
  reads = said_counts read_fault (λ e. cc) end answer reads_before reads_now reads said;
  writes = said_counts output_fault (λ e. cc) end answer out.faults_before out.faults_now writes said;
}
  where
    supplied : (bytes : List ℕ) → ShowsBytes read left bytes → Supplies gave read bytes goes.0
    supplied bytes shown = (goes.1 bytes shown).0

    gone : (bytes : List ℕ) → ShowsBytes read left bytes → GoesSo (run_outcome env read bytes goes.0) answer out.held_before out.held_now
    gone bytes shown = said_goes _ end answer out.held_before out.held_now (goes.1 bytes shown).1 said

    by_done : (asked : Result OperationWanted ℕ) (bytes : List ℕ) → Supplies gave asked bytes goes.0 → GoesSo (run_outcome env asked bytes goes.0) answer out.held_before out.held_now → answer ≡ usual done
        → HasOperated gave env asked bytes goes.0 out.held_before out.held_now
    by_done (Ok wanted) bytes supplied gone is = has_operated gave env wanted bytes goes.0 answer out.held_before out.held_now supplied gone is
    by_done (Err place) bytes supplied gone is = absurd (by_end (subst (EndsSo (Err (usual (bad_words place)))) is gone.ends))
      where
        by_end : EndsSo (Err (usual (bad_words place))) (usual done) → ⊥
        by_end (inl same) = cc
        by_end (inr (inl same)) = cc
        by_end (inr (inr same)) = cc

    by_failed : (asked : Result OperationWanted ℕ) (bytes : List ℕ) → Supplies gave asked bytes goes.0 → GoesSo (run_outcome env asked bytes goes.0) answer out.held_before out.held_now → answer ≡ transport_fault
        → HasFailed gave env asked bytes goes.0
    by_failed (Ok wanted) bytes supplied gone is = has_failed gave env wanted bytes goes.0 answer out.held_before out.held_now supplied gone is
    by_failed (Err place) bytes supplied gone is = absurd (by_end (subst (EndsSo (Err (usual (bad_words place)))) is gone.ends))
      where
        by_end : EndsSo (Err (usual (bad_words place))) transport_fault → ⊥
        by_end (inl same) = cc
        by_end (inr (inl same)) = cc
        by_end (inr (inr same)) = cc

    by_can : (asked : Result OperationWanted ℕ) (bytes : List ℕ) (target : TargetRead) → CanOperate gave env asked bytes (record (goes.0) { target = target })
        → Supplies gave asked bytes goes.0 → GoesSo (run_outcome env asked bytes goes.0) answer out.held_before out.held_now → EndsSo (Ok []) answer
    by_can (Ok wanted) bytes target can supplied gone = completes gave env wanted bytes goes.0 target can answer out.held_before out.held_now supplied gone
    by_can (Err place) bytes target can supplied gone = absurd can
