-- How a check of a presigned URL goes.
use Rattle.std.proofs.Common.{◌≡◌, ℕ, ◌≤◌, ◌<◌, ◌⊎◌, inl, inr, Bool, true, false, List, [], length, nat_lt, Option, Some, None, refl, sym, subst, ◌∙◌, arith}
use Rattle.std.specs.Prelude.{Result, Ok, Err, ℤ, codes, string_bytes}
use Rattle.sha2.specs.Sha256.{sha256}
use Rattle.hex.specs.Hex.{encode_lower}
use Rattle.std.proofs.lemmas.Bool.Decides.{nat_tests}
use Rattle.smithy_core.specs.Moment.{Instant}
use Rattle.smithy_core.specs.Outside.{Gains, IsAllOf, IsLongerThan}
use Rattle.smithy_core.specs.TextPairs.{first_value}
use Rattle.smithy_core.specs.declared.request.HttpRequest.{HttpRequest}
use Rattle.smithy_http.specs.QueryWriter.{SpellsTarget}
use Rattle.smithy_http.specs.Target.{target_of}
use Rattle.eventstream.specs.Key.{Signer}
use Rattle.request_check.specs.Recomputed.{recomputed, unfit_sent}
use Rattle.env_config.specs.Files.{Place}
use Rattle.env_config.specs.Loading.{selected_profile}
use Rattle.env_config.specs.Sections.{FileText}
use Rattle.job_text.specs.RequestLines.{RequestParts, request_job}
use Rattle.presign_check.specs.OneAnswer.{IsSameAnswer}
use Rattle.presign_check.specs.Presigned.{MeetsNone, seal_in}
use Rattle.presign_check.specs.declared.fault.PresignFault.{PresignFault}
use Rattle.presign_check.specs.declared.fault.PresignFault.TheVariants as faults
use Rattle.presign_check.proofs.OneAnswerLemmas.{one_answer}
use Rattle.signed_stream.specs.Plan.{FilesRead, loaded, most_input, unloaded, unreadable, writes}
use Rattle.signed_stream.specs.RequestWords.{RequestWanted}
use Rattle.signed_stream.specs.Selecting.{selection_ending}
use Rattle.signed_stream.specs.Settings.{Selected, settings}
use Rattle.signed_stream.specs.Sources.{or_refused, selection, source_places}
use Rattle.signed_stream.specs.Status.{Ending, RunFault, bad_job, bad_words, check_failed, could_not_read_file, done, job_too_large, no_memory, output_fault, read_fault, refused}
use Rattle.signed_stream.specs.declared.sources.SelectFault.{SelectFault}
use Rattle.signed_stream.specs.declared.sources.SelectFault.TheVariants as selections
use Rattle.signed_stream.proofs.RunLemmas.{all_read, goes_no_memory, goes_read_fault}
use Rattle.signed_stream.proofs.SaidLemmas.{said_goes}
use Rattle.presigned_program.specs.PresignRun.{Check, ChecksOnce, ChecksSelected, CompletesCheck, CountsInput, CountsOutput, FindsAsked, GavePresigned, GoesPresigned, HasAccepted, HasChecked, HasCheckedSelected, IsAcceptable, IsAfterRead, IsAfterRequest, IsAfterSelection, IsAtCheck, IsOfWords, IsRequestOf, KeepsDiskAt, KeepsPresigned, NeedsCheck, PlansPresigned, PresignSupplied, RanCheck, RanWords, TakesMomentOfCheck, UnlessWords, plan_of_check, found_plan, input_check_plan, presign_asked, presign_plan, presign_settings, selected_check_plan, valid_until}
use Rattle.presigned_program.specs.PresignStatus.{PresignEnding, ends, fails, fault_ending}

-- ## Ends

-- the answer is the end, or that memory ran out
abbrev pub IsSaidOf : PresignEnding → PresignEnding → Type 0
IsSaidOf end answer = (answer ≡ end) ⊎ (answer ≡ ends no_memory)

-- no end needs a check
pub needs_none : (answer : PresignEnding) → NeedsCheck answer None
needs_none (fails fault) = tt
needs_none (ends done) = tt
needs_none (ends output_fault) = tt
needs_none (ends no_memory) = tt
needs_none other = refl

-- an end after a selection may come after a check
pub selection_needs : (answer : PresignEnding) (check : Option Check) → IsAfterSelection answer → NeedsCheck answer check
selection_needs (fails fault) check after = tt
selection_needs (ends done) check after = tt
selection_needs (ends output_fault) check after = tt
selection_needs (ends no_memory) check after = tt
selection_needs other check after = absurd after

-- and comes after the job
pub selection_after : (answer : PresignEnding) → IsAfterSelection answer → IsAfterRequest answer
selection_after (ends (bad_words place)) after = after
selection_after (ends job_too_large) after = after
selection_after (ends (bad_job place)) after = after
selection_after (ends read_fault) after = after
selection_after other after = tt

-- and names no file
pub selection_unnamed : (answer : PresignEnding) (path : List ℕ) → IsAfterSelection answer → answer ≡ ends (could_not_read_file path) → ⊥
selection_unnamed answer path after is = subst IsAfterSelection is after

-- an end after the job comes after the input
pub request_after : (answer : PresignEnding) → IsAfterRequest answer → IsAfterRead answer
request_after (ends (bad_words place)) after = after
request_after (ends job_too_large) after = after
request_after (ends read_fault) after = after
request_after other after = tt

-- the disk may have been asked before an end after the job
pub request_disk : {D : Type 0} (answer : PresignEnding) (before now : D) → IsAfterRequest answer → KeepsDiskAt answer before now
request_disk (ends (bad_words place)) before now after = absurd after
request_disk (ends job_too_large) before now after = absurd after
request_disk (ends (bad_job place)) before now after = absurd after
request_disk (ends read_fault) before now after = absurd after
request_disk other before now after = tt

-- an end after the input is one of words that aren't bad
pub read_of_words : (answer : PresignEnding) → IsAfterRead answer → IsOfWords answer
read_of_words (ends (bad_words place)) after = after
read_of_words other after = tt

-- and the count of the input's faults stayed
pub read_counts : (answer : PresignEnding) (before now : ℕ) → IsAfterRead answer → now ≡ before → CountsInput answer before now
read_counts (ends read_fault) before now after same = absurd after
read_counts (ends no_memory) before now after same = rw same (omega arith)
read_counts other before now after same = same

-- ## Nothing selected

pub unselected_after : (fault : SelectFault) → IsAfterRequest (ends (selection_ending fault))
unselected_after (selections.CouldNotReadFile path) = tt
unselected_after other = tt

pub unselected_counts : (fault : SelectFault) (faults : ℕ) → CountsOutput (ends (selection_ending fault)) faults faults
unselected_counts selections.NoMemory faults = omega arith
unselected_counts other faults = refl

-- ## As planned

-- want of memory before any write goes as every plan
pub presigned_no_memory : (plan : Result (List ℕ) PresignEnding) (held : Option (List ℕ)) → GoesPresigned plan (ends no_memory) held held
presigned_no_memory (Ok text) held = goes_no_memory (writes text done) held
presigned_no_memory (Err end) held = (inr (inr refl), refl)

-- and so does a fault of the input
pub presigned_read_fault : (plan : Result (List ℕ) PresignEnding) (held : Option (List ℕ)) → GoesPresigned plan (ends read_fault) held held
presigned_read_fault (Ok text) held = goes_read_fault (writes text done) held
presigned_read_fault (Err end) held = (inr (inl refl), refl)

-- what goes as planned goes so where memory runs out while its line is written
presigned_cut : (plan : Result (List ℕ) PresignEnding) (answer : PresignEnding) (before now : Option (List ℕ)) → GoesPresigned plan answer before now → GoesPresigned plan (ends no_memory) before now
presigned_cut (Ok text) (ends end) before now goes = said_goes (writes text done) end no_memory before now goes (inr refl)
presigned_cut (Ok text) (fails fault) before now goes = absurd goes
presigned_cut (Err end) answer before now goes = (inr (inr refl), goes.1)

-- what goes as planned goes so once its line was said
pub said_presigned : (plan : Result (List ℕ) PresignEnding) (answer reported : PresignEnding) (before now : Option (List ℕ)) → GoesPresigned plan answer before now → IsSaidOf answer reported → GoesPresigned plan reported before now
said_presigned plan answer reported before now goes (inl is) = rw is goes
said_presigned plan answer reported before now goes (inr is) = rw is (presigned_cut plan answer before now goes)

-- what an answer as planned keeps
pub kept_presigned : (plan : Result (List ℕ) PresignEnding) (answer : PresignEnding) (before now : Option (List ℕ)) → GoesPresigned plan answer before now → KeepsPresigned answer before now
kept_presigned plan (ends done) before now goes = tt
kept_presigned plan (ends output_fault) before now goes = tt
kept_presigned plan (ends no_memory) before now goes = tt
kept_presigned (Err end) (fails fault) before now goes = goes.1
kept_presigned (Err end) (ends (bad_words place)) before now goes = goes.1
kept_presigned (Err end) (ends job_too_large) before now goes = goes.1
kept_presigned (Err end) (ends (bad_job place)) before now goes = goes.1
kept_presigned (Err end) (ends read_fault) before now goes = goes.1
kept_presigned (Err end) (ends (could_not_read_file path)) before now goes = goes.1
kept_presigned (Err end) (ends (refused fault)) before now goes = goes.1
kept_presigned (Err end) (ends (check_failed fault)) before now goes = goes.1
kept_presigned (Ok text) (fails fault) before now goes = absurd goes
kept_presigned (Ok text) (ends (bad_words place)) before now goes = goes.gains
kept_presigned (Ok text) (ends job_too_large) before now goes = goes.gains
kept_presigned (Ok text) (ends (bad_job place)) before now goes = goes.gains
kept_presigned (Ok text) (ends read_fault) before now goes = goes.gains
kept_presigned (Ok text) (ends (could_not_read_file path)) before now goes = goes.gains
kept_presigned (Ok text) (ends (check_failed fault)) before now goes = goes.gains
kept_presigned (Ok text) (ends (refused fault)) before now goes = absurd (by_end goes.ends)
  where
    by_end : (refused fault ≡ done) ⊎ ((refused fault ≡ read_fault) ⊎ ((refused fault ≡ output_fault) ⊎ (refused fault ≡ no_memory))) → ⊥
    by_end (inl is) = cc
    by_end (inr (inl is)) = cc
    by_end (inr (inr (inl is))) = cc
    by_end (inr (inr (inr is))) = cc

-- the text of a check that is done was printed
printed : (text : List ℕ) (before now : Option (List ℕ)) → GoesPresigned (Ok text) (ends done) before now → Gains before now text
printed text before now goes = goes.gains

-- a run that is to stop isn't done
stops_undone : (end : PresignEnding) (before now : Option (List ℕ)) → (end ≡ ends done → ⊥) → GoesPresigned (Err end) (ends done) before now → ⊥
stops_undone end before now other goes = by_end goes.0
  where
    by_end : (ends done ≡ end) ⊎ ((ends done ≡ ends read_fault) ⊎ (ends done ≡ ends no_memory)) → ⊥
    by_end (inl is) = other (sym is)
    by_end (inr (inl is)) = cc
    by_end (inr (inr is)) = cc

-- a run that is to stop for want of memory completes, or its input failed
stops_completes : (answer : PresignEnding) (before now : Option (List ℕ)) → GoesPresigned (Err (ends no_memory)) answer before now → CompletesCheck answer
stops_completes answer before now goes = by_end goes.0
  where
    by_end : (answer ≡ ends no_memory) ⊎ ((answer ≡ ends read_fault) ⊎ (answer ≡ ends no_memory)) → CompletesCheck answer
    by_end (inl is) = rw is (inr (inr (inr refl)))
    by_end (inr (inl is)) = rw is (inr (inl refl))
    by_end (inr (inr is)) = rw is (inr (inr (inr refl)))

-- one that is to print completes
prints_completes : (text : List ℕ) (answer : PresignEnding) (before now : Option (List ℕ)) → GoesPresigned (Ok text) answer before now → CompletesCheck answer
prints_completes text (ends end) before now goes = goes.ends
prints_completes text (fails fault) before now goes = absurd goes

-- ## What was read

-- with an input that isn't too large
plan_of_short : (env : List (List ℕ × List ℕ)) (wanted : RequestWanted) (bytes : List ℕ) (given : PresignSupplied) → length bytes ≤ most_input
    → input_check_plan env wanted bytes given ≡ presign_plan env wanted given (request_job bytes)
unfolding input_check_plan
plan_of_short env wanted bytes given short = let within : nat_lt most_input (length bytes) ≡ false = grind (arith, nat_tests) in rw within refl

-- with one that is
plan_of_large : (env : List (List ℕ × List ℕ)) (wanted : RequestWanted) (bytes : List ℕ) (given : PresignSupplied) → most_input < length bytes
    → input_check_plan env wanted bytes given ≡ Err (ends job_too_large)
unfolding input_check_plan
plan_of_large env wanted bytes given long = let past : nat_lt most_input (length bytes) ≡ true = grind (arith, nat_tests) in rw past refl

-- whether an input is too large
by_length : (bytes : List ℕ) → (length bytes ≤ most_input) ⊎ (most_input < length bytes)
by_length bytes = by_test (nat_lt most_input (length bytes)) refl
  where
    by_test : (test : Bool) → nat_lt most_input (length bytes) ≡ test → (length bytes ≤ most_input) ⊎ (most_input < length bytes)
    by_test true is = inr (grind (arith, nat_tests))
    by_test false is = inl (grind (arith, nat_tests))

-- files that select have loaded
record HasLoaded (env : List (List ℕ × List ℕ)) (service_id : Option (List ℕ)) (files : FilesRead) (selected : Selected) : Type 0 where
  texts : List FileText
  all : files ≡ loaded texts
  settled : settings texts (selected_profile env) env service_id ≡ Ok selected

selected_loaded : (env : List (List ℕ × List ℕ)) (service_id : Option (List ℕ)) (files : FilesRead) (selected : Selected) → selection env service_id files ≡ Ok selected → HasLoaded env service_id files selected
selected_loaded env service_id unloaded selected is = cc
selected_loaded env service_id (unreadable path) selected is = cc
selected_loaded env service_id (loaded texts) selected is = record { texts = texts; all = refl; settled = by_settings (settings texts (selected_profile env) env service_id) is }
  where
    by_settings : (outcome : Result Selected RunFault) → or_refused outcome ≡ Ok selected → outcome ≡ Ok selected
    by_settings (Ok other) is = cc
    by_settings (Err fault) is = cc

-- nothing selected doesn't end as done
unselected_undone : (env : List (List ℕ × List ℕ)) (service_id : Option (List ℕ)) (files : FilesRead) (end : Ending) → selection env service_id files ≡ Err end → end ≡ done → ⊥
unselected_undone env service_id unloaded end is other = cc
unselected_undone env service_id (unreadable path) end is other = cc
unselected_undone env service_id (loaded texts) end is other = by_settings (settings texts (selected_profile env) env service_id) is
  where
    by_settings : (outcome : Result Selected RunFault) → or_refused outcome ≡ Err end → ⊥
    by_settings (Ok selected) is = cc
    by_settings (Err fault) is = cc

-- a test that is met isn't the end of a check that is done
fault_undone : (fault : PresignFault) → fault_ending fault ≡ ends done → ⊥
fault_undone faults.HeaderForm is = cc
fault_undone other is = cc

-- it comes after a selection
pub fault_after : (fault : PresignFault) → IsAfterSelection (fault_ending fault)
fault_after faults.HeaderForm = tt
fault_after other = tt

-- and the output's count stayed
pub fault_counts : (fault : PresignFault) (held : ℕ) → CountsOutput (fault_ending fault) held held
fault_counts faults.NoMemory held = omega arith
fault_counts other held = refl

-- ## The headline

module _ (gave : List Place → FilesRead → Type 0) (env : List (List ℕ × List ℕ)) (wanted : RequestWanted) (bytes : List ℕ) (given : PresignSupplied) (before now : Option (List ℕ)) where
  done_found : (read : RequestParts) (selected : Selected) (check : Check) (found : Result ℤ PresignFault) → length bytes ≤ most_input → request_job bytes ≡ Ok read
      → gave (source_places wanted.profile.files read.texts) given.files → selection env wanted.profile.service_id given.files ≡ Ok selected → given.check ≡ Some check
      → check.found ≡ found → ChecksSelected wanted read selected check → GoesPresigned (found_plan found) (ends done) before now → HasAccepted gave env wanted bytes given before now
  done_found read selected check (Err fault) short spelled gives settled is found checks goes = absurd (stops_undone (fault_ending fault) before now (fault_undone fault) goes)
  done_found read selected check (Ok until) short spelled gives settled is found checks goes =
      let all = selected_loaded env wanted.profile.service_id given.files selected settled in
      let meets : MeetsNone (presign_asked wanted.name selected checks.0 check.now) until = (rw found at checks.2) in
      let input : IsAcceptable gave env wanted bytes given.files check.now = record {
        read = read;
        texts = all.texts;
        selected = selected;
        request = checks.0;
        until = until;
        short = short;
        spelled = spelled;
        supplied = gives;
        whole = all.all;
        settled = all.settled;
        sent = checks.1;
        accepted = meets;
      } in
      (check, is, input, printed (valid_until until) before now goes)

  done_checked : (read : RequestParts) (selected : Selected) (check : Option Check) → length bytes ≤ most_input → request_job bytes ≡ Ok read
      → gave (source_places wanted.profile.files read.texts) given.files → selection env wanted.profile.service_id given.files ≡ Ok selected → given.check ≡ check
      → ChecksOnce wanted read (Ok selected) check → GoesPresigned (plan_of_check check) (ends done) before now → HasAccepted gave env wanted bytes given before now
  done_checked read selected None short spelled gives settled is checks goes = absurd (stops_undone _ before now (λ e. cc) goes)
  done_checked read selected (Some check) short spelled gives settled is checks goes = done_found read selected check check.found short spelled gives settled is refl checks goes

  done_selected : (read : RequestParts) (outcome : Result Selected Ending) → length bytes ≤ most_input → request_job bytes ≡ Ok read
      → gave (source_places wanted.profile.files read.texts) given.files → selection env wanted.profile.service_id given.files ≡ outcome
      → ChecksOnce wanted read outcome given.check → GoesPresigned (selected_check_plan outcome given.check) (ends done) before now → HasAccepted gave env wanted bytes given before now
  done_selected read (Err end) short spelled gives settled checks goes =
      absurd (stops_undone (ends end) before now (λ e. unselected_undone env wanted.profile.service_id given.files end settled (cc)) goes)
  done_selected read (Ok selected) short spelled gives settled checks goes = done_checked read selected given.check short spelled gives settled refl checks goes

  done_read : (reading : Result RequestParts ℕ) → length bytes ≤ most_input → request_job bytes ≡ reading → GavePresigned gave env wanted reading given
      → GoesPresigned (presign_plan env wanted given reading) (ends done) before now → HasAccepted gave env wanted bytes given before now
  done_read (Err place) short spelled found goes = absurd (stops_undone _ before now (λ e. cc) goes)
  done_read (Ok read) short spelled found goes = done_selected read (selection env wanted.profile.service_id given.files) short spelled found.0 refl found.1 goes

  -- a check that is done was of an acceptable request
  pub has_accepted : PlansPresigned gave env wanted bytes given (ends done) before now → HasAccepted gave env wanted bytes given before now
  has_accepted plans = by_size (by_length bytes)
    where
      by_size : (length bytes ≤ most_input) ⊎ (most_input < length bytes) → HasAccepted gave env wanted bytes given before now
      by_size (inl short) = done_read (request_job bytes) short refl plans.supplied (rw (plan_of_short env wanted bytes given short) at plans.goes)
      by_size (inr long) = absurd (stops_undone (ends job_too_large) before now (λ e. cc) (rw (plan_of_large env wanted bytes given long) at plans.goes))

-- ## Completeness

-- a request with the same texts meets no test either
same_meets : (name : List ℕ) (selected : Selected) (read : RequestParts) (request other : HttpRequest) (now : Instant) (until : ℤ) → IsRequestOf read request → IsRequestOf read other
    → MeetsNone (presign_asked name selected request now) until → MeetsNone (presign_asked name selected other now) until
same_meets name selected read request other now until is also (reading, in_time, genuine, same) =
    let target : string_bytes other.target ≡ string_bytes request.target = also.target ∙ sym is.target in
    let method : string_bytes other.method ≡ string_bytes request.method = also.method ∙ sym is.method in
    let headers : other.headers ≡ request.headers = also.headers ∙ sym is.headers in
    let body : other.body ≡ request.body = also.body ∙ sym is.body in
    let whole = in_time.own.has.whole in
    let signer : Signer = record { secret = selected.secret; region = selected.region; name = name } in
    let spelled : SpellsTarget (string_bytes other.target) reading.uri = rw target whole.by_query.spelled in
    let unauthorized : first_value other.headers (codes "authorization") ≡ None = rw headers whole.by_query.unauthorized in
    let fit : unfit_sent (target_of reading.uri) other.headers ≡ None = rw headers genuine.fit in
    let own : reading.texts.signature ≡ recomputed (string_bytes other.method) (target_of reading.uri) other.headers presign_settings (encode_lower (sha256 other.body)) signer (seal_in reading) =
    rw (method, headers, body) genuine.same in (
      reading,
      record {
        own = record {
          has = record { whole = record { by_query = record { spelled = spelled; unauthorized = unauthorized }; once = whole.once }; stated = in_time.own.has.stated };
          key = in_time.own.key;
        };
        good = in_time.good;
      },
      record { fit = fit; same = own },
      same,
    )

accepted_completes : (until : ℤ) (outcome : Result ℤ PresignFault) (answer : PresignEnding) (before now : Option (List ℕ)) → IsSameAnswer (Ok until) outcome
    → GoesPresigned (found_plan outcome) answer before now → CompletesCheck answer
accepted_completes until (Ok other) answer before now same goes = prints_completes (valid_until other) answer before now goes
accepted_completes until (Err fault) answer before now same goes = stops_completes answer before now (rw same at goes)

module _ (gave : List Place → FilesRead → Type 0) (env : List (List ℕ × List ℕ)) (wanted : RequestWanted) (bytes : List ℕ) (given : PresignSupplied) (answer : PresignEnding) (before now : Option (List ℕ)) where
  completes_checked : (at : Instant) (input : IsAcceptable gave env wanted bytes given.files at) (check : Option Check) → IsAtCheck check at
      → ChecksOnce wanted input.read (Ok input.selected) check → GoesPresigned (plan_of_check check) answer before now → CompletesCheck answer
  completes_checked at input None is checks goes = stops_completes answer before now goes
  completes_checked at input (Some check) is checks goes =
      let meets : MeetsNone (presign_asked wanted.name input.selected checks.0 check.now) input.until =
      same_meets wanted.name input.selected input.read input.request checks.0 check.now input.until input.sent checks.1 (rw is at input.accepted) in
      accepted_completes input.until check.found answer before now
      (one_answer (presign_asked wanted.name input.selected checks.0 check.now) (Ok input.until) check.found meets checks.2) goes

  -- an acceptable request is accepted
  pub completes_check : PlansPresigned gave env wanted bytes given answer before now → (at : Instant) → IsAtCheck given.check at → IsAcceptable gave env wanted bytes given.files at → CompletesCheck answer
  completes_check plans at is input =
      let settled : selection env wanted.profile.service_id given.files ≡ Ok input.selected = rw (input.whole, input.settled) refl in
      let supplied = rw (input.spelled, settled) at plans.supplied in
      let goes = rw (plan_of_short env wanted bytes given input.short, input.spelled, settled) at plans.goes in
      completes_checked at input given.check is supplied.1 goes

-- ## The run

-- how a run went whose plan is known
module _ (gave : List Place → FilesRead → Type 0) (clock : List Instant → Type 0) (env : List (List ℕ × List ℕ)) (wanted : RequestWanted) (left : Option (List ℕ)) where
  ran_as : (given : PresignSupplied) (answer : PresignEnding) (before now : Option (List ℕ)) → ((bytes : List ℕ) → left ≡ Some bytes → PlansPresigned gave env wanted bytes given answer before now)
      → TakesMomentOfCheck clock wanted.at given.check → NeedsCheck answer given.check → IsOfWords answer
      → ((path : List ℕ) → answer ≡ ends (could_not_read_file path) → gave wanted.profile.files (unreadable path)) → RanCheck gave clock env wanted left answer before now
  ran_as given answer before now plans moments needed ended named = record {
    given = given;
    headline = λ bytes known is. has_accepted gave env wanted bytes given before now (rw is at (plans bytes known));
    complete = λ bytes known at is input. completes_check gave env wanted bytes given answer before now (plans bytes known) at is input;
    planned = plans;
    moments = moments;
    needed = needed;
    ended = ended;
    named = named;
  }

  -- with the bytes of the input
  pub read_ran : (read : List ℕ) (answer : PresignEnding) (before now : Option (List ℕ)) → IsAllOf left read → length read ≤ most_input → IsAfterRead answer
      → HasChecked gave clock env wanted (request_job read) answer before now → RanCheck gave clock env wanted left answer before now
  read_ran read answer before now all short after has =
      ran_as has.given answer before now (λ bytes known. rw (← all_read left read bytes all known) plans) has.moments has.needed (read_of_words answer after) has.named
    where
      plans : PlansPresigned gave env wanted read has.given answer before now
      plans = record { supplied = has.supplied; goes = rw (plan_of_short env wanted read has.given short) has.goes }

  -- what a run goes as whose line was said
  pub said_ran : (answer reported : PresignEnding) (before now : Option (List ℕ)) → RanCheck gave clock env wanted left answer before now → IsSaidOf answer reported → RanCheck gave clock env wanted left reported before now
  said_ran answer reported before now ran (inl is) = rw is ran
  said_ran answer reported before now ran (inr is) =
      rw is
      (ran_as ran.given (ends no_memory) before now
      (λ bytes known. record { supplied = (ran.planned bytes known).supplied; goes = presigned_cut (input_check_plan env wanted bytes ran.given) answer before now (ran.planned bytes known).goes })
      ran.moments tt tt (λ path e. cc))

-- nothing was supplied
abbrev nothing_supplied : PresignSupplied
nothing_supplied = record { files = unloaded; check = None }

module _ (gave : List Place → FilesRead → Type 0) (free : (places : List Place) → gave places unloaded) (clock : List Instant → Type 0) (unasked : clock []) (env : List (List ℕ × List ℕ)) (wanted : RequestWanted) where
  nothing_given : (reading : Result RequestParts ℕ) → GavePresigned gave env wanted reading nothing_supplied
  nothing_given (Ok read) = (free (source_places wanted.profile.files read.texts), tt)
  nothing_given (Err place) = refl

  -- memory ran out
  pub no_memory_checked : (reading : Result RequestParts ℕ) (held : Option (List ℕ)) → HasChecked gave clock env wanted reading (ends no_memory) held held
  no_memory_checked reading held = record {
    given = nothing_supplied;
    supplied = nothing_given reading;
    goes = presigned_no_memory (presign_plan env wanted nothing_supplied reading) held;
    moments = unasked;
    needed = tt;
    named = λ path is. cc;
  }

  -- a line is bad
  pub bad_line_checked : (place : ℕ) (held : Option (List ℕ)) → HasChecked gave clock env wanted (Err place) (ends (bad_job place)) held held
  bad_line_checked place held = record {
    given = nothing_supplied;
    supplied = refl;
    goes = (inl refl, refl);
    moments = unasked;
    needed = refl;
    named = λ path is. cc;
  }

  nothing_ran : (left : Option (List ℕ)) (answer : PresignEnding) (held : Option (List ℕ)) → ((bytes : List ℕ) → left ≡ Some bytes → GoesPresigned (input_check_plan env wanted bytes nothing_supplied) answer held held)
      → IsOfWords answer → ((path : List ℕ) → answer ≡ ends (could_not_read_file path) → ⊥) → RanCheck gave clock env wanted left answer held held
  nothing_ran left answer held goes ended unnamed =
      ran_as gave clock env wanted left nothing_supplied answer held held (λ bytes known. record { supplied = nothing_given (request_job bytes); goes = goes bytes known }) unasked
      (needs_none answer) ended (λ path is. absurd (unnamed path is))

  pub no_memory_ran : (left : Option (List ℕ)) (held : Option (List ℕ)) → RanCheck gave clock env wanted left (ends no_memory) held held
  no_memory_ran left held = nothing_ran left (ends no_memory) held (λ bytes known. presigned_no_memory (input_check_plan env wanted bytes nothing_supplied) held) tt (λ path is. cc)

  pub read_fault_ran : (left : Option (List ℕ)) (held : Option (List ℕ)) → RanCheck gave clock env wanted left (ends read_fault) held held
  read_fault_ran left held = nothing_ran left (ends read_fault) held (λ bytes known. presigned_read_fault (input_check_plan env wanted bytes nothing_supplied) held) tt (λ path is. cc)

  pub too_large_ran : (left : Option (List ℕ)) (held : Option (List ℕ)) → IsLongerThan left most_input → RanCheck gave clock env wanted left (ends job_too_large) held held
  too_large_ran left held long = nothing_ran left (ends job_too_large) held (λ bytes known. by_left left bytes long known) tt (λ path is. cc)
    where
      by_left : (left : Option (List ℕ)) (bytes : List ℕ) → IsLongerThan left most_input → left ≡ Some bytes → GoesPresigned (input_check_plan env wanted bytes nothing_supplied) (ends job_too_large) held held
      by_left None bytes long known = cc
      by_left (Some all) bytes long known =
          let same : all ≡ bytes = (let e : Some all ≡ Some bytes = known in cc) in
          rw (plan_of_large env wanted bytes nothing_supplied (rw same at long)) (inl refl, refl)

-- the words that are read, or the first bad one, where memory ran out
pub no_memory_words : (gave : List Place → FilesRead → Type 0) → ((places : List Place) → gave places unloaded) → (clock : List Instant → Type 0) → clock [] → (env : List (List ℕ × List ℕ)) (read : Result RequestWanted ℕ)
    (left held : Option (List ℕ)) → RanWords gave clock env read left (ends no_memory) held held
no_memory_words gave free clock unasked env (Ok wanted) left held = no_memory_ran gave free clock unasked env wanted left held
no_memory_words gave free clock unasked env (Err place) left held = (inr refl, unasked)

-- ## Under what is selected

module _ (gave : List Place → FilesRead → Type 0) (clock : List Instant → Type 0) (env : List (List ℕ × List ℕ)) (wanted : RequestWanted) (read : RequestParts) (files : FilesRead) where
  asked_once : (selected : Selected) (request : HttpRequest) (check : Option Check) → IsRequestOf read request → FindsAsked wanted selected request check → ChecksOnce wanted read (Ok selected) check
  asked_once selected request None sent found = tt
  asked_once selected request (Some check) sent found = (request, sent, found)

  -- the request was checked
  pub selected_checked : (selected : Selected) (request : HttpRequest) (answer : PresignEnding) (before now : Option (List ℕ)) → gave (source_places wanted.profile.files read.texts) files
      → selection env wanted.profile.service_id files ≡ Ok selected → IsRequestOf read request → IsAfterSelection answer → HasCheckedSelected clock wanted selected request answer before now
      → HasChecked gave clock env wanted (Ok read) answer before now
  selected_checked selected request answer before now gives is sent after has = record {
    given = record { files = files; check = has.check };
    supplied = (gives, rw is (asked_once selected request has.check sent has.found));
    goes = rw is has.goes;
    moments = has.moments;
    needed = selection_needs answer has.check after;
    named = λ path named. absurd (selection_unnamed answer path after named);
  }

  -- nothing is selected
  pub unselected_checked : (end : Ending) (held : Option (List ℕ)) → gave (source_places wanted.profile.files read.texts) files → selection env wanted.profile.service_id files ≡ Err end → clock []
      → ((path : List ℕ) → end ≡ could_not_read_file path → gave wanted.profile.files (unreadable path)) → HasChecked gave clock env wanted (Ok read) (ends end) held held
  unselected_checked end held gives is unasked named = record {
    given = record { files = files; check = None };
    supplied = (gives, tt);
    goes = rw is (inl refl, refl);
    moments = unasked;
    needed = needs_none (ends end);
    named = λ path reached. named path (cc);
  }

-- ## The line

pub said_words : (gave : List Place → FilesRead → Type 0) (clock : List Instant → Type 0) (env : List (List ℕ × List ℕ)) (read : Result RequestWanted ℕ) (left : Option (List ℕ)) (answer reported : PresignEnding) (before now : Option (List ℕ))
    → RanWords gave clock env read left answer before now → IsSaidOf answer reported → RanWords gave clock env read left reported before now
said_words gave clock env (Ok wanted) left answer reported before now ran said = said_ran gave clock env wanted left answer reported before now ran said
said_words gave clock env (Err place) left answer reported before now ran (inl is) = rw is ran
said_words gave clock env (Err place) left answer reported before now ran (inr is) = rw is (inr refl, ran.1)

pub said_kept : (answer reported : PresignEnding) (before now : Option (List ℕ)) → KeepsPresigned answer before now → IsSaidOf answer reported → KeepsPresigned reported before now
said_kept answer reported before now kept (inl is) = rw is kept
said_kept answer reported before now kept (inr is) = rw is tt

pub said_input : (answer reported : PresignEnding) (before now : ℕ) → CountsInput answer before now → before ≤ now → IsSaidOf answer reported → CountsInput reported before now
said_input answer reported before now counts grew (inl is) = rw is counts
said_input answer reported before now counts grew (inr is) = rw is grew

pub said_output : (answer reported : PresignEnding) (before now : ℕ) → CountsOutput answer before now → before ≤ now → IsSaidOf answer reported → CountsOutput reported before now
said_output answer reported before now counts grew (inl is) = rw is counts
said_output answer reported before now counts grew (inr is) = rw is grew

pub said_disk_at : {D : Type 0} (answer reported : PresignEnding) (before now : D) → KeepsDiskAt answer before now → IsSaidOf answer reported → KeepsDiskAt reported before now
said_disk_at answer reported before now kept (inl is) = rw is kept
said_disk_at answer reported before now kept (inr is) = rw is tt

pub said_done : (answer reported : PresignEnding) (P : Type 0) → (answer ≡ ends done → P) → IsSaidOf answer reported → reported ≡ ends done → P
said_done answer reported P holds (inl is) reached = holds (sym is ∙ reached)
said_done answer reported P holds (inr is) reached = cc

-- what holds, holds where a word is bad
pub holds_unless_words : (read : Result RequestWanted ℕ) (P : Type 0) → P → UnlessWords read P
holds_unless_words (Ok wanted) P holds = tt
holds_unless_words (Err place) P holds = holds
