-- How a request that is signed and its events go as planned.
use Rattle.std.proofs.Common.{◌≡◌, ◌==◌, ℕ, ◌+◌, ◌≤◌, inr, Bool, true, false, List, [], ◌∷◌, ◌++◌, length, Option, Some, None, refl, sym, ap, ◌∙◌, subst, append-nil, arith}
use Rattle.std.specs.Prelude.{Result, Ok, Err, string_bytes, if◌then◌else◌}
use Rattle.std.specs.Option.{option_or}
use Rattle.std.proofs.lemmas.Bool.Decides.{nat_tests}
use Rattle.std.proofs.lemmas.List.{append_assoc}
use Rattle.smithy_core.specs.Civil.{is_in_years}
use Rattle.smithy_core.specs.Moment.{Instant}
use Rattle.smithy_core.specs.Outside.{Gains}
use Rattle.smithy_core.specs.Message.{Parts}
use Rattle.smithy_core.specs.declared.request.HttpRequest.{HttpRequest}
use Rattle.smithy_http.specs.Target.{Target}
use Rattle.sigv4.specs.Request.{Case}
use Rattle.aws_auth.specs.MessageSigner.{SignerState, running_signature, signer_in}
use Rattle.env_config.specs.ParseFault.{faulty_line_of}
use Rattle.env_config.specs.Sections.{FileText}
use Rattle.signed_stream.specs.Case.{job_case, request_moment}
use Rattle.signed_stream.specs.Chain.{first_refusal}
use Rattle.signed_stream.specs.Command.{Wanted}
use Rattle.job_text.specs.Job.{JobParts}
use Rattle.signed_stream.specs.Plan.{GoesAsPlanned, IsNeeded, Plan, TargetRead, TargetSpells, accepted, stops, unaccepted, unread}
use Rattle.signed_stream.specs.Sending.{SendsAll}
use Rattle.signed_stream.specs.Settings.{GivesSettings, Selected, settings}
use Rattle.signed_stream.specs.Sign.{IsSignedFor, SealsFor, Unsigned, case_fault, request_fault, target_fault}
use Rattle.signed_stream.specs.Status.{Ending, RunFault, invalid_uri, missing_credentials, missing_signing_region, moment_out_of_range, no_memory, parse_error, refused, settings_ending, stream_ending, ended}
use Rattle.signed_stream.specs.Stream.{IsValid, case_plan, request_plan, selected_plan, target_plan, valid_case, written_valid}
use Rattle.signed_stream.specs.Streaming.{CompletesStream, HasSentStream, SignsAndStreams, Streams, job_with, stream_plan}
use Rattle.signed_stream.specs.Written.{case_refusal, head_in_form}
use Rattle.signed_stream.specs.declared.form.Form.{Form}
use Rattle.signed_stream.specs.declared.settings.SettingsFault.{SettingsFault}
use Rattle.signed_stream.specs.declared.settings.SettingsFault.TheVariants as faults
use Rattle.signed_stream.specs.declared.status.StreamFault.{StreamFault}
use Rattle.signed_stream.specs.declared.status.StreamFault.TheVariants as stream
use Rattle.signed_stream.proofs.RunLemmas.{goes_no_memory, goes_stopped, no_moment}
use Rattle.signed_stream.proofs.SendLemmas.{sends_goes, written_lines}

-- a fault that stops
stopped : (fault answered : RunFault) (held : Option (List ℕ)) → fault ≡ answered → GoesAsPlanned (stops (refused fault)) (refused answered) held held
stopped fault answered held is = rw is (goes_stopped (refused answered) held)

-- a request that isn't signed is refused
refused_goes : (form : Form) (text : List ℕ) (at : Instant) (case : Target → Case) (events : List Parts) (moments : List Instant) (target : TargetRead) (fault : RunFault) (held : Option (List ℕ))
    → request_fault at case target ≡ Some fault → GoesAsPlanned (request_plan form text at case events moments target) (refused fault) held held
refused_goes form text at case events moments target fault held is = by_years (is_in_years at) is
  where
    by_target : (target : TargetRead) → target_fault case target ≡ Some fault → GoesAsPlanned (target_plan form text case events moments target) (refused fault) held held
    by_target unread is = cc
    by_target unaccepted is = stopped invalid_uri fault held cc
    by_target (accepted target) is = rw is (goes_stopped (refused fault) held)

    by_years : (years : Bool) → option_or (if years then None else Some (moment_out_of_range at)) (target_fault case target) ≡ Some fault
        → GoesAsPlanned (if years then target_plan form text case events moments target else stops (refused (moment_out_of_range at))) (refused fault) held held
    by_years true is = by_target target is
    by_years false is = stopped (moment_out_of_range at) fault held cc

-- a request that no test refuses is written
passed_plan : (form : Form) (text : List ℕ) (at : Instant) (case : Target → Case) (events : List Parts) (moments : List Instant) (target : Target) → request_fault at case (accepted target) ≡ None
    → request_plan form text at case events moments (accepted target) ≡ case_plan form text (case target) events moments None
passed_plan form text at case events moments target passed = by_years (is_in_years at) (case_fault (case target)) passed
  where
    by_years : (years : Bool) (fault : Option RunFault) → option_or (if years then None else Some (moment_out_of_range at)) fault ≡ None
        → (if years then case_plan form text (case target) events moments fault else stops (refused (moment_out_of_range at))) ≡ case_plan form text (case target) events moments None
    by_years true None passed = refl
    by_years true (Some fault) passed = cc
    by_years false fault passed = cc

module _ (j : JobParts) (wanted : Wanted) (selected : Selected) (first : Instant) where
  at : Instant
  at = request_moment wanted first

  -- what is planned for the moments
  abbrev planned : TargetRead → List Instant → Plan
  planned target moments = selected_plan j wanted target moments selected

  -- the first moment is needed
  pub first_needed : (target : TargetRead) → IsNeeded (planned target) (first ∷ [])
  first_needed target [] t rest is = refl
  first_needed target (u ∷ front) t rest is = absurd (no_more front (let e : [] ≡ front ++ t ∷ rest = cc in e))
    where
      no_more : (front : List Instant) → [] ≡ front ++ t ∷ rest → ⊥
      no_more [] e = cc
      no_more (v ∷ front) e = cc

  -- a request that isn't signed
  pub unsigned_goes : (text : List ℕ) (early : Ending) (held : Option (List ℕ)) → text ≡ j.target → Unsigned text (request_moment wanted first) (job_case j wanted selected first) early
      → (target : TargetRead) × TargetSpells text target × GoesAsPlanned (planned target (first ∷ [])) early held held
  unsigned_goes text (refused fault) held is unsigned =
      (unsigned.0, unsigned.1, refused_goes wanted.form j.target (request_moment wanted first) (job_case j wanted selected first) j.events [] unsigned.0 fault held unsigned.2)
  unsigned_goes text no_memory held is unsigned = (unread, tt, goes_no_memory (planned unread (first ∷ [])) held)
  unsigned_goes text other held is unsigned = absurd unsigned

  module _ (target : Target) (passed : request_fault (request_moment wanted first) (job_case j wanted selected first) (accepted target) ≡ None) where
    -- the plan of a request that is signed
    signed_plan : (later : List Instant) → planned (accepted target) (first ∷ later) ≡ case_plan wanted.form j.target (job_case j wanted selected first target) j.events later None
    signed_plan later = passed_plan wanted.form j.target (request_moment wanted first) (job_case j wanted selected first) j.events later target passed

    module _ (old new : HttpRequest) (signer : SignerState (Unit {0})) (text_is : string_bytes old.target ≡ j.target) (signed : IsSignedFor (job_case j wanted selected first target) old new)
        (seals : SealsFor (job_case j wanted selected first target) signer) where
      -- a request that is signed is sent, and its events after it
      pub signed_goes : {T : Type 0} (later : List Instant) (before now : Option (List ℕ)) (answer : Result T StreamFault)
          → SendsAll wanted.form (head_in_form wanted.form (string_bytes new.method) (string_bytes new.target) new.headers) (signer_in signer) j.events (running_signature signer) before now later answer
          → GoesAsPlanned (planned (accepted target) (first ∷ later)) (ended answer) before now
      signed_goes later before now answer sends =
          let c = job_case j wanted selected first target in
          let refusal = case_refusal c j.events later in
          let sent = rw (signed.method, signed.target, signed.headers, text_is, seals.signature, seals.who, ← written_lines wanted.form refusal j.target c j.events later) at sends.sends in
          rw (signed_plan later) (sends_goes refusal _ j.events later before now answer sent sends.whole)

      -- each of its moments was needed
      pub all_needed : {T : Type 0} (head : List ℕ) (later : List Instant) (before now : Option (List ℕ)) (answer : Result T StreamFault)
          → SendsAll wanted.form head (signer_in signer) j.events (running_signature signer) before now later answer
          → IsNeeded (planned (accepted target)) (first ∷ later)
      all_needed head later before now answer sends [] t rest is = refl
      all_needed head later before now answer sends (u ∷ front) t rest is =
          let same : first ≡ u = cc in
          let others : later ≡ front ++ t ∷ rest = cc in
          let c = job_case j wanted selected first target in
          let found : (first_refusal c.signer 1 j.events front (running_signature signer) ≡ None) × (length front ≤ length j.events) = rw seals.who at sends.next front t rest others in
          let none : case_refusal c j.events front ≡ None = rw seals.signature at found.0 in
          let short : (length front == length j.events + 1) ≡ false = (let within = found.1 in grind (arith, nat_tests)) in
          rw (← same, signed_plan front, none, short) refl

      -- so the moments are the first and these
      pub signed_streams : {T : Type 0} (gave : List Instant → Type 0) (start middle end later : List Instant) (before now : Option (List ℕ)) (answer : Result T StreamFault)
          → middle ≡ start ++ first ∷ [] → end ≡ middle ++ later → gave (first ∷ later) → TargetSpells (string_bytes old.target) (accepted target)
          → SendsAll wanted.form (head_in_form wanted.form (string_bytes new.method) (string_bytes new.target) new.headers) (signer_in signer) j.events (running_signature signer) before now later answer
          → Streams gave start end (string_bytes old.target) (λ target taken. selected_plan j wanted target taken selected) (ended answer) before now
      signed_streams gave start middle end later before now answer one more gives spells sends = record {
        target = accepted target;
        taken = first ∷ later;
        spelled = spells;
        gained = more ∙ ap (λ (ms : List Instant). ms ++ later) one ∙ append_assoc start (first ∷ []) later;
        given = gives;
        goes = signed_goes later before now answer sends;
        needed = all_needed _ later before now answer sends;
      }

-- a request that isn't signed isn't a fault of the sink
pub never_failed : (text : List ℕ) (at : Instant) (case : Target → Case) (fault : StreamFault) → Unsigned text at case (stream_ending fault) → fault ≡ stream.SinkFault → ⊥
never_failed text at case fault unsigned is = subst (λ (f : StreamFault). Unsigned text at case (stream_ending f)) is unsigned

-- ## What is selected

module _ (files : List FileText) (profile : List ℕ) (env : List (List ℕ × List ℕ)) (wanted : Wanted) (j : JobParts) where
  -- settings that aren't whole end it
  pub lacking_goes : (fault : SettingsFault) (answered : StreamFault) (target : TargetRead) (held : Option (List ℕ)) → GivesSettings (settings files profile env wanted.profile.service_id) (Err fault)
      → stream_ending answered ≡ settings_ending fault → GoesAsPlanned (stream_plan files profile env wanted j target []) (stream_ending answered) held held
  lacking_goes faults.NoMemory answered target held gives ends = rw ends (goes_no_memory (stream_plan files profile env wanted j target []) held)
  lacking_goes other answered target held gives ends = rw (gives, ends) (goes_stopped _ held)

  -- what is valid isn't lacking
  pub lacking_completes : (fault : SettingsFault) (answered : StreamFault) (selected : Selected) → GivesSettings (settings files profile env wanted.profile.service_id) (Err fault)
      → settings files profile env wanted.profile.service_id ≡ Ok selected → stream_ending answered ≡ settings_ending fault → CompletesStream (stream_ending answered)
  lacking_completes (faults.ParseError error) answered selected gives settled ends = let wrong : Err (parse_error (faulty_line_of error)) ≡ Ok selected = sym gives ∙ settled in cc
  lacking_completes faults.MissingCredentials answered selected gives settled ends = let wrong : Err missing_credentials ≡ Ok selected = sym gives ∙ settled in cc
  lacking_completes faults.MissingSigningRegion answered selected gives settled ends = let wrong : Err missing_signing_region ≡ Ok selected = sym gives ∙ settled in cc
  lacking_completes faults.NoMemory answered selected gives settled ends = inr (inr ends)

-- ## A copy of the request

module _ (copy request : HttpRequest) (events : List Parts) (method : string_bytes copy.method ≡ string_bytes request.method) (target : string_bytes copy.target ≡ string_bytes request.target)
    (headers : copy.headers ≡ request.headers) (body : copy.body ≡ request.body) where
  same_parts : job_with copy events ≡ job_with request events
  same_parts = rw (method, target, headers, body) refl

  -- what is signed for the one is signed for the other
  same_signed : (c : Case) (new : HttpRequest) → IsSignedFor c copy new → IsSignedFor c request new
  same_signed c new is = record { method = is.method; target = rw target at is.target; headers = is.headers; body = is.body ∙ body }

  same_sent : (files : List FileText) (profile : List ℕ) (env : List (List ℕ × List ℕ)) (wanted : Wanted) (t : TargetRead) (moments : List Instant) (before now : Option (List ℕ)) (result : Result HttpRequest StreamFault)
      → HasSentStream files profile env wanted copy events t moments before now result → HasSentStream files profile env wanted request events t moments before now result
  same_sent files profile env wanted t moments before now (Err fault) sent = tt
  same_sent files profile env wanted t moments before now (Ok new) (input, gains, is) =
      subst (λ (j : JobParts). (input : IsValid files profile env wanted j t moments) × Gains before now (written_valid input) × IsSignedFor (valid_case input) request new) same_parts
      (input, gains, same_signed (valid_case input) new is)

  -- and so is what is streamed
  pub same_request : (clock : List Instant → Type 0) (old new : List Instant) (files : List FileText) (profile : List ℕ) (env : List (List ℕ × List ℕ)) (wanted : Wanted)
      (result : Result HttpRequest StreamFault) (before now : Option (List ℕ))
      → SignsAndStreams clock old new files profile env wanted copy events result before now → SignsAndStreams clock old new files profile env wanted request events result before now
  same_request clock old new files profile env wanted result before now signs =
      let sent = signs.streams in
      record {
        streams = record {
          target = sent.target;
          taken = sent.taken;
          spelled = rw target at sent.spelled;
          gained = sent.gained;
          given = sent.given;
          goes = rw same_parts at sent.goes;
          needed = rw same_parts at sent.needed;
        };
        headline = same_sent files profile env wanted sent.target sent.taken before now result signs.headline;
        complete = λ t later spells valid.
            signs.complete t later (subst (λ (text : List ℕ). TargetSpells text t) (sym target) spells)
            (subst (λ (j : JobParts). IsValid files profile env wanted j t (sent.taken ++ later)) (sym same_parts) valid);
      }

-- memory ran out before a moment was taken
pub none_streamed : (clock : List Instant → Type 0) (moments : List Instant) (files : List FileText) (profile : List ℕ) (env : List (List ℕ × List ℕ)) (wanted : Wanted) (request : HttpRequest) (events : List Parts)
    (held : Option (List ℕ)) → clock [] → SignsAndStreams clock moments moments files profile env wanted request events (Err stream.NoMemory) held held
none_streamed clock moments files profile env wanted request events held none = record {
  streams = record {
    target = unread;
    taken = [];
    spelled = tt;
    gained = sym (append-nil moments);
    given = none;
    goes = goes_no_memory (stream_plan files profile env wanted (job_with request events) unread []) held;
    needed = λ front t rest is. absurd (no_moment front t rest is);
  };
  headline = tt;
  complete = λ target later spells valid. inr (inr refl);
}
