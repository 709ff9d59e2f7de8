-- What signing a request and streaming its events promises.
use Rattle.std.specs.Prelude.{◌≡◌, ◌⊎◌, ℕ, List, [], ◌∷◌, ◌++◌, Option, None, option_map, Result, Ok, Err, string_bytes}
use Rattle.smithy_core.specs.Message.{Parts}
use Rattle.smithy_core.specs.Moment.{Instant}
use Rattle.smithy_core.specs.Outside.{Gains}
use Rattle.smithy_core.specs.declared.request.HttpRequest.{HttpRequest}
use Rattle.smithy_http.specs.Target.{Target}
use Rattle.env_config.specs.Sections.{FileText}
use Rattle.aws_auth.specs.Options.{IsSameOptions}
use Rattle.signed_stream.specs.Case.{job_case}
use Rattle.signed_stream.specs.Command.{Wanted}
use Rattle.job_text.specs.Job.{JobParts}
use Rattle.signed_stream.specs.Plan.{GoesAsPlanned, IsNeeded, Plan, TargetRead, TargetSpells, accepted}
use Rattle.signed_stream.specs.Settings.{Selected, settings}
use Rattle.signed_stream.specs.Sign.{IsSignedFor}
use Rattle.signed_stream.specs.Sources.{or_refused, when_selected}
use Rattle.signed_stream.specs.Status.{Ending, done, no_memory, output_fault, ended}
use Rattle.signed_stream.specs.Stream.{IsValid, selected_plan, valid_case, written_valid}
use Rattle.signed_stream.specs.declared.form.Form.{Form}
use Rattle.signed_stream.specs.declared.streaming.StreamOptions.{StreamOptions}
use Rattle.signed_stream.specs.declared.streaming.StreamedRequest.{StreamedRequest}
use Rattle.signed_stream.specs.declared.status.StreamFault.{StreamFault}

-- what the options ask for, to be written in a form
abbrev pub stream_wanted : StreamOptions → Form → Wanted
stream_wanted options form = record {
  name = string_bytes options.name;
  at = None;
  signing = options.signing;
  token_name = option_map string_bytes options.token_name;
  skew_millis = options.skew_millis;
  form = form;
  profile = record { service_id = option_map string_bytes options.service_id; files = [] };
}

-- the options are the same
pub record IsSameStreamOptions (options copy : StreamOptions) : Type 0 where
  pub name : string_bytes copy.name ≡ string_bytes options.name
  pub service_id : option_map string_bytes copy.service_id ≡ option_map string_bytes options.service_id
  pub signing : IsSameOptions options.signing copy.signing
  pub token_name : option_map string_bytes copy.token_name ≡ option_map string_bytes options.token_name
  pub skew_millis : copy.skew_millis ≡ options.skew_millis

-- a request and its events, as the parts of a job without profile texts
abbrev pub job_with : HttpRequest → List Parts → JobParts
job_with request events = record {
  method = string_bytes request.method;
  target = string_bytes request.target;
  headers = request.headers;
  body = request.body;
  config = None;
  credentials = None;
  events = events;
}

-- what is asked of a request that is streamed, and its job
abbrev pub wanted_for : StreamedRequest → Wanted
wanted_for stream = stream_wanted stream.options.now stream.form

abbrev pub job_for : StreamedRequest → JobParts
job_for stream = job_with stream.request stream.events.items

-- what follows from the files, the variables, what the target spells and the moments that were taken
abbrev pub stream_plan : List FileText → List ℕ → List (List ℕ × List ℕ) → Wanted → JobParts → TargetRead → List Instant → Plan
stream_plan files profile env wanted j target moments =
    when_selected (selected_plan j wanted target moments) (or_refused (settings files profile env wanted.profile.service_id))

-- An answer as planned for what the target spells and the moments that were taken. These were gained, the clock gave them, which `clock` says, and each was
-- taken only where those before it didn't decide.
pub record Streams (clock : List Instant → Type 0) (old new : List Instant) (text : List ℕ) (plan : TargetRead → List Instant → Plan) (answer : Ending) (before now : Option (List ℕ)) : Type 0 where
  pub target : TargetRead
  pub taken : List Instant
  pub spelled : TargetSpells text target
  pub gained : new ≡ old ++ taken
  pub given : clock taken
  pub goes : GoesAsPlanned (plan target taken) answer before now
  pub needed : IsNeeded (plan target) taken

-- an answer likewise, of whose moments nothing is left but that they were taken
pub record TakesFor (taken : List Instant → Type 0) (text : List ℕ) (plan : TargetRead → List Instant → Plan) (answer : Ending) (before now : Option (List ℕ)) : Type 0 where
  pub target : TargetRead
  pub moments : List Instant
  pub spelled : TargetSpells text target
  pub given : taken moments
  pub goes : GoesAsPlanned (plan target moments) answer before now
  pub needed : IsNeeded (plan target) moments

-- it is done; a fault of the sink or running out of memory may come in between
abbrev pub CompletesStream : Ending → Type 0
CompletesStream answer = (answer ≡ done) ⊎ (answer ≡ output_fault) ⊎ (answer ≡ no_memory)

-- The headline: the sink gained the head of the signed request and then the chain of the events, and the answer is the signed request.
abbrev pub HasSentStream : (files : List FileText) (profile : List ℕ) (env : List (List ℕ × List ℕ)) (wanted : Wanted) → HttpRequest → List Parts → TargetRead → List Instant
    → Option (List ℕ) → Option (List ℕ) → Result HttpRequest StreamFault → Type 0
HasSentStream files profile env wanted request events target moments before now (Ok new) =
    (input : IsValid files profile env wanted (job_with request events) target moments)
    × Gains before now (written_valid input) × IsSignedFor (valid_case input) request new
HasSentStream files profile env wanted request events target moments before now (Err fault) = Unit {0}

-- How a call went: as planned, with the headline where it is done, and done where its input is valid at the moments that were taken and any later ones.
pub record SignsAndStreams (clock : List Instant → Type 0) (old new : List Instant) (files : List FileText) (profile : List ℕ) (env : List (List ℕ × List ℕ)) (wanted : Wanted)
    (request : HttpRequest) (events : List Parts) (result : Result HttpRequest StreamFault) (before now : Option (List ℕ)) : Type 0 where
  pub streams : Streams clock old new (string_bytes request.target) (stream_plan files profile env wanted (job_with request events)) (ended result) before now
  pub headline : HasSentStream files profile env wanted request events streams.target streams.taken before now result
  pub complete : (target : TargetRead) (later : List Instant) → TargetSpells (string_bytes request.target) target
      → IsValid files profile env wanted (job_with request events) target (streams.taken ++ later) → CompletesStream (ended result)

-- ## Between the functions that stream: a reader needs none of it

-- the answer is the signed request of the case for the first moment that was taken
pub record IsSentSigned (j : JobParts) (wanted : Wanted) (selected : Selected) (request : HttpRequest) (old new : List Instant) (sent : HttpRequest) : Type 0 where
  pub first : Instant
  pub others : List Instant
  pub target : Target
  pub taken : new ≡ old ++ first ∷ others
  pub spelled : TargetSpells (string_bytes request.target) (accepted target)
  pub signed : IsSignedFor (job_case j wanted selected first target) request sent
