-- The command `gen`: a job that is generated, streamed as frames alone and checked, and what is shown of it.
use Rattle.std.specs.Prelude.{◌≡◌, ℕ, suc, List, [], ◌∷◌, ◌++◌, codes, length, replicate, None, Some, option_map, pos, string_bytes}
use Rattle.std.specs.Fmt.{decimal}
use Rattle.smithy_core.specs.Identity.{IsCredentials, secret_of}
use Rattle.smithy_core.specs.Message.{Parts}
use Rattle.smithy_core.specs.Moment.{Instant}
use Rattle.smithy_core.specs.Text.{line}
use Rattle.smithy_core.specs.declared.identity.Identity.{Identity}
use Rattle.smithy_http.specs.Target.{Target}
use Rattle.eventstream.specs.Frame.{frame}
use Rattle.eventstream.specs.Key.{Signer}
use Rattle.eventstream.specs.Link.{link_signature}
use Rattle.sigv4.specs.Request.{Case, key_id_of, token_of}
use Rattle.sigv4.specs.Signed.{signature_of}
use Rattle.aws_auth.specs.Options.{default_options}
use Rattle.signed_stream.specs.Case.{job_case}
use Rattle.signed_stream.specs.Command.{Wanted}
use Rattle.signed_stream.specs.Generator.{drawn_events}
use Rattle.job_text.specs.Job.{JobParts}
use Rattle.signed_stream.specs.Plan.{Plan, writes}
use Rattle.signed_stream.specs.ProfileOptions.{nothing_wanted}
use Rattle.signed_stream.specs.Settings.{Selected}
use Rattle.signed_stream.specs.Status.{done}
use Rattle.signed_stream.specs.Written.{written_stream}
use Rattle.signed_stream.specs.declared.form.Form.TheVariants.{Raw}
use Rattle.signed_stream.specs.declared.streaming.StreamOptions.{StreamOptions}

-- ## The job

-- `POST https://gen.amazonaws.com/` without headers and body, and so many events of the generator
abbrev pub generated_job : ℕ → ℕ → JobParts
generated_job seed count = record {
  method = codes "POST";
  target = codes "https://gen.amazonaws.com/";
  headers = [];
  body = [];
  config = None;
  credentials = None;
  events = drawn_events count seed;
}

-- what its target spells
abbrev pub generated_target : Target
generated_target = record { scheme = Some (codes "https"); authority = Some (codes "gen.amazonaws.com"); path = codes "/"; query = None }

-- who signs it, and for which region
abbrev pub generated_selected : Selected
generated_selected = record {
  profile = codes "default";
  key_id = codes "AKIDEXAMPLE";
  secret = codes "wJalrXUtnFEMI/K7MDENG+bPxRfiCYEXAMPLEKEY";
  token = None;
  region = codes "us-east-1";
}

-- the moment of the request, of each event and of the closing frame
abbrev pub generated_moment : Instant
generated_moment = record { secs = pos 1440938160; nanos = 0 }

-- for which service, with the default options
abbrev pub generated_wanted : Wanted
generated_wanted = record {
  name = codes "gen";
  at = Some generated_moment;
  signing = default_options;
  token_name = None;
  skew_millis = None;
  form = Raw;
  profile = nothing_wanted;
}

-- the case of its request
unfoldable pub generated_case : Case
generated_case = job_case (generated_job 0 0) generated_wanted generated_selected generated_moment generated_target

-- who signs the chain
abbrev pub generated_signer : Signer
generated_signer = record { secret = generated_selected.secret; region = generated_selected.region; name = generated_wanted.name }

-- ## What is shown

-- the stream of so many events
unfoldable pub generated_stream : List Parts → List ℕ
generated_stream events = written_stream Raw (codes "https://gen.amazonaws.com/") generated_case events (replicate (suc (length events)) generated_moment)

-- the signature of the closing frame behind events at one moment, over the signature before them
abbrev pub closing_signature : Signer → List Parts → Instant → List ℕ → List ℕ
closing_signature signer [] at signature = link_signature signer signature [] at
closing_signature signer (event ∷ events) at signature = closing_signature signer events at (link_signature signer signature (frame event) at)

-- how many events and bytes the stream has, and the signature of its closing frame
unfoldable pub shown_stream : List Parts → List ℕ
shown_stream events =
    line (codes "events " ++ decimal (length events))
    ++ (line (codes "bytes " ++ decimal (length (generated_stream events)))
    ++ line (codes "signature " ++ closing_signature generated_signer events generated_moment (signature_of generated_case)))

-- to write that of the events of a seed
abbrev pub generate_plan : ℕ → ℕ → Plan
generate_plan seed count = writes (shown_stream (drawn_events count seed)) done

-- ## Between the functions of `gen`: a reader of its plan needs none of it

-- the events are those of a seed
abbrev pub AreDrawn : List Parts → Type 0
AreDrawn events = (count seed : ℕ) × (events ≡ drawn_events count seed)

-- the identity is that of who signs
pub record IsGeneratedIdentity (identity : Identity) : Type 0 where
  pub credentials : IsCredentials identity
  pub key_id : key_id_of identity ≡ generated_selected.key_id
  pub secret : secret_of identity ≡ generated_selected.secret
  pub token : token_of identity ≡ None

-- the options ask for what is wanted
pub record AreGeneratedOptions (options : StreamOptions) : Type 0 where
  pub name : string_bytes options.name ≡ generated_wanted.name
  pub signing : options.signing ≡ default_options
  pub token_name : option_map string_bytes options.token_name ≡ None
  pub skew_millis : options.skew_millis ≡ None
