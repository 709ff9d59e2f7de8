-- An operation over the replies of its input, all of whose moments are the same: what each attempt sends, or why it sends nothing, and what is written of it.
use Rattle.std.specs.Prelude.{ℕ, ◌+◌, Bool, true, false, List, [], ◌∷◌, ◌++◌, codes, flat_map, length, map, take, Option, Some, None, Result, Ok, Err}
use Rattle.std.specs.Fmt.{decimal}
use Rattle.std.specs.List.{join_by}
use Rattle.sha2.specs.Sha256.{sha256}
use Rattle.hex.specs.Hex.{encode_lower}
use Rattle.smithy_core.specs.Moment.{Instant}
use Rattle.smithy_core.specs.Text.{line}
use Rattle.smithy_core.specs.TextPairs.{inserted}
use Rattle.smithy_http.specs.Target.{Target}
use Rattle.sigv4.specs.Request.{Case}
use Rattle.sigv4.specs.Settings.{default_settings}
use Rattle.sigv4.specs.Signed.{signed_headers, signed_target}
use Rattle.aws_auth.specs.Moment.{signing_moment}
use Rattle.aws_auth.specs.declared.options.HttpSignatureType.TheVariants.{HttpRequestHeaders}
use Rattle.aws_intercept.specs.Agent.{agent_for_tests, agent_text}
use Rattle.aws_intercept.specs.Interceptor.{with_agent_text}
use Rattle.aws_intercept.specs.Invocation.{with_id_header}
use Rattle.aws_intercept.specs.Recursion.{traced}
use Rattle.operation_run.specs.Again.{Round}
use Rattle.operation_run.specs.Reply.{ErrorTexts, ReplyTexts, RequestTexts}
use Rattle.job_text.specs.OperationJob.{ReplyParts}
use Rattle.job_text.specs.RequestLines.{RequestParts}
use Rattle.signed_stream.specs.Plan.{TargetRead, accepted}
use Rattle.signed_stream.specs.Settings.{Selected}
use Rattle.signed_stream.specs.Sign.{request_fault}
use Rattle.signed_stream.specs.Status.{RunFault, no_memory, refused}
use Rattle.signed_stream.specs.Written.{head}
use Rattle.operation_run.specs.Rounds.{first_there, fronts, is_used_up, round_at, skew_after, standard_attempts, tries}
use Rattle.operation_program.specs.Status.{OperationEnding, transport_fault, usual}

-- the header of a date, where there is one
abbrev pub date_headers : Option (List ℕ) → List (List ℕ × List ℕ)
date_headers None = []
date_headers (Some date) = (codes "date", date) ∷ []

-- the error of a code, where there is one, without a message
abbrev pub code_error : Option (List ℕ) → Option ErrorTexts
code_error None = None
code_error (Some code) = Some (record { code = Some code; message = None })

-- the reply that a line lists
abbrev pub listed_reply : ReplyParts → ReplyTexts
listed_reply reply = record { response = record { status = reply.status; headers = date_headers reply.date; skew = None }; error = code_error reply.code }

-- what an operation is done with: the environment, the request, what is selected to sign with, the service's name, the one moment, and the replies
pub record Scripted : Type 0 where
  pub env : List (List ℕ × List ℕ)
  pub request : RequestParts
  pub selected : Selected
  pub name : List ℕ
  pub at : Instant
  pub replies : List ReplyTexts

-- the attempts that the replies answer, as far as they are made
abbrev pub scripted_rounds : Scripted → List Round
scripted_rounds s = map (round_at s.at) s.replies

-- ## One attempt, after those before it

-- the moment of its signature: shifted by the skew that is known
abbrev pub scripted_moment : Scripted → List Round → Instant
scripted_moment s before = signing_moment s.at HttpRequestHeaders (skew_after before)

-- the case of its request, which has the trace of the environment and the agent for tests, for what the target spells
abbrev pub scripted_case : Scripted → List Round → Target → Case
scripted_case s before target = record {
  method = s.request.method;
  target = target;
  headers = with_agent_text (traced s.env s.request.headers) (agent_text agent_for_tests);
  payload = encode_lower (sha256 s.request.body);
  settings = default_settings;
  key_id = s.selected.key_id;
  token = s.selected.token;
  signer = record { secret = s.selected.secret; region = s.selected.region; name = s.name };
  at = scripted_moment s before;
}

-- the first of its tests that fails
abbrev pub scripted_fault : Scripted → TargetRead → List Round → Option RunFault
scripted_fault s target before = request_fault (scripted_moment s before) (scripted_case s before) target

-- `attempt=N; max=3`
abbrev pub attempt_text : ℕ → List ℕ
attempt_text number = join_by (λ part. part) (codes "; ") ((codes "attempt=" ++ decimal number) ∷ (codes "max=" ++ decimal standard_attempts) ∷ [])

-- the request that it sends: the signed one of its case, with the id `invocation-1` after its headers, and the attempt's number
abbrev pub scripted_request : Scripted → Target → List Round → RequestTexts
scripted_request s target before = let c = scripted_case s before target in record {
  method = s.request.method;
  target = signed_target c s.request.target;
  headers = inserted (with_id_header (signed_headers c) (Some (codes "invocation-1"))) (codes "amz-sdk-request") (attempt_text (length before + 1));
  body = s.request.body;
}

-- ## The attempts

-- those that are made, each as the attempts before it
abbrev pub attempts_made : Scripted → List (List Round)
attempts_made s = take (tries (scripted_rounds s)) (fronts [] (scripted_rounds s))

-- the head of a request that is sent
abbrev pub request_head : RequestTexts → List ℕ
request_head request = head request.method request.target request.headers

-- the heads of these requests, and the number of the attempts
abbrev pub heads_text : List RequestTexts → ℕ → List ℕ
heads_text requests count = flat_map request_head requests ++ line (codes "attempts " ++ decimal count)

-- a text, unless an attempt is refused or the replies are used up
abbrev pub unless_stopped : Option RunFault → Bool → List ℕ → Result (List ℕ) OperationEnding
unless_stopped (Some fault) used_up text = Err (usual (refused fault))
unless_stopped None true text = Err transport_fault
unless_stopped None false text = Ok text

-- how it ends where the target isn't accepted, or wasn't read: the first attempt is refused, or memory ran out
abbrev pub first_attempt_end : Option RunFault → OperationEnding
first_attempt_end (Some fault) = usual (refused fault)
first_attempt_end None = usual no_memory

-- What is to be written, or how the operation ends. The first attempt that is refused decides, and then whether the replies are used up; else the heads of the
-- requests that are sent are written, and the number of the attempts.
abbrev pub operation_outcome : Scripted → TargetRead → Result (List ℕ) OperationEnding
operation_outcome s (accepted target) =
    unless_stopped (first_there (map (scripted_fault s (accepted target)) (attempts_made s))) (is_used_up (scripted_rounds s))
    (heads_text (map (scripted_request s target) (attempts_made s)) (tries (scripted_rounds s)))
operation_outcome s target = Err (first_attempt_end (scripted_fault s target []))
