-- An operation over listed replies at one moment, by what is promised of each operation.
use Rattle.std.proofs.Common.{◌≡◌, inl, inr, ℕ, suc, ◌+◌, ◌<◌, ◌≤◌, Bool, true, false, List, [], ◌∷◌, ◌++◌, length, map, min, replicate, take, Option, Some, None, refl, ap, arith, sym, subst, ◌∙◌}
use Rattle.std.specs.Prelude.{Result, Ok, Err, IsErrOf, IsSomeAnd, String, codes, option_map, option_to_list, string_bytes, if◌then◌else◌, nat_lt, option_and_then}
use Rattle.std.specs.Fmt.{decimal}
use Rattle.std.specs.List.{join_by}
use Rattle.std.specs.Option.{option_map_or}
use Rattle.std.specs.declared.alloc.Global.{Global}
use Rattle.std.proofs.lemmas.List.{length-map, length-take, take-map}
use Rattle.http_header.specs.Token.{is_value_byte}
use Rattle.http_header.proofs.TokenLemmas.{AllPass-from_test}
use Rattle.smithy_core.specs.Moment.{Instant}
use Rattle.smithy_core.specs.HeaderGrammar.{IsHeaderValue}
use Rattle.aws_intercept.specs.Agent.{Agent, agent_for_tests, agent_text}
use Rattle.aws_intercept.specs.Metadata.{IsMetadataIfSome}
use Rattle.aws_intercept.specs.declared.user_agent.metric.BusinessMetric.{BusinessMetric}
use Rattle.aws_intercept.specs.ClockSkew.{is_off}
use Rattle.aws_intercept.specs.FeatureMetrics.{feature_metrics}
use Rattle.aws_intercept.specs.Interceptor.{sent_agent, with_agent_text}
use Rattle.aws_intercept.specs.Invocation.{GivesFirst, with_id}
use Rattle.aws_intercept.specs.RequestInfo.{awaited, info_text}
use Rattle.aws_intercept.specs.declared.bag.ConfigBag.{ConfigBag}
use Rattle.aws_intercept.specs.declared.id_fault.IdFault.{IdFault}
use Rattle.aws_intercept.specs.declared.id_fault.IdFault.TheVariants as ids
use Rattle.aws_intercept.specs.declared.user_agent.interceptor.UserAgentFault.{UserAgentFault}
use Rattle.aws_intercept.specs.declared.user_agent.interceptor.UserAgentFault.TheVariants as agents
use Rattle.operation_run.specs.Again.{Round, attempt_bag, attempts, is_again, leading}
use Rattle.operation_run.specs.Attempt.{IsSent, OperationParts, RefusesAgent, RefusesSigning, with_bag_agent}
use Rattle.operation_run.specs.Attempts.{AreSent, Ends, Operates, Tried, begun_bag}
use Rattle.operation_run.specs.Reply.{ReplyTexts, RequestTexts}
use Rattle.operation_run.specs.Script.{ScriptState, replied_of}
use Rattle.operation_run.specs.Transport.{HasGivenAll}
use Rattle.operation_run.specs.declared.fault.OperationFault.{OperationFault}
use Rattle.operation_run.specs.declared.fault.OperationFault.TheVariants.{Id, Agent as AgentFault, Sign, TransportFault, NoMemory}
use Rattle.operation_run.specs.declared.reply.Outcome.{Outcome}
use Rattle.operation_run.proofs.OperationLemmas.{over}
use Rattle.operation_run.specs.Over.{EndsOver, GoesOver, IsBegunBag, IsFirstBag, Over}
use Rattle.operation_run.specs.Rounds.{round_at}
use Rattle.operation_run.proofs.ListLemmas.{leading_take, same_more, same_rounds}

-- as many requests as attempts
pub as_many : (parts : OperationParts) (bag : ConfigBag) (before rounds : List Round) (requests : List RequestTexts) → AreSent parts bag before rounds requests → length requests ≡ length rounds
as_many parts bag before [] requests none = rw none refl
as_many parts bag before (round ∷ rounds) [] sent = absurd sent
as_many parts bag before (round ∷ rounds) (request ∷ requests) (own, sent) = ap suc (as_many parts bag (before ++ round ∷ []) rounds requests sent)

-- the id is a header's value
pub test_id : IsHeaderValue (codes "invocation-1")
test_id = AllPass-from_test is_value_byte (codes "invocation-1") refl

-- the agent for tests is a header's value
test_agent : IsHeaderValue (agent_text agent_for_tests)
unfolding agent_text
test_agent = AllPass-from_test is_value_byte (agent_text agent_for_tests) refl

-- a bag without features and a connector sends its agent as it is
same_agent : (bag : ConfigBag) → bag.connector ≡ None → feature_metrics bag ≡ [] → sent_agent bag agent_for_tests ≡ agent_for_tests
same_agent bag none no_features =
    let made : Option (String Global) → List BusinessMetric → Agent = λ connector metrics. record agent_for_tests { metrics = metrics; additional_metadata = option_to_list (option_map string_bytes connector) } in
    ap (λ connector. made connector (feature_metrics bag)) none ∙ ap (made None) no_features

module _ (bag : ConfigBag) (begun : IsBegunBag bag) where
  no_features : (rounds : List Round) → feature_metrics (attempt_bag bag rounds) ≡ []
  unfolding feature_metrics
  no_features rounds = let empty = begun.is_empty in rw (begun.made, empty.smithy_features, empty.aws_features, empty.credential_features) refl

  user : bag.user_agent ≡ Some agent_for_tests
  user = ap (λ (b : ConfigBag). b.user_agent) begun.made

  none : bag.connector ≡ None
  none = ap (λ (b : ConfigBag). b.connector) begun.made ∙ begun.is_empty.connector

  -- the headers with its agent
  pub agent_is : (before : List Round) (headers : List (List ℕ × List ℕ)) → with_bag_agent (attempt_bag bag before) headers ≡ with_agent_text headers (agent_text agent_for_tests)
  agent_is before headers =
      ap (λ user_agent. option_map_or (λ agent. with_agent_text headers (agent_text (sent_agent (attempt_bag bag before) agent))) user_agent headers) user
      ∙ ap (λ agent. with_agent_text headers (agent_text agent)) (same_agent (attempt_bag bag before) none (no_features before))

  -- no answer is awaited until a moment
  awaited_none : (before : List Round) → awaited (attempt_bag bag before) ≡ None
  awaited_none before = by_first (nat_lt (length before + 1) 2)
    where
      timeout : bag.timeout ≡ None
      timeout = ap (λ (b : ConfigBag). b.timeout) begun.made ∙ begun.is_empty.timeout

      by_first : (first : Bool) → (if first then None else option_and_then (λ timeout. timeout.read_timeout) bag.timeout) ≡ None
      by_first true = refl
      by_first false = rw timeout refl

  -- what the header of the attempt's number tells
  pub info_is : (before : List Round) (at : Instant)
      → info_text at (attempt_bag bag before) ≡ join_by (λ part. part) (codes "; ") ((codes "attempt=" ++ decimal (length before + 1)) ∷ (codes "max=" ++ decimal 3) ∷ [])
  unfolding info_text
  info_is before at =
      let retry : bag.retry ≡ Some (record { max_attempts = 3 }) = ap (λ (b : ConfigBag). b.retry) begun.made in
      rw (awaited_none before, retry) refl

  -- its agent is sent
  pub agent_passes : (rounds : List Round) (fault : UserAgentFault) → RefusesAgent (attempt_bag bag rounds) fault → ⊥
  agent_passes rounds fault refuses = by_fault fault refuses
    where
      by_fault : (fault : UserAgentFault) → RefusesAgent (attempt_bag bag rounds) fault → ⊥
      by_fault agents.MissingUserAgent refuses = (let no : true ≡ false = rw user at refuses in cc)
      by_fault agents.InvalidMetadataValue refuses = let no = rw none at refuses in no.1 tt
      by_fault agents.InvalidHeaderValue refuses =
          let no = subst (λ user_agent. IsSomeAnd user_agent (λ agent. IsMetadataIfSome (option_map string_bytes bag.connector) × ¬ (IsHeaderValue (agent_text (sent_agent (attempt_bag bag rounds) agent))))) user refuses in
          no.1 (subst (λ agent. IsHeaderValue (agent_text agent)) (sym (same_agent (attempt_bag bag rounds) none (no_features rounds))) test_agent)
      by_fault agents.MissingApiMetadata refuses = refuses
      by_fault agents.NoMemory refuses = refuses

module _ (G : List Instant → Type 0) (parts : OperationParts) (bag now : ConfigBag) (begun : IsBegunBag bag) (at : Instant) (replies : List ReplyTexts)
    (fixed : (taken : List Instant) → G taken → taken ≡ replicate (length taken) at) (sent : List RequestTexts) (moments : List Instant) (answer : Result Outcome OperationFault)
    (tried : Tried G parts bag now (over (Some []) (Some sent) (Some []) (Some (take (length sent) replies)) [] moments) answer) where
  -- the attempts that the replies answer
  abbrev all : List Round
  all = map (round_at at) replies

  -- those that were answered are the first of them
  rounds_are : tried.rounds ≡ take (length sent) all
  rounds_are =
      let told : map (λ r. r.reply) tried.rounds ≡ take (length sent) replies = (let replied = tried.goes.replied in cc) in
      same_rounds at tried.rounds tried.more (fixed _ tried.goes.given) ∙ ap (map (round_at at)) told ∙ sym (take-map (round_at at) (length sent) replies)

  requests_are : tried.requests ≡ sent
  requests_are = let went = tried.goes.sent in cc

  -- as many requests were sent
  long : length tried.rounds ≡ length sent
  long = sym (as_many parts bag [] tried.rounds tried.requests tried.are_sent) ∙ ap length requests_are

  within_all : length sent ≤ length all
  within_all = let most = length-take (length sent) all in let same : length sent ≡ length (take (length sent) all) = sym long ∙ ap length rounds_are in omega (arith, most, same)

  lead : leading (is_again bag) tried.rounds ≡ min (length sent) (leading (is_again bag) all)
  lead = ap (leading (is_again bag)) rounds_are ∙ leading_take (is_again bag) (length sent) all

  all_sent : AreSent parts bag [] (take (length sent) all) sent
  all_sent =
      let own : AreSent parts bag [] tried.rounds sent = subst (AreSent parts bag [] tried.rounds) requests_are tried.are_sent in
      subst (λ rounds. AreSent parts bag [] rounds sent) rounds_are own

  -- how they ended
  below : length tried.rounds < attempts bag tried.rounds → length sent < attempts bag all
  below still = let first = lead in let same = long in omega (arith, still, first, same)

  ends_over : (other : Result Outcome OperationFault) → Ends parts bag tried.rounds tried.more other
      → (IsErrOf other TransportFault → length replies ≤ length (take (length sent) replies)) → EndsOver parts bag at all (length sent) other
  ends_over (Ok outcome) ends used = let is = ends.1 in let first = lead in let same = long in let counted = is.attempts in (is.number ∙ long, omega (arith, counted, first, same))
  ends_over (Err TransportFault) (still, (first, went, are, (request, sends))) used =
      let moment : first ≡ at = (let same = same_more at tried.rounds tried.more (fixed _ tried.goes.given) in let told : first ∷ went ∷ [] ≡ at ∷ at ∷ [] = rw are at same in cc) in
      let few = used refl in let most = length-take (length sent) replies in let as_all = length-map replies (round_at at) in let fits = within_all in (
        omega (arith, few, most, as_all, fits),
        below still,
        (request, subst (λ t. IsSent parts (attempt_bag bag (take (length sent) all)) t request) moment (subst (λ rounds. IsSent parts (attempt_bag bag rounds) first request) rounds_are sends)),
      )
  ends_over (Err (Sign error)) (still, (first, are, refuses)) used =
      let moment : first ≡ at = (let same = same_more at tried.rounds tried.more (fixed _ tried.goes.given) in let told : first ∷ [] ≡ at ∷ [] = rw are at same in cc) in (
        below still,
        subst (λ t. RefusesSigning parts (attempt_bag bag (take (length sent) all)) t error) moment (subst (λ rounds. RefusesSigning parts (attempt_bag bag rounds) first error) rounds_are refuses),
      )
  ends_over (Err (AgentFault fault)) (still, (are, refuses)) used = agent_passes bag begun tried.rounds fault refuses
  ends_over (Err (Id fault)) (still, wrong) used = wrong
  ends_over (Err NoMemory) ends used = tt

  -- the attempts that were answered sent these requests
  pub went_over : (IsErrOf answer TransportFault → length replies ≤ length (take (length sent) replies)) → Over parts at all sent answer
  went_over used = record { bag = bag; begun = begun; count = length sent; within = within_all; are_sent = all_sent; ends = ends_over answer tried.ends used }

-- unless memory ran out
pub goes_over : (parts : OperationParts) (at : Instant) (rounds : List Round) (sent : List RequestTexts) (answer : Result Outcome OperationFault) → Over parts at rounds sent answer
    → GoesOver parts at rounds sent answer
goes_over parts at rounds sent (Ok outcome) is = is
goes_over parts at rounds sent (Err (Id fault)) is = is
goes_over parts at rounds sent (Err (AgentFault fault)) is = is
goes_over parts at rounds sent (Err (Sign error)) is = is
goes_over parts at rounds sent (Err TransportFault) is = is
goes_over parts at rounds sent (Err NoMemory) is = tt

-- ## Before the attempts

-- the bag as the attempts begin
begun_first : (bag : ConfigBag) → IsFirstBag bag → IsBegunBag (begun_bag bag (Some (codes "invocation-1")))
begun_first bag first =
    let on : is_off (with_id bag (Some (codes "invocation-1"))) ≡ false = (let set = first.is_empty.disable_skew in rw (first.made, set) refl) in
    record { empty = first.empty; is_empty = first.is_empty; made = rw on (rw first.made refl) }

module _ (G : List Instant → Type 0) (parts : OperationParts) (bag now : ConfigBag) (first : IsFirstBag bag) (given_ids ids_now : List (List ℕ)) (only : given_ids ≡ codes "invocation-1" ∷ [])
    (at : Instant) (replies : List ReplyTexts) (fixed : (taken : List Instant) → G taken → taken ≡ replicate (length taken) at) (sent : List RequestTexts) (moments : List Instant)
    (answer : Result Outcome OperationFault) (used : IsErrOf answer TransportFault → length replies ≤ length (take (length sent) replies)) where
  by_id : (id : Option (List ℕ)) → GivesFirst given_ids (Ok id) ids_now
      → Tried G parts (begun_bag bag id) now (over (Some []) (Some sent) (Some []) (Some (take (length sent) replies)) [] moments) answer
      → GoesOver parts at (map (round_at at) replies) sent answer
  by_id None gives tried = absurd gives
  by_id (Some id) gives tried =
      let same : id ≡ codes "invocation-1" = (let told : codes "invocation-1" ∷ [] ≡ id ∷ ids_now = rw only at gives in cc) in
      goes_over parts at (map (round_at at) replies) sent answer
      (went_over G parts (begun_bag bag (Some (codes "invocation-1"))) now (begun_first bag first) at replies fixed sent moments answer
      (subst (λ i. Tried G parts (begun_bag bag (Some i)) now (over (Some []) (Some sent) (Some []) (Some (take (length sent) replies)) [] moments) answer) same tried) used)

  no_fault : (fault : IdFault) → GivesFirst given_ids (Err fault) ids_now → ⊥
  no_fault ids.UsedUp (none, after) = (let wrong : codes "invocation-1" ∷ [] ≡ [] = rw only at none in cc)
  no_fault ids.NoMemory gives = gives

  pub operates_over : Operates (λ given. GivesFirst given_ids given ids_now) G parts bag now (over (Some []) (Some sent) (Some []) (Some (take (length sent) replies)) [] moments) answer
      → GoesOver parts at (map (round_at at) replies) sent answer
  operates_over (inl (id, gives, tried)) = by_id id gives tried
  operates_over (inr refused) = absurd (no_fault refused.0 refused.1)

-- over the replies of a transport in memory
pub over_script : (G : List Instant → Type 0) (parts : OperationParts) (bag now : ConfigBag) → IsFirstBag bag → (given_ids ids_now : List (List ℕ)) → given_ids ≡ codes "invocation-1" ∷ []
    → (at : Instant) → ((taken : List Instant) → G taken → taken ≡ replicate (length taken) at) → (old new : ScriptState) → old.sent ≡ [] → Some new.replies ≡ Some old.replies
    → (before moments : List Instant) → before ≡ [] → (answer : Result Outcome OperationFault)
    → (IsErrOf answer TransportFault → HasGivenAll (Some new.replies) (Some (replied_of new)))
    → Operates (λ given. GivesFirst given_ids given ids_now) G parts bag now (over (Some old.sent) (Some new.sent) (Some (replied_of old)) (Some (replied_of new)) before moments) answer
    → GoesOver parts at (map (round_at at) old.replies) new.sent answer
over_script G parts bag now first given_ids ids_now only at fixed old new unsent settled before moments none answer used operates =
    let same : new.replies ≡ old.replies = cc in
    let all : IsErrOf answer TransportFault → length old.replies ≤ length (take (length new.sent) old.replies) = rw same at used in
    operates_over G parts bag now first given_ids ids_now only at old.replies fixed new.sent moments answer all (rw (same, unsent, none) at operates)
