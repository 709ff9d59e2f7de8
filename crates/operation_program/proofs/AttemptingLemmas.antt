-- What an operation over the replies of its input does, by what is promised of each operation.
use Rattle.std.proofs.Common.{◌≡◌, ℕ, ℤ, suc, ◌+◌, ◌<◌, ◌≤◌, Bool, true, false, List, [], ◌∷◌, ◌++◌, drop, length, map, min, take, Option, Some, None, option_map, refl, ap, arith, sym, subst, ◌∙◌}
use Rattle.std.specs.Prelude.{Result, Ok, Err, codes, string_bytes, if◌then◌else◌, pos}
use Rattle.std.specs.Option.{option_or}
use Rattle.std.proofs.lemmas.List.{length-map, length-take, map-append, take-append-drop, take-map}
use Rattle.smithy_core.specs.Civil.{is_in_years}
use Rattle.smithy_core.specs.Identity.{secret_of}
use Rattle.smithy_core.specs.Moment.{Instant}
use Rattle.smithy_core.specs.TextPairs.{inserted}
use Rattle.smithy_http.specs.Target.{Target}
use Rattle.sigv4.specs.Request.{Case, key_id_of, token_of}
use Rattle.sigv4.specs.Settings.{default_settings}
use Rattle.sigv4.specs.Signed.{signed_headers, signed_target}
use Rattle.aws_auth.specs.Inputs.{ChosenInputs, chosen, chosen_case}
use Rattle.aws_auth.specs.Moment.{signing_moment}
use Rattle.aws_auth.specs.Signer.{SpellsAs, out_of_years, refusal_before_override, unsigned_target}
use Rattle.aws_auth.specs.declared.error.SigV4SigningError.{SigV4SigningError}
use Rattle.aws_auth.specs.declared.error.SigV4SigningError.TheVariants.{Signing}
use Rattle.sigv4.specs.declared.error.SigningError.TheVariants.{MomentOutOfRange}
use Rattle.sigv4.specs.Refusal.{unfit_request}
use Rattle.aws_auth.specs.declared.options.HttpSignatureType.TheVariants.{HttpRequestHeaders}
use Rattle.aws_intercept.specs.Agent.{agent_for_tests, agent_text}
use Rattle.aws_intercept.specs.ClockSkew.{is_off, response_with_skew}
use Rattle.aws_intercept.specs.Interceptor.{with_agent_text}
use Rattle.aws_intercept.specs.Invocation.{with_id_header}
use Rattle.aws_intercept.specs.Recursion.{traced}
use Rattle.aws_intercept.specs.RequestInfo.{info_text}
use Rattle.aws_intercept.specs.declared.bag.ConfigBag.{ConfigBag}
use Rattle.operation_run.specs.Again.{Round, attempt_bag, attempts, is_again, is_worth_more, known_skew, leading, most_attempts, own_skew, round_skew}
use Rattle.operation_run.specs.Attempt.{IsSent, OperationParts, RefusesSigning, attempt_case, attempt_refusal, skewed_inputs}
use Rattle.operation_run.specs.Attempts.{AreSent}
use Rattle.operation_run.specs.Reply.{ReplyTexts, RequestTexts}
use Rattle.operation_run.specs.declared.fault.OperationFault.{OperationFault}
use Rattle.operation_run.specs.declared.fault.OperationFault.TheVariants.{Id, Agent, Sign, TransportFault, NoMemory}
use Rattle.operation_run.specs.declared.reply.Outcome.{Outcome}
use Rattle.operation_run.proofs.AgainLemmas.{leading_within}
use Rattle.operation_run.proofs.BagLemmas.{skew_on}
use Rattle.signed_stream.specs.Plan.{TargetRead, TargetSpells, accepted, unaccepted, unread}
use Rattle.signed_stream.specs.Chain.{outside_years}
use Rattle.signed_stream.specs.Sign.{IsRequestError, Unsigned, error_ending, target_fault}
use Rattle.signed_stream.specs.Status.{Ending, RunFault, no_memory, refused}
use Rattle.signed_stream.proofs.SignLemmas.{RefusesFor, outside_refuses, passed_fault, target_refuses}
use Rattle.signed_stream.proofs.TargetLemmas.{reads_one, reads_one_way}
use Rattle.operation_program.specs.Attempting.{Scripted, attempts_made, first_attempt_end, heads_text, operation_outcome, scripted_case, scripted_fault, scripted_moment, scripted_request, scripted_rounds, unless_stopped}
use Rattle.operation_program.specs.Outcome.{GivesOutcome, HaltsAttempts}
use Rattle.operation_run.specs.Over.{GoesOver, IsBegunBag}
use Rattle.operation_run.specs.Rounds.{first_there, fronts, is_retried, is_used_up, round_at, skew_after, standard_attempts, tries}
use Rattle.operation_program.specs.Status.{transport_fault, usual}
use Rattle.operation_run.proofs.ListLemmas.{first_there-append, first_there-more, fronts_next, leading_same, map_same, not_used_up, used_up}
use Rattle.operation_run.proofs.OverLemmas.{agent_is, info_is}

-- ## The bag

module _ (bag : ConfigBag) (begun : IsBegunBag bag) where
  on : is_off bag ≡ false
  on = let set = begun.is_empty.disable_skew in rw (begun.made, set) refl

  retried : (round : Round) → is_again bag round ≡ is_retried round
  retried round = ap (λ (skew : Option ℤ). is_worth_more (record round.reply { response = response_with_skew skew round.reply.response })) (skew_on bag round on)

  -- how many attempts are made
  pub tries_are : (rounds : List Round) → attempts bag rounds ≡ tries rounds
  tries_are rounds =
      let most : most_attempts bag ≡ standard_attempts = rw begun.made refl in
      ap (λ n. min n (leading (is_again bag) rounds + 1)) most ∙ ap (λ n. min standard_attempts (n + 1)) (leading_same (is_again bag) is_retried retried rounds)

  -- the skew that is known
  pub skew_is : (before : List Round) → (attempt_bag bag before).attempt_skew ≡ skew_after before
  skew_is before =
      let first : bag.attempt_skew ≡ Some (pos 0) = ap (λ (b : ConfigBag). b.attempt_skew) begun.made in
      ap (λ skew. known_skew skew (map (round_skew bag) before)) first ∙ ap (known_skew (Some (pos 0))) (map_same (round_skew bag) own_skew (λ round. skew_on bag round on) before)

-- what an operation is given says what it is done with
pub record IsPartsOf (s : Scripted) (parts : OperationParts) : Type 0 where
  pub method : string_bytes parts.request.method ≡ s.request.method
  pub target : string_bytes parts.request.target ≡ s.request.target
  pub headers : parts.request.headers ≡ s.request.headers
  pub body : parts.request.body ≡ s.request.body
  pub env : parts.env ≡ s.env
  pub before : (skew : Option ℤ) → refusal_before_override parts.identity (record parts.inputs { skew_millis = skew }) ≡ None
  pub chosen_is : (skew : Option ℤ) → chosen (record parts.inputs { skew_millis = skew }) s.at
      ≡ record { region = Some s.selected.region; name = Some s.name; payload = None; settings = default_settings; at = signing_moment s.at HttpRequestHeaders skew }
  pub key_id : key_id_of parts.identity ≡ s.selected.key_id
  pub token : token_of parts.identity ≡ s.selected.token
  pub secret : secret_of parts.identity ≡ s.selected.secret

module _ (s : Scripted) (parts : OperationParts) (is : IsPartsOf s parts) (bag : ConfigBag) (begun : IsBegunBag bag) where
  -- ## One attempt

  -- its case
  case_is : (before : List Round) (target : Target) → attempt_case parts (attempt_bag bag before) s.at target ≡ scripted_case s before target
  case_is before target =
      let dressed_headers = traced parts.env parts.request.headers in
      ap (λ headers. chosen_case (record parts.request { headers = headers }) parts.identity (chosen (skewed_inputs parts.inputs (attempt_bag bag before)) s.at) None target) (agent_is bag begun before dressed_headers)
      ∙ ap (λ (choice : ChosenInputs). chosen_case (record parts.request { headers = with_agent_text dressed_headers (agent_text agent_for_tests) }) parts.identity choice None target) (is.chosen_is (attempt_bag bag before).attempt_skew)
      ∙ rw (skew_is bag begun before, is.method, is.headers, is.body, is.env, is.key_id, is.token, is.secret) refl

  -- the request of a case, with an id and the attempt's number
  abbrev with_parts : Case → Option (List ℕ) → List ℕ → RequestTexts
  with_parts c id info = record {
    method = string_bytes parts.request.method;
    target = signed_target c (string_bytes parts.request.target);
    headers = inserted (with_id_header (signed_headers c) id) (codes "amz-sdk-request") info;
    body = parts.request.body;
  }

  -- it sends its request, and no test fails
  passes : (before : List Round) (request : RequestTexts) → (sent : IsSent parts (attempt_bag bag before) s.at request)
      → (request ≡ scripted_request s sent.target before) × (scripted_fault s (accepted sent.target) before ≡ None) × TargetSpells s.request.target (accepted sent.target)
  passes before request sent =
      let case = case_is before sent.target in
      let at = scripted_moment s before in
      let passed = rw (is.before (attempt_bag bag before).attempt_skew, case, is.chosen_is (attempt_bag bag before).attempt_skew, skew_is bag begun before) at sent.passed in
      let id : bag.invocation_id ≡ Some (codes "invocation-1") = ap (λ (b : ConfigBag). b.invocation_id) begun.made in (
        sent.made ∙ ap (λ (c : Case). with_parts c bag.invocation_id (info_text s.at (attempt_bag bag before))) case
            ∙ ap (λ given. with_parts (scripted_case s before sent.target) given (info_text s.at (attempt_bag bag before))) id
            ∙ ap (λ info. with_parts (scripted_case s before sent.target) (Some (codes "invocation-1")) info) (info_is bag begun before s.at) ∙ rw (is.method, is.target, is.body) refl,
        passed_fault (is_in_years at) at (unfit_request (scripted_case s before sent.target)) passed,
        rw is.target at sent.read,
      )

  -- it is refused
  refused_for : (before : List Round) (error : SigV4SigningError) → RefusesSigning parts (attempt_bag bag before) s.at error
      → RefusesFor s.request.target (scripted_moment s before) (scripted_case s before) error
  refused_for before error refusal = by_years (is_in_years at) refl reads (refuses refusal.target refusal.refused)
    where
      at : Instant
      at = scripted_moment s before

      skew : Option ℤ
      skew = (attempt_bag bag before).attempt_skew

      reads : out_of_years at ≡ None → SpellsAs s.request.target refusal.target
      reads fine = rw is.target at (refusal.read (is.before skew) (rw (is.chosen_is skew, skew_is bag begun before) fine))

      refuses : (target : Option Target) → attempt_refusal parts (attempt_bag bag before) s.at target ≡ Some error
          → option_or (out_of_years at) (option_map Signing (unsigned_target (scripted_case s before) target)) ≡ Some error
      refuses None failed = rw (is.before skew, is.chosen_is skew, skew_is bag begun before) at failed
      refuses (Some target) failed = rw (is.before skew, case_is before target, is.chosen_is skew, skew_is bag begun before) at failed

      by_years : (years : Bool) → is_in_years at ≡ years → (out_of_years at ≡ None → SpellsAs s.request.target refusal.target)
          → option_or (if years then None else Some (Signing (MomentOutOfRange at))) (option_map Signing (unsigned_target (scripted_case s before) refusal.target)) ≡ Some error
          → RefusesFor s.request.target at (scripted_case s before) error
      by_years false outside spelled stopped = outside_refuses _ at _ error outside (let same : error ≡ Signing (MomentOutOfRange at) = cc in same)
      by_years true within spelled stopped = target_refuses _ at _ error refusal.target within (spelled (rw within refl)) stopped

  -- ## Attempt after attempt

  module _ (target : Target) (spells : TargetSpells s.request.target (accepted target)) where
    -- a request that is sent is that of this target
    sends_one : (before : List Round) (request : RequestTexts) → IsSent parts (attempt_bag bag before) s.at request
        → (request ≡ scripted_request s target before) × (scripted_fault s (accepted target) before ≡ None)
    sends_one before request sent =
        let now = passes before request sent in
        let same : sent.target ≡ target = reads_one s.request.target sent.target target now.2 spells in
        (now.0 ∙ ap (λ t. scripted_request s t before) same, subst (λ t. scripted_fault s (accepted t) before ≡ None) same now.1)

    -- the attempts that were answered sent their requests, and none was refused
    sends_all : (before : List Round) (replies : List ReplyTexts) (later : List Round) (requests : List RequestTexts) → AreSent parts bag before (map (round_at s.at) replies) requests
        → let made = take (length replies) (fronts before (map (round_at s.at) replies ++ later)) in
        (requests ≡ map (scripted_request s target) made) × (first_there (map (scripted_fault s (accepted target)) made) ≡ None)
    sends_all before [] later requests none = (none, refl)
    sends_all before (reply ∷ replies) later [] sent = absurd sent
    sends_all before (reply ∷ replies) later (request ∷ requests) (own, sent) =
        let now = sends_one before request own in
        let rest = sends_all (before ++ round_at s.at reply ∷ []) replies later requests sent in
        (ap (λ r. r ∷ requests) now.0 ∙ ap (λ rs. scripted_request s target before ∷ rs) rest.0, rw (now.1) rest.1)

  -- the target of a request that was sent
  sent_target : (replies : List ReplyTexts) (requests : List RequestTexts) → AreSent parts bag [] (map (round_at s.at) replies) requests → 1 ≤ length replies
      → (target : Target) × TargetSpells s.request.target (accepted target)
  sent_target [] requests sent some = absurd (omega (arith, some))
  sent_target (reply ∷ replies) [] sent some = absurd sent
  sent_target (reply ∷ replies) (request ∷ requests) (own, sent) some = (own.target, (passes [] request own).2)

  -- ## The end

  module _ (count : ℕ) (within : count ≤ length (scripted_rounds s)) (sent : List RequestTexts) (are_sent : AreSent parts bag [] (take count (scripted_rounds s)) sent) where
    -- the replies that were given, and the attempts behind these
    abbrev given : List ReplyTexts
    given = take count s.replies

    abbrev later : List Round
    later = drop count (scripted_rounds s)

    first_rounds : take count (scripted_rounds s) ≡ map (round_at s.at) given
    first_rounds = take-map (round_at s.at) count s.replies

    all_rounds : scripted_rounds s ≡ map (round_at s.at) given ++ later
    all_rounds = sym (take-append-drop count (scripted_rounds s)) ∙ ap (λ rounds. rounds ++ later) first_rounds

    count_is : length given ≡ count
    count_is =
        let most = length-take count s.replies in let long = length-map s.replies (round_at s.at) in let fits = within in omega (arith, most, long, fits)

    were_sent : AreSent parts bag [] (map (round_at s.at) given) sent
    were_sent = subst (λ rounds. AreSent parts bag [] rounds sent) first_rounds are_sent

    -- the attempts that were answered, of those that are made
    abbrev answered_fronts : List (List Round)
    answered_fronts = take (length given) (fronts [] (map (round_at s.at) given ++ later))

    -- so many are made, and so many more than were answered
    made_as : tries (scripted_rounds s) ≡ count → attempts_made s ≡ answered_fronts
    made_as same = ap (λ n. take n (fronts [] (scripted_rounds s))) (same ∙ sym count_is) ∙ ap (λ rounds. take (length given) (fronts [] rounds)) all_rounds

    made_next : take (suc count) (fronts [] (scripted_rounds s)) ≡ answered_fronts ++ map (round_at s.at) given ∷ []
    made_next =
        ap (λ n. take (suc n) (fronts [] (scripted_rounds s))) (sym count_is) ∙ ap (λ rounds. take (suc (length given)) (fronts [] rounds)) all_rounds
        ∙ subst (λ n. take (suc n) (fronts [] (map (round_at s.at) given ++ later)) ≡ take n (fronts [] (map (round_at s.at) given ++ later)) ++ map (round_at s.at) given ∷ []) (length-map given (round_at s.at))
        (fronts_next [] (map (round_at s.at) given) later)

    counted : (n : ℕ) → n ≡ attempts bag (scripted_rounds s) → tries (scripted_rounds s) ≡ n
    counted n is = sym (tries_are bag begun (scripted_rounds s)) ∙ sym is

    -- it is done
    done_as : (number : ℕ) → number ≡ count → count ≡ attempts bag (scripted_rounds s)
        → (target : Target) × TargetSpells s.request.target (accepted target) × (operation_outcome s (accepted target) ≡ Ok (heads_text sent number))
    done_as number numbered all =
        let rounds = scripted_rounds s in
        let counts = counted count all in
        let long = count_is in
        let found = sent_target given sent were_sent (omega (arith, counts, long)) in
        let got = sends_all found.0 found.1 [] given later sent were_sent in
        let enough : min standard_attempts (leading is_retried rounds + 1) ≤ length rounds = (let fits = within in omega (arith, counts, fits)) in
        let used = not_used_up is_retried standard_attempts rounds enough in
        let fault = scripted_fault s (accepted found.0) in
        let request = scripted_request s found.0 in (
          found.0,
          found.1,
          ap (λ made. unless_stopped (first_there (map fault made)) (is_used_up rounds) (heads_text (map request made) (tries rounds))) (made_as counts)
              ∙ ap (λ first. unless_stopped first (is_used_up rounds) (heads_text (map request answered_fronts) (tries rounds))) got.1
              ∙ ap (λ u. unless_stopped None u (heads_text (map request answered_fronts) (tries rounds))) used
              ∙ ap (λ requests. Ok (heads_text requests (tries rounds))) (sym got.0) ∙ ap (λ n. Ok (heads_text sent n)) (counts ∙ sym numbered),
        )

    -- the next attempt
    abbrev last : List Round
    last = map (round_at s.at) given

    -- the replies are used up
    fails_as : count ≡ length (scripted_rounds s) → count < attempts bag (scripted_rounds s) → (request : RequestTexts)
        → IsSent parts (attempt_bag bag (take count (scripted_rounds s))) s.at request
        → (target : Target) × TargetSpells s.request.target (accepted target) × (operation_outcome s (accepted target) ≡ Err transport_fault)
    fails_as full below request sends =
        let rounds = scripted_rounds s in
        let own : IsSent parts (attempt_bag bag last) s.at request = subst (λ before. IsSent parts (attempt_bag bag before) s.at request) first_rounds sends in
        let target = own.target in
        let spells = (passes last request own).2 in
        let got = sends_all target spells [] given later sent were_sent in
        let one = sends_one target spells last request own in
        let alike = tries_are bag begun rounds in
        let most = leading_within is_retried rounds in
        let next : tries rounds ≡ suc count = omega (arith, alike, below, full, most) in
        let used = used_up is_retried standard_attempts rounds (omega (arith, next, full)) in
        let fault = scripted_fault s (accepted target) in
        let sent_of = scripted_request s target in
        let made : attempts_made s ≡ answered_fronts ++ last ∷ [] = ap (λ n. take n (fronts [] rounds)) next ∙ made_next in
        let passed : first_there (map fault (answered_fronts ++ last ∷ [])) ≡ None = (ap first_there (map-append fault answered_fronts (last ∷ []))
        ∙ first_there-append (map fault answered_fronts) (fault last ∷ []) ∙ ap (λ f. option_or f (option_or (fault last) None)) got.1 ∙ ap (λ f. option_or f None) one.1) in (
          target,
          spells,
          ap (λ m. unless_stopped (first_there (map fault m)) (is_used_up rounds) (heads_text (map sent_of m) (tries rounds))) made
              ∙ ap (λ first. unless_stopped first (is_used_up rounds) (heads_text (map sent_of (answered_fronts ++ last ∷ [])) (tries rounds))) passed
              ∙ ap (λ u. unless_stopped None u (heads_text (map sent_of (answered_fronts ++ last ∷ [])) (tries rounds))) used,
        )

    -- a request is refused
    known_refused : count < attempts bag (scripted_rounds s) → (target : Target) → TargetSpells s.request.target (accepted target) → (reason : RunFault) → scripted_fault s (accepted target) last ≡ Some reason
        → operation_outcome s (accepted target) ≡ Err (usual (refused reason))
    known_refused below target spells reason is =
        let rounds = scripted_rounds s in
        let all = fronts [] rounds in
        let got = sends_all target spells [] given later sent were_sent in
        let fault = scripted_fault s (accepted target) in
        let sent_of = scripted_request s target in
        let alike = tries_are bag begun rounds in
        let fits : suc count ≤ tries rounds = omega (arith, alike, below) in
        let first : first_there (map fault (take (suc count) all)) ≡ Some reason = (ap (λ m. first_there (map fault m)) made_next ∙ ap first_there (map-append fault answered_fronts (last ∷ []))
        ∙ first_there-append (map fault answered_fronts) (fault last ∷ []) ∙ ap (λ f. option_or f (option_or (fault last) None)) got.1 ∙ ap (λ f. option_or f None) is) in
        let among : first_there (take (suc count) (map fault all)) ≡ Some reason = ap first_there (take-map fault (suc count) all) ∙ first in
        let made : first_there (map fault (attempts_made s)) ≡ Some reason =
        sym (ap first_there (take-map fault (tries rounds) all)) ∙ first_there-more (suc count) (tries rounds) (map fault all) reason fits among in
        ap (λ f. unless_stopped f (is_used_up rounds) (heads_text (map sent_of (attempts_made s)) (tries rounds))) made

    refused_as : count < attempts bag (scripted_rounds s) → (error : SigV4SigningError) → RefusesSigning parts (attempt_bag bag (take count (scripted_rounds s))) s.at error
        → IsRequestError error × HaltsAttempts s (error_ending error)
    refused_as below error refusal =
        let refuses = refused_for last error (subst (λ before. RefusesSigning parts (attempt_bag bag before) s.at error) first_rounds refusal) in
        (refuses.0, by_halt (error_ending error) refuses.1)
      where
        any_rest : (outside other : Option RunFault) (reason : RunFault) → option_or outside None ≡ Some reason → option_or outside other ≡ Some reason
        any_rest None other reason is = cc
        any_rest (Some fault) other reason is = is

        at_first : (before : List Round) → before ≡ [] → (target : TargetRead) → TargetSpells s.request.target target → (reason : RunFault) → scripted_fault s target before ≡ Some reason
            → ((t : Target) → target ≡ accepted t → operation_outcome s target ≡ Err (usual (refused reason)))
            → operation_outcome s target ≡ Err (usual (refused reason))
        at_first before none unread spells reason is known = ap (λ f. Err (first_attempt_end f)) (ap (scripted_fault s unread) (sym none) ∙ is)
        at_first before none unaccepted spells reason is known = ap (λ f. Err (first_attempt_end f)) (ap (scripted_fault s unaccepted) (sym none) ∙ is)
        at_first before none (accepted t) spells reason is known = known t refl

        later_on : (t : Target) → TargetSpells s.request.target (accepted t) → (target : TargetRead) → TargetSpells s.request.target target → (reason : RunFault) → scripted_fault s target last ≡ Some reason
            → scripted_fault s (accepted t) last ≡ Some reason
        later_on t found unread spells reason is = any_rest (outside_years (scripted_moment s last)) (target_fault (scripted_case s last) (accepted t)) reason is
        later_on t found unaccepted spells reason is = absurd (reads_one_way s.request.target t spells found)
        later_on t found (accepted other) spells reason is = ap (λ o. scripted_fault s (accepted o) last) (reads_one s.request.target t other found spells) ∙ is

        by_given : (replies : List ReplyTexts) → given ≡ replies → (target : TargetRead) → TargetSpells s.request.target target → (reason : RunFault) → scripted_fault s target last ≡ Some reason
            → HaltsAttempts s (refused reason)
        by_given [] none target spells reason is =
            (target, spells, at_first last (ap (map (round_at s.at)) none) target spells reason is (by_accepted target spells is))
          where
            by_accepted : (target : TargetRead) → TargetSpells s.request.target target → scripted_fault s target last ≡ Some reason → (t : Target) → target ≡ accepted t
                → operation_outcome s target ≡ Err (usual (refused reason))
            by_accepted target spells is t same =
                subst (λ r. operation_outcome s r ≡ Err (usual (refused reason))) (sym same)
                (known_refused below t (subst (TargetSpells s.request.target) same spells) reason (subst (λ r. scripted_fault s r last ≡ Some reason) same is))
        by_given (reply ∷ replies) some target spells reason is =
            let long : 1 ≤ length given = (let more : length given ≡ suc (length replies) = ap length some in omega (arith, more)) in
            let found = sent_target given sent were_sent long in
            (accepted found.0, found.1, known_refused below found.0 found.1 reason (later_on found.0 found.1 target spells reason is))

        by_halt : (halt : Ending) → Unsigned s.request.target (scripted_moment s last) (scripted_case s last) halt → HaltsAttempts s halt
        by_halt (refused reason) (target, spells, is) = by_given given refl target spells reason is
        by_halt no_memory free = tt
        by_halt other wrong = absurd wrong

-- ## What is answered

-- an operation over replies gives its outcome
pub gives_outcome : (s : Scripted) (parts : OperationParts) → IsPartsOf s parts → (sent : List RequestTexts) (answer : Result Outcome OperationFault) → GoesOver parts s.at (scripted_rounds s) sent answer
    → GivesOutcome s sent answer
gives_outcome s parts is sent (Ok outcome) over = done_as s parts is over.bag over.begun over.count over.within sent over.are_sent outcome.attempts over.ends.0 over.ends.1
gives_outcome s parts is sent (Err TransportFault) over =
    fails_as s parts is over.bag over.begun over.count over.within sent over.are_sent over.ends.0 over.ends.1 over.ends.2.0 over.ends.2.1
gives_outcome s parts is sent (Err (Sign error)) over = refused_as s parts is over.bag over.begun over.count over.within sent over.are_sent over.ends.0 error over.ends.1
gives_outcome s parts is sent (Err (Agent fault)) over = over.ends
gives_outcome s parts is sent (Err (Id fault)) over = over.ends
gives_outcome s parts is sent (Err NoMemory) over = tt
