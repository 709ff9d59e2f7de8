-- The request that an attempt prepares.
use Rattle.std.proofs.Common.{◌≡◌, Some, None, refl, ap, sym, ◌∙◌}
use Rattle.std.specs.Prelude.{Ok, Err, codes, string_bytes}
use Rattle.smithy_core.specs.Moment.{Instant}
use Rattle.smithy_core.specs.TextPairs.{inserted}
use Rattle.smithy_core.specs.declared.request.HttpRequest.{HttpRequest}
use Rattle.sigv4.specs.Signed.{signed_headers, signed_target}
use Rattle.aws_auth.specs.Inputs.{chosen}
use Rattle.aws_auth.specs.declared.error.SigV4SigningError.{SigV4SigningError}
use Rattle.aws_intercept.specs.Invocation.{with_id_header}
use Rattle.aws_intercept.specs.Recursion.{traced}
use Rattle.aws_intercept.specs.RequestInfo.{info_text}
use Rattle.aws_intercept.specs.declared.bag.ConfigBag.{ConfigBag}
use Rattle.operation_run.specs.Attempt.{IsSent, OperationParts, PassesAgent, RefusesSigning, attempt_case, dressed, skewed_inputs, with_bag_agent}
use Rattle.operation_run.specs.Reply.{RequestTexts, request_texts}
use Rattle.operation_run.specs.Steps.{SignsAt}
use Rattle.operation_run.specs.declared.fault.OperationFault.TheVariants.{Sign}
use Rattle.operation_run.proofs.SigningLemmas.{same_case, same_refusal}

-- requests of the same texts
same_texts : (request : HttpRequest) (texts : RequestTexts) → string_bytes request.method ≡ texts.method → string_bytes request.target ≡ texts.target
    → request.headers ≡ texts.headers → request.body ≡ texts.body → request_texts request ≡ texts
same_texts request texts method target headers body = rw (method, target, headers, body) refl

module _ (parts : OperationParts) (bag : ConfigBag) (copy worn : HttpRequest)
    (copies : request_texts copy ≡ request_texts parts.request) (agent : PassesAgent bag)
    (headers : worn.headers ≡ with_bag_agent bag (traced parts.env copy.headers)) (method : worn.method ≡ copy.method) (target : worn.target ≡ copy.target) (body : worn.body ≡ copy.body) where
  -- the dressed copy says what the dressed request does
  worn_texts : request_texts worn ≡ request_texts (dressed parts bag)
  worn_texts =
      let own : copy.headers ≡ parts.request.headers = ap (λ texts. texts.headers) copies in
      same_texts worn (request_texts (dressed parts bag)) (ap string_bytes method ∙ ap (λ texts. texts.method) copies) (ap string_bytes target ∙ ap (λ texts. texts.target) copies)
      (headers ∙ ap (λ h. with_bag_agent bag (traced parts.env h)) own) (body ∙ ap (λ texts. texts.body) copies)

  -- the copy that was signed and numbered is the request of the attempt
  pub prepared : (signed sent : HttpRequest) (first : Instant) → SignsAt parts.identity (skewed_inputs parts.inputs bag) first worn signed (Ok tt) → signed.method ≡ worn.method → signed.body ≡ worn.body
      → sent.headers ≡ inserted (with_id_header signed.headers bag.invocation_id) (codes "amz-sdk-request") (info_text first bag)
      → sent.method ≡ signed.method → sent.target ≡ signed.target → sent.body ≡ signed.body → IsSent parts bag first (request_texts sent)
  prepared signed sent first (found, spells, passed, signed_heads, signed_to) signed_method signed_body heads sent_method sent_target sent_body =
      let same = same_case worn (dressed parts bag) worn_texts parts.identity (chosen (skewed_inputs parts.inputs bag) first) None found in
      let to : string_bytes worn.target ≡ string_bytes parts.request.target = ap (λ texts. texts.target) worn_texts in
      record {
        agent = agent;
        target = found;
        read = rw to at spells;
        passed = sym (same_refusal worn (dressed parts bag) worn_texts parts.identity (skewed_inputs parts.inputs bag) first (Ok None) (Some found)) ∙ passed;
        made = same_texts sent _
            (ap string_bytes sent_method ∙ ap string_bytes signed_method ∙ ap (λ texts. texts.method) worn_texts)
            (ap string_bytes sent_target ∙ signed_to ∙ ap (λ c. signed_target c (string_bytes worn.target)) same ∙ ap (signed_target (attempt_case parts bag first found)) to)
            (heads ∙ ap (λ h. inserted (with_id_header h bag.invocation_id) (codes "amz-sdk-request") (info_text first bag)) (signed_heads ∙ ap signed_headers same))
            (sent_body ∙ signed_body ∙ ap (λ texts. texts.body) worn_texts);
      }

  -- the copy that isn't signed is refused as the request of the attempt
  pub refused : (signed : HttpRequest) (first : Instant) (error : SigV4SigningError) → SignsAt parts.identity (skewed_inputs parts.inputs bag) first worn signed (Err (Sign error))
      → RefusesSigning parts bag first error
  refused signed first error (found, spells, told) =
      let to : string_bytes worn.target ≡ string_bytes parts.request.target = ap (λ texts. texts.target) worn_texts in
      record {
        agent = agent;
        target = found;
        read = rw to at spells;
        refused = sym (same_refusal worn (dressed parts bag) worn_texts parts.identity (skewed_inputs parts.inputs bag) first (Ok None) found) ∙ told;
      }
