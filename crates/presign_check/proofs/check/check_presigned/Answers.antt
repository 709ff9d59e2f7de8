use Rattle.std.proofs.Common.{ℕ, List, Err, rules, ap, ◌∙◌, subst}
use Rattle.std.proofs.lemmas.Int.{to_z-of_z}
use mir.Syntax.{w128}
use mir.Val.{SFits}
use Rattle.std.proofs.lemmas.Result.{err_from_is_err_and}
use Rattle.smithy_core.specs.Moment.{Instant}
use Rattle.smithy_core.specs.TextPairs.{text_pairs}
use Rattle.smithy_core.specs.declared.request.HttpRequest.{HttpRequest}
use Rattle.sigv4.specs.Body.{payload_text}
use Rattle.sigv4.specs.Query.{Pair}
use Rattle.sigv4.specs.Settings.{Settings, settings_of}
use Rattle.presign_check.specs.Parameters.{FindsParameters, texts_read}
use Rattle.presign_check.specs.Presigned.{PresignInput}
use Rattle.presign_check.proofs.OrderLemmas.{has_once, has_read, miscounted, misformed, missigned, mistimed, no_query, passes, reading_of}
use Rattle.presign_check.proofs.check.check_presigned.Goals as goal

-- what is asked, of the arguments
abbrev input : HttpRequest → Settings → List ℕ → List ℕ → List ℕ → List ℕ → List ℕ → Instant → PresignInput
input request settings payload secret region name key_id now = record {
  request = request;
  settings = settings;
  payload = payload;
  signer = record { secret = secret; region = region; name = name };
  key_id = key_id;
  now = now;
}

pub returns-in_err-uri : goal.returns-in_err-uri
returns-in_err-uri c =
    let asked = input c.args.request.now (settings_of c.args.settings.now) (payload_text c.args.body.now) c.args.secret.now c.args.region.now c.args.name.now
    c.args.key_id.now c.args.now in
    let exit = err_from_is_err_and c.from_residual.result c.from_residual.ensures.1 in
    rw (exit.1, exit.2) (no_query asked _ c.in_err-uri.ensures)

pub returns-in_err-parameters : goal.returns-in_err-parameters
returns-in_err-parameters c =
    let asked = input c.args.request.now (settings_of c.args.settings.now) (payload_text c.args.body.now) c.args.secret.now c.args.region.now c.args.name.now
    c.args.key_id.now c.args.now in
    let same = ap text_pairs c.as_slice.ensures.value ∙ c.in_ok-pairs.ensures in
    let exit = err_from_is_err_and c.from_residual-in_err-parameters.result c.from_residual-in_err-parameters.ensures.1 in
    let counted = subst (λ (pairs : List Pair). FindsParameters pairs (Err c.in_err-parameters.field-0.0)) same c.in_err-parameters.ensures in
    rw (exit.1, exit.2) (miscounted asked c.in_ok-uri.uri _ c.in_ok-uri.ensures counted)

pub returns-in_err-terms : goal.returns-in_err-terms
returns-in_err-terms c =
    let asked = input c.args.request.now (settings_of c.args.settings.now) (payload_text c.args.body.now) c.args.secret.now c.args.region.now c.args.name.now
    c.args.key_id.now c.args.now in
    let same = ap text_pairs c.as_slice.ensures.value ∙ c.in_ok-pairs.ensures in
    let exit = err_from_is_err_and c.from_residual-in_err-terms.result c.from_residual-in_err-terms.ensures.1 in
    let once = has_once c.in_ok-uri.uri (text_pairs c.as_slice.result.now) c.in_ok-parameters.parameters same c.in_ok-parameters.ensures in
    rw (exit.1, exit.2) (misformed asked c.in_ok-uri.uri (texts_read c.in_ok-parameters.parameters) _ c.in_ok-uri.ensures once c.in_err-terms.ensures)

pub returns-in_err-until : goal.returns-in_err-until
returns-in_err-until c =
    let asked = input c.args.request.now (settings_of c.args.settings.now) (payload_text c.args.body.now) c.args.secret.now c.args.region.now c.args.name.now
    c.args.key_id.now c.args.now in
    let same = ap text_pairs c.as_slice.ensures.value ∙ c.in_ok-pairs.ensures in
    let reading = reading_of c.in_ok-uri.uri c.in_ok-parameters.parameters c.in_ok-terms.terms in
    let has = has_read c.args.request.now asked.signer c.in_ok-uri.uri (text_pairs c.as_slice.result.now) c.in_ok-parameters.parameters c.in_ok-terms.terms
    c.in_ok-uri.ensures same c.in_ok-parameters.ensures c.in_ok-terms.ensures in
    let exit = err_from_is_err_and c.from_residual-in_err-until.result c.from_residual-in_err-until.ensures.1 in
    rw (exit.1, exit.2) (mistimed asked reading _ has c.in_err-until.ensures)

pub test_signature-requires : goal.test_signature-requires
test_signature-requires c =
    let asked = input c.args.request.now (settings_of c.args.settings.now) (payload_text c.args.body.now) c.args.secret.now c.args.region.now c.args.name.now
    c.args.key_id.now c.args.now in
    let same = ap text_pairs c.as_slice.ensures.value ∙ c.in_ok-pairs.ensures in
    let reading = reading_of c.in_ok-uri.uri c.in_ok-parameters.parameters c.in_ok-terms.terms in
    let has = has_read c.args.request.now asked.signer c.in_ok-uri.uri (text_pairs c.as_slice.result.now) c.in_ok-parameters.parameters c.in_ok-terms.terms
    c.in_ok-uri.ensures same c.in_ok-parameters.ensures c.in_ok-terms.ensures in
    record { reading = reading; has = has }

pub returns-in_err-test_signature : goal.returns-in_err-test_signature
returns-in_err-test_signature c =
    let asked = input c.args.request.now (settings_of c.args.settings.now) (payload_text c.args.body.now) c.args.secret.now c.args.region.now c.args.name.now
    c.args.key_id.now c.args.now in
    let same = ap text_pairs c.as_slice.ensures.value ∙ c.in_ok-pairs.ensures in
    let reading = reading_of c.in_ok-uri.uri c.in_ok-parameters.parameters c.in_ok-terms.terms in
    let has = has_read c.args.request.now asked.signer c.in_ok-uri.uri (text_pairs c.as_slice.result.now) c.in_ok-parameters.parameters c.in_ok-terms.terms
    c.in_ok-uri.ensures same c.in_ok-parameters.ensures c.in_ok-terms.ensures in
    let exit = err_from_is_err_and c.from_residual-in_err-test_signature.result c.from_residual-in_err-test_signature.ensures.1 in
    rw (exit.1, exit.2) (missigned asked reading c.in_ok-until.until _ has c.in_ok-until.ensures (c.in_err-test_signature.ensures reading has))

pub returns : goal.returns
returns c =
    let asked = input c.args.request.now (settings_of c.args.settings.now) (payload_text c.args.body.now) c.args.secret.now c.args.region.now c.args.name.now
    c.args.key_id.now c.args.now in
    let same = ap text_pairs c.as_slice.ensures.value ∙ c.in_ok-pairs.ensures in
    let reading = reading_of c.in_ok-uri.uri c.in_ok-parameters.parameters c.in_ok-terms.terms in
    let has = has_read c.args.request.now asked.signer c.in_ok-uri.uri (text_pairs c.as_slice.result.now) c.in_ok-parameters.parameters c.in_ok-terms.terms
    c.in_ok-uri.ensures same c.in_ok-parameters.ensures c.in_ok-terms.ensures in
    let fits : SFits w128 c.in_ok-until.until = search rules in
    rw (to_z-of_z w128 c.in_ok-until.until fits) (passes asked reading c.in_ok-until.until has c.in_ok-until.ensures (c.in_ok-test_signature.ensures reading has))
