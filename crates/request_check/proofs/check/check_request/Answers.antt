use Rattle.std.proofs.Common.{None, Ok, Err, refl, ◌∙◌}
use Rattle.std.proofs.lemmas.Result.{err_from_is_err_and}
use Rattle.eventstream.specs.Key.{Signer}
use Rattle.sigv4.specs.Body.{payload_text}
use Rattle.sigv4.specs.Settings.{settings_of}
use Rattle.request_check.specs.Recomputed.{ChecksRequest}
use Rattle.request_check.specs.Sealed.{FindsSeal}
use Rattle.request_check.specs.declared.check.CheckRequestFault.TheVariants.{NoSignature}
use Rattle.request_check.specs.declared.check.Checked.{Checked}
use Rattle.request_check.proofs.AlikeLemmas.{recomputes}
use Rattle.request_check.proofs.UnfitLemmas.{unchecked}
use Rattle.request_check.proofs.check.check_request.Goals as goal

pub returns : goal.returns
returns c =
    let sent = c.args.sent.now in
    let seal = c.in-Some.seal in
    let settings = settings_of c.args.settings.now in
    let payload = payload_text c.args.body.now in
    let signer : Signer = record { secret = c.args.secret.now; region = c.args.region.now; name = c.args.name.now } in
    let answer : Checked = record { carried = c.in_ok-carried.carried; recomputed = c.in_ok-recomputed.recomputed; seal = seal } in
    let checks : ChecksRequest sent settings payload signer (Ok answer) = record {
      seal = seal;
      uri = c.in_ok-uri.uri;
      sealed = rw c.in-Some.is at c.in_ok-seal.ensures;
      spelled = c.in_ok-uri.ensures.0;
      fit = c.in_ok-uri.ensures.1;
      carried = c.in_ok-carried.ensures.ok ∙ c.signature.ensures;
      seal_is = refl;
      recomputed_is = c.in_ok-recomputed.ensures;
    } in
    record { checks = checks; recomputes = recomputes sent settings payload signer (Ok answer) checks }

pub returns-in_default-clause-recomputes : goal.returns-in_default-clause-recomputes
returns-in_default-clause-recomputes c =
    let sent = c.args.sent.now in
    let signer : Signer = record { secret = c.args.secret.now; region = c.args.region.now; name = c.args.name.now } in
    let none : FindsSeal sent signer.region signer.name None = rw c.in_default.is at c.in_ok-seal.ensures in
    recomputes sent (settings_of c.args.settings.now) (payload_text c.args.body.now) signer (Err NoSignature) none

pub returns-in_err-uri-clause-recomputes : goal.returns-in_err-uri-clause-recomputes
returns-in_err-uri-clause-recomputes c =
    let sent = c.args.sent.now in
    let settings = settings_of c.args.settings.now in
    let payload = payload_text c.args.body.now in
    let signer : Signer = record { secret = c.args.secret.now; region = c.args.region.now; name = c.args.name.now } in
    let result = c.from_residual-in_err-uri.result in
    let exit = err_from_is_err_and result c.from_residual-in_err-uri.ensures.1 in
    let sealed = rw c.in-Some.is at c.in_ok-seal.ensures in
    let checks : ChecksRequest sent settings payload signer result =
    rw (exit.1, exit.2) (unchecked sent settings payload signer c.in-Some.seal c.in_err-uri.field-0.0 sealed c.in_err-uri.ensures) in
    recomputes sent settings payload signer result checks
