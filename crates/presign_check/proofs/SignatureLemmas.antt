-- The signature of a request that was read, computed again.
use Rattle.std.proofs.Common.{◌≡◌, ℕ, List, [], Some, None, Ok, Err, inl, inr, refl, sym, ap, ◌∙◌, subst}
use Rattle.std.specs.Prelude.{Result, codes, option_and_then, string_bytes}
use Rattle.http_uri.specs.Uri.{Spells}
use Rattle.http_uri.specs.declared.uri.Uri.{Uri}
use Rattle.smithy_core.specs.declared.request.HttpRequest.{HttpRequest}
use Rattle.smithy_http.specs.QueryWriter.{SpellsNoTarget, SpellsTarget}
use Rattle.smithy_http.specs.Target.{IsAuthorityAlone, Target, target_of}
use Rattle.eventstream.specs.Key.{Signer}
use Rattle.sigv4.specs.Query.{decoded}
use Rattle.sigv4.specs.Settings.{Settings}
use Rattle.sigv4.specs.declared.error.SigningError.{SigningError}
use Rattle.request_check.specs.Recomputed.{ChecksRequest, Rechecks, RefusesSent, recomputed, unfit_sent}
use Rattle.request_check.specs.Sealed.{FindsSeal, IsSealed, SealParts, spelled_seconds}
use Rattle.request_check.specs.declared.check.CheckRequestFault.TheVariants.{Signing as Unsigned}
use Rattle.request_check.specs.declared.check.Checked.{Checked}
use Rattle.request_check.proofs.SealLemmas.{one_seal, unsealed_bare}
use Rattle.request_check.proofs.SpelledLemmas.{parts_read}
use Rattle.presign_check.specs.Presigned.{ComparesBoth, HasTerms, HoldsBoth, Reading, TestsSignature, own_signature, seal_in, unfit_reading}
use Rattle.presign_check.specs.declared.fault.PresignFault.{PresignFault}
use Rattle.presign_check.specs.declared.fault.PresignFault.TheVariants.{NoMemory, Signing}
use Rattle.presign_check.proofs.ParameterLemmas.{first_of_one}

-- ---- one target

-- what a text spells is one target
pub one_target : (text : List ℕ) (u v : Uri) → Spells text u → SpellsTarget text v → target_of u ≡ target_of v
one_target text u v spells spelled = parts_read text text v u [] spelled refl spells

-- a text that spells a target doesn't spell none
pub spelled_once : (text : List ℕ) (uri : Uri) → SpellsTarget text uri → SpellsNoTarget text → ⊥
spelled_once text uri spelled (inl none) = none _ _ _ spelled.0
spelled_once text uri spelled (inr other) = spelled.1 (subst IsAuthorityAlone (one_target text other.0 uri other.1 spelled) other.2)

-- ---- the seal

pub sealed : (request : HttpRequest) (signer : Signer) (reading : Reading) → HasTerms request signer reading → IsSealed request signer.region signer.name (seal_in reading)
sealed request signer reading has =
    let pairs = decoded (target_of reading.uri) in
    let once = has.whole.once in
    let texts = reading.texts in
    let stated = has.stated in (
      unsealed_bare request.headers signer.region signer.name has.whole.by_query.unauthorized,
      (
        reading.uri,
        has.whole.by_query.spelled.0,
        record {
          moment = stated.moment;
          digits = stated.signature;
          date = first_of_one pairs (codes "X-Amz-Date") texts.date once.date ∙ ap (λ (t : List ℕ). Some t) (sym stated.date);
          credential = first_of_one pairs (codes "X-Amz-Credential") texts.credential once.credential ∙ ap (λ (t : List ℕ). Some t) stated.credential;
          names = first_of_one pairs (codes "X-Amz-SignedHeaders") texts.names once.names;
          signature = first_of_one pairs (codes "X-Amz-Signature") texts.signature once.signature;
          expires = ap (option_and_then spelled_seconds) (first_of_one pairs (codes "X-Amz-Expires") texts.expires once.expires) ∙ stated.expires;
        },
      ),
    )

-- so there is one
pub seal_found : (request : HttpRequest) (signer : Signer) (reading : Reading) → HasTerms request signer reading → FindsSeal request signer.region signer.name None → ⊥
seal_found request signer reading has none = none (seal_in reading) (sealed request signer reading has)

-- ---- the check

module _ (request : HttpRequest) (settings : Settings) (payload : List ℕ) (signer : Signer) (reading : Reading) (has : HasTerms request signer reading) where
  same_seal : (seal : SealParts) → IsSealed request signer.region signer.name seal → seal ≡ seal_in reading
  same_seal seal is = one_seal request signer.region signer.name seal (seal_in reading) is (sealed request signer reading has)

  same_target : (uri : Uri) → SpellsTarget (string_bytes request.target) uri → target_of uri ≡ target_of reading.uri
  same_target uri spelled = one_target (string_bytes request.target) uri reading.uri spelled.0 has.whole.by_query.spelled

  fit : (checked : Checked) → Rechecks request settings payload signer checked → unfit_reading request reading ≡ None
  fit checked checks = ap (λ (t : Target). unfit_sent t request.headers) (sym (same_target checks.uri checks.spelled)) ∙ checks.fit

  carried : (checked : Checked) → Rechecks request settings payload signer checked → string_bytes checked.carried ≡ reading.texts.signature
  carried checked checks = checks.carried ∙ ap (λ (s : SealParts). s.signature) (same_seal checks.seal checks.sealed)

  own : (checked : Checked) → Rechecks request settings payload signer checked → string_bytes checked.recomputed ≡ own_signature request settings payload signer reading
  own checked checks =
      let target = same_target checks.uri checks.spelled in
      let seal = same_seal checks.seal checks.sealed in
      checks.recomputed_is ∙ (λ i. recomputed (string_bytes request.method) (target i) request.headers settings payload signer (seal i))

  pub compared : (checked : Checked) (result : Result (Unit {0}) PresignFault) → Rechecks request settings payload signer checked
      → ComparesBoth (string_bytes checked.carried) (string_bytes checked.recomputed) result → TestsSignature request settings payload signer reading result
  compared checked (Ok _) checks same = record { fit = fit checked checks; same = sym (carried checked checks) ∙ (same ∙ own checked checks) }
  compared checked (Err fault) checks (differs, both) = inr (inl (record {
    fit = fit checked checks;
    differs = λ e. differs (carried checked checks ∙ (e ∙ sym (own checked checks)));
    both = subst (λ (t : List ℕ). HoldsBoth reading.texts.signature t fault) (own checked checks)
        (subst (λ (t : List ℕ). HoldsBoth t (string_bytes checked.recomputed) fault) (carried checked checks) both);
  }))

  pub unfit : (error : SigningError) → ChecksRequest request settings payload signer (Err (Unsigned error))
      → TestsSignature request settings payload signer reading (Err (Signing error))
  unfit error checks = by checks.2
    where
      by : RefusesSent request error → TestsSignature request settings payload signer reading (Err (Signing error))
      by (inl (none, same)) = absurd (spelled_once (string_bytes request.target) reading.uri has.whole.by_query.spelled none)
      by (inr (uri, spelled, refused)) =
          inl (error, ap (λ (t : Target). unfit_sent t request.headers) (sym (same_target uri spelled)) ∙ refused, refl)

  pub unread : TestsSignature request settings payload signer reading (Err NoMemory)
  unread = inr (inr refl)
