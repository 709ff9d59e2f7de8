-- What is answered of the signed request of a case.
use Rattle.std.proofs.Common.{◌≡◌, ℕ, Bool, true, false, not, List, [], None, Ok, Err, inl, inr, refl, sym, ap, ◌∙◌, subst, true≢false}
use Rattle.std.specs.Prelude.{Result, string_bytes}
use Rattle.http_uri.specs.Uri.{Spells, SpellsNone}
use Rattle.http_uri.specs.declared.uri.Uri.{Uri}
use Rattle.smithy_core.specs.declared.request.HttpRequest.{HttpRequest}
use Rattle.smithy_http.specs.Target.{IsAuthorityAlone, Target, target_of}
use Rattle.eventstream.specs.Key.{Signer}
use Rattle.sigv4.specs.Parameters.{SpellsParts, takes_no_more, target_text_with, with_params}
use Rattle.sigv4.specs.Query.{Pair, decoded}
use Rattle.sigv4.specs.Refusal.{unfit_signed_target}
use Rattle.sigv4.specs.Request.{Case}
use Rattle.sigv4.specs.Settings.{Settings, is_query_form}
use Rattle.sigv4.specs.Signed.{parameters, signature_of, signed_target}
use Rattle.sigv4.specs.declared.error.SigningError.{SigningError}
use Rattle.sigv4.specs.declared.error.SigningError.TheVariants.{InvalidUri}
use Rattle.sigv4.specs.declared.settings.SignatureLocation.{SignatureLocation}
use Rattle.sigv4.specs.declared.settings.SignatureLocation.TheVariants.{Headers, QueryParams}
use Rattle.sigv4.proofs.FitLemmas.{passed}
use Rattle.sigv4.proofs.AgainLemmas.{otherwise}
use Rattle.request_check.specs.Recomputation.{IsAlike, IsSentOf, HasFormApart, Recomputes, IsSignedAsSent}
use Rattle.request_check.specs.Recomputed.{ChecksRequest, RefusesSent, recomputed, unfit_sent}
use Rattle.request_check.specs.Sealed.{IsSealed, IsUnsealed, SealParts, SealsHeaders, SealsParameters}
use Rattle.request_check.specs.declared.check.CheckRequestFault.{CheckRequestFault}
use Rattle.request_check.specs.declared.check.CheckRequestFault.TheVariants.{NoMemory, NoSignature, Signing}
use Rattle.request_check.specs.declared.check.Checked.{Checked}
use Rattle.request_check.proofs.HeaderFormLemmas as header
use Rattle.request_check.proofs.QueryFormLemmas as query
use Rattle.request_check.proofs.SealLemmas.{absent, one_seal}
use Rattle.request_check.proofs.SpelledLemmas.{accepted, alone_before, parts_read, unaccepted}

-- a sent request whose target is accepted, whose seal has the case's signature, and which has this signature by the seal
record IsResealed (c : Case) (sent : HttpRequest) : Type 0 where
  target : Target
  parts : (uri : Uri) → Spells (string_bytes sent.target) uri → target_of uri ≡ target
  is_accepted : SpellsNone (string_bytes sent.target) → ⊥
  is_joined : IsAuthorityAlone target → ⊥
  seal : SealParts
  sealed : (uri : Uri) → Spells (string_bytes sent.target) uri → IsSealed sent c.signer.region c.signer.name seal
  signed : seal.signature ≡ signature_of c
  fit : unfit_sent target sent.headers ≡ None
  same : recomputed (string_bytes sent.method) target sent.headers c.settings c.payload c.signer seal ≡ signature_of c

unrefused : (c : Case) (sent : HttpRequest) (error : SigningError) → IsResealed c sent → RefusesSent sent error → ⊥
unrefused c sent error is (inl (inl none, e)) = is.is_accepted none
unrefused c sent error is (inl (inr (uri, spelled, alone), e)) = is.is_joined (subst IsAuthorityAlone (is.parts uri spelled) alone)
unrefused c sent error is (inr (uri, spelled, unfit)) =
    absent (sym is.fit ∙ (ap (λ (t : Target). unfit_sent t sent.headers) (sym (is.parts uri spelled.0)) ∙ unfit))

alike : (c : Case) (sent : HttpRequest) (result : Result Checked CheckRequestFault) → IsResealed c sent → ChecksRequest sent c.settings c.payload c.signer result → IsAlike c result
alike c sent (Ok checked) is checks =
    let seal = one_seal sent c.signer.region c.signer.name checks.seal is.seal checks.sealed (is.sealed checks.uri checks.spelled.0) in
    let target = is.parts checks.uri checks.spelled.0 in (
      checks.carried ∙ (ap (λ (s : SealParts). s.signature) seal ∙ is.signed),
      checks.recomputed_is ∙ ((λ i. recomputed (string_bytes sent.method) (target i) sent.headers c.settings c.payload c.signer (seal i)) ∙ is.same),
    )
alike c sent (Err NoSignature) is none = is.is_accepted (unaccepted (string_bytes sent.target) (λ uri spells. none is.seal (is.sealed uri spells)))
alike c sent (Err (Signing error)) is (seal, is_sealed, refuses) = unrefused c sent error is refuses
alike c sent (Err NoMemory) is any = tt

-- ---- the target that was sent

pub sent_parts : (c : Case) (sent : HttpRequest) → IsSentOf c sent → (uri : Uri) → Spells (string_bytes sent.target) uri → target_of uri ≡ with_params c.target (parameters c)
unfolding signed_target
sent_parts c sent of uri spells = by of.spelled
  where
    by : SpellsParts of.given c.target → target_of uri ≡ with_params c.target (parameters c)
    by (base, spelled, same) =
        parts_read of.given (string_bytes sent.target) base uri (parameters c) spelled
        (of.target ∙ ap (λ (t : Target). target_text_with (parameters c) t of.given) (sym same)) spells
        ∙ ap (λ (t : Target). with_params t (parameters c)) same

takes : (c : Case) → unfit_signed_target c ≡ None → takes_no_more (parameters c) c.target ≡ false
unfolding unfit_signed_target
takes c fits = by (takes_no_more (parameters c) c.target) (passed _ InvalidUri fits)
  where
    by : (b : Bool) → not b ≡ true → b ≡ false
    by true e = absurd (true≢false (sym e))
    by false e = refl

pub sent_accepted : (c : Case) (sent : HttpRequest) → IsSignedAsSent c → IsSentOf c sent → SpellsNone (string_bytes sent.target) → ⊥
unfolding signed_target
sent_accepted c sent is of none = by of.spelled
  where
    by : SpellsParts of.given c.target → ⊥
    by (base, spelled, same) =
        accepted of.given (string_bytes sent.target) base (parameters c) spelled
        (of.target ∙ ap (λ (t : Target). target_text_with (parameters c) t of.given) (sym same))
        (ap (takes_no_more (parameters c)) same ∙ takes c is.fits) none

pub sent_joined : (c : Case) (sent : HttpRequest) → IsSentOf c sent → IsAuthorityAlone (with_params c.target (parameters c)) → ⊥
sent_joined c sent of alone = by of.spelled
  where
    by : SpellsParts of.given c.target → ⊥
    by (base, spelled, same) = spelled.1 (subst IsAuthorityAlone (sym same) (alone_before c.target (parameters c) alone))

-- ---- header form

pub no_parameters : (c : Case) → is_query_form c.settings ≡ false → parameters c ≡ []
unfolding parameters
no_parameters c form = otherwise (is_query_form c.settings) _ _ form

resealed_header : (c : Case) (sent : HttpRequest) → IsSignedAsSent c → header.SignsHeaders c → IsSentOf c sent → IsResealed c sent
resealed_header c sent signs is of =
    let unchanged : with_params c.target (parameters c) ≡ c.target = ap (with_params c.target) (no_parameters c is.form) in
    let seals = subst (λ (headers : List Pair). SealsHeaders headers c.signer.region c.signer.name (header.own_seal c is)) (sym of.headers) (header.sealed_by c is) in
    record {
      target = c.target;
      parts = λ uri spells. sent_parts c sent of uri spells ∙ unchanged;
      is_accepted = sent_accepted c sent signs of;
      is_joined = λ alone. sent_joined c sent of (subst IsAuthorityAlone (sym unchanged) alone);
      seal = header.own_seal c is;
      sealed = λ uri spells. seals;
      signed = refl;
      fit = ap (unfit_sent c.target) of.headers ∙ header.fit_again c is;
      same = (λ i. recomputed (of.method i) c.target (of.headers i) c.settings c.payload c.signer (header.own_seal c is)) ∙ header.signature_same c is;
    }

-- ---- query form

resealed_query : (c : Case) (sent : HttpRequest) → IsSignedAsSent c → query.SignsQuery c → IsSentOf c sent → IsResealed c sent
resealed_query c sent signs is of =
    let added : with_params c.target (parameters c) ≡ query.sent_target c is = ap (with_params c.target) (query.parameters_are c is) in
    let unsealed = subst (λ (headers : List Pair). IsUnsealed headers c.signer.region c.signer.name) (sym of.headers) (query.unsealed c is) in
    record {
      target = query.sent_target c is;
      parts = λ uri spells. sent_parts c sent of uri spells ∙ added;
      is_accepted = sent_accepted c sent signs of;
      is_joined = λ alone. sent_joined c sent of (subst IsAuthorityAlone (sym added) alone);
      seal = query.own_seal c is;
      sealed = λ uri spells. (
        unsealed,
        (
          uri,
          spells,
          subst (λ (t : Target). SealsParameters (decoded t) c.signer.region c.signer.name (query.own_seal c is)) (sym (sent_parts c sent of uri spells ∙ added)) (query.sealed_by c is),
        ),
      );
      signed = refl;
      fit = ap (unfit_sent (query.sent_target c is)) of.headers ∙ query.fit_again c is;
      same = (λ i. recomputed (of.method i) (query.sent_target c is) (of.headers i) c.settings c.payload c.signer (query.own_seal c is)) ∙ query.signature_same c is;
    }

-- ---- both forms

resealed : (c : Case) (sent : HttpRequest) → IsSignedAsSent c → IsSentOf c sent → IsResealed c sent
resealed c sent is of = by c.settings.signature_location refl is.apart
  where
    by : (place : SignatureLocation) → c.settings.signature_location ≡ place → HasFormApart place c → IsResealed c sent
    by Headers here apart = resealed_header c sent is (header.signs_headers c is here apart) of
    by QueryParams here apart = resealed_query c sent is (query.signs_query c is here apart) of

pub recomputes : (sent : HttpRequest) (settings : Settings) (payload : List ℕ) (signer : Signer) (result : Result Checked CheckRequestFault)
    → ChecksRequest sent settings payload signer result → Recomputes sent settings payload signer result
recomputes sent settings payload signer result checks = λ c same_settings same_payload same_signer is of.
    let checked : ChecksRequest sent c.settings c.payload c.signer result = rw (same_settings, same_payload, same_signer) checks in
    alike c sent result (resealed c sent is of) checked
