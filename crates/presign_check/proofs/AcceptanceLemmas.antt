-- The signed request of a case in query form is accepted while it is good.
use Rattle.std.proofs.Common.{◌≡◌, ℕ, List, Option, Some, None, Ok, Err, ℤ, pos, ◌+ℤ◌, ◌≤ℤ◌, ◌<ℤ◌, inl, inr, sym, ap, ◌∙◌, subst, arith, true≢false}
use Rattle.std.specs.Prelude.{IsSome, Result, codes, string_bytes}
use Rattle.std.proofs.lemmas.Int.{ints}
use Rattle.http_uri.specs.declared.uri.Uri.{Uri}
use Rattle.smithy_core.specs.TextPairs.{first_value}
use Rattle.smithy_http.specs.QueryWriter.{SpellsNoTarget, SpellsTarget}
use Rattle.smithy_http.specs.Target.{IsAuthorityAlone, Target, target_of}
use Rattle.eventstream.specs.Key.{Signer}
use Rattle.sigv4.specs.Parameters.{with_params}
use Rattle.sigv4.specs.Query.{Pair, decoded}
use Rattle.sigv4.specs.Request.{Case}
use Rattle.sigv4.specs.Signed.{signature_of, signed_headers}
use Rattle.sigv4.specs.declared.settings.SignatureLocation.{SignatureLocation}
use Rattle.sigv4.specs.declared.settings.SignatureLocation.TheVariants.{QueryParams}
use Rattle.request_check.specs.Recomputation.{HasFormApart}
use Rattle.request_check.specs.Recomputed.{recomputed, unfit_sent}
use Rattle.request_check.proofs.AlikeLemmas.{sent_accepted, sent_joined, sent_parts}
use Rattle.request_check.proofs.QueryFormLemmas as query
use Rattle.request_check.proofs.SealLemmas.{absent}
use Rattle.presign_check.specs.Acceptance.{AcceptsSigned, IsAcceptedUntil, IsPresignedAs}
use Rattle.presign_check.specs.Parameters.{PresignTexts, StandOnce}
use Rattle.presign_check.specs.Presigned.{PresignInput, ChecksPresigned, HasTerms, MeetsFirst, Reading, own_signature, unfit_reading}
use Rattle.presign_check.specs.Terms.{PresignTerms, ParametersState, until_of}
use Rattle.presign_check.specs.declared.fault.PresignFault.{PresignFault}
use Rattle.presign_check.proofs.ParameterLemmas.{all_pass, one_texts}
use Rattle.presign_check.proofs.PresignedCaseLemmas.{own_texts, stand_once, tells_own, terms_of}
use Rattle.presign_check.proofs.TermLemmas.{in_form, one_terms}

pub none_and_some : (o : Option (List ℕ)) → o ≡ None → IsSome o → ⊥
none_and_some None e some = true≢false (sym some)
none_and_some (Some x) e some = absent (sym e)

pub late_enough : (a b : ℤ) → b ≤ℤ a → a <ℤ b → ⊥
late_enough a b le lt = omega (arith, ints)

-- ---- the case

module _ (asked : PresignInput) (c : Case) (seconds : ℕ) (is : IsPresignedAs asked c seconds) where
  apart : HasFormApart QueryParams c
  apart = subst (λ (place : SignatureLocation). HasFormApart place c) is.place is.signed.apart

  signs : query.SignsQuery c
  signs = query.signs_query c is.signed is.place apart

  headers_are : asked.request.headers ≡ signed_headers c
  headers_are = is.sent.headers

  unauthorized : first_value asked.request.headers (codes "authorization") ≡ None
  unauthorized = ap (λ (headers : List Pair). first_value headers (codes "authorization")) (headers_are ∙ query.headers_are c signs) ∙ apart.0

  target_is : (uri : Uri) → SpellsTarget (string_bytes asked.request.target) uri → target_of uri ≡ query.sent_target c signs
  target_is uri spelled = sent_parts c asked.request is.sent uri spelled.0 ∙ ap (with_params c.target) (query.parameters_are c signs)

  accepted : SpellsNoTarget (string_bytes asked.request.target) → ⊥
  accepted (inl none) = sent_accepted c asked.request is.signed is.sent none
  accepted (inr other) = sent_joined c asked.request is.sent (subst IsAuthorityAlone (sent_parts c asked.request is.sent other.0 other.1) other.2)

  -- ---- its texts

  own_once : StandOnce (decoded (query.sent_target c signs)) (own_texts c)
  own_once = stand_once c signs

  once : (uri : Uri) → SpellsTarget (string_bytes asked.request.target) uri → StandOnce (decoded (target_of uri)) (own_texts c)
  once uri spelled = subst (λ (t : Target). StandOnce (decoded t) (own_texts c)) (sym (target_is uri spelled)) own_once

  -- ---- what they state

  abbrev own_terms : PresignTerms
  own_terms = terms_of c seconds

  own_told : ParametersState c.signer.region c.signer.name (own_texts c) own_terms
  own_told = tells_own c signs seconds is.expiry

  stated : ParametersState asked.signer.region asked.signer.name (own_texts c) own_terms
  stated = subst (λ (signer : Signer). ParametersState signer.region signer.name (own_texts c) own_terms) is.signer own_told

  texts_are : (uri : Uri) (texts : PresignTexts) → SpellsTarget (string_bytes asked.request.target) uri → StandOnce (decoded (target_of uri)) texts → texts ≡ own_texts c
  texts_are uri texts spelled stands = one_texts (decoded (target_of uri)) texts (own_texts c) stands (once uri spelled)

  told_again : (uri : Uri) (texts : PresignTexts) → SpellsTarget (string_bytes asked.request.target) uri → StandOnce (decoded (target_of uri)) texts
      → ParametersState asked.signer.region asked.signer.name texts own_terms
  told_again uri texts spelled stands =
      subst (λ (t : PresignTexts). ParametersState asked.signer.region asked.signer.name t own_terms) (sym (texts_are uri texts spelled stands)) stated

  terms_are : (reading : Reading) → HasTerms asked.request asked.signer reading → reading.terms ≡ own_terms
  terms_are reading has =
      one_terms asked.signer.region asked.signer.name reading.texts reading.terms own_terms has.stated
      (told_again reading.uri reading.texts has.whole.by_query.spelled has.whole.once)

  -- ---- its signature

  fits : (reading : Reading) → HasTerms asked.request asked.signer reading → unfit_reading asked.request reading ≡ None
  fits reading has =
      (λ i. unfit_sent (target_is reading.uri has.whole.by_query.spelled i) (headers_are i)) ∙ query.fit_again c signs

  same_signature : (reading : Reading) → HasTerms asked.request asked.signer reading
      → reading.texts.signature ≡ own_signature asked.request asked.settings asked.payload asked.signer reading
  unfolding own_texts
  same_signature reading has =
      let texts = texts_are reading.uri reading.texts has.whole.by_query.spelled has.whole.once in
      let terms = terms_are reading has in
      let target = target_is reading.uri has.whole.by_query.spelled in
      let again : own_signature asked.request asked.settings asked.payload asked.signer reading ≡ signature_of c =
      (λ i. recomputed (is.sent.method i) (target i) (headers_are i) (sym is.settings i) (sym is.payload i) (sym is.signer i)
      (record {
        place = QueryParams;
        key_id = (terms i).key_id;
        at = (terms i).at;
        names = (texts i).names;
        signature = (texts i).signature;
        expires = Some (terms i).seconds;
      })) ∙ (ap (λ (expires : Option ℕ). recomputed c.method (query.sent_target c signs) (signed_headers c) c.settings c.payload c.signer
      (record (query.own_seal c signs) { expires = expires })) (sym is.expiry) ∙ query.signature_same c signs) in
      ap (λ (t : PresignTexts). t.signature) texts ∙ sym again

  -- ---- no test is met

  module _ (from : c.at.secs ≤ℤ asked.now.secs) (before : asked.now.secs <ℤ (c.at.secs +ℤ pos seconds)) where
    begun : (reading : Reading) → HasTerms asked.request asked.signer reading → reading.terms.at.secs ≤ℤ asked.now.secs
    begun reading has = subst (λ (t : PresignTerms). t.at.secs ≤ℤ asked.now.secs) (sym (terms_are reading has)) from

    lasts : (reading : Reading) → HasTerms asked.request asked.signer reading → asked.now.secs <ℤ until_of reading.terms
    lasts reading has = subst (λ (t : PresignTerms). asked.now.secs <ℤ until_of t) (sym (terms_are reading has)) before

    unmet : (fault : PresignFault) → MeetsFirst asked fault → ⊥
    unmet fault (inl none) = accepted none.0
    unmet fault (inr (inl (uri, spelled, some, e))) = none_and_some (first_value asked.request.headers (codes "authorization")) unauthorized some
    unmet fault (inr (inr (inl (uri, by_query, counted)))) =
        absent (sym (all_pass (decoded (target_of uri)) (own_texts c) (once uri by_query.spelled)) ∙ counted)
    unmet fault (inr (inr (inr (inl (uri, texts, has, bad))))) =
        in_form asked.signer.region asked.signer.name texts own_terms fault (told_again uri texts has.by_query.spelled has.once) bad
    unmet fault (inr (inr (inr (inr (inl (reading, has, unknown)))))) =
        unknown.0 (ap (λ (t : PresignTerms). t.key_id) (terms_are reading has) ∙ is.key_id)
    unmet fault (inr (inr (inr (inr (inr (inl (reading, of, early))))))) = late_enough asked.now.secs reading.terms.at.secs (begun reading of.has) early.0
    unmet fault (inr (inr (inr (inr (inr (inr (inl (reading, of, begins, late)))))))) =
        late_enough asked.now.secs (until_of reading.terms) late.0 (lasts reading of.has)
    unmet fault (inr (inr (inr (inr (inr (inr (inr (inl (reading, in_time, refused))))))))) =
        absent (sym (fits reading in_time.own.has) ∙ refused.1)
    unmet fault (inr (inr (inr (inr (inr (inr (inr (inr (reading, in_time, is_forged))))))))) = is_forged.differs (same_signature reading in_time.own.has)

    answered : (result : Result ℤ PresignFault) → ChecksPresigned asked result → IsAcceptedUntil (c.at.secs +ℤ pos seconds) result
    answered (Ok until) (reading, in_time, genuine, ends) = ends ∙ ap until_of (terms_are reading in_time.own.has)
    answered (Err fault) (inl met) = absurd (unmet fault met)
    answered (Err fault) (inr room) = subst (λ (f : PresignFault). IsAcceptedUntil (c.at.secs +ℤ pos seconds) (Err f)) (sym room) tt

pub accepts_signed : (asked : PresignInput) (result : Result ℤ PresignFault) → ChecksPresigned asked result → AcceptsSigned asked result
accepts_signed asked result checks = λ c seconds is from before. answered asked c seconds is from before result checks
