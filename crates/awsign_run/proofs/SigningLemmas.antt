-- The signed request of words.
use Rattle.std.proofs.Common.{◌≡◌, ℕ, ◌⊎◌, inl, inr, List, Option, Some, None, refl, ap, subst, ◌∙◌}
use Rattle.std.specs.Prelude.{Result, Ok, Err, String, string_bytes}
use Rattle.std.specs.Option.{option_or}
use Rattle.std.specs.declared.alloc.Global.{Global}
use Rattle.http_uri.specs.declared.uri.Uri.{Uri}
use Rattle.smithy_core.proofs.PairLemmas.{option_or_assoc}
use Rattle.smithy_core.specs.Moment.{Instant}
use Rattle.smithy_core.specs.declared.request.HttpRequest.{HttpRequest}
use Rattle.smithy_http.specs.QueryWriter.{ReadsTarget, SpellsTarget}
use Rattle.smithy_http.specs.Target.{Target, target_of}
use Rattle.smithy_http.specs.declared.uri_fault.UriFault.{UriFault}
use Rattle.smithy_http.specs.declared.uri_fault.UriFault.TheVariants as target
use Rattle.sigv4.specs.ChunkTold.{unsigned_chunk_at}
use Rattle.sigv4.specs.Error.{target_error}
use Rattle.sigv4.specs.Refusal.{unfit, unfit_signed_target}
use Rattle.sigv4.specs.Request.{Case}
use Rattle.sigv4.specs.Signed.{signature_of, signed_headers, signed_target}
use Rattle.sigv4.specs.declared.error.SigningError.{SigningError}
use Rattle.sigv4.specs.declared.error.SigningError.TheVariants.{NoMemory as SignedNoMemory}
use Rattle.aws_signing.specs.SigningBy.{IsSignedRequestBy, RefusesBy, SigningState, settings_case}
use Rattle.aws_signing.proofs.SpelledLemmas.{refused_for, signed_for}
use Rattle.awsign_run.specs.Chosen.{refusal_of, signs_for_of, unsigned}
use Rattle.awsign_run.specs.Faults.{signing_fault}
use Rattle.awsign_run.specs.Signing.{IsAsked, RefusesUrl, SignsAsked, SignsUrl, asked_case, asked_refusal, asked_settings, chosen_signer, is_s3}
use Rattle.awsign_words.specs.Words.{SignWanted}
use Rattle.awsign_run.specs.declared.chosen.Chosen.{Chosen}
use Rattle.awsign_run.specs.declared.signing.SignedRequest.{SignedRequest}
use Rattle.awsign_run.specs.declared.fault.Fault.{Fault}
use Rattle.awsign_run.specs.declared.fault.Fault.TheVariants.{NoMemory}

-- ## Faults

-- an error of signing is answered, or memory ran out
answered : (error : SigningError) → (refusal_of (signing_fault error) ≡ unsigned error) ⊎ (signing_fault error ≡ NoMemory)
answered SignedNoMemory = inr refl
answered error = inl refl

-- a URL that isn't read
pub url_unread : (url : List ℕ) (case : Target → Case) (fault : UriFault) → ReadsTarget url (Err fault) → RefusesUrl url case (signing_fault (target_error fault))
url_unread url case target.InvalidUri none = inl (inr (none, refl))
url_unread url case target.NoMemory none = inr refl

-- ## A request whose target was read

module _ (by : SigningState) (request : HttpRequest) (payload : Option (List ℕ)) (at : Instant) (uri : Uri) (spells : SpellsTarget (string_bytes request.target) uri) where
  abbrev url : List ℕ
  url = string_bytes request.target

  abbrev case : Target → Case
  case = settings_case by request payload at

  -- why it isn't signed for what its target spells, where the moment lies in the years 0 to 9999
  abbrev refusal_for : Target → Option SigningError
  refusal_for target = option_or (unfit (case target)) (unfit_signed_target (case target))

  -- the tests in their order
  refusal_is : (target : Target) → asked_refusal (case target) ≡ option_or (unsigned_chunk_at at) (refusal_for target)
  refusal_is target = option_or_assoc (unsigned_chunk_at at) (unfit (case target)) (unfit_signed_target (case target))

  -- it is signed
  pub read_signed : (new : HttpRequest) (signature : String Global) → string_bytes new.method ≡ string_bytes request.method
      → IsSignedRequestBy (settings_case by request payload at) at (string_bytes request.target) new (string_bytes signature)
      → SignsUrl (string_bytes request.method) (string_bytes request.target) (settings_case by request payload at) (Ok (record { request = new; uri = uri; signature = signature }))
  read_signed new signature method signed =
      let one : signed.target ≡ target_of uri = signed_for case at url uri spells new (string_bytes signature) signed in
      let passed : asked_refusal (case signed.target) ≡ None =
      refusal_is signed.target ∙ ap (λ (late : Option SigningError). option_or late (refusal_for signed.target)) signed.in_years ∙ signed.passed in (
        spells,
        subst (λ (t : Target). asked_refusal (case t) ≡ None) one passed,
        method,
        subst (λ (t : Target). string_bytes new.target ≡ signed_target (case t) url) one signed.text_is,
        subst (λ (t : Target). new.headers ≡ signed_headers (case t)) one signed.headers,
        subst (λ (t : Target). string_bytes signature ≡ signature_of (case t)) one signed.signature_is,
      )

  -- it isn't signed
  pub read_refused : (error : SigningError) → RefusesBy (settings_case by request payload at) at (string_bytes request.target) error
      → RefusesUrl (string_bytes request.target) (settings_case by request payload at) (signing_fault error)
  read_refused error refuses = by_test (refused_for case at url uri spells error refuses)
    where
      by_test : (option_or (unsigned_chunk_at at) (refusal_for (target_of uri)) ≡ Some error) ⊎ (error ≡ SignedNoMemory)
          → RefusesUrl url case (signing_fault error)
      by_test (inl is) = elim (answered error) [ inl refuses ↦ inl (inl (uri, error, spells, refusal_is (target_of uri) ∙ is, refuses)) | inr memory ↦ inr memory ]
      by_test (inr is) = inr (rw is refl)

-- ## The request of words

module _ (sign_wanted : SignWanted) (chosen : Chosen) (payload : List ℕ) (at : Instant) (request : HttpRequest) (by : SigningState) where
  -- the case of the words is that of their request and of who is chosen
  case_same : by ≡ chosen_signer chosen (asked_settings sign_wanted (is_s3 sign_wanted.options (string_bytes chosen.service))) → IsAsked sign_wanted request
      → settings_case by request (Some payload) at ≡ asked_case sign_wanted (signs_for_of chosen) payload at
  case_same made asked = λ i target. record {
    method = asked.method i;
    target = target;
    headers = asked.headers i;
    payload = payload;
    settings = (made i).settings;
    key_id = (made i).holder.key_id;
    token = (made i).holder.token;
    signer = (made i).holder.kept.signer;
    at = at;
  }

  -- what is signed of the request, or why it isn't, is so of the words
  pub words_signed : (result : Result SignedRequest Fault)
      → by ≡ chosen_signer chosen (asked_settings sign_wanted (is_s3 sign_wanted.options (string_bytes chosen.service))) → IsAsked sign_wanted request
      → SignsUrl (string_bytes request.method) (string_bytes request.target) (settings_case by request (Some payload) at) result
      → SignsAsked sign_wanted (asked_case sign_wanted (signs_for_of chosen) payload at) result
  words_signed result made asked signs =
      let case = settings_case by request (Some payload) at in
      let named = subst (λ (method : List ℕ). SignsUrl method (string_bytes request.target) case result) asked.method signs in
      let aimed = subst (λ (url : List ℕ). SignsUrl sign_wanted.method url case result) asked.target named in
      subst (λ (c : Target → Case). SignsUrl sign_wanted.method sign_wanted.url c result) (case_same made asked) aimed
