-- The signed request of a case is let in at a service's door while it is due.
use Rattle.std.proofs.Common.{◌≡◌, ℕ, ◌≤◌, ◌||◌, Bool, true, false, List, ◌∷◌, ◌++◌, Option, Some, None, Ok, Err, inl, inr, refl, sym, ap, ◌∙◌, subst, append_assoc, arith, unwrap_or, ◌≤ℤ◌, ◌<ℤ◌}
use Rattle.std.specs.Prelude.{Result, codes, is_some, string_bytes}
use Rattle.std.specs.List.{list_any}
use Rattle.std.proofs.lemmas.List.Folds.{list_any-append}
use Rattle.http_uri.specs.declared.uri.Uri.{Uri}
use Rattle.smithy_core.specs.Civil.{IsInYears, civil_of, date, stamp}
use Rattle.smithy_core.specs.Moment.{floor_secs}
use Rattle.smithy_core.specs.TextPairs.{first_value, named_values}
use Rattle.smithy_http.specs.QueryWriter.{SpellsNoTarget, SpellsTarget}
use Rattle.smithy_http.specs.Target.{IsAuthorityAlone, Target, target_of}
use Rattle.eventstream.specs.Key.{scope}
use Rattle.sigv4.specs.Canonical.{credential, expires_text, joined_names, names}
use Rattle.sigv4.specs.Parameters.{with_params}
use Rattle.sigv4.specs.Query.{Pair, decoded}
use Rattle.sigv4.specs.Request.{Case}
use Rattle.sigv4.specs.Signed.{authorization, parameters, signature_of, signed_headers}
use Rattle.sigv4.specs.declared.settings.SignatureLocation.{SignatureLocation}
use Rattle.sigv4.specs.declared.settings.SignatureLocation.TheVariants.{Headers, QueryParams}
use Rattle.request_check.specs.Authorization.{IsAuthorization}
use Rattle.request_check.specs.Recomputation.{HasFormApart}
use Rattle.request_check.specs.Recomputed.{carried_names, unfit_sent}
use Rattle.request_check.specs.Stamped.{ReadsStamp}
use Rattle.request_check.proofs.AlikeLemmas.{sent_accepted, sent_joined, sent_parts, no_parameters}
use Rattle.request_check.proofs.DecimalLemmas.{expiry_back}
use Rattle.request_check.proofs.HeaderFormLemmas as header
use Rattle.request_check.proofs.NamesLemmas.{signature_digits}
use Rattle.request_check.proofs.QueryFormLemmas as query
use Rattle.request_check.proofs.SealLemmas.{absent}
use Rattle.request_check.proofs.ShownNamesLemmas.{ShowsNames, shows_in_headers, shows_in_query}
use Rattle.presign_check.proofs.AcceptanceLemmas.{late_enough}
use Rattle.presign_check.proofs.PresignedCaseLemmas.{own_texts, stand_once}
use Rattle.request_door.specs.DoorAcceptance.{IsSignedForDoor}
use Rattle.request_door.specs.DoorAdmission.{IsDueAtDoor, IsLetIn, LetsSignedIn, ShowsOneForm, case_expires, case_seconds, case_terms, case_texts}
use Rattle.request_door.specs.DoorAuthorization.{IsDoorAuthorization}
use Rattle.request_door.specs.DoorCarried.{CarriesAt, IsInForm, MeetsCarried, MeetsDoorForm, are_several, form_tests, has_parameters, is_parameter, tests_of}
use Rattle.request_door.specs.DoorNames.{MeetsName, name_tests}
use Rattle.request_door.specs.DoorOrder.{NoneMet}
use Rattle.request_door.specs.DoorPayloads.{shown_form, shown_payload, signed_payload}
use Rattle.request_door.specs.DoorTerms.{MeetsTerm, PassesScope, TextsState, good_from, good_until, region_end, scope_end, service_end, term_tests, stated_seconds}
use Rattle.request_door.specs.Doors.{AnswersDoor, DoorInput, DoorReading, HasCarriedTexts, HasForm, HasKey, HasNames, HasPayload, HasStated, IsTimely, MeetsLast, RefusesFirst, last_tests}
use Rattle.request_door.specs.declared.admitted.Admitted.{Admitted}
use Rattle.request_door.specs.declared.fault.DoorFault.{DoorFault}
use Rattle.request_door.specs.declared.limits.Limits.{Limits}
use Rattle.request_door.specs.declared.payload.DoorPayload.{DoorPayload}
use Rattle.request_door.proofs.DoorAcceptanceLemmas.{own_signature}
use Rattle.request_door.proofs.DoorCarriedLemmas.{in_one_form, whole_header, whole_parameters}
use Rattle.request_door.proofs.DoorLemmas.{unmet}
use Rattle.request_door.proofs.DoorNameLemmas.{names_pass}
use Rattle.request_door.proofs.DoorOneAnswerLemmas.{forms, had_uri, stated_so, unmet_first}
use Rattle.request_door.proofs.DoorTermLemmas.{ends, states}

-- ---- what a signed request shows, in either form

record ShowsRequest (c : Case) (limits : Limits) (place : SignatureLocation) (target : Target) : Type 0 where
  parts : with_params c.target (parameters c) ≡ target
  names_are : ShowsNames c target
  fit : unfit_sent target (signed_headers c) ≡ None
  in_form : IsInForm (signed_headers c) (decoded target) place
  whole : NoneMet (MeetsCarried place (signed_headers c) (decoded target)) (tests_of place)
  carried : CarriesAt place (signed_headers c) (decoded target) (case_texts place c)
  seconds : stated_seconds place (case_expires place c.settings.expires_in) ≡ Some (case_seconds place c.settings.expires_in)
  within : case_seconds place c.settings.expires_in ≤ limits.expiry

-- what stands behind the algorithm's name
authorization_rest : (c : Case) → authorization c ≡ codes "AWS4-HMAC-SHA256 "
    ++ (codes "Credential=" ++ (credential c ++ (codes ", SignedHeaders=" ++ (joined_names (names c) ++ (codes ", Signature=" ++ signature_of c)))))
unfolding authorization
authorization_rest c = refl

request_in_headers : (c : Case) (limits : Limits) (is : header.SignsHeaders c) → has_parameters (decoded c.target) ≡ false → ShowsRequest c limits Headers c.target
request_in_headers c limits is none =
    let read : IsDoorAuthorization (authorization c) (credential c) (joined_names (names c)) (signature_of c) = inl (subst (λ (t : List ℕ). IsAuthorization (authorization c) t (joined_names (names c)) (signature_of c)) (sym (header.credential_same c is)) (header.authorization_read c is)) in
    record {
      parts = ap (with_params c.target) (no_parameters c is.form);
      names_are = shows_in_headers c is;
      fit = header.fit_again c is;
      in_form = (ap (λ (first : Option (List ℕ)). is_some first) (header.authorization_is c is), none);
      whole = whole_header (signed_headers c) (decoded c.target) (authorization c) (header.authorization_once c is) (stamp c.at) (header.date_once c is) _ (credential c)
          (joined_names (names c)) (signature_of c) (authorization_rest c) read;
      carried = record {
        authorization = authorization c;
        once = header.authorization_once c is;
        date = header.date_once c is;
        no_expiry = refl;
        read = read;
      };
      seconds = refl;
      within = omega arith;
    }

request_in_query : (c : Case) (limits : Limits) (is : query.SignsQuery c) (seconds : ℕ) → c.settings.expires_in ≡ Some seconds → seconds ≤ limits.expiry
    → ShowsRequest c limits QueryParams (query.sent_target c is)
unfolding own_texts
request_in_query c limits is seconds expiry short =
    let once = stand_once c is in
    record {
      parts = ap (with_params c.target) (query.parameters_are c is);
      names_are = shows_in_query c is;
      fit = query.fit_again c is;
      in_form = (
        ap (λ (headers : List Pair). is_some (first_value headers (codes "authorization"))) (query.headers_are c is) ∙ ap (λ (first : Option (List ℕ)). is_some first) is.unauthorized,
        ap has_parameters (query.decoded_are c is)
            ∙ (list_any-append (λ (pair : Pair). is_parameter pair.0) (decoded c.target) (query.first_added c is ∷ query.more_added c is)
            ∙ either (list_any (λ (pair : Pair). is_parameter pair.0) (decoded c.target))),
      );
      whole = whole_parameters (signed_headers c) (decoded (query.sent_target c is)) (codes "AWS4-HMAC-SHA256") once.algorithm (credential c) once.credential (stamp c.at) once.date
          (expires_text c.settings.expires_in) once.expires (joined_names (names c)) once.names (signature_of c) once.signature refl (signature_digits c);
      carried = record {
        credential = once.credential;
        date = once.date;
        expires = once.expires;
        names = once.names;
        signature = once.signature;
        digits = signature_digits c;
      };
      seconds = expiry_back c.settings.expires_in is.strings.expiry ∙ (expiry ∙ ap (λ (s : ℕ). Some s) (sym (ap (λ (o : Option ℕ). unwrap_or o 0) expiry)));
      within = subst (λ (s : ℕ). s ≤ limits.expiry) (sym (ap (λ (o : Option ℕ). unwrap_or o 0) expiry)) short;
    }
  where
    either : (b : Bool) → (b || true) ≡ true
    either true = refl
    either false = refl

-- ---- what its texts state

stamped_so : (c : Case) → IsInYears c.at → ReadsStamp (stamp c.at) (Some (floor_secs c.at))
unfolding stamp civil_of
stamped_so c in_years = (record { in_years = in_years; whole = refl }, refl)

cut_so : (c : Case) → credential c ≡ c.key_id ++ codes "/" ++ scope (floor_secs c.at) c.signer.region c.signer.name
unfolding credential scope date civil_of
cut_so c = refl

scoped_so : (c : Case) → PassesScope c.signer.region c.signer.name (credential c) (Ok tt)
unfolding credential scope
scoped_so c = (
  ends scope_end (credential c) (c.key_id ++ codes "/" ++ (date c.at ++ codes "/" ++ c.signer.region ++ codes "/" ++ c.signer.name)) (simp append_assoc),
  (
    ends (service_end c.signer.name) (credential c) (c.key_id ++ codes "/" ++ (date c.at ++ codes "/" ++ c.signer.region)) (simp append_assoc),
    (ends (region_end c.signer.region c.signer.name) (credential c) (c.key_id ++ codes "/" ++ date c.at) (simp append_assoc), tt),
  ),
)

-- ---- the request at the door

-- what is asked, in the words of the case
abbrev own_asked : DoorInput → Case → DoorInput
own_asked asked c = record {
  request = asked.request;
  body = asked.body;
  settings = c.settings;
  region = c.signer.region;
  name = c.signer.name;
  secrets = asked.secrets;
  now = asked.now;
  limits = asked.limits;
}

module _ (asked : DoorInput) (c : Case) (form : DoorPayload) (due : IsDueAtDoor asked c form) (place : SignatureLocation) (here : c.settings.signature_location ≡ place)
    (target : Target) (shows : ShowsRequest c asked.limits place target) where
  abbrev own : DoorInput
  own = own_asked asked c

  accepted : SpellsNoTarget (string_bytes asked.request.target) → ⊥
  accepted (inl none) = sent_accepted c asked.request due.signed due.sent none
  accepted (inr other) = sent_joined c asked.request due.sent (subst IsAuthorityAlone (sent_parts c asked.request due.sent other.0 other.1) other.2)

  module _ (uri : Uri) (spelled : SpellsTarget (string_bytes asked.request.target) uri) where
    abbrev reading : DoorReading
    reading = record { uri = uri; texts = case_texts place c; terms = case_terms place c; form = form; secret = c.signer.secret }

    moved : (P : List Pair → Target → Type 0) → P (signed_headers c) target → P asked.request.headers (target_of uri)
    moved P holds =
        subst (λ (headers : List Pair). P headers (target_of uri)) (sym due.sent.headers)
        (subst (λ (t : Target). P (signed_headers c) t) (sym (sent_parts c asked.request due.sent uri spelled.0 ∙ shows.parts)) holds)

    has_form : HasForm own reading
    has_form = record {
      target = record { spelled = spelled; fit = moved (λ headers t. unfit_sent t headers ≡ None) shows.fit };
      untouched = moved (λ headers t. NoneMet (MeetsDoorForm headers (decoded t)) form_tests) (in_one_form (signed_headers c) (decoded target) place shows.in_form);
      in_form = moved (λ headers t. IsInForm headers (decoded t) place) shows.in_form;
    }

    has_texts : HasCarriedTexts own reading
    has_texts = record {
      form = has_form;
      whole = moved (λ headers t. NoneMet (MeetsCarried place headers (decoded t)) (tests_of place)) shows.whole;
      carried = moved (λ headers t. CarriesAt place headers (decoded t) (case_texts place c)) shows.carried;
    }

    stated_terms : NoneMet (MeetsTerm c.signer.region c.signer.name asked.limits (case_texts place c)) term_tests
        × TextsState c.signer.region c.signer.name (case_texts place c) (case_terms place c)
    stated_terms = states c.signer.region c.signer.name asked.limits (case_texts place c) (floor_secs c.at) (stamped_so c due.signed.in_years) (scoped_so c) c.key_id (cut_so c)
        (case_seconds place c.settings.expires_in) shows.seconds shows.within

    has_stated : HasStated own reading
    has_stated = record { texts = has_texts; good = stated_terms.0; stated = stated_terms.1 }

    has_names : HasNames own reading
    has_names = record {
      stated = has_stated;
      named =
          subst (λ (p : SignatureLocation). NoneMet (MeetsName p c.settings.session_token_mode asked.limits asked.request.headers (carried_names (joined_names (names c)))) name_tests) here
          (subst (λ (all : List (List ℕ)). NoneMet (MeetsName c.settings.signature_location c.settings.session_token_mode asked.limits asked.request.headers all) name_tests) (sym shows.names_are.carried)
          (subst (λ (headers : List Pair). NoneMet (MeetsName c.settings.signature_location c.settings.session_token_mode asked.limits headers (names c)) name_tests) (sym due.sent.headers)
          (names_pass c target shows.names_are asked.limits due.signed.usual due.token due.few)));
    }

    timely : IsTimely own reading
    timely = record {
      names = has_names;
      timed = (
        λ early. late_enough asked.now.secs (good_from place asked.limits (case_terms place c))
            (subst (λ (p : SignatureLocation). good_from p asked.limits (case_terms p c) ≤ℤ asked.now.secs) here due.begun) early,
        (
          λ late. late_enough asked.now.secs (good_until place asked.limits (case_terms place c)) late
              (subst (λ (p : SignatureLocation). asked.now.secs <ℤ good_until p asked.limits (case_terms p c)) here due.lasts),
          tt,
        ),
      );
    }

    has_payload : HasPayload own reading
    has_payload =
        let shown = subst (λ (p : SignatureLocation). shown_form p c.settings.payload_checksum_kind (shown_payload asked.request.headers) ≡ Some form) here due.payload.shown in
        record {
          timely = timely;
          shown = (unmet (are_several (named_values asked.request.headers (codes "x-amz-content-sha256"))) due.payload.once, (λ none. absent (sym none ∙ shown), tt));
          form = shown;
        }

    has_key : HasKey own reading
    has_key = record { payload = has_payload; known = due.known }

    signed_for : IsSignedForDoor own c
    signed_for = record {
      settings = refl;
      region = refl;
      name = refl;
      known = due.known;
      payload = λ other has. due.payload.signed ∙ ap (λ (f : DoorPayload). signed_payload (shown_payload asked.request.headers) f asked.body) (forms own reading other has_payload has.payload);
      signed = due.signed;
      sent = due.sent;
    }

    last_pass : NoneMet (MeetsLast own reading) last_tests
    last_pass = (due.payload.own, (own_signature own c signed_for reading has_key, tt))

  unrefused : (fault : DoorFault) → RefusesFirst own fault → ⊥
  unrefused fault (inl none) = accepted none.0
  unrefused fault (inr more) =
      let had = had_uri own fault more in
      unmet_first own fault (reading had.0 had.1) (has_key had.0 had.1) (last_pass had.0 had.1) (inr more)

  let_in : (result : Result Admitted DoorFault) → AnswersDoor own result → IsLetIn place asked.limits c form result
  let_in (Ok admitted) is =
      let spelled = is.key.payload.timely.names.stated.texts.form.target.spelled in
      stated_so own admitted (reading is.reading.uri spelled) is (has_key is.reading.uri spelled)
  let_in (Err fault) (inl first) = absurd (unrefused fault first)
  let_in (Err fault) (inr room) = room

pub lets_in : (asked : DoorInput) (result : Result Admitted DoorFault) → AnswersDoor asked result → LetsSignedIn asked result
lets_in asked result answers = λ c form due. by c form due c.settings.signature_location refl due.signed.apart due.one_form
  where
    mine : (c : Case) (form : DoorPayload) → IsDueAtDoor asked c form → AnswersDoor (own_asked asked c) result
    mine c form due = subst (λ (a : DoorInput). AnswersDoor a result) (λ i. record {
      request = asked.request;
      body = asked.body;
      settings = sym due.settings i;
      region = sym due.region i;
      name = sym due.name i;
      secrets = asked.secrets;
      now = asked.now;
      limits = asked.limits;
    }) answers

    by : (c : Case) (form : DoorPayload) (due : IsDueAtDoor asked c form) (place : SignatureLocation) → c.settings.signature_location ≡ place → HasFormApart place c
        → ShowsOneForm place asked.limits c → IsLetIn c.settings.signature_location asked.limits c form result
    by c form due Headers here apart none =
        subst (λ (p : SignatureLocation). IsLetIn p asked.limits c form result) (sym here)
        (let_in asked c form due Headers here c.target (request_in_headers c asked.limits (header.signs_headers c due.signed here apart) none) result (mine c form due))
    by c form due QueryParams here apart (seconds, expiry, within) =
        let signs = query.signs_query c due.signed here apart in
        subst (λ (p : SignatureLocation). IsLetIn p asked.limits c form result) (sym here)
        (let_in asked c form due QueryParams here (query.sent_target c signs) (request_in_query c asked.limits signs seconds expiry within) result (mine c form due))
