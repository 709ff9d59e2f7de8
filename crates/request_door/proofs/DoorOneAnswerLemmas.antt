-- Of the tests of a service's door one is the first that is met.
use Rattle.std.proofs.Common.{◌≡◌, ℕ, List, [], ◌∷◌, ◌++◌, Option, Some, None, Ok, Err, inl, inr, ◌⊎◌, refl, sym, ap, ◌∙◌, subst, true≢false}
use Rattle.std.specs.Prelude.{IsSome, codes, string_bytes}
use Rattle.std.proofs.lemmas.List.{append_cancel_right}
use Rattle.http_uri.specs.declared.uri.Uri.{Uri}
use Rattle.smithy_core.specs.Moment.{Instant}
use Rattle.smithy_http.specs.QueryWriter.{SpellsTarget}
use Rattle.smithy_http.specs.Target.{Target, target_of}
use Rattle.eventstream.specs.Key.{scope}
use Rattle.sigv4.specs.Query.{Pair, decoded}
use Rattle.sigv4.specs.declared.settings.SignatureLocation.{SignatureLocation}
use Rattle.sigv4.specs.declared.settings.SignatureLocation.TheVariants.{Headers, QueryParams}
use Rattle.request_check.specs.Recomputed.{carried_names, recomputed, unfit_sent}
use Rattle.request_check.proofs.SealLemmas.{absent}
use Rattle.request_check.proofs.StampLemmas.{stamped_once}
use Rattle.presign_check.proofs.SignatureLemmas.{one_target, spelled_once}
use Rattle.presign_check.proofs.ParameterLemmas.{head_same}
use Rattle.request_door.specs.DoorAuthorization.{IsDoorAuthorization}
use Rattle.request_door.specs.DoorCarried.{CarriesAt, DoorTexts, IsInForm, MeetsCarried, MeetsDoorForm, form_tests, tests_of}
use Rattle.request_door.specs.DoorNames.{MeetsName, name_tests}
use Rattle.request_door.specs.DoorOneAnswer.{HasOneDoorAnswer, IsSameAdmitted}
use Rattle.request_door.specs.DoorOrder.{IsFirstMet, NoneMet}
use Rattle.request_door.specs.DoorPayloads.{IsOtherPayload, MeetsPayload, payload_tests, shown_form, shown_payload, signed_payload}
use Rattle.request_door.specs.DoorTerms.{DoorTerms, MeetsTerm, MeetsTime, TextsState, door_seal, good_until, term_tests, time_tests}
use Rattle.request_door.specs.Doors.{DoorInput, DoorReading, HasForm, HasKey, HasNames, HasPayload, HasTarget, HasCarriedTexts, HasStated, IsAdmitted, IsTimely, MeetsLast, RefusesCarried, RefusesFirst, RefusesForm, RefusesHeader, RefusesKey, RefusesLast, RefusesNames, RefusesPayload, RefusesDoorTarget, RefusesTerms, RefusesTime, AdmitsAs, door_signature, last_tests}
use Rattle.request_door.specs.declared.admitted.Admitted.{Admitted}
use Rattle.request_door.specs.declared.fault.DoorFault.{DoorFault}
use Rattle.request_door.specs.declared.payload.DoorPayload.{DoorPayload}
use Rattle.request_door.proofs.DoorReadingLemmas.{door_once}

-- ---- one list of tests

first_once : (meets : DoorFault → Type 0) (tests : List DoorFault) (f g : DoorFault) → IsFirstMet meets tests f → IsFirstMet meets tests g → g ≡ f
first_once meets [] f g p q = absurd p
first_once meets (test ∷ tests) f g (inl p) (inl q) = q.1 ∙ sym p.1
first_once meets (test ∷ tests) f g (inl p) (inr q) = absurd (q.0 p.0)
first_once meets (test ∷ tests) f g (inr p) (inl q) = absurd (p.0 q.0)
first_once meets (test ∷ tests) f g (inr p) (inr q) = first_once meets tests f g p.1 q.1

none_first : (meets : DoorFault → Type 0) (tests : List DoorFault) (f : DoorFault) → NoneMet meets tests → IsFirstMet meets tests f → ⊥
none_first meets [] f none p = p
none_first meets (test ∷ tests) f none (inl p) = none.0 p.0
none_first meets (test ∷ tests) f none (inr p) = none_first meets tests f none.1 p.1

-- ---- one reading

some_same : {A : Type 0} {x y : A} → ◌≡◌ {A = Option A} (Some x) (Some y) → x ≡ y
some_same {A} {x} {y} e = cc

none_some : {A : Type 0} (o : Option A) → o ≡ None → IsSome o → ⊥
none_some None e some = true≢false (sym some)
none_some (Some x) e some = absent (sym e)

one_place : (headers pairs : List Pair) (p q : SignatureLocation) → IsInForm headers pairs p → IsInForm headers pairs q → p ≡ q
one_place headers pairs Headers Headers a b = refl
one_place headers pairs Headers QueryParams a b = absurd (true≢false (sym a.0 ∙ b.0))
one_place headers pairs QueryParams Headers a b = absurd (true≢false (sym b.0 ∙ a.0))
one_place headers pairs QueryParams QueryParams a b = refl

texts_are : (a b : DoorTexts) → a.place ≡ b.place → a.credential ≡ b.credential → a.date ≡ b.date → a.expires ≡ b.expires → a.names ≡ b.names
    → a.signature ≡ b.signature → a ≡ b
texts_are a b place credential date expires names signature = λ i. record {
  place = place i;
  credential = credential i;
  date = date i;
  expires = expires i;
  names = names i;
  signature = signature i;
}

one_carried : (place : SignatureLocation) (headers pairs : List Pair) (a b : DoorTexts) → a.place ≡ b.place → CarriesAt place headers pairs a
    → CarriesAt place headers pairs b → a ≡ b
one_carried Headers headers pairs a b place p q =
    let same : p.authorization ≡ q.authorization = head_same p.authorization q.authorization (sym p.once ∙ q.once) in
    let read = subst (λ (t : List ℕ). IsDoorAuthorization t a.credential a.names a.signature) same p.read in
    let parts = door_once q.authorization a.credential a.names a.signature b.credential b.names b.signature read q.read in
    texts_are a b place parts.0 (head_same a.date b.date (sym p.date ∙ q.date)) (p.no_expiry ∙ sym q.no_expiry) parts.1 parts.2
one_carried QueryParams headers pairs a b place p q =
    texts_are a b place (head_same a.credential b.credential (sym p.credential ∙ q.credential)) (head_same a.date b.date (sym p.date ∙ q.date))
    (head_same a.expires b.expires (sym p.expires ∙ q.expires)) (head_same a.names b.names (sym p.names ∙ q.names))
    (head_same a.signature b.signature (sym p.signature ∙ q.signature))

one_stated : (region name : List ℕ) (texts : DoorTexts) (a b : DoorTerms) → TextsState region name texts a → TextsState region name texts b → a ≡ b
one_stated region name texts a b p q =
    let at : a.at ≡ b.at = stamped_once a.at b.at p.moment q.moment (p.date ∙ sym q.date) in
    let key_id : a.key_id ≡ b.key_id = append_cancel_right a.key_id b.key_id (codes "/")
    (append_cancel_right (a.key_id ++ codes "/") (b.key_id ++ codes "/") (scope b.at region name)
    (ap (λ (t : Instant). a.key_id ++ codes "/" ++ scope t region name) (sym at) ∙ (sym p.credential ∙ q.credential))) in
    let seconds : a.seconds ≡ b.seconds = some_same (sym p.expires ∙ q.expires) in
    λ i. record { key_id = key_id i; at = at i; seconds = seconds i }

module _ (asked : DoorInput) where
  targets : (a b : DoorReading) → HasTarget asked a → HasTarget asked b → target_of a.uri ≡ target_of b.uri
  targets a b p q = one_target (string_bytes asked.request.target) a.uri b.uri p.spelled.0 q.spelled

  places : (a b : DoorReading) → HasForm asked a → HasForm asked b → a.texts.place ≡ b.texts.place
  places a b p q =
      one_place asked.request.headers (decoded (target_of b.uri)) a.texts.place b.texts.place
      (subst (λ (t : Target). IsInForm asked.request.headers (decoded t) a.texts.place) (targets a b p.target q.target) p.in_form) q.in_form

  texts : (a b : DoorReading) → HasCarriedTexts asked a → HasCarriedTexts asked b → a.texts ≡ b.texts
  texts a b p q =
      let place = places a b p.form q.form in
      one_carried b.texts.place asked.request.headers (decoded (target_of b.uri)) a.texts b.texts place
      (subst (λ (t : Target). CarriesAt b.texts.place asked.request.headers (decoded t) a.texts) (targets a b p.form.target q.form.target)
      (subst (λ (at : SignatureLocation). CarriesAt at asked.request.headers (decoded (target_of a.uri)) a.texts) place p.carried)) q.carried

  terms : (a b : DoorReading) → HasStated asked a → HasStated asked b → a.terms ≡ b.terms
  terms a b p q =
      one_stated asked.region asked.name b.texts a.terms b.terms
      (subst (λ (t : DoorTexts). TextsState asked.region asked.name t a.terms) (texts a b p.texts q.texts) p.stated) q.stated

  pub forms : (a b : DoorReading) → HasPayload asked a → HasPayload asked b → a.form ≡ b.form
  forms a b p q =
      let same = texts a b p.timely.names.stated.texts q.timely.names.stated.texts in
      some_same (sym p.form ∙ (ap (λ (t : DoorTexts). shown_form t.place asked.settings.payload_checksum_kind (shown_payload asked.request.headers)) same ∙ q.form))

  secrets_are : (a b : DoorReading) → HasKey asked a → HasKey asked b → a.secret ≡ b.secret
  secrets_are a b p q =
      let same = terms a b p.payload.timely.names.stated q.payload.timely.names.stated in
      some_same (sym p.known ∙ (ap (λ (t : DoorTerms). asked.secrets t.key_id) same ∙ q.known))

  -- ---- a test that is met of one reading is met of the other

  move_form : (a b : DoorReading) (f : DoorFault) → HasTarget asked a → HasTarget asked b
      → IsFirstMet (MeetsDoorForm asked.request.headers (decoded (target_of a.uri))) form_tests f
      → IsFirstMet (MeetsDoorForm asked.request.headers (decoded (target_of b.uri))) form_tests f
  move_form a b f p q first = subst (λ (t : Target). IsFirstMet (MeetsDoorForm asked.request.headers (decoded t)) form_tests f) (targets a b p q) first

  move_carried : (a b : DoorReading) (f : DoorFault) → HasForm asked a → HasForm asked b
      → IsFirstMet (MeetsCarried a.texts.place asked.request.headers (decoded (target_of a.uri))) (tests_of a.texts.place) f
      → IsFirstMet (MeetsCarried b.texts.place asked.request.headers (decoded (target_of b.uri))) (tests_of b.texts.place) f
  move_carried a b f p q first =
      subst (λ (t : Target). IsFirstMet (MeetsCarried b.texts.place asked.request.headers (decoded t)) (tests_of b.texts.place) f) (targets a b p.target q.target)
      (subst (λ (at : SignatureLocation). IsFirstMet (MeetsCarried at asked.request.headers (decoded (target_of a.uri))) (tests_of at) f) (places a b p q) first)

  move_terms : (a b : DoorReading) (f : DoorFault) → HasCarriedTexts asked a → HasCarriedTexts asked b
      → IsFirstMet (MeetsTerm asked.region asked.name asked.limits a.texts) term_tests f
      → IsFirstMet (MeetsTerm asked.region asked.name asked.limits b.texts) term_tests f
  move_terms a b f p q first = subst (λ (t : DoorTexts). IsFirstMet (MeetsTerm asked.region asked.name asked.limits t) term_tests f) (texts a b p q) first

  abbrev Names : DoorTexts → DoorFault → Type 0
  Names t f = IsFirstMet (MeetsName t.place asked.settings.session_token_mode asked.limits asked.request.headers (carried_names t.names)) name_tests f

  move_names : (a b : DoorReading) (f : DoorFault) → HasStated asked a → HasStated asked b → Names a.texts f → Names b.texts f
  move_names a b f p q first = subst (λ (t : DoorTexts). Names t f) (texts a b p.texts q.texts) first

  abbrev Time : DoorTexts → DoorTerms → DoorFault → Type 0
  Time t terms f = IsFirstMet (MeetsTime t.place asked.limits asked.now terms) time_tests f

  move_time : (a b : DoorReading) (f : DoorFault) → HasNames asked a → HasNames asked b → Time a.texts a.terms f → Time b.texts b.terms f
  move_time a b f p q first =
      subst (λ (t : DoorTerms). Time b.texts t f) (terms a b p.stated q.stated) (subst (λ (t : DoorTexts). Time t a.terms f) (texts a b p.stated.texts q.stated.texts) first)

  abbrev Shown : DoorTexts → DoorFault → Type 0
  Shown t f = IsFirstMet (MeetsPayload t.place asked.settings.payload_checksum_kind asked.request.headers) payload_tests f

  move_payload : (a b : DoorReading) (f : DoorFault) → IsTimely asked a → IsTimely asked b → Shown a.texts f → Shown b.texts f
  move_payload a b f p q first = subst (λ (t : DoorTexts). Shown t f) (texts a b p.names.stated.texts q.names.stated.texts) first

  signatures : (a b : DoorReading) → HasKey asked a → HasKey asked b → door_signature asked a ≡ door_signature asked b
  signatures a b p q =
      let stated_a = p.payload.timely.names.stated in
      let stated_b = q.payload.timely.names.stated in
      let target = targets a b stated_a.texts.form.target stated_b.texts.form.target in
      let text = texts a b stated_a.texts stated_b.texts in
      let term = terms a b stated_a stated_b in
      let form = forms a b p.payload q.payload in
      let secret = secrets_are a b p q in
      λ i. recomputed (string_bytes asked.request.method) (target i) asked.request.headers asked.settings
      (signed_payload (shown_payload asked.request.headers) (form i) asked.body) (record { secret = secret i; region = asked.region; name = asked.name })
      (door_seal (text i) (term i))

  move_last : (a b : DoorReading) (f : DoorFault) → HasKey asked a → HasKey asked b → IsFirstMet (MeetsLast asked a) last_tests f
      → IsFirstMet (MeetsLast asked b) last_tests f
  move_last a b f p q (inl (other, is)) =
      inl (subst (λ (form : DoorPayload). IsOtherPayload (shown_payload asked.request.headers) form asked.body) (forms a b p.payload q.payload) other, is)
  move_last a b f p q (inr (none, inl (differs, is))) =
      let text = texts a b p.payload.timely.names.stated.texts q.payload.timely.names.stated.texts in
      inr (
        λ other. none (subst (λ (form : DoorPayload). IsOtherPayload (shown_payload asked.request.headers) form asked.body) (sym (forms a b p.payload q.payload)) other),
        inl (λ e. differs (ap (λ (t : DoorTexts). t.signature) text ∙ (e ∙ sym (signatures a b p q))), is),
      )
  move_last a b f p q (inr (none, inr (same, never))) = absurd never

  -- ---- what passed a group of tests meets none of them

  no_target : (f : DoorFault) (uri : Uri) → RefusesDoorTarget asked f → SpellsTarget (string_bytes asked.request.target) uri → ⊥
  no_target f uri met spelled = spelled_once (string_bytes asked.request.target) uri spelled met.0

  no_header : (f : DoorFault) (r : DoorReading) → RefusesHeader asked f → HasTarget asked r → ⊥
  no_header f r (uri, spelled, some, is) has =
      none_some (unfit_sent (target_of uri) asked.request.headers)
      (ap (λ (t : Target). unfit_sent t asked.request.headers) (one_target (string_bytes asked.request.target) uri r.uri spelled.0 has.spelled) ∙ has.fit) some

  no_form : (f : DoorFault) (r : DoorReading) → RefusesForm asked f → HasForm asked r → ⊥
  no_form f r (a, p, first) has =
      none_first (MeetsDoorForm asked.request.headers (decoded (target_of r.uri))) form_tests f has.untouched (move_form a r f p has.target first)

  no_carried : (f : DoorFault) (r : DoorReading) → RefusesCarried asked f → HasCarriedTexts asked r → ⊥
  no_carried f r (a, p, first) has =
      none_first (MeetsCarried r.texts.place asked.request.headers (decoded (target_of r.uri))) (tests_of r.texts.place) f has.whole (move_carried a r f p has.form first)

  no_terms : (f : DoorFault) (r : DoorReading) → RefusesTerms asked f → HasStated asked r → ⊥
  no_terms f r (a, p, first) has =
      none_first (MeetsTerm asked.region asked.name asked.limits r.texts) term_tests f has.good (move_terms a r f p has.texts first)

  no_names : (f : DoorFault) (r : DoorReading) → RefusesNames asked f → HasNames asked r → ⊥
  no_names f r (a, p, first) has =
      none_first (MeetsName r.texts.place asked.settings.session_token_mode asked.limits asked.request.headers (carried_names r.texts.names)) name_tests f has.named
      (move_names a r f p has.stated first)

  no_time : (f : DoorFault) (r : DoorReading) → RefusesTime asked f → IsTimely asked r → ⊥
  no_time f r (a, p, first) has =
      none_first (MeetsTime r.texts.place asked.limits asked.now r.terms) time_tests f has.timed (move_time a r f p has.names first)

  no_payload : (f : DoorFault) (r : DoorReading) → RefusesPayload asked f → HasPayload asked r → ⊥
  no_payload f r (a, p, first) has =
      none_first (MeetsPayload r.texts.place asked.settings.payload_checksum_kind asked.request.headers) payload_tests f has.shown
      (move_payload a r f p has.timely first)

  no_key : (f : DoorFault) (r : DoorReading) → RefusesKey asked f → HasKey asked r → ⊥
  no_key f r (a, p, none, is) has =
      absent (sym none ∙ (ap (λ (t : DoorTerms). asked.secrets t.key_id) (terms a r p.timely.names.stated has.payload.timely.names.stated) ∙ has.known))

  -- ---- what those after a group passed

  abbrev FromKey : DoorFault → Type 0
  FromKey f = RefusesKey asked f ⊎ RefusesLast asked f

  abbrev FromPayload : DoorFault → Type 0
  FromPayload f = RefusesPayload asked f ⊎ FromKey f

  abbrev FromTime : DoorFault → Type 0
  FromTime f = RefusesTime asked f ⊎ FromPayload f

  abbrev FromNames : DoorFault → Type 0
  FromNames f = RefusesNames asked f ⊎ FromTime f

  abbrev FromTerms : DoorFault → Type 0
  FromTerms f = RefusesTerms asked f ⊎ FromNames f

  abbrev FromCarried : DoorFault → Type 0
  FromCarried f = RefusesCarried asked f ⊎ FromTerms f

  abbrev pub FromForm : DoorFault → Type 0
  FromForm f = RefusesForm asked f ⊎ FromCarried f

  abbrev pub FromHeader : DoorFault → Type 0
  FromHeader f = RefusesHeader asked f ⊎ FromForm f

  had_payload : (f : DoorFault) → FromKey f → (r : DoorReading) × HasPayload asked r
  had_payload f (inl (r, p, none, is)) = (r, p)
  had_payload f (inr (r, p, first)) = (r, p.payload)

  had_time : (f : DoorFault) → FromPayload f → (r : DoorReading) × IsTimely asked r
  had_time f (inl (r, p, first)) = (r, p)
  had_time f (inr m) = let had = had_payload f m in (had.0, had.1.timely)

  had_names : (f : DoorFault) → FromTime f → (r : DoorReading) × HasNames asked r
  had_names f (inl (r, p, first)) = (r, p)
  had_names f (inr m) = let had = had_time f m in (had.0, had.1.names)

  had_told : (f : DoorFault) → FromNames f → (r : DoorReading) × HasStated asked r
  had_told f (inl (r, p, first)) = (r, p)
  had_told f (inr m) = let had = had_names f m in (had.0, had.1.stated)

  had_texts : (f : DoorFault) → FromTerms f → (r : DoorReading) × HasCarriedTexts asked r
  had_texts f (inl (r, p, first)) = (r, p)
  had_texts f (inr m) = let had = had_told f m in (had.0, had.1.texts)

  had_form : (f : DoorFault) → FromCarried f → (r : DoorReading) × HasForm asked r
  had_form f (inl (r, p, first)) = (r, p)
  had_form f (inr m) = let had = had_texts f m in (had.0, had.1.form)

  had_target : (f : DoorFault) → FromForm f → (r : DoorReading) × HasTarget asked r
  had_target f (inl (r, p, first)) = (r, p)
  had_target f (inr m) = let had = had_form f m in (had.0, had.1.target)

  pub had_uri : (f : DoorFault) → FromHeader f → (uri : Uri) × SpellsTarget (string_bytes asked.request.target) uri
  had_uri f (inl (uri, spelled, some, is)) = (uri, spelled)
  had_uri f (inr m) = let had = had_target f m in (had.0.uri, had.1.spelled)

  -- ---- two first tests

  from_key : (f g : DoorFault) → FromKey f → FromKey g → g ≡ f
  from_key f g (inl (a, p, none, is)) (inl (b, q, other, so)) = so ∙ sym is
  from_key f g (inl m) (inr (b, q, first)) = absurd (no_key f b m q)
  from_key f g (inr (a, p, first)) (inl n) = absurd (no_key g a n p)
  from_key f g (inr (a, p, first)) (inr (b, q, other)) = first_once (MeetsLast asked b) last_tests f g (move_last a b f p q first) other

  from_payload : (f g : DoorFault) → FromPayload f → FromPayload g → g ≡ f
  from_payload f g (inl (a, p, first)) (inl (b, q, other)) =
      first_once (MeetsPayload b.texts.place asked.settings.payload_checksum_kind asked.request.headers) payload_tests f g (move_payload a b f p q first) other
  from_payload f g (inl m) (inr n) = let had = had_payload g n in absurd (no_payload f had.0 m had.1)
  from_payload f g (inr m) (inl n) = let had = had_payload f m in absurd (no_payload g had.0 n had.1)
  from_payload f g (inr m) (inr n) = from_key f g m n

  from_time : (f g : DoorFault) → FromTime f → FromTime g → g ≡ f
  from_time f g (inl (a, p, first)) (inl (b, q, other)) =
      first_once (MeetsTime b.texts.place asked.limits asked.now b.terms) time_tests f g (move_time a b f p q first) other
  from_time f g (inl m) (inr n) = let had = had_time g n in absurd (no_time f had.0 m had.1)
  from_time f g (inr m) (inl n) = let had = had_time f m in absurd (no_time g had.0 n had.1)
  from_time f g (inr m) (inr n) = from_payload f g m n

  from_names : (f g : DoorFault) → FromNames f → FromNames g → g ≡ f
  from_names f g (inl (a, p, first)) (inl (b, q, other)) =
      first_once (MeetsName b.texts.place asked.settings.session_token_mode asked.limits asked.request.headers (carried_names b.texts.names)) name_tests f g
      (move_names a b f p q first) other
  from_names f g (inl m) (inr n) = let had = had_names g n in absurd (no_names f had.0 m had.1)
  from_names f g (inr m) (inl n) = let had = had_names f m in absurd (no_names g had.0 n had.1)
  from_names f g (inr m) (inr n) = from_time f g m n

  from_terms : (f g : DoorFault) → FromTerms f → FromTerms g → g ≡ f
  from_terms f g (inl (a, p, first)) (inl (b, q, other)) =
      first_once (MeetsTerm asked.region asked.name asked.limits b.texts) term_tests f g (move_terms a b f p q first) other
  from_terms f g (inl m) (inr n) = let had = had_told g n in absurd (no_terms f had.0 m had.1)
  from_terms f g (inr m) (inl n) = let had = had_told f m in absurd (no_terms g had.0 n had.1)
  from_terms f g (inr m) (inr n) = from_names f g m n

  from_carried : (f g : DoorFault) → FromCarried f → FromCarried g → g ≡ f
  from_carried f g (inl (a, p, first)) (inl (b, q, other)) =
      first_once (MeetsCarried b.texts.place asked.request.headers (decoded (target_of b.uri))) (tests_of b.texts.place) f g (move_carried a b f p q first) other
  from_carried f g (inl m) (inr n) = let had = had_texts g n in absurd (no_carried f had.0 m had.1)
  from_carried f g (inr m) (inl n) = let had = had_texts f m in absurd (no_carried g had.0 n had.1)
  from_carried f g (inr m) (inr n) = from_terms f g m n

  from_form : (f g : DoorFault) → FromForm f → FromForm g → g ≡ f
  from_form f g (inl (a, p, first)) (inl (b, q, other)) =
      first_once (MeetsDoorForm asked.request.headers (decoded (target_of b.uri))) form_tests f g (move_form a b f p q first) other
  from_form f g (inl m) (inr n) = let had = had_form g n in absurd (no_form f had.0 m had.1)
  from_form f g (inr m) (inl n) = let had = had_form f m in absurd (no_form g had.0 n had.1)
  from_form f g (inr m) (inr n) = from_carried f g m n

  from_header : (f g : DoorFault) → FromHeader f → FromHeader g → g ≡ f
  from_header f g (inl (u, p, some, is)) (inl (v, q, other, so)) = so ∙ sym is
  from_header f g (inl m) (inr n) = let had = had_target g n in absurd (no_header f had.0 m had.1)
  from_header f g (inr m) (inl n) = let had = had_target f m in absurd (no_header g had.0 n had.1)
  from_header f g (inr m) (inr n) = from_form f g m n

  one_fault : (f g : DoorFault) → RefusesFirst asked f → RefusesFirst asked g → g ≡ f
  one_fault f g (inl (none, is)) (inl (other, so)) = so ∙ sym is
  one_fault f g (inl m) (inr n) = let had = had_uri g n in absurd (no_target f had.0 m had.1)
  one_fault f g (inr m) (inl n) = let had = had_uri f m in absurd (no_target g had.0 n had.1)
  one_fault f g (inr m) (inr n) = from_header f g m n

  -- ---- a request of which something is read to its end meets none

  pub unmet_first : (f : DoorFault) (r : DoorReading) → HasKey asked r → NoneMet (MeetsLast asked r) last_tests → RefusesFirst asked f → ⊥
  unmet_first f r key none first = by first
    where
      by : RefusesFirst asked f → ⊥
      by (inl m) = no_target f r.uri m key.payload.timely.names.stated.texts.form.target.spelled
      by (inr (inl m)) = no_header f r m key.payload.timely.names.stated.texts.form.target
      by (inr (inr (inl m))) = no_form f r m key.payload.timely.names.stated.texts.form
      by (inr (inr (inr (inl m)))) = no_carried f r m key.payload.timely.names.stated.texts
      by (inr (inr (inr (inr (inl m))))) = no_terms f r m key.payload.timely.names.stated
      by (inr (inr (inr (inr (inr (inl m)))))) = no_names f r m key.payload.timely.names
      by (inr (inr (inr (inr (inr (inr (inl m))))))) = no_time f r m key.payload.timely
      by (inr (inr (inr (inr (inr (inr (inr (inl m)))))))) = no_payload f r m key.payload
      by (inr (inr (inr (inr (inr (inr (inr (inr (inl m))))))))) = no_key f r m key
      by (inr (inr (inr (inr (inr (inr (inr (inr (inr (a, p, last)))))))))) =
          none_first (MeetsLast asked r) last_tests f none (move_last a r f p key last)

  -- what is said of an admitted request is what is read of it
  pub stated_so : (admitted : Admitted) (r : DoorReading) → IsAdmitted asked admitted → HasKey asked r
      → AdmitsAs r.texts r.terms (good_until r.texts.place asked.limits r.terms) r.form admitted
  stated_so admitted r is key =
      let text = texts is.reading r is.key.payload.timely.names.stated.texts key.payload.timely.names.stated.texts in
      let term = terms is.reading r is.key.payload.timely.names.stated key.payload.timely.names.stated in
      record {
        key_id = is.stated.key_id ∙ ap (λ (t : DoorTerms). t.key_id) term;
        place = is.stated.place ∙ ap (λ (t : DoorTexts). t.place) text;
        at = is.stated.at ∙ ap (λ (t : DoorTerms). t.at) term;
        until = is.stated.until ∙ (λ i. good_until (text i).place asked.limits (term i));
        names = is.stated.names ∙ ap (λ (t : DoorTexts). t.names) text;
        payload = is.stated.payload ∙ forms is.reading r is.key.payload key.payload;
        signature = is.stated.signature ∙ ap (λ (t : DoorTexts). t.signature) text;
      }

  told_same : (admitted other : Admitted) → IsAdmitted asked admitted → IsAdmitted asked other → IsSameAdmitted admitted other
  told_same admitted other p q =
      let stated = stated_so other p.reading q p.key in
      record {
        key_id = stated.key_id ∙ sym p.stated.key_id;
        place = stated.place ∙ sym p.stated.place;
        at = stated.at ∙ sym p.stated.at;
        until = stated.until ∙ sym p.stated.until;
        names = stated.names ∙ sym p.stated.names;
        payload = stated.payload ∙ sym p.stated.payload;
        signature = stated.signature ∙ sym p.stated.signature;
      }

  pub one_answer : HasOneDoorAnswer asked
  one_answer (Ok admitted) (Ok other) p q = told_same admitted other p q
  one_answer (Ok admitted) (Err f) p (inl first) = absurd (unmet_first f p.reading p.key p.last first)
  one_answer (Ok admitted) (Err f) p (inr room) = room
  one_answer (Err f) (Ok other) (inl first) q = absurd (unmet_first f q.reading q.key q.last first)
  one_answer (Err f) (Ok other) (inr room) q = room
  one_answer (Err f) (Err g) (inl p) (inl q) = inl (one_fault f g p q)
  one_answer (Err f) (Err g) (inl p) (inr room) = inr (inr room)
  one_answer (Err f) (Err g) (inr room) q = inr (inl room)
