-- The first test of a service's door that is met, of those of each step.
use Rattle.std.proofs.Common.{ℕ, List, [], Option, Ok, Err, ℤ, pos, inl, inr, ◌∙◌}
use Rattle.std.specs.Prelude.{Result, String, string_bytes}
use Rattle.std.specs.declared.alloc.Global.{Global}
use Rattle.http_uri.specs.declared.uri.Uri.{Uri}
use Rattle.smithy_core.specs.Moment.{Instant}
use Rattle.smithy_core.specs.declared.request.HttpRequest.{HttpRequest}
use Rattle.smithy_http.specs.Target.{target_of}
use Rattle.sigv4.specs.Query.{decoded}
use Rattle.sigv4.specs.Settings.{Settings}
use Rattle.sigv4.specs.declared.settings.SignatureLocation.{SignatureLocation}
use Rattle.sigv4.specs.declared.settings.SignatureLocation.TheVariants.{Headers}
use Rattle.request_check.specs.Recomputed.{carried_names}
use Rattle.request_door.specs.DoorCarried.{DoorTexts, ReadsCarried, texts_carried}
use Rattle.request_door.specs.DoorNames.{PassesNames}
use Rattle.request_door.specs.DoorPayloads.{ReadsPayload}
use Rattle.request_door.specs.DoorTerms.{DoorTerms, ReadsDoorTerms, TestsTime, door_seal, stated_terms}
use Rattle.request_door.specs.Doors.{AcceptsTarget, AnswersDoor, CarriesTerms, DoorInput, DoorReading, FindsSecret, HasForm, HasKey, HasNames, HasPayload, HasTarget, HasCarriedTexts, HasStated, IsTimely, AdmitsAs, TestsLast}
use Rattle.request_door.specs.declared.admitted.Admitted.{Admitted}
use Rattle.request_door.specs.declared.carried.Carried.{Carried}
use Rattle.request_door.specs.declared.fault.DoorFault.{DoorFault}
use Rattle.request_door.specs.declared.limits.Limits.{Limits}
use Rattle.request_door.specs.declared.payload.DoorPayload.{DoorPayload}
use Rattle.request_door.specs.declared.payload.DoorPayload.TheVariants.{Unsigned}
use Rattle.request_door.specs.declared.terms.Terms.{Terms}
use Rattle.request_door.proofs.DoorCarriedLemmas.{in_one_form}

-- what is asked, of the arguments
abbrev pub input : HttpRequest → List ℕ → Settings → List ℕ → List ℕ → (List ℕ → Option (List ℕ)) → Instant → Limits → DoorInput
input request body settings region name secrets now limits = record {
  request = request;
  body = body;
  settings = settings;
  region = region;
  name = name;
  secrets = secrets;
  now = now;
  limits = limits;
}

-- ---- readings that come only so far

abbrev no_texts : SignatureLocation → DoorTexts
no_texts place = record { place = place; credential = []; date = []; expires = []; names = []; signature = [] }

abbrev no_terms : DoorTerms
no_terms = record { key_id = []; at = record { secs = pos 0; nanos = 0 }; seconds = 0 }

abbrev pub read_so_far : Uri → DoorTexts → DoorTerms → DoorPayload → List ℕ → DoorReading
read_so_far uri texts terms form secret = record { uri = uri; texts = texts; terms = terms; form = form; secret = secret }

-- ---- what each step leaves

module _ (asked : DoorInput) (uri : Uri) (accepted : AcceptsTarget asked.request (Ok uri)) where
  left_target : (texts : DoorTexts) (terms : DoorTerms) (form : DoorPayload) (secret : List ℕ) → HasTarget asked (read_so_far uri texts terms form secret)
  left_target texts terms form secret = record { spelled = accepted.0; fit = accepted.1 }

  -- what is carried isn't read
  pub refused_carried : (fault : DoorFault) → ReadsCarried asked.request.headers (decoded (target_of uri)) (Err fault) → AnswersDoor asked (Err fault)
  refused_carried fault (inl first) =
      let reading = read_so_far uri (no_texts Headers) no_terms Unsigned [] in
      inl (inr (inr (inl (reading, left_target (no_texts Headers) no_terms Unsigned [], first))))
  refused_carried fault (inr (place, in_form, first)) =
      let reading = read_so_far uri (no_texts place) no_terms Unsigned [] in
      let form : HasForm asked reading = record {
        target = left_target (no_texts place) no_terms Unsigned [];
        untouched = in_one_form asked.request.headers (decoded (target_of uri)) place in_form;
        in_form = in_form;
      } in
      inl (inr (inr (inr (inl (reading, form, first)))))

  module _ (read : Carried) (reads : ReadsCarried asked.request.headers (decoded (target_of uri)) (Ok read)) where
    left_texts : (terms : DoorTerms) (form : DoorPayload) (secret : List ℕ) → HasCarriedTexts asked (read_so_far uri (texts_carried read) terms form secret)
    left_texts terms form secret = record {
      form = record { target = left_target (texts_carried read) terms form secret; untouched = reads.0; in_form = reads.1 };
      whole = reads.2;
      carried = reads.3;
    }

    -- the texts don't state what they have to
    pub refused_terms : (fault : DoorFault) → ReadsDoorTerms asked.region asked.name asked.limits (texts_carried read) (Err fault) → AnswersDoor asked (Err fault)
    refused_terms fault (inl first) =
        inl (inr (inr (inr (inr (inl (read_so_far uri (texts_carried read) no_terms Unsigned [], left_texts no_terms Unsigned [], first))))))
    refused_terms fault (inr room) = inr room

-- ---- what is left behind the terms

module _ (asked : DoorInput) (uri : Uri) (read : Carried) (stated : Terms) (carries : CarriesTerms asked.request uri asked.region asked.name asked.limits read stated) where
  left_stated : (form : DoorPayload) (secret : List ℕ) → HasStated asked (read_so_far uri (texts_carried read) (stated_terms stated) form secret)
  left_stated form secret = record {
    texts = left_texts asked uri carries.texts.accepted read carries.texts.reads (stated_terms stated) form secret;
    good = carries.states.0;
    stated = carries.states.1;
  }

  -- the names aren't as they have to be
  pub refused_names : (fault : DoorFault)
      → PassesNames read.place asked.settings.session_token_mode asked.limits asked.request.headers (carried_names read.names.now) (Err fault)
      → AnswersDoor asked (Err fault)
  refused_names fault (inl first) =
      inl (inr (inr (inr (inr (inr (inl (read_so_far uri (texts_carried read) (stated_terms stated) Unsigned [], left_stated Unsigned [], first)))))))
  refused_names fault (inr room) = inr room

  module _ (named : PassesNames read.place asked.settings.session_token_mode asked.limits asked.request.headers (carried_names read.names.now) (Ok tt)) where
    left_names : (form : DoorPayload) (secret : List ℕ) → HasNames asked (read_so_far uri (texts_carried read) (stated_terms stated) form secret)
    left_names form secret = record { stated = left_stated form secret; named = named }

    -- it is too early, or too late
    pub refused_time : (fault : DoorFault) → TestsTime read.place asked.limits asked.now (stated_terms stated) (Err fault) → AnswersDoor asked (Err fault)
    refused_time fault first =
        inl (inr (inr (inr (inr (inr (inr (inl (read_so_far uri (texts_carried read) (stated_terms stated) Unsigned [], left_names Unsigned [], first))))))))

    module _ (until : ℤ) (timed : TestsTime read.place asked.limits asked.now (stated_terms stated) (Ok until)) where
      left_time : (form : DoorPayload) (secret : List ℕ) → IsTimely asked (read_so_far uri (texts_carried read) (stated_terms stated) form secret)
      left_time form secret = record { names = left_names form secret; timed = timed.0 }

      -- the payload's header isn't one
      pub refused_payload : (fault : DoorFault) → ReadsPayload read.place asked.settings.payload_checksum_kind asked.request.headers (Err fault)
          → AnswersDoor asked (Err fault)
      refused_payload fault first =
          inl (inr (inr (inr (inr (inr (inr (inr (inl (read_so_far uri (texts_carried read) (stated_terms stated) Unsigned [], left_time Unsigned [], first)))))))))

      module _ (form : DoorPayload) (shown : ReadsPayload read.place asked.settings.payload_checksum_kind asked.request.headers (Ok form)) where
        left_payload : (secret : List ℕ) → HasPayload asked (read_so_far uri (texts_carried read) (stated_terms stated) form secret)
        left_payload secret = record { timely = left_time form secret; shown = shown.0; form = shown.1 }

        -- the key isn't known
        pub refused_key : (fault : DoorFault) → FindsSecret (asked.secrets stated.key_id.now) (Err fault) → AnswersDoor asked (Err fault)
        refused_key fault (inl (none, is)) =
            inl (inr (inr (inr (inr (inr (inr (inr (inr (inl (read_so_far uri (texts_carried read) (stated_terms stated) form [], left_payload [], none, is))))))))))
        refused_key fault (inr room) = inr room

        module _ (secret : String Global) (known : FindsSecret (asked.secrets stated.key_id.now) (Ok secret)) where
          left_key : HasKey asked (read_so_far uri (texts_carried read) (stated_terms stated) form (string_bytes secret))
          left_key = record { payload = left_payload (string_bytes secret); known = known }

          abbrev Last : Result (Unit {0}) DoorFault → Type 0
          Last result =
              TestsLast asked.request asked.settings asked.body (record { secret = string_bytes secret; region = asked.region; name = asked.name }) form
              (door_seal (texts_carried read) (stated_terms stated)) uri result

          -- the payload or the signature is another one
          pub refused_last : (fault : DoorFault) → Last (Err fault) → AnswersDoor asked (Err fault)
          refused_last fault (inl (other, is)) =
              inl (inr (inr (inr (inr (inr (inr (inr (inr (inr
              (read_so_far uri (texts_carried read) (stated_terms stated) form (string_bytes secret), left_key, inl (other, is)))))))))))
          refused_last fault (inr (inl (same, differs, is))) =
              inl (inr (inr (inr (inr (inr (inr (inr (inr (inr
              (read_so_far uri (texts_carried read) (stated_terms stated) form (string_bytes secret), left_key, inr (same, inl (differs, is))))))))))))
          refused_last fault (inr (inr room)) = inr room

          -- no test is met
          pub admits : (admitted : Admitted) → Last (Ok tt) → AdmitsAs (texts_carried read) (stated_terms stated) until form admitted
              → AnswersDoor asked (Ok admitted)
          admits admitted last tells_request = record {
            reading = read_so_far uri (texts_carried read) (stated_terms stated) form (string_bytes secret);
            key = left_key;
            own = last.1;
            last = (last.0, (λ differs. differs last.1, tt));
            stated = record {
              key_id = tells_request.key_id;
              place = tells_request.place;
              at = tells_request.at;
              until = tells_request.until ∙ timed.1;
              names = tells_request.names;
              payload = tells_request.payload;
              signature = tells_request.signature;
            };
          }

-- the target isn't accepted, or headers or host aren't fit
pub refused_target : (asked : DoorInput) (fault : DoorFault) → AcceptsTarget asked.request (Err fault) → AnswersDoor asked (Err fault)
refused_target asked fault (inl none) = inl (inl none)
refused_target asked fault (inr (inl header)) = inl (inr (inl header))
refused_target asked fault (inr (inr room)) = inr room
