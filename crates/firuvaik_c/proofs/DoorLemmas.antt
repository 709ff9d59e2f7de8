-- What a service's door hands out.
use Rattle.std.proofs.Common.{◌≡◌, ◌⊎◌, ◌&&◌, ℕ, ℤ, zero, suc, ◌<◌, Bool, true, false, if◌then◌else◌, List, [], ◌∷◌, map, length, Option, Some, None, refl, ap, subst, ◌∙◌, inl, inr, string_bytes, bytes_eq, arith}
use Rattle.std.proofs.lemmas.List.{length-map}
use Rattle.std.specs.Prelude.{Result, Ok, Err}
use Rattle.std.specs.Option.{option_or}
use Rattle.smithy_core.specs.TextPairs.{first_place, first_value}
use Rattle.smithy_core.specs.declared.request.HttpRequest.{HttpRequest}
use Rattle.smithy_http.specs.Target.{Target}
use Rattle.eventstream.specs.Key.{Signer}
use Rattle.sigv4.specs.Query.{Pair}
use Rattle.sigv4.specs.Settings.{Settings}
use Rattle.sigv4.specs.Signature.{signature}
use Rattle.request_check.specs.Recomputed.{recomputed}
use Rattle.request_check.specs.Sealed.{SealParts}
use Rattle.smithy_core.specs.Moment.{Instant}
use Rattle.request_door.specs.Doors.{AnswersDoor, DoorInput, IsAdmitted, RefusesFirst}
use Rattle.request_door.specs.declared.admitted.Admitted.{Admitted}
use Rattle.request_door.specs.declared.fault.DoorFault.{DoorFault}
use Rattle.request_door.specs.declared.fault.DoorFault.TheVariants.{NoMemory}
use Rattle.firuvaik_c.specs.Admitting.{AdmitsLent, AnswersEntry, IsLentRequest, LetsIn, DescribesEntry, door_fault, key_pair, service_input, unasked}
use Rattle.firuvaik_c.specs.Asked.{unless_utf8}
use Rattle.firuvaik_c.specs.Faults.{unknown_flags}
use Rattle.firuvaik_c.specs.declared.door.Entry.{Entry}
use Rattle.firuvaik_c.specs.declared.fault.Fault.{Fault}
use Rattle.firuvaik_c.specs.declared.lent.Key.{Key}
use Rattle.firuvaik_c.specs.declared.lent.Request.{Request}
use Rattle.firuvaik_c.specs.declared.lent.Service.{Service}
use Rattle.firuvaik_c.proofs.LinkLemmas.{length-digits}

-- a signature that is computed again has 64 digits
length-recomputed : (method : List ℕ) (target : Target) (headers : List Pair) (settings : Settings) (payload : List ℕ) (signer : Signer) (seal : SealParts)
    → length (recomputed method target headers settings payload signer seal) ≡ 64
unfolding recomputed signature
length-recomputed method target headers settings payload signer seal = length-digits _ _

-- so has that of an admitted request
pub length-admitted : (asked : DoorInput) (who : Admitted) → IsAdmitted asked who → length (string_bytes who.signature) ≡ 64
length-admitted asked who is = ap length (is.stated.signature ∙ is.own) ∙ length-recomputed _ _ _ _ _ _ _

within_if : (b : Bool) (value : List ℕ) (rest : Option (List ℕ)) (place count : ℕ) (secret : List ℕ) → (rest ≡ Some secret → place < count)
    → option_or (if b then Some value else None) rest ≡ Some secret → (if b then zero else suc place) < suc count
within_if true value rest place count secret more is = omega arith
within_if false value rest place count secret more is = omega (arith, more is)

-- a pair whose value is found has a place
place_within : (pairs : List (List ℕ × List ℕ)) (name secret : List ℕ) → first_value pairs name ≡ Some secret → first_place pairs name < length pairs
place_within [] name secret is = cc
place_within (pair ∷ pairs) name secret is =
    within_if (bytes_eq pair.0 name) pair.1 (first_value pairs name) (first_place pairs name) (length pairs) secret (place_within pairs name secret) is

-- a request that an entry describes is let in by one of the keys
pub lets_in : (asked : DoorInput) (keys : List Key) (who : Admitted) (entry : Entry) (is : IsAdmitted asked who)
    → first_value (map key_pair keys) is.reading.terms.key_id ≡ Some is.reading.secret → DescribesEntry keys who entry → LetsIn asked keys entry
lets_in asked keys who entry is known describes =
    let within = rw (length-map keys key_pair) at (place_within (map key_pair keys) is.reading.terms.key_id is.reading.secret known) in
    record { who = who; admitted = is; describes = describes; known = rw (describes.key, is.stated.key_id) within }

-- a refusal stays so where settings, moment and limits are said otherwise
pub same_refusal : (sent : HttpRequest) (body region name : List ℕ) (secrets : List ℕ → Option (List ℕ)) (settings given : Settings) (now at : Instant) (skew expiry seconds : ℕ)
    (fault : DoorFault) → settings ≡ given → now ≡ at → expiry ≡ seconds
    → AnswersDoor (record {
      request = sent;
      body = body;
      settings = settings;
      region = region;
      name = name;
      secrets = secrets;
      now = now;
      limits = record { skew = skew; expiry = expiry; names = 100 };
    }) (Err fault)
    → AnswersDoor (record {
      request = sent;
      body = body;
      settings = given;
      region = region;
      name = name;
      secrets = secrets;
      now = at;
      limits = record { skew = skew; expiry = seconds; names = 100 };
    }) (Err fault)
same_refusal sent body region name secrets settings given now at skew expiry seconds fault same_settings same_now same_expiry refused =
    let P : DoorInput → Type 0 = λ asked. AnswersDoor asked (Err fault) in
    subst P
    (λ i. record {
      request = sent;
      body = body;
      settings = same_settings i;
      region = region;
      name = name;
      secrets = secrets;
      now = same_now i;
      limits = record { skew = skew; expiry = same_expiry i; names = 100 };
    })
    refused

-- what is answered of a refusal
pub refuses : (asked : DoorInput) (keys : List Key) (met : DoorFault) (fault : Fault) → fault ≡ door_fault met → RefusesFirst asked met ⊎ (met ≡ NoMemory)
    → AnswersEntry asked keys (Err fault)
refuses asked keys met fault is (inl first) = inl (met, first, is)
refuses asked keys met fault is (inr memory) = inr (is ∙ ap door_fault memory)

-- all that is asked is read
pub asked_if : (other region name request keys : Bool) → other ≡ false → region ≡ true → name ≡ true → request ≡ true → keys ≡ true
    → (if other then Some unknown_flags else unless_utf8 (region && (name && (request && keys)))) ≡ None
asked_if other region name request keys o r n q k = rw (o, r, n, q, k) refl

-- what is answered of a request that is read is answered of the lent one
pub answers_lent : (service : Service) (request : Request) (seconds : ℤ) (sent : HttpRequest) (made : Result Entry Fault) → unasked service request ≡ None
    → IsLentRequest request sent → AnswersEntry (service_input service sent request.body.now seconds) service.keys.now made → AdmitsLent service request seconds made
answers_lent service request seconds sent (Ok entry) none lent lets = (none, (sent, lent, lets))
answers_lent service request seconds sent (Err fault) none lent (inl first) = inr (inl (none, (sent, lent, first)))
answers_lent service request seconds sent (Err fault) none lent (inr memory) = inr (inr memory)
