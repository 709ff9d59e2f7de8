-- SignsLink that are made of texts, and the one seal of a request.
use Rattle.std.proofs.Common.{◌≡◌, ℕ, Bool, Bor, true, false, List, [], ◌++◌, Option, Some, None, refl, sym, ap, ◌∙◌, true≢false, subst, unwrap_or, Ok, Err}
use Rattle.std.specs.Prelude.{IfOk, Result, codes, string_bytes}
use Rattle.std.proofs.lemmas.List.{append_cancel_right}
use Rattle.http_uri.specs.Grammar.{query_of}
use Rattle.http_uri.specs.Uri.{Spells, SpellsNone, uri_authority, uri_data, uri_scheme}
use Rattle.http_uri.specs.declared.uri.Uri.{Uri}
use Rattle.http_uri.proofs.Theorems.{Spells_unique}
use Rattle.eventstream.specs.Key.{scope}
use Rattle.smithy_core.specs.Moment.{Instant}
use Rattle.smithy_core.specs.TextPairs.{first_value}
use Rattle.smithy_core.specs.declared.request.HttpRequest.{HttpRequest}
use Rattle.smithy_http.specs.Target.{target_of}
use Rattle.sigv4.specs.Query.{Pair, decoded, decoded_pairs}
use Rattle.sigv4.specs.declared.settings.SignatureLocation.{SignatureLocation}
use Rattle.sigv4.specs.declared.settings.SignatureLocation.TheVariants.{Headers, QueryParams}
use Rattle.sigv4.specs.Signature.{is_signature}
use Rattle.request_check.specs.Authorization.{IsAuthorization}
use Rattle.request_check.specs.Carried.{CutsScope, IsCarried, CarriesFirst, MakesSeal, ReadsAuthorization, ReadsParameters, FindsHeaderSeal, FindsTargetSeal}
use Rattle.request_check.specs.Cuts.{CutsEnd}
use Rattle.request_check.specs.Sealed.{HasOneSeal, IsSealedAt, IsUnsealed, SealParts, SealsHeaders, SealsParameters, FindsSeal, sealed_credential}
use Rattle.request_check.specs.Stamped.{ReadsStamp}
use Rattle.request_check.specs.declared.seal.Carried.{Carried}
use Rattle.request_check.proofs.ReadingLemmas.{read_once}
use Rattle.request_check.proofs.StampLemmas.{stamped_once}

some_same : {A : Type 0} {x y : A} → Some x ≡ Some y → x ≡ y
some_same {A} {x} e = ap (λ (o : Option A). unwrap_or o x) e

-- what two values of an option that is one have in common
both : {A : Type 0} {o : Option A} {x y : A} → o ≡ Some x → o ≡ Some y → x ≡ y
both p q = some_same (sym p ∙ q)

pub absent : {A : Type 0} {x : A} → ◌≡◌ {A = Option A} None (Some x) → ⊥
absent {A} e = true≢false (sym (ap is_there e))
  where
    is_there : Option A → Bool
    is_there None = false
    is_there (Some y) = true

-- what holds of a value gives what holds of it
pub if_ok : {A E : Type 0} {P Q : A → Type 0} (r : Result A E) → ((x : A) → P x → Q x) → IfOk r P → IfOk r Q
if_ok (Ok x) gives holds = gives x holds
if_ok (Err e) gives holds = holds

-- ---- credentials

-- the end of a credential, in two steps
pub scope_uncut : (scope_text credential : List ℕ) → CutsEnd scope_text credential None → CutsScope scope_text credential None
scope_uncut scope_text credential none = λ key_id e. none (key_id ++ codes "/") e

pub slash_uncut : (scope_text credential : List ℕ) (front : Bor (List ℕ)) → CutsEnd scope_text credential (Some front) → CutsEnd (codes "/") front.now None
    → CutsScope scope_text credential None
slash_uncut scope_text credential front cut none = λ key_id e.
    none key_id (append_cancel_right front.now (key_id ++ codes "/") scope_text (sym cut ∙ e))

pub scope_cut : (scope_text credential : List ℕ) (front key_id : Bor (List ℕ)) → CutsEnd scope_text credential (Some front) → CutsEnd (codes "/") front.now (Some key_id)
    → CutsScope scope_text credential (Some key_id)
scope_cut scope_text credential front key_id cut slash = cut ∙ ap (λ (text : List ℕ). text ++ scope_text) slash

-- ---- a seal of texts

pub no_moment : (place : SignatureLocation) (region name : List ℕ) (carried : Carried) → ReadsStamp carried.date.now None → MakesSeal place region name carried None
no_moment place region name carried none = λ seal is. none seal.at is.moment (sym is.date)

pub no_scope : (place : SignatureLocation) (region name : List ℕ) (carried : Carried) (at : Instant) → ReadsStamp carried.date.now (Some at)
    → CutsScope (scope at region name) carried.credential.now None → MakesSeal place region name carried None
no_scope place region name carried at stamped none = λ seal is.
    let same : seal.at ≡ at = stamped_once seal.at at is.moment stamped.0 (sym is.date ∙ sym stamped.1) in
    none seal.key_id (is.credential ∙ ap (λ (t : Instant). seal.key_id ++ codes "/" ++ scope t region name) same)

-- ---- headers

pub unsealed_dateless : (headers : List Pair) (region name : List ℕ) → first_value headers (codes "x-amz-date") ≡ None → IsUnsealed headers region name
unsealed_dateless headers region name none = λ seal is. absent (sym none ∙ is.date)

pub unsealed_bare : (headers : List Pair) (region name : List ℕ) → first_value headers (codes "authorization") ≡ None → IsUnsealed headers region name
unsealed_bare headers region name none = λ seal is. absent (sym none ∙ is.first)

authorized : (headers : List Pair) (region name text : List ℕ) (seal : SealParts) → first_value headers (codes "authorization") ≡ Some text
    → SealsHeaders headers region name seal → IsAuthorization text (sealed_credential region name seal) seal.names seal.signature
authorized headers region name text seal here is =
    subst (λ (t : List ℕ). IsAuthorization t (sealed_credential region name seal) seal.names seal.signature) (both is.first here) is.read

pub unsealed_other : (headers : List Pair) (region name text : List ℕ) → first_value headers (codes "authorization") ≡ Some text → ReadsAuthorization text None
    → IsUnsealed headers region name
unsealed_other headers region name text here none = λ seal is.
    none (sealed_credential region name seal) seal.names seal.signature (authorized headers region name text seal here is)

-- the seal of headers is that of the texts that were read
carried_so : (headers : List Pair) (region name text : List ℕ) (carried : Carried) (seal : SealParts) → first_value headers (codes "x-amz-date") ≡ Some carried.date.now
    → first_value headers (codes "authorization") ≡ Some text → IsAuthorization text carried.credential.now carried.names.now carried.signature.now
    → carried.expires ≡ None → SealsHeaders headers region name seal → IsCarried region name carried seal
carried_so headers region name text carried seal dated here read unlimited is =
    let same = read_once text carried.credential.now carried.names.now carried.signature.now (sealed_credential region name seal) seal.names seal.signature read
    (authorized headers region name text seal here is) in
    record { moment = is.moment; date = both dated is.date; credential = same.0; names = same.1; signature = same.2; expires = unlimited ∙ sym is.no_expiry }

pub header_seal : (headers : List Pair) (region name text : List ℕ) (carried : Carried) (made : Option SealParts) → first_value headers (codes "x-amz-date") ≡ Some carried.date.now
    → first_value headers (codes "authorization") ≡ Some text → IsAuthorization text carried.credential.now carried.names.now carried.signature.now
    → carried.expires ≡ None → MakesSeal Headers region name carried made → FindsHeaderSeal headers region name made
header_seal headers region name text carried None dated here read unlimited none = λ seal is.
    none seal (carried_so headers region name text carried seal dated here read unlimited is)
header_seal headers region name text carried (Some seal) dated here read unlimited made =
    let is = made.0 in (
      record {
        moment = is.moment;
        date = dated ∙ ap (λ (t : List ℕ). Some t) is.date;
        authorization = text;
        first = here;
        read =
            subst (λ (t : List ℕ). IsAuthorization text (sealed_credential region name seal) seal.names t) is.signature
            (subst (λ (t : List ℕ). IsAuthorization text (sealed_credential region name seal) t carried.signature.now) is.names
            (subst (λ (t : List ℕ). IsAuthorization text t carried.names.now carried.signature.now) is.credential read));
        no_expiry = sym is.expires ∙ unlimited;
      },
      made.1,
    )

-- ---- a target

-- what a text spells has one list of pairs
pub one_query : (text : List ℕ) (u v : Uri) → Spells text u → Spells text v → decoded (target_of u) ≡ decoded (target_of v)
unfolding decoded
one_query text u v p q = ap (λ (kept : List ℕ). decoded_pairs (unwrap_or (query_of kept) [])) (Spells_unique text u v p q).2

pub unspelled : (target region name : List ℕ) → SpellsNone target → FindsTargetSeal target region name None
unspelled target region name none = λ seal here. none (uri_scheme here.0) (uri_authority here.0) (uri_data here.0) here.1

pub uncarried : (target region name : List ℕ) (uri : Uri) → Spells target uri → ReadsParameters (decoded (target_of uri)) None → FindsTargetSeal target region name None
uncarried target region name uri spells none = λ seal here.
    none region name seal (rw (sym (one_query target uri here.0 spells here.1)) at here.2)

-- pairs that lack one of the parameters carry no seal
pub without_credential : (pairs : List Pair) → first_value pairs (codes "X-Amz-Credential") ≡ None → ReadsParameters pairs None
without_credential pairs none = λ region name seal is. absent (sym none ∙ is.credential)

pub without_date : (pairs : List Pair) → first_value pairs (codes "X-Amz-Date") ≡ None → ReadsParameters pairs None
without_date pairs none = λ region name seal is. absent (sym none ∙ is.date)

pub without_names : (pairs : List Pair) → first_value pairs (codes "X-Amz-SignedHeaders") ≡ None → ReadsParameters pairs None
without_names pairs none = λ region name seal is. absent (sym none ∙ is.names)

pub without_signature : (pairs : List Pair) → first_value pairs (codes "X-Amz-Signature") ≡ None → ReadsParameters pairs None
without_signature pairs none = λ region name seal is. absent (sym none ∙ is.signature)

-- and those whose signature isn't 64 digits
pub undigited : (pairs : List Pair) (text : List ℕ) → first_value pairs (codes "X-Amz-Signature") ≡ Some text → is_signature text ≡ false → ReadsParameters pairs None
undigited pairs text here other = λ region name seal is. true≢false (sym is.digits ∙ (ap is_signature (both is.signature here) ∙ other))

carried_first : (pairs : List Pair) (region name : List ℕ) (carried : Carried) (seal : SealParts) → CarriesFirst pairs carried → SealsParameters pairs region name seal
    → IsCarried region name carried seal
carried_first pairs region name carried seal first is = record {
  moment = is.moment;
  date = both first.date is.date;
  credential = both first.credential is.credential;
  names = both first.names is.names;
  signature = both first.signature is.signature;
  expires = sym first.expires ∙ is.expires;
}

pub target_seal : (target region name : List ℕ) (uri : Uri) (carried : Carried) (made : Option SealParts) → Spells target uri → CarriesFirst (decoded (target_of uri)) carried
    → MakesSeal QueryParams region name carried made → FindsTargetSeal target region name made
target_seal target region name uri carried None spells first none = λ seal here.
    none seal (carried_first (decoded (target_of uri)) region name carried seal first (rw (sym (one_query target uri here.0 spells here.1)) at here.2))
target_seal target region name uri carried (Some seal) spells first made =
    let is = made.0 in (
      (
        uri,
        spells,
        record {
          moment = is.moment;
          digits = ap is_signature (sym is.signature) ∙ first.digits;
          date = first.date ∙ ap (λ (t : List ℕ). Some t) is.date;
          credential = first.credential ∙ ap (λ (t : List ℕ). Some t) is.credential;
          names = first.names ∙ ap (λ (t : List ℕ). Some t) is.names;
          signature = first.signature ∙ ap (λ (t : List ℕ). Some t) is.signature;
          expires = first.expires ∙ is.expires;
        },
      ),
      made.1,
    )

-- ---- the request

-- a seal of headers is the request's
pub sealed_first : (request : HttpRequest) (region name : List ℕ) (seal : SealParts) → FindsHeaderSeal request.headers region name (Some seal) → FindsSeal request region name (Some seal)
sealed_first request region name seal tells =
    subst (λ (place : SignatureLocation). IsSealedAt place request.headers (string_bytes request.target) region name seal) (sym tells.1) tells.0

-- where headers have none, that of the target is
pub sealed_second : (request : HttpRequest) (region name : List ℕ) (found : Option SealParts) → FindsHeaderSeal request.headers region name None
    → FindsTargetSeal (string_bytes request.target) region name found → FindsSeal request region name found
sealed_second request region name None unsealed none = λ seal is. by_place seal.place refl seal is
  where
    by_place : (place : SignatureLocation) (p : place ≡ place) (seal : SealParts) → IsSealedAt place request.headers (string_bytes request.target) region name seal → ⊥
    by_place Headers p seal is = unsealed seal is
    by_place QueryParams p seal (unsealed_too, here) = none seal here
sealed_second request region name (Some seal) unsealed tells =
    subst (λ (place : SignatureLocation). IsSealedAt place request.headers (string_bytes request.target) region name seal) (sym tells.1) (unsealed, tells.0)

-- ---- one seal

seal_is : (a b : SealParts) → a.place ≡ b.place → a.key_id ≡ b.key_id → a.at ≡ b.at → a.names ≡ b.names → a.signature ≡ b.signature → a.expires ≡ b.expires → a ≡ b
seal_is a b place key_id at names signature expires = λ i. record {
  place = place i;
  key_id = key_id i;
  at = at i;
  names = names i;
  signature = signature i;
  expires = expires i;
}

-- credentials of one scope have one key id
same_key : (region name : List ℕ) (a b : SealParts) → a.at ≡ b.at → sealed_credential region name a ≡ sealed_credential region name b → a.key_id ≡ b.key_id
same_key region name a b at e =
    append_cancel_right a.key_id b.key_id (codes "/") (append_cancel_right (a.key_id ++ codes "/") (b.key_id ++ codes "/") (scope b.at region name)
    (ap (λ (t : Instant). a.key_id ++ codes "/" ++ scope t region name) (sym at) ∙ e))

one_of_headers : (headers : List Pair) (region name : List ℕ) (a b : SealParts) → a.place ≡ b.place → SealsHeaders headers region name a → SealsHeaders headers region name b → a ≡ b
one_of_headers headers region name a b place p q =
    let at : a.at ≡ b.at = stamped_once a.at b.at p.moment q.moment (both p.date q.date) in
    let parts = read_once q.authorization (sealed_credential region name a) a.names a.signature (sealed_credential region name b) b.names b.signature
    (authorized headers region name q.authorization a q.first p) q.read in
    seal_is a b place (same_key region name a b at parts.0) at parts.1 parts.2 (p.no_expiry ∙ sym q.no_expiry)

one_of_parameters : (pairs : List Pair) (region name : List ℕ) (a b : SealParts) → a.place ≡ b.place → SealsParameters pairs region name a → SealsParameters pairs region name b → a ≡ b
one_of_parameters pairs region name a b place p q =
    let at : a.at ≡ b.at = stamped_once a.at b.at p.moment q.moment (both p.date q.date) in
    seal_is a b place (same_key region name a b at (both p.credential q.credential)) at (both p.names q.names) (both p.signature q.signature) (sym p.expires ∙ q.expires)

pub one_seal : (request : HttpRequest) (region name : List ℕ) → HasOneSeal request region name
one_seal request region name a b = by_place a.place b.place refl refl
  where
    by_place : (p q : SignatureLocation) → a.place ≡ p → b.place ≡ q → IsSealedAt p request.headers (string_bytes request.target) region name a
        → IsSealedAt q request.headers (string_bytes request.target) region name b → a ≡ b
    by_place Headers Headers p q is_a is_b = one_of_headers request.headers region name a b (p ∙ sym q) is_a is_b
    by_place Headers QueryParams p q is_a is_b = absurd (is_b.0 a is_a)
    by_place QueryParams Headers p q is_a is_b = absurd (is_a.0 b is_b)
    by_place QueryParams QueryParams p q (none_a, (u, spells_u, is_a)) (none_b, (v, spells_v, is_b)) =
        one_of_parameters (decoded (target_of u)) region name a b (p ∙ sym q) is_a
        (rw (sym (one_query (string_bytes request.target) u v spells_u spells_v)) at is_b)
