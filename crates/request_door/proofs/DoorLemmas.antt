-- What the steps of a service's door leave.
use Rattle.std.proofs.Common.{◌≡◌, ℕ, Bool, true, false, List, Option, Ok, Err, inl, inr, refl, sym, ap, ◌∙◌, subst, true≢false}
use Rattle.std.specs.Prelude.{Result, string_bytes}
use Rattle.http_uri.specs.declared.uri.Uri.{Uri}
use Rattle.smithy_core.specs.declared.request.HttpRequest.{HttpRequest}
use Rattle.smithy_http.specs.QueryWriter.{ReadsTarget}
use Rattle.smithy_http.specs.declared.uri_fault.UriFault.{UriFault}
use Rattle.smithy_http.specs.declared.uri_fault.UriFault.TheVariants.{InvalidUri, NoMemory as NoRoom}
use Rattle.eventstream.specs.Key.{Signer}
use Rattle.sigv4.specs.Settings.{Settings}
use Rattle.request_check.specs.Sealed.{SealParts}
use Rattle.request_door.specs.DoorSignature.{ComparesSeals, TestsSeal, seal_signature}
use Rattle.request_door.specs.DoorFaults.{door_target_fault}
use Rattle.request_door.specs.DoorPayloads.{IsOtherPayload, shown_payload, signed_payload}
use Rattle.request_door.specs.Doors.{AcceptsTarget, TestsLast}
use Rattle.request_door.specs.declared.fault.DoorFault.{DoorFault}
use Rattle.request_door.specs.declared.payload.DoorPayload.{DoorPayload}

-- ---- tests

pub unmet : (is : Bool) → is ≡ false → is ≡ true → ⊥
unmet is p q = true≢false (sym q ∙ p)

pub unfailed : (is : Bool) → is ≡ true → is ≡ false → ⊥
unfailed is p q = true≢false (sym p ∙ q)

-- ---- the signature, computed again

pub tested : (request : HttpRequest) (settings : Settings) (payload : List ℕ) (signer : Signer) (seal : SealParts) (uri : Uri) (own : List ℕ)
    (result : Result (Unit {0}) DoorFault) → own ≡ seal_signature request settings payload signer seal uri → ComparesSeals seal.signature own result
    → TestsSeal request settings payload signer seal uri result
tested request settings payload signer seal uri own (Ok _) is same = same ∙ is
tested request settings payload signer seal uri own (Err fault) is (differs, so) = inl (λ e. differs (e ∙ sym is), so)

-- ---- the tests under a key

pub last_tested : (request : HttpRequest) (settings : Settings) (body : List ℕ) (signer : Signer) (form : DoorPayload) (seal : SealParts) (uri : Uri)
    (shown : Option (List ℕ)) (text : List ℕ) (result : Result (Unit {0}) DoorFault) → shown ≡ shown_payload request.headers
    → (IsOtherPayload shown form body → ⊥) → text ≡ signed_payload shown form body → TestsSeal request settings text signer seal uri result
    → TestsLast request settings body signer form seal uri result
last_tested request settings body signer form seal uri shown text result is none made tests = by result tests
  where
    none_now : IsOtherPayload (shown_payload request.headers) form body → ⊥
    none_now other = none (subst (λ (o : Option (List ℕ)). IsOtherPayload o form body) (sym is) other)

    same : seal_signature request settings text signer seal uri ≡ seal_signature request settings (signed_payload (shown_payload request.headers) form body) signer seal uri
    same = ap (λ (t : List ℕ). seal_signature request settings t signer seal uri) (made ∙ ap (λ (o : Option (List ℕ)). signed_payload o form body) is)

    by : (result : Result (Unit {0}) DoorFault) → TestsSeal request settings text signer seal uri result → TestsLast request settings body signer form seal uri result
    by (Ok _) own = (none_now, own ∙ same)
    by (Err fault) (inl (differs, so)) = inr (inl (none_now, λ e. differs (e ∙ sym same), so))
    by (Err fault) (inr room) = inr (inr room)

-- the target isn't read
pub unread_target : (request : HttpRequest) (fault : UriFault) → ReadsTarget (string_bytes request.target) (Err fault) → AcceptsTarget request (Err (door_target_fault fault))
unread_target request InvalidUri none = inl (none, refl)
unread_target request NoRoom any = inr (inr refl)
