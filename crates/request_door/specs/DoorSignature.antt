-- The signature of a request with a seal, computed again.
use Rattle.std.specs.Prelude.{◌≡◌, ◌≢◌, ◌⊎◌, ℕ, List, Result, Ok, Err, string_bytes}
use Rattle.http_uri.specs.declared.uri.Uri.{Uri}
use Rattle.smithy_core.specs.declared.request.HttpRequest.{HttpRequest}
use Rattle.smithy_http.specs.Target.{target_of}
use Rattle.eventstream.specs.Key.{Signer}
use Rattle.sigv4.specs.Settings.{Settings}
use Rattle.request_check.specs.Recomputed.{recomputed}
use Rattle.request_check.specs.Sealed.{SealParts}
use Rattle.request_door.specs.declared.fault.DoorFault.{DoorFault}
use Rattle.request_door.specs.declared.fault.DoorFault.TheVariants.{Mismatch, NoMemory}

-- the signature of the request by a seal
abbrev pub seal_signature : HttpRequest → Settings → List ℕ → Signer → SealParts → Uri → List ℕ
seal_signature request settings payload signer seal uri =
    recomputed (string_bytes request.method) (target_of uri) request.headers settings payload signer seal

-- the signature that a seal carries is the request's own, or another one, unless memory ran out
abbrev pub TestsSeal : HttpRequest → Settings → List ℕ → Signer → SealParts → Uri → Result (Unit {0}) DoorFault → Type 0
TestsSeal request settings payload signer seal uri (Ok _) = seal.signature ≡ seal_signature request settings payload signer seal uri
TestsSeal request settings payload signer seal uri (Err fault) =
    ((seal.signature ≢ seal_signature request settings payload signer seal uri) × (fault ≡ Mismatch)) ⊎ (fault ≡ NoMemory)

-- two signatures are the same, or they aren't
abbrev pub ComparesSeals : List ℕ → List ℕ → Result (Unit {0}) DoorFault → Type 0
ComparesSeals carried own (Ok _) = carried ≡ own
ComparesSeals carried own (Err fault) = (carried ≢ own) × (fault ≡ Mismatch)
