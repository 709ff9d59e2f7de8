-- Why a request that was sent can't be signed.
use Rattle.std.proofs.Common.{◌≡◌, ℕ, Bool, true, false, List, Option, Some, None, Ok, Err, inl, inr, refl, sym, ap, ◌∙◌}
use Rattle.std.specs.Option.{option_or}
use Rattle.std.specs.Prelude.{string_bytes}
use Rattle.std.proofs.lemmas.Bool.{false≢true}
use Rattle.eventstream.specs.Key.{Signer}
use Rattle.http_uri.specs.declared.uri.Uri.{Uri}
use Rattle.smithy_core.specs.Civil.{IsInYears}
use Rattle.smithy_core.specs.declared.request.HttpRequest.{HttpRequest}
use Rattle.smithy_http.specs.QueryWriter.{ReadsTarget, SpellsTarget}
use Rattle.smithy_http.specs.Target.{target_of}
use Rattle.smithy_http.specs.declared.uri_fault.UriFault.{UriFault}
use Rattle.smithy_http.specs.declared.uri_fault.UriFault.TheVariants as fault
use Rattle.sigv4.specs.Error.{target_error}
use Rattle.sigv4.specs.Refusal.{unfit_headers, unfit_host}
use Rattle.sigv4.specs.Settings.{Settings}
use Rattle.sigv4.specs.declared.error.SigningError.{SigningError}
use Rattle.sigv4.specs.declared.error.SigningError.TheVariants.{FailedToEncodeMessage, InvalidHeaderName, InvalidHeaderValue, InvalidTokenName, InvalidUri, MissingExpires, MissingHost, MomentOutOfRange, NoMemory, SignerNotWired, UnsupportedIdentityType}
use Rattle.sigv4.specs.declared.settings.SignatureLocation.{SignatureLocation}
use Rattle.sigv4.specs.declared.settings.SignatureLocation.TheVariants.{Headers, QueryParams}
use Rattle.request_check.specs.Faults.{fault_of}
use Rattle.request_check.specs.Recomputed.{ChecksRequest, ReadsSent, RefusesSent}
use Rattle.request_check.specs.Sealed.{IsSealed, IsSealedAt, SealParts}

-- the target isn't read
pub unread_target : (sent : HttpRequest) (why : UriFault) → ReadsTarget (string_bytes sent.target) (Err why) → ReadsSent sent (Err (target_error why))
unread_target sent fault.InvalidUri none = inl (inl (none, refl))
unread_target sent fault.NoMemory none = inr refl

-- a header can't be signed
pub unfit_header_sent : (sent : HttpRequest) (uri : Uri) (error : SigningError) → SpellsTarget (string_bytes sent.target) uri
    → unfit_headers 1 sent.headers ≡ Some error → ReadsSent sent (Err error)
unfit_header_sent sent uri error spelled unfit =
    inl (inr (uri, spelled, ap (λ (first : Option SigningError). option_or first (unfit_host (target_of uri) sent.headers)) unfit))

-- all headers can, but the host can't
pub unfit_host_sent : (sent : HttpRequest) (uri : Uri) (error : SigningError) → SpellsTarget (string_bytes sent.target) uri
    → unfit_headers 1 sent.headers ≡ None → unfit_host (target_of uri) sent.headers ≡ Some error → ReadsSent sent (Err error)
unfit_host_sent sent uri error spelled fit unfit =
    inl (inr (uri, spelled, ap (λ (first : Option SigningError). option_or first (unfit_host (target_of uri) sent.headers)) fit ∙ unfit))

-- all of it can
pub fit_sent : (sent : HttpRequest) (uri : Uri) → SpellsTarget (string_bytes sent.target) uri
    → unfit_headers 1 sent.headers ≡ None → unfit_host (target_of uri) sent.headers ≡ None → ReadsSent sent (Ok uri)
fit_sent sent uri spelled headers host =
    (spelled, ap (λ (first : Option SigningError). option_or first (unfit_host (target_of uri) sent.headers)) headers ∙ host)

abbrev is_room : SigningError → Bool
is_room NoMemory = true
is_room InvalidUri = false
is_room (InvalidHeaderName place) = false
is_room (InvalidHeaderValue place) = false
is_room MissingHost = false
is_room InvalidTokenName = false
is_room MissingExpires = false
is_room UnsupportedIdentityType = false
is_room (FailedToEncodeMessage error) = false
is_room (MomentOutOfRange at) = false
is_room SignerNotWired = false

refused : (sent : HttpRequest) (error : SigningError) → is_room error ≡ false → ReadsSent sent (Err error) → RefusesSent sent error
refused sent error other (inl refuses) = refuses
refused sent error other (inr same) = absurd (false≢true (sym other ∙ ap is_room same))

-- a sealed request that can't be signed
pub unchecked : (sent : HttpRequest) (settings : Settings) (payload : List ℕ) (signer : Signer) (seal : SealParts) (error : SigningError)
    → IsSealed sent signer.region signer.name seal → ReadsSent sent (Err error) → ChecksRequest sent settings payload signer (Err (fault_of error))
unchecked sent settings payload signer seal NoMemory sealed reads = tt
unchecked sent settings payload signer seal InvalidUri sealed reads = (seal, sealed, refused sent InvalidUri refl reads)
unchecked sent settings payload signer seal (InvalidHeaderName place) sealed reads = (seal, sealed, refused sent (InvalidHeaderName place) refl reads)
unchecked sent settings payload signer seal (InvalidHeaderValue place) sealed reads = (seal, sealed, refused sent (InvalidHeaderValue place) refl reads)
unchecked sent settings payload signer seal MissingHost sealed reads = (seal, sealed, refused sent MissingHost refl reads)
unchecked sent settings payload signer seal InvalidTokenName sealed reads = (seal, sealed, refused sent InvalidTokenName refl reads)
unchecked sent settings payload signer seal MissingExpires sealed reads = (seal, sealed, refused sent MissingExpires refl reads)
unchecked sent settings payload signer seal UnsupportedIdentityType sealed reads = (seal, sealed, refused sent UnsupportedIdentityType refl reads)
unchecked sent settings payload signer seal (FailedToEncodeMessage inner) sealed reads = (seal, sealed, refused sent (FailedToEncodeMessage inner) refl reads)
unchecked sent settings payload signer seal (MomentOutOfRange at) sealed reads = (seal, sealed, refused sent (MomentOutOfRange at) refl reads)
unchecked sent settings payload signer seal SignerNotWired sealed reads = (seal, sealed, refused sent SignerNotWired refl reads)

-- a seal's moment lies in the years 0 to 9999
pub sealed_in_years : (request : HttpRequest) (region name : List ℕ) (seal : SealParts) → IsSealed request region name seal → IsInYears seal.at
sealed_in_years request region name seal sealed = by seal.place sealed
  where
    by : (place : SignatureLocation) → IsSealedAt place request.headers (string_bytes request.target) region name seal → IsInYears seal.at
    by Headers is = is.moment.in_years
    by QueryParams is = is.1.2.moment.in_years
