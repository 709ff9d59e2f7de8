-- The signature of a request that was sent, computed again (AWS Signature Version 4).
use Rattle.std.specs.Prelude.{◌≡◌, ◌⊎◌, ℕ, ◌==◌, not, List, [], ◌∷◌, bytes_eq, codes, filter, Option, Some, None, Result, Ok, Err, string_bytes}
use Rattle.std.specs.List.{flat_map, list_any, slice_split}
use Rattle.std.specs.Option.{option_or}
use Rattle.http_uri.specs.declared.uri.Uri.{Uri}
use Rattle.smithy_core.specs.declared.request.HttpRequest.{HttpRequest}
use Rattle.smithy_http.specs.QueryWriter.{SpellsNoTarget, SpellsTarget}
use Rattle.smithy_http.specs.Target.{Target, target_of}
use Rattle.eventstream.specs.Key.{Signer}
use Rattle.sigv4.specs.Canonical.{canonical_lines, excluded_token, header_line, hosted_headers, token_parameter}
use Rattle.sigv4.specs.Path.{canonical_path}
use Rattle.sigv4.specs.Query.{Pair, decoded, query}
use Rattle.sigv4.specs.Refusal.{unfit_headers, unfit_host}
use Rattle.sigv4.specs.Settings.{Settings}
use Rattle.sigv4.specs.Signature.{signature}
use Rattle.sigv4.specs.declared.error.SigningError.{SigningError}
use Rattle.sigv4.specs.declared.error.SigningError.TheVariants.{InvalidUri, NoMemory as NoRoom}
use Rattle.sigv4.specs.declared.settings.SignatureLocation.{SignatureLocation}
use Rattle.sigv4.specs.declared.settings.SignatureLocation.TheVariants.{Headers, QueryParams}
use Rattle.request_check.specs.Sealed.{IsSealed, SealParts, FindsSeal}
use Rattle.request_check.specs.declared.check.CheckRequestFault.{CheckRequestFault}
use Rattle.request_check.specs.declared.check.CheckRequestFault.TheVariants.{NoMemory, NoSignature, Signing}
use Rattle.request_check.specs.declared.check.Checked.{Checked}

-- `;`
abbrev pub semicolon : ℕ
semicolon = 59

-- the names of a seal, as they are carried: what stands between `;`
abbrev pub carried_names : List ℕ → List (List ℕ)
carried_names text = slice_split (λ b. b == semicolon) text

-- the keys of the pairs that aren't signed: none where the seal stands in headers, and else the signature's own, and the token's where it isn't signed
abbrev pub unsigned_keys : SignatureLocation → Settings → List (List ℕ)
unsigned_keys Headers settings = []
unsigned_keys QueryParams settings = codes "X-Amz-Signature" ∷ excluded_token settings.session_token_mode (token_parameter settings)

-- the pairs of these that are signed
abbrev pub sent_pairs : SignatureLocation → Settings → List Pair → List Pair
sent_pairs place settings pairs = filter (λ pair. not (list_any (bytes_eq pair.0) (unsigned_keys place settings))) pairs

-- the canonical text of a request that was sent, with the names of its seal: each has the values that the request has, `host` that of the target
-- where no header is, and every other name that isn't there the empty one
unfoldable pub sent_text : List ℕ → Target → List Pair → Settings → List ℕ → SealParts → List ℕ
sent_text method target headers settings payload seal =
    canonical_lines method (canonical_path settings.uri_path_normalization_mode settings.percent_encoding_mode target.path)
    (query (sent_pairs seal.place settings (decoded target))) (flat_map (header_line (hosted_headers target headers)) (carried_names seal.names))
    seal.names payload

-- the signature of that text at the seal's moment
unfoldable pub recomputed : List ℕ → Target → List Pair → Settings → List ℕ → Signer → SealParts → List ℕ
recomputed method target headers settings payload signer seal = signature signer seal.at (sent_text method target headers settings payload seal)

-- the first test of a sent request that fails: its headers in order, and the host
abbrev pub unfit_sent : Target → List Pair → Option SigningError
unfit_sent target headers = option_or (unfit_headers 1 headers) (unfit_host target headers)

-- the request that was sent can't be signed, for this reason: the target's text, or a header, or the host
abbrev pub RefusesSent : HttpRequest → SigningError → Type 0
RefusesSent sent error =
    (SpellsNoTarget (string_bytes sent.target) × (error ≡ InvalidUri))
    ⊎ ((uri : Uri) × SpellsTarget (string_bytes sent.target) uri × (unfit_sent (target_of uri) sent.headers ≡ Some error))

-- the URI that a request's target spells, where the request can be signed, and else why it can't
abbrev pub ReadsSent : HttpRequest → Result Uri SigningError → Type 0
ReadsSent sent (Ok uri) = SpellsTarget (string_bytes sent.target) uri × (unfit_sent (target_of uri) sent.headers ≡ None)
ReadsSent sent (Err error) = RefusesSent sent error ⊎ (error ≡ NoRoom)

-- the seal, the signature that it carries, and that of the request by the seal
pub record Rechecks (sent : HttpRequest) (settings : Settings) (payload : List ℕ) (signer : Signer) (checked : Checked) : Type 0 where
  pub seal : SealParts
  pub uri : Uri
  pub sealed : IsSealed sent signer.region signer.name seal
  pub spelled : SpellsTarget (string_bytes sent.target) uri
  pub fit : unfit_sent (target_of uri) sent.headers ≡ None
  pub carried : string_bytes checked.carried ≡ seal.signature
  pub seal_is : checked.seal ≡ seal
  pub recomputed_is : string_bytes checked.recomputed ≡ recomputed (string_bytes sent.method) (target_of uri) sent.headers settings payload signer seal

-- both signatures, or that the request carries no seal, or why it can't be signed
abbrev pub ChecksRequest : HttpRequest → Settings → List ℕ → Signer → Result Checked CheckRequestFault → Type 0
ChecksRequest sent settings payload signer (Ok checked) = Rechecks sent settings payload signer checked
ChecksRequest sent settings payload signer (Err NoSignature) = FindsSeal sent signer.region signer.name None
ChecksRequest sent settings payload signer (Err (Signing error)) =
    (seal : SealParts) × IsSealed sent signer.region signer.name seal × RefusesSent sent error
ChecksRequest sent settings payload signer (Err NoMemory) = Unit {0}
