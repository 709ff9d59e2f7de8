-- An upload in signed chunks, in the words of `aws_chunked`: what announces it, what is signed, and the text that is sent.
use Rattle.std.specs.Prelude.{◌≡◌, ◌⊎◌, ◌≤◌, ℕ, ◌&&◌, true, List, length, nat_lt, if◌then◌else◌, Option, Some, None, option_map, Result, Ok, Err, string_bytes}
use Rattle.std.specs.Global.{Vec}
use Rattle.std.specs.Option.{option_or}
use Rattle.smithy_core.specs.Moment.{Instant}
use Rattle.smithy_core.specs.declared.request.HttpRequest.{HttpRequest}
use Rattle.smithy_http.specs.Target.{Target}
use Rattle.eventstream.specs.Key.{Signer}
use Rattle.sigv4.specs.Refusal.{unfit_headers}
use Rattle.sigv4.specs.Request.{Case}
use Rattle.sigv4.specs.declared.error.SigningError.{SigningError}
use Rattle.aws_chunked.specs.Announcement.{announced_headers, announced_payload, options_for, unannounced}
use Rattle.aws_chunked.specs.Body.{Trailer}
use Rattle.aws_chunked.specs.Due.{signed_chunked_text}
use Rattle.aws_chunked.specs.Options.{Options}
use Rattle.aws_chunked.specs.Made.{joined}
use Rattle.aws_signing.specs.SigningBy.{IsSignedRequestBy, RefusesBy, SigningState, signer_case, signer_kept}
use Rattle.aws_signing.specs.SigningFaults.{of_signing}
use Rattle.aws_signing.specs.declared.fault.AwsSigningError.{AwsSigningError}
use Rattle.aws_signing.specs.declared.fault.AwsSigningError.TheVariants.{DataTooLong, InvalidChunkSize, NoMemory, Signing, Unannounced}
use Rattle.aws_signing.specs.declared.upload.Announced.{Announced}

-- the options of an upload of this data in chunks of this size, with these trailers
abbrev pub upload_options : List ℕ → ℕ → List Trailer → Options
upload_options content size trailers = record (options_for (length content) trailers true) { chunk_size = size }

-- the fault of a number that can't be the size of chunks
abbrev pub unfit_chunk_size : ℕ → Option AwsSigningError
unfit_chunk_size size = if nat_lt 0 size && nat_lt size 4294967296 then None else Some (InvalidChunkSize size)

-- the fault of data that is longer than a piece may be
abbrev pub unfit_data : List ℕ → Option AwsSigningError
unfit_data content = if nat_lt (length content) 4294967296 then None else Some DataTooLong

-- the fault of either
abbrev pub unfit_sizes : List ℕ → ℕ → Option AwsSigningError
unfit_sizes content size = option_or (unfit_chunk_size size) (unfit_data content)

-- the first reason why there is no upload: the size of its chunks, its length, a trailer outside the grammar of headers, or that it can't be announced
abbrev pub unfit_upload : List ℕ → ℕ → List Trailer → Option AwsSigningError
unfit_upload content size trailers =
    option_or (unfit_sizes content size) (option_or (option_map Signing (unfit_headers 1 trailers))
    (option_map Unannounced (unannounced (upload_options content size trailers) trailers)))

-- the case of the request that an upload follows: its headers announce the upload, and what they announce is signed in place of a digest
abbrev pub upload_case : SigningState → HttpRequest → List ℕ → ℕ → List Trailer → Instant → Target → Case
upload_case by request content size trailers at =
    signer_case by (string_bytes request.method) (announced_headers (upload_options content size trailers) trailers request.headers) (announced_payload true trailers) None at

-- the request is signed, and the pieces are the text of the data and the trailers in signed chunks, the first over the request's signature, with the moment's
-- key kept; or the upload is unfit, or memory ran out, and nothing changes; or signing refuses, and the request stays, with the moment's key kept
abbrev pub Uploads : SigningState → HttpRequest → List ℕ → ℕ → List Trailer → Instant → SigningState → HttpRequest → Result (Vec (List ℕ)) AwsSigningError → Type 0
Uploads old request content size trailers at new sent (Ok pieces) =
    (unfit_upload content size trailers ≡ None)
    × ((signature : List ℕ) × IsSignedRequestBy (upload_case old request content size trailers at) at (string_bytes request.target) sent signature
    × (joined pieces.items ≡ signed_chunked_text old.holder.kept.signer at signature size content trailers))
    × (string_bytes sent.method ≡ string_bytes request.method) × (sent.body ≡ request.body) × (new ≡ signer_kept old at)
Uploads old request content size trailers at new sent (Err fault) =
    (((unfit_upload content size trailers ≡ Some fault) ⊎ (fault ≡ NoMemory)) × (new ≡ old) × (sent ≡ request))
    ⊎ ((unfit_upload content size trailers ≡ None)
    × ((error : SigningError) × RefusesBy (upload_case old request content size trailers at) at (string_bytes request.target) error × (fault ≡ of_signing error))
    × (new ≡ signer_kept old at) × (sent ≡ request))

-- ## On the way

-- no test fails, or the first that does
abbrev pub TestsUpload : Option AwsSigningError → Result (Unit {0}) AwsSigningError → Type 0
TestsUpload refused (Ok _) = refused ≡ None
TestsUpload refused (Err fault) = refused ≡ Some fault

-- a copy of the request that announces the upload, what it is signed over, and how the upload is encoded
pub record IsAnnounced (request : HttpRequest) (content : List ℕ) (size : ℕ) (trailers : List Trailer) (made : Announced) : Type 0 where
  pub method : string_bytes made.request.method ≡ string_bytes request.method
  pub target : string_bytes made.request.target ≡ string_bytes request.target
  pub headers : made.request.headers ≡ announced_headers (upload_options content size trailers) trailers request.headers
  pub body : made.request.body ≡ request.body
  pub payload : string_bytes made.payload ≡ announced_payload true trailers
  pub options : made.options ≡ upload_options content size trailers

-- an upload that is announced, or why it isn't
abbrev pub AnnouncesUpload : HttpRequest → List ℕ → ℕ → List Trailer → Result Announced AwsSigningError → Type 0
AnnouncesUpload request content size trailers (Ok made) = (unfit_upload content size trailers ≡ None) × IsAnnounced request content size trailers made
AnnouncesUpload request content size trailers (Err fault) = (unfit_upload content size trailers ≡ Some fault) ⊎ (fault ≡ NoMemory)

-- data and trailers that are as declared
pub record IsFitBody (options : Options) (content : List ℕ) (trailers : List Trailer) : Type 0 where
  pub encoded : options ≡ upload_options content options.chunk_size trailers
  pub announced : unannounced options trailers ≡ None
  pub short : length content ≤ 4294967295

-- the request announces an upload of data and trailers that are as declared
abbrev pub IsFitUpload : Announced → List ℕ → List Trailer → Type 0
IsFitUpload made content trailers = IsFitBody made.options content trailers

-- the case of an announced request
abbrev pub announced_case : SigningState → Announced → Instant → Target → Case
announced_case by made at = signer_case by (string_bytes made.request.method) made.request.headers (string_bytes made.payload) None at

-- the request is signed by a case, and the pieces are the text behind it; or signing refuses
abbrev pub SignsUpload : (Target → Case) → Instant → Announced → Signer → List ℕ → List Trailer → Announced → Result (Vec (List ℕ)) SigningError → Type 0
SignsUpload case at old who content trailers new (Ok pieces) =
    ((signature : List ℕ) × IsSignedRequestBy case at (string_bytes old.request.target) new.request signature
    × (joined pieces.items ≡ signed_chunked_text who at signature old.options.chunk_size content trailers))
    × (string_bytes new.request.method ≡ string_bytes old.request.method) × (new.request.body ≡ old.request.body)
SignsUpload case at old who content trailers new (Err error) = RefusesBy case at (string_bytes old.request.target) error
