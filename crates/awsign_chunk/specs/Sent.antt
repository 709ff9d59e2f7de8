-- What `awsign chunk` sends: a body in chunks, and before it the head that announces it.
use Rattle.std.specs.Prelude.{◌≡◌, ℕ, Bool, true, false, List, [], ◌∷◌, ◌++◌, codes, Option, Some, None, unwrap_or, Result, Ok, Err, string_bytes}
use Rattle.std.specs.Int.{to_be_bytes, w32}
use Rattle.std.specs.Option.{option_and_then}
use Rattle.base64.specs.Engines.{standard}
use Rattle.base64.specs.GeneralPurpose.{encode_of}
use Rattle.http_uri.specs.declared.uri.Uri.{Uri}
use Rattle.sha2.specs.Sha256.{sha256}
use Rattle.mac_core.specs.Crc.{remainder}
use Rattle.smithy_core.specs.Moment.{Instant}
use Rattle.smithy_core.specs.TextPairs.{last_value}
use Rattle.smithy_http.specs.QueryWriter.{SpellsTarget}
use Rattle.smithy_http.specs.Target.{Target, target_of}
use Rattle.eventstream.specs.Key.{Signer}
use Rattle.job_text.specs.ChunkSize.{spelled_size}
use Rattle.sigv4.specs.ChunkTold.{signs_over}
use Rattle.sigv4.specs.Host.{host_text}
use Rattle.sigv4.specs.Refusal.{unfit_headers}
use Rattle.sigv4.specs.Request.{Case}
use Rattle.sigv4.specs.Signed.{signature_of, signed_headers, signed_target}
use Rattle.aws_auth.specs.ChunkSigner.{chunk_told}
use Rattle.aws_chunked.specs.Announcement.{announced_headers, announced_payload, options_for, unannounced}
use Rattle.aws_chunked.specs.Body.{Trailer}
use Rattle.aws_chunked.specs.Due.{signed_chunked_text}
use Rattle.aws_chunked.specs.Options.{Options}
use Rattle.aws_chunked.specs.Text.{chunked_text}
use Rattle.aws_chunked.specs.declared.announcement.AnnounceFault.{AnnounceFault}
use Rattle.aws_chunked.specs.declared.announcement.AnnounceFault.TheVariants as announce
use Rattle.awsign_text.specs.Forms.{text_in_form}
use Rattle.awsign_words.specs.Words.{OptionValues, SignWanted, checksum_named, has, sign_wanted}
use Rattle.awsign_words.specs.declared.words.Checksum.{Checksum}
use Rattle.awsign_words.specs.declared.words.Checksum.TheVariants.{Crc32, Sha256}
use Rattle.awsign_run.specs.Chosen.{SignRefusal, SignsFor, refusal_of, who_signs}
use Rattle.awsign_run.specs.Signing.{IsPrinted, SignsPrinted, asked_case, asked_form, asked_refusal}
use Rattle.awsign_run.specs.declared.signing.SignedRequest.{SignedRequest}
use Rattle.awsign_run.specs.declared.status.Status.TheVariants.{NoMemory, Refused}
use Rattle.awsign_chunk.specs.Sum.{HoldsSum}
use Rattle.awsign_chunk.specs.declared.sent.Announced.{Announced}
use Rattle.awsign_chunk.specs.declared.sent.ChunkedUpload.{ChunkedUpload}
use Rattle.awsign_chunk.specs.declared.status.ChunkStatus.{ChunkStatus}
use Rattle.awsign_chunk.specs.declared.status.ChunkStatus.TheVariants.{Ended, Unannounced, UnfitTrailer}

-- ## What the words ask for

-- the chunks are signed
abbrev pub signs_chunks : OptionValues → Bool
signs_chunks options = has options (codes "--signed")

-- how many bytes a chunk has: the number that an option gives, or 65,536
abbrev pub sent_size : OptionValues → ℕ
sent_size options = unwrap_or (option_and_then spelled_size (last_value options (codes "--size"))) 65536

-- the checksum that an option asks for
abbrev pub sent_checksum : OptionValues → Option Checksum
sent_checksum options = option_and_then checksum_named (last_value options (codes "--checksum"))

-- the trailer with a checksum of data, in base64 (Amazon S3, "Checking object integrity")
abbrev pub checksum_trailer : Checksum → List ℕ → Trailer
checksum_trailer Crc32 bytes = (codes "x-amz-checksum-crc32", encode_of standard (to_be_bytes w32 (remainder bytes)))
checksum_trailer Sha256 bytes = (codes "x-amz-checksum-sha256", encode_of standard (sha256 bytes))

-- the checksum's trailer, where one is asked for
abbrev pub checksum_trailers : Option Checksum → List ℕ → List Trailer
checksum_trailers None bytes = []
checksum_trailers (Some checksum) bytes = checksum_trailer checksum bytes ∷ []

-- the trailers: those of the words, and then the checksum
abbrev pub sent_trailers : SignWanted → List ℕ → List Trailer
sent_trailers wanted bytes = wanted.trailers ++ checksum_trailers (sent_checksum wanted.options) bytes

-- the trailers before the data is read: with the checksum of nothing, which is as long as that of any data
abbrev pub announced_trailers : SignWanted → List Trailer
announced_trailers wanted = sent_trailers wanted []

-- how a body of this length with these trailers is encoded
abbrev pub sent_options : OptionValues → ℕ → List Trailer → Options
sent_options options n trailers = record (options_for n trailers (signs_chunks options)) { chunk_size = sent_size options }

-- ## What is sent

-- the words with headers that announce the body
abbrev pub announced_wanted : SignWanted → ℕ → List Trailer → SignWanted
announced_wanted wanted n trailers = record wanted { headers = announced_headers (sent_options wanted.options n trailers) trailers wanted.headers }

-- the request that is signed: it announces the body, and what it announces stands in the place of a digest
abbrev pub sent_case : SignWanted → ℕ → List Trailer → SignsFor → Instant → Target → Case
sent_case wanted n trailers signer at = asked_case (announced_wanted wanted n trailers) signer (announced_payload (signs_chunks wanted.options) trailers) at

-- the signed request in the form that is asked for, whose body is the file that an option names
abbrev pub sent_head : SignWanted → Target → Case → List ℕ
sent_head wanted target c =
    text_in_form (asked_form wanted) wanted.method (signed_target c wanted.url) (signed_headers c) (host_text target) (last_value wanted.options (codes "--out"))

-- the data and the trailers in chunks of this size, signed from this signature on, or not at all
abbrev pub sent_body : Bool → Signer → Instant → List ℕ → ℕ → List ℕ → List Trailer → List ℕ
sent_body true who at before size bytes trailers = signed_chunked_text who at before size bytes trailers
sent_body false who at before size bytes trailers = chunked_text size bytes trailers

-- no trailer is outside the grammar of headers, and the body can be announced
abbrev pub IsFitToSend : SignWanted → ℕ → List Trailer → Type 0
IsFitToSend wanted n trailers = (unfit_headers 1 trailers ≡ None) × (unannounced (sent_options wanted.options n trailers) trailers ≡ None)

-- the request of an upload of so many bytes, whatever they are, for what the URL spells
abbrev pub length_case : SignWanted → ℕ → SignsFor → Instant → Uri → Case
length_case wanted n signer at uri = sent_case wanted n (announced_trailers wanted) signer at (target_of uri)

-- this is the upload of so many bytes, for what the URL spells: its head is signed, and its body is to go on from that signature
pub record IsUploadOf (wanted : SignWanted) (n : ℕ) (signer : SignsFor) (at : Instant) (uri : Uri) (upload : ChunkedUpload) : Type 0 where
  pub spelled : SpellsTarget wanted.url uri
  pub fit : IsFitToSend wanted n (announced_trailers wanted)
  pub taken : asked_refusal (length_case wanted n signer at uri) ≡ None
  pub head : upload.head.items ≡ sent_head wanted (target_of uri) (length_case wanted n signer at uri)
  pub long : upload.plan.length ≡ n
  pub options : upload.plan.options ≡ sent_options wanted.options n (announced_trailers wanted)
  pub is_signed : upload.plan.is_signed ≡ signs_chunks wanted.options
  pub trailers : upload.plan.trailers ≡ wanted.trailers
  pub over : chunk_told upload.running.signer ≡ signs_over (signature_of (length_case wanted n signer at uri)) (who_signs signer) at
  pub sum : HoldsSum upload.running.sum (sent_checksum wanted.options) []

-- the upload of so many bytes by somebody at a moment; or the first reason why there is none: a trailer, the announcement, or the request; or memory ran out
abbrev pub MakesSent : SignWanted → ℕ → SignsFor → Instant → Result ChunkedUpload ChunkStatus → Type 0
MakesSent wanted n signer at (Ok upload) = (uri : Uri) × IsUploadOf wanted n signer at uri upload
MakesSent wanted n signer at (Err (UnfitTrailer error)) = unfit_headers 1 (announced_trailers wanted) ≡ Some error
MakesSent wanted n signer at (Err (Unannounced fault)) =
    (unfit_headers 1 (announced_trailers wanted) ≡ None)
    × (unannounced (sent_options wanted.options n (announced_trailers wanted)) (announced_trailers wanted) ≡ Some fault)
MakesSent wanted n signer at (Err (Ended (Refused fault))) =
    IsFitToSend wanted n (announced_trailers wanted)
    × SignsPrinted (announced_wanted wanted n (announced_trailers wanted)) (sent_case wanted n (announced_trailers wanted) signer at) (Err fault)
MakesSent wanted n signer at (Err (Ended NoMemory)) = Unit {0}
MakesSent wanted n signer at (Err status) = ⊥

-- the same for who is chosen, or why nobody is
abbrev pub MakesSentFor : SignWanted → ℕ → Result SignsFor SignRefusal → Instant → Result ChunkedUpload ChunkStatus → Type 0
MakesSentFor wanted n (Ok signer) at result = MakesSent wanted n signer at result
MakesSentFor wanted n (Err refusal) at (Err (Ended (Refused fault))) = refusal_of fault ≡ refusal
MakesSentFor wanted n (Err refusal) at (Err (Ended NoMemory)) = Unit {0}
MakesSentFor wanted n (Err refusal) at result = ⊥

-- ## On the way

-- how a run ends whose body isn't announced
abbrev pub unannounced_status : AnnounceFault → ChunkStatus
unannounced_status announce.NoMemory = Ended NoMemory
unannounced_status fault = Unannounced fault

-- the words with headers that announce a body, what they announce, and how it is encoded
pub record IsAnnouncedAs (wanted : SignWanted) (n : ℕ) (trailers : List Trailer) (announced : Announced) : Type 0 where
  pub asked : sign_wanted announced.asked ≡ announced_wanted wanted n trailers
  pub payload : string_bytes announced.payload ≡ announced_payload (signs_chunks wanted.options) trailers
  pub options : announced.options ≡ sent_options wanted.options n trailers
  pub fit : IsFitToSend wanted n trailers

-- a body that is announced, or why it isn't
abbrev pub AnnouncesBody : SignWanted → ℕ → List Trailer → Result Announced ChunkStatus → Type 0
AnnouncesBody wanted n trailers (Ok announced) = IsAnnouncedAs wanted n trailers announced
AnnouncesBody wanted n trailers (Err (UnfitTrailer error)) = unfit_headers 1 trailers ≡ Some error
AnnouncesBody wanted n trailers (Err (Unannounced fault)) =
    (unfit_headers 1 trailers ≡ None) × (unannounced (sent_options wanted.options n trailers) trailers ≡ Some fault)
AnnouncesBody wanted n trailers (Err (Ended NoMemory)) = Unit {0}
AnnouncesBody wanted n trailers (Err status) = ⊥

-- a signed request and what goes on from it
pub record IsUploadBehind (asks : SignWanted) (signed : SignedRequest) (encoding : Options) (signer : SignsFor) (n : ℕ) (at : Instant) (upload : ChunkedUpload) : Type 0 where
  pub head : IsPrinted asks signed (last_value asks.options (codes "--out")) upload.head.items
  pub long : upload.plan.length ≡ n
  pub options : upload.plan.options ≡ encoding
  pub is_signed : upload.plan.is_signed ≡ signs_chunks asks.options
  pub trailers : upload.plan.trailers ≡ asks.trailers
  pub over : chunk_told upload.running.signer ≡ signs_over (string_bytes signed.signature) (who_signs signer) at
  pub sum : HoldsSum upload.running.sum (sent_checksum asks.options) []
