-- How a run of `awsign chunk` goes.
use Rattle.std.proofs.Common.{◌≡◌, ℕ, Bool, inl, inr, List, length, Option, None, refl, subst}
use Rattle.std.specs.Prelude.{IsTrue, Result, Ok, Err}
use Rattle.http_uri.specs.declared.uri.Uri.{Uri}
use Rattle.smithy_core.specs.Civil.{is_in_years}
use Rattle.smithy_core.specs.Moment.{Instant}
use Rattle.smithy_core.specs.Outside.{Gains, GainsProperPrefix, IsAllOf, IsLongerThan}
use Rattle.smithy_core.specs.declared.outside.read_all.ReadFault.{ReadFault}
use Rattle.smithy_core.specs.declared.outside.read_all.ReadFault.TheVariants as read
use Rattle.smithy_http.specs.Target.{target_of}
use Rattle.env_config.specs.Sections.{FileText}
use Rattle.env_config.specs.declared.load_fault.EnvConfigFileLoadError.{EnvConfigFileLoadError}
use Rattle.env_config.specs.declared.load_fault.EnvConfigFileLoadError.TheVariants as load
use Rattle.sigv4.specs.Request.{Case}
use Rattle.sigv4.specs.Signed.{signature_of}
use Rattle.aws_chunked.specs.Body.{Trailer}
use Rattle.aws_chunked.specs.Options.{Options}
use Rattle.awsign_run.specs.Chosen.{SignsFor, who_signs}
use Rattle.awsign_run.specs.Run.{HasWritten, LoadsAsked}
use Rattle.awsign_run.specs.Signing.{asked_refusal}
use Rattle.awsign_run.specs.Status.{load_status}
use Rattle.awsign_run.specs.declared.status.Status.{Status}
use Rattle.awsign_run.specs.declared.status.Status.TheVariants.{Done, BadWord, CouldNotReadFile, DataFault, Refused, OutputFault, NoMemory}
use Rattle.awsign_words.specs.Words.{SignWanted}
use Rattle.awsign_chunk.specs.ChunkRun.{IsDataStatus, IsFileStatus, SendsUpload, WritesSent, most_data, unread_status}
use Rattle.awsign_chunk.specs.Sending.{CutsShort, SendsBody}
use Rattle.awsign_chunk.specs.Sent.{IsUploadOf, sent_body, sent_checksum, sent_head, sent_size, sent_trailers, signs_chunks, length_case}
use Rattle.awsign_chunk.specs.declared.sent.ChunkedUpload.{ChunkedUpload}
use Rattle.awsign_chunk.specs.declared.status.ChunkStatus.{ChunkStatus}
use Rattle.awsign_chunk.specs.declared.status.ChunkStatus.TheVariants.{DataChanged, DataTooLong, Ended, FileFault, Unannounced, UnfitTrailer}
use Rattle.awsign_chunk.proofs.AnnouncedLemmas.{fit_to_send, same_case}
use Rattle.awsign_chunk.proofs.SentLemmas.{signed_in_years}

-- profile files that aren't loaded
pub files_lack : (gave : List FileText → Type 0) (unread : List ℕ → Type 0) (name : List ℕ) (error : EnvConfigFileLoadError) → LoadsAsked gave unread name (Err error)
    → IsFileStatus unread (Ended (load_status error))
files_lack gave unread name (load.CouldNotReadFile fault) is = is
files_lack gave unread name (load.ParseError error) is = absurd is
files_lack gave unread name load.NoMemory is = tt

-- data that isn't read
pub data_lacks : (left : Option (List ℕ)) (fault : ReadFault) → (fault ≡ read.TooLarge → IsLongerThan left most_data) → IsDataStatus left (unread_status fault)
data_lacks left read.Failed longer = tt
data_lacks left read.TooLarge longer = longer refl
data_lacks left read.NoMemory longer = tt

-- the head is written behind the body
head_written : (n : ℕ) (bytes text head : List ℕ) (status : Status) (body body_now out out_now : Option (List ℕ)) → (length bytes ≡ n) × Gains body body_now text
    → HasWritten head status out out_now → WritesSent n bytes text head (Ended status) body body_now out out_now
head_written n bytes text head Done body body_now out out_now whole wrote = (whole.0, whole.1, wrote)
head_written n bytes text head OutputFault body body_now out out_now whole wrote = (whole.0, whole.1, wrote)
head_written n bytes text head NoMemory body body_now out out_now whole wrote = inl (whole.0, whole.1, wrote)
head_written n bytes text head (Refused fault) body body_now out out_now whole wrote = absurd wrote
head_written n bytes text head (BadWord place) body body_now out out_now whole wrote = absurd wrote
head_written n bytes text head (CouldNotReadFile path) body body_now out out_now whole wrote = absurd wrote
head_written n bytes text head DataFault body body_now out out_now whole wrote = absurd wrote

-- no head is written behind a part of the body
no_head : (n : ℕ) (bytes text head : List ℕ) (status : ChunkStatus) (body body_now out : Option (List ℕ)) → CutsShort n bytes status × GainsProperPrefix body body_now text
    → WritesSent n bytes text head status body body_now out out
no_head n bytes text head (Ended NoMemory) body body_now out cut = inr (cut.1, refl)
no_head n bytes text head (Ended DataFault) body body_now out cut = (cut.0, cut.1, refl)
no_head n bytes text head DataChanged body body_now out cut = (cut.0, cut.1, refl)
no_head n bytes text head FileFault body body_now out cut = (cut.0, cut.1, refl)
no_head n bytes text head (Ended Done) body body_now out cut = absurd cut.0
no_head n bytes text head (Ended OutputFault) body body_now out cut = absurd cut.0
no_head n bytes text head (Ended (Refused fault)) body body_now out cut = absurd cut.0
no_head n bytes text head (Ended (BadWord place)) body body_now out cut = absurd cut.0
no_head n bytes text head (Ended (CouldNotReadFile path)) body body_now out cut = absurd cut.0
no_head n bytes text head (UnfitTrailer error) body body_now out cut = absurd cut.0
no_head n bytes text head (Unannounced fault) body body_now out cut = absurd cut.0
no_head n bytes text head DataTooLong body body_now out cut = absurd cut.0

module _ (wanted : SignWanted) (n : ℕ) (signer : SignsFor) (at : Instant) (uri : Uri) (upload : ChunkedUpload) (is : IsUploadOf wanted n signer at uri upload) where
  -- it is signed at a moment in the years
  pub signed_then : IsTrue (is_in_years at)
  signed_then = signed_in_years (length_case wanted n signer at uri) is.taken

  -- the text of the body of these bytes, and the head, by the request that is signed
  body_text : List ℕ → Case → List ℕ
  body_text bytes c =
      sent_body (signs_chunks wanted.options) (who_signs signer) at (signature_of c) (sent_size wanted.options) bytes (sent_trailers wanted bytes)

  module _ (left body body_now : Option (List ℕ)) where
    -- what was written of the body, by what the words ask for
    BodySent : Result (Unit {0}) ChunkStatus → Type 0
    BodySent result =
        SendsBody (signs_chunks wanted.options) (who_signs signer) at (sent_size wanted.options) n (sent_checksum wanted.options)
        (signature_of (length_case wanted n signer at uri)) wanted.trailers left body body_now result

    -- what was written of the body, by what was made of the words
    PlanSent : Bool → ℕ → ℕ → List Trailer → Result (Unit {0}) ChunkStatus → Type 0
    PlanSent is_signed size long trailers result =
        SendsBody is_signed (who_signs signer) at size long (sent_checksum wanted.options) (signature_of (length_case wanted n signer at uri)) trailers left body body_now result

    by_words : (result : Result (Unit {0}) ChunkStatus)
        → PlanSent upload.plan.is_signed upload.plan.options.chunk_size upload.plan.length upload.plan.trailers result → BodySent result
    unfolding BodySent PlanSent
    by_words result sends =
        subst (λ (ts : List Trailer). PlanSent (signs_chunks wanted.options) (sent_size wanted.options) n ts result) is.trailers
        (subst (λ (long : ℕ). PlanSent (signs_chunks wanted.options) (sent_size wanted.options) long upload.plan.trailers result) is.long
        (subst (λ (o : Options). PlanSent (signs_chunks wanted.options) o.chunk_size upload.plan.length upload.plan.trailers result) is.options
        (subst (λ (b : Bool). PlanSent b upload.plan.options.chunk_size upload.plan.length upload.plan.trailers result) is.is_signed sends)))

    -- the upload of these bytes, once it is known what was written
    sends_by : (bytes : List ℕ) (status : ChunkStatus) (out out_now : Option (List ℕ)) → IsAllOf left bytes
        → WritesSent n bytes (body_text bytes (length_case wanted n signer at uri)) (sent_head wanted (target_of uri) (length_case wanted n signer at uri)) status
        body body_now out out_now
        → SendsUpload wanted n signer at uri left status body body_now out out_now
    unfolding body_text
    sends_by bytes status out out_now all writes =
        let same = same_case wanted n bytes signer at (target_of uri) in
        record {
          bytes = bytes;
          all = all;
          fit = fit_to_send wanted n bytes is.fit;
          taken = subst (λ (c : Case). asked_refusal c ≡ None) same is.taken;
          writes =
              subst (λ (c : Case). WritesSent n bytes (body_text bytes c) (sent_head wanted (target_of uri) c) status body body_now out out_now) same writes;
        }

    -- the body and the head were written
    pub sends_whole : (status : Status) (out out_now : Option (List ℕ))
        → SendsBody upload.plan.is_signed (who_signs signer) at upload.plan.options.chunk_size upload.plan.length (sent_checksum wanted.options)
        (signature_of (length_case wanted n signer at uri)) upload.plan.trailers left body body_now (Ok tt)
        → HasWritten upload.head.items status out out_now → SendsUpload wanted n signer at uri left (Ended status) body body_now out out_now
    unfolding BodySent PlanSent body_text
    sends_whole status out out_now sends wrote =
        let sent : BodySent (Ok tt) = by_words (Ok tt) sends in
        sends_by sent.0 (Ended status) out out_now sent.1
        (head_written n sent.0 _ _ status body body_now out out_now sent.2 (subst (λ (h : List ℕ). HasWritten h status out out_now) is.head wrote))

    -- the body was cut short
    pub sends_part : (status : ChunkStatus) (out : Option (List ℕ))
        → SendsBody upload.plan.is_signed (who_signs signer) at upload.plan.options.chunk_size upload.plan.length (sent_checksum wanted.options)
        (signature_of (length_case wanted n signer at uri)) upload.plan.trailers left body body_now (Err status)
        → SendsUpload wanted n signer at uri left status body body_now out out
    unfolding BodySent PlanSent body_text
    sends_part status out sends =
        let sent : BodySent (Err status) = by_words (Err status) sends in
        sends_by sent.0 status out out sent.1 (no_head n sent.0 _ _ status body body_now out sent.2)
