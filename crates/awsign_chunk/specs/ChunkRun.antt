-- How a run of `awsign chunk` goes: what was read, and what was written.
use Rattle.std.specs.Prelude.{◌≡◌, ◌⊎◌, ℕ, IsErrAnd, List, length, Option, None, Result, Ok, Err, string_bytes}
use Rattle.std.specs.Global.{Vec}
use Rattle.http_uri.specs.declared.uri.Uri.{Uri}
use Rattle.smithy_core.specs.Moment.{Instant}
use Rattle.smithy_core.specs.Outside.{Gains, GainsProperPrefix, IsAllOf, IsLongerThan}
use Rattle.smithy_core.specs.declared.outside.read_all.ReadFault.{ReadFault}
use Rattle.smithy_core.specs.declared.outside.read_all.ReadFault.TheVariants as read
use Rattle.smithy_core.specs.declared.outside.sink.SinkError.{SinkError}
use Rattle.smithy_core.specs.declared.outside.sink.SinkError.TheVariants as sink
use Rattle.smithy_http.specs.Target.{target_of}
use Rattle.env_config.specs.Sections.{FileText}
use Rattle.sigv4.specs.Signed.{signature_of}
use Rattle.awsign_run.specs.Chosen.{SignRefusal, SignsFor, asked_profile, signer_by, who_signs}
use Rattle.awsign_run.specs.Guess.{url_host}
use Rattle.awsign_run.specs.Signing.{asked_refusal}
use Rattle.awsign_run.specs.declared.status.Status.TheVariants.{CouldNotReadFile, DataFault, Done, NoMemory, OutputFault}
use Rattle.awsign_words.specs.Words.{SignWanted}
use Rattle.awsign_chunk.specs.Sending.{CutsShort}
use Rattle.awsign_chunk.specs.Sent.{IsFitToSend, MakesSentFor, sent_body, sent_case, sent_head, sent_size, sent_trailers, signs_chunks}
use Rattle.awsign_chunk.specs.declared.sent.ChunkedUpload.{ChunkedUpload}
use Rattle.awsign_chunk.specs.declared.status.ChunkStatus.{ChunkStatus}
use Rattle.awsign_chunk.specs.declared.status.ChunkStatus.TheVariants.{DataTooLong, Ended, FileFault}

-- ## What is read

-- the most bytes of data that are held
abbrev pub most_data : ℕ
most_data = 4294967295

-- memory ran out
abbrev pub no_memory_left : ChunkStatus
no_memory_left = Ended NoMemory

-- how a run ends whose data isn't read
abbrev pub unread_status : ReadFault → ChunkStatus
unread_status read.Failed = Ended DataFault
unread_status read.TooLarge = DataTooLong
unread_status read.NoMemory = Ended NoMemory

-- how a run ends whose body isn't written
abbrev pub unwritten_status : SinkError → ChunkStatus
unwritten_status sink.Failed = FileFault
unwritten_status sink.NoMemory = Ended NoMemory

-- the data couldn't be read or is too long, or memory ran out
abbrev pub IsDataStatus : Option (List ℕ) → ChunkStatus → Type 0
IsDataStatus left (Ended DataFault) = Unit {0}
IsDataStatus left DataTooLong = IsLongerThan left most_data
IsDataStatus left (Ended NoMemory) = Unit {0}
IsDataStatus left status = ⊥

-- a profile file couldn't be read, at a path that `unread` tells of, or memory ran out
abbrev pub IsFileStatus : (List ℕ → Type 0) → ChunkStatus → Type 0
IsFileStatus unread (Ended (CouldNotReadFile path)) = unread (string_bytes path)
IsFileStatus unread (Ended NoMemory) = Unit {0}
IsFileStatus unread status = ⊥

-- data that is held: all that a source had left, or why it isn't
abbrev pub HoldsData : Option (List ℕ) → Result (Vec ℕ) ChunkStatus → Type 0
HoldsData left (Ok bytes) = IsAllOf left bytes.items
HoldsData left (Err status) = IsDataStatus left status

-- ## What is made of the words

-- who is chosen, by options, variables and the texts of profile files
abbrev pub sent_signer : SignWanted → List (List ℕ × List ℕ) → List FileText → Result SignsFor SignRefusal
sent_signer wanted env files = signer_by wanted.options (url_host wanted.url) env (asked_profile wanted.options env) files

module _ (moment : Instant → Type 0) (env : List (List ℕ × List ℕ)) where
  -- the upload of so many bytes with texts of profile files, at a moment that `moment` tells of
  abbrev pub MakesSentBy : SignWanted → List FileText → ℕ → Result ChunkedUpload ChunkStatus → Type 0
  MakesSentBy wanted files n result = (at : Instant) × moment at × MakesSentFor wanted n (sent_signer wanted env files) at result

  -- the same under texts of profile files that `gave` tells of, or why these aren't there
  abbrev pub MakesUpload : (List FileText → Type 0) → (List ℕ → Type 0) → SignWanted → ℕ → Result ChunkedUpload ChunkStatus → Type 0
  MakesUpload gave unread wanted n result =
      ((files : List FileText) × gave files × MakesSentBy wanted files n result) ⊎ IsErrAnd result (IsFileStatus unread)

-- ## What is written

-- what was written of the body of these bytes, of which so many were announced, and of its head: all of both; or the body and a part of the head, where the
-- output failed or memory ran out; or a part of the body and nothing of the head, where the data or the file failed, memory ran out, or the data has
-- another length
abbrev pub WritesSent : ℕ → List ℕ → List ℕ → List ℕ → ChunkStatus → Option (List ℕ) → Option (List ℕ) → Option (List ℕ) → Option (List ℕ) → Type 0
WritesSent n bytes text head (Ended Done) body body_now out out_now = (length bytes ≡ n) × Gains body body_now text × Gains out out_now head
WritesSent n bytes text head (Ended OutputFault) body body_now out out_now =
    (length bytes ≡ n) × Gains body body_now text × GainsProperPrefix out out_now head
WritesSent n bytes text head (Ended NoMemory) body body_now out out_now =
    ((length bytes ≡ n) × Gains body body_now text × GainsProperPrefix out out_now head)
    ⊎ (GainsProperPrefix body body_now text × (out_now ≡ out))
WritesSent n bytes text head status body body_now out out_now =
    CutsShort n bytes status × GainsProperPrefix body body_now text × (out_now ≡ out)

-- what was written of an upload: its body is the text of all data that the source had left and of its trailers in chunks, which go on from the signature of
-- the request, and its head is the request, which announces these trailers and is printed once the body is whole
pub record SendsUpload (wanted : SignWanted) (n : ℕ) (signer : SignsFor) (at : Instant) (uri : Uri) (left : Option (List ℕ)) (status : ChunkStatus)
    (body body_now out out_now : Option (List ℕ)) : Type 0 where
  pub bytes : List ℕ
  pub all : IsAllOf left bytes
  pub fit : IsFitToSend wanted n (sent_trailers wanted bytes)
  pub taken : asked_refusal (sent_case wanted n (sent_trailers wanted bytes) signer at (target_of uri)) ≡ None
  pub writes :
      let c = sent_case wanted n (sent_trailers wanted bytes) signer at (target_of uri) in
      let text = sent_body (signs_chunks wanted.options) (who_signs signer) at (signature_of c) (sent_size wanted.options) bytes (sent_trailers wanted bytes) in
      WritesSent n bytes text (sent_head wanted (target_of uri) c) status body body_now out out_now
