-- A body on its way: its data is read and written chunk by chunk.
use Rattle.std.specs.Prelude.{◌≡◌, ◌⊎◌, ℕ, ◌+◌, Bool, true, false, List, [], ◌++◌, length, Option, Some, None, unwrap_or, Result, Ok, Err}
use Rattle.smithy_core.specs.Moment.{Instant}
use Rattle.smithy_core.specs.Outside.{Gains, GainsProperPrefix, IsAllOf, IsAtEnd, IsCutOf}
use Rattle.eventstream.specs.Key.{Signer}
use Rattle.sigv4.specs.Chunk.{chunk_signature}
use Rattle.sigv4.specs.ChunkTold.{ChunkTold, signs_over}
use Rattle.aws_chunked.specs.Body.{Trailer}
use Rattle.aws_chunked.specs.Due.{trailers_signature}
use Rattle.awsign_run.specs.declared.status.Status.TheVariants.{DataFault, NoMemory}
use Rattle.awsign_words.specs.declared.words.Checksum.{Checksum}
use Rattle.awsign_chunk.specs.Sent.{checksum_trailers, sent_body}
use Rattle.awsign_chunk.specs.Sum.{HoldsSum}
use Rattle.awsign_chunk.specs.declared.status.ChunkStatus.{ChunkStatus}
use Rattle.awsign_chunk.specs.declared.status.ChunkStatus.TheVariants.{DataChanged, Ended, FileFault}
use Rattle.awsign_chunk.specs.declared.sum.RunningSum.{RunningSum}

-- ## Signatures

-- the signature of a chunk over the one before it, where chunks are signed
abbrev pub mark_of : Bool → List ℕ → Signer → Instant → List ℕ → Option (List ℕ)
mark_of true piece who t before = Some (chunk_signature piece who t before)
mark_of false piece who t before = None

-- the signature over which the next part is signed: that of this chunk, where chunks are signed
abbrev pub behind : Bool → List ℕ → Signer → Instant → List ℕ → List ℕ
behind is_signed piece who t before = unwrap_or (mark_of is_signed piece who t before) before

-- the signature of the trailers, where chunks are signed and there are some
abbrev pub last_mark : Bool → Signer → Instant → List ℕ → List Trailer → Option (List ℕ)
last_mark true who t before trailers = trailers_signature who t before trailers
last_mark false who t before trailers = None

-- ## Why a body is cut short

-- the data couldn't be read, or memory ran out
abbrev pub IsReadStatus : ChunkStatus → Type 0
IsReadStatus (Ended DataFault) = Unit {0}
IsReadStatus (Ended NoMemory) = Unit {0}
IsReadStatus status = ⊥

-- the file couldn't be written, or memory ran out
abbrev pub IsWriteStatus : ChunkStatus → Type 0
IsWriteStatus FileFault = Unit {0}
IsWriteStatus (Ended NoMemory) = Unit {0}
IsWriteStatus status = ⊥

-- the data or the file failed, memory ran out, or the data doesn't have the length that was announced
abbrev pub CutsShort : ℕ → List ℕ → ChunkStatus → Type 0
CutsShort n bytes (Ended DataFault) = Unit {0}
CutsShort n bytes (Ended NoMemory) = Unit {0}
CutsShort n bytes FileFault = Unit {0}
CutsShort n bytes DataChanged = length bytes ≡ n → ⊥
CutsShort n bytes status = ⊥

-- ## The data

-- what may stand behind a piece of data: behind a whole chunk anything, and else nothing
abbrev pub MayFollow : ℕ → List ℕ → List ℕ → Type 0
MayFollow size piece rest = (length piece ≡ size) ⊎ (rest ≡ [])

module _ (is_signed : Bool) (who : Signer) (t : Instant) (size : ℕ) where
  -- the text of data and trailers, from a signature on
  abbrev pub text_from : List ℕ → List ℕ → List Trailer → List ℕ
  text_from before bytes trailers = sent_body is_signed who t before size bytes trailers

  -- a piece of data was written: what was gained, and then the text of what may follow, from the signature on that the signer holds now, is the text of both
  pub record HasWrittenPiece (before piece : List ℕ) (told : ChunkTold) (held now : Option (List ℕ)) : Type 0 where
    pub after : List ℕ
    pub text : List ℕ
    pub signer : told ≡ signs_over after who t
    pub gained : Gains held now text
    pub whole : (rest : List ℕ) (trailers : List Trailer) → MayFollow size piece rest → text_from before (piece ++ rest) trailers ≡ text ++ text_from after rest trailers

  -- a piece of data was written; or a part of its text, since the file failed or memory ran out
  abbrev pub WritesPiece : List ℕ → List ℕ → ChunkTold → Option (List ℕ) → Option (List ℕ) → Result (Unit {0}) ChunkStatus → Type 0
  WritesPiece before piece told held now (Ok _) = HasWrittenPiece before piece told held now
  WritesPiece before piece told held now (Err status) =
      IsWriteStatus status
      × ((rest : List ℕ) (trailers : List Trailer) → MayFollow size piece rest → GainsProperPrefix held now (text_from before (piece ++ rest) trailers))

  module _ (n : ℕ) (checksum : Option Checksum) (first : List ℕ) where
    -- how far the data has come: so much of it was read and written, and so many announced bytes are left; what was gained, and then the text of what comes,
    -- from the signature on that the signer holds now, is the text of all
    pub record HasCome (before left : Option (List ℕ)) (more : Bool) (to_come : ℕ) (told : ChunkTold) (sum : RunningSum) (held now : Option (List ℕ)) : Type 0 where
      pub bytes : List ℕ
      pub cut : IsCutOf before bytes left
      pub ended : more ≡ false → IsAtEnd left
      pub count : length bytes + to_come ≡ n
      pub holds : HoldsSum sum checksum bytes
      pub last : List ℕ
      pub signer : told ≡ signs_over last who t
      pub text : List ℕ
      pub gained : Gains held now text
      pub whole : (rest : List ℕ) (trailers : List Trailer) → (more ≡ true) ⊎ (rest ≡ []) → text_from first (bytes ++ rest) trailers ≡ text ++ text_from last rest trailers

    -- all data was written: it has the announced length, its checksum is held, and what was gained lacks nothing but the end of the text
    pub record HasSentAll (left : Option (List ℕ)) (told : ChunkTold) (sum : RunningSum) (held now : Option (List ℕ)) : Type 0 where
      pub bytes : List ℕ
      pub all : IsAllOf left bytes
      pub long : length bytes ≡ n
      pub holds : HoldsSum sum checksum bytes
      pub last : List ℕ
      pub signer : told ≡ signs_over last who t
      pub text : List ℕ
      pub gained : Gains held now text
      pub whole : (trailers : List Trailer) → text_from first bytes trailers ≡ text ++ text_from last [] trailers

    -- a part of the text of all data was written, for a reason
    pub record IsCutShort (left held now : Option (List ℕ)) (status : ChunkStatus) : Type 0 where
      pub bytes : List ℕ
      pub all : IsAllOf left bytes
      pub why : CutsShort n bytes status
      pub part : (trailers : List Trailer) → GainsProperPrefix held now (text_from first bytes trailers)

    -- all data was written, or a part of it for a reason
    abbrev pub SendsData : Option (List ℕ) → ChunkTold → RunningSum → Option (List ℕ) → Option (List ℕ) → Result (Unit {0}) ChunkStatus → Type 0
    SendsData left told sum held now (Ok _) = HasSentAll left told sum held now
    SendsData left told sum held now (Err status) = IsCutShort left held now status

    -- the body of these bytes was written; or a part of it for a reason
    abbrev pub WritesAllOf : List ℕ → List ℕ → Option (List ℕ) → Option (List ℕ) → Result (Unit {0}) ChunkStatus → Type 0
    WritesAllOf bytes text held now (Ok _) = (length bytes ≡ n) × Gains held now text
    WritesAllOf bytes text held now (Err status) = CutsShort n bytes status × GainsProperPrefix held now text

    -- the same of all data that a source had left, with these trailers and that of the checksum behind it
    abbrev pub SendsBody : List Trailer → Option (List ℕ) → Option (List ℕ) → Option (List ℕ) → Result (Unit {0}) ChunkStatus → Type 0
    SendsBody trailers left held now result =
        (bytes : List ℕ) × IsAllOf left bytes × WritesAllOf bytes (text_from first bytes (trailers ++ checksum_trailers checksum bytes)) held now result
