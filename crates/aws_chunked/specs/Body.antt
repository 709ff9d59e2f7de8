-- What contracts see of a body: the parts of its text that are left, and what each call takes of what is due and of its source.
use Rattle.std.specs.Prelude.{◌≡◌, ℕ, ◌+◌, ◌<◌, ◌≤◌, ◌⊎◌, Bool, true, false, List, [], ◌∷◌, ◌++◌, length, map, sum, bytes_eq, ◌==◌, min, take, Option, IfSome, Some, None, option_map, Result, Ok, Err, if◌then◌else◌}
use Rattle.std.specs.List.{list_any}
use Rattle.smithy_core.specs.Outside.{RoseOrStands}
use Rattle.smithy_core.specs.TextPairs.{inserted, lower}
use Rattle.smithy_core.specs.declared.outside.frame_part.FramePart.{FramePart}
use Rattle.smithy_core.specs.declared.outside.frame_part.FramePart.TheVariants as frame
use Rattle.smithy_core.specs.declared.outside.frame_source.FrameSource as FrameSource
use Rattle.aws_chunked.specs.Options.{Options, counted, declared_length}
use Rattle.sigv4.specs.declared.chunk_signer.SignChunk as SignChunk
use Rattle.aws_chunked.specs.Signing.{FailsPart, MakesPart, has_signature}
use Rattle.aws_chunked.specs.Text.{Part, chunk, parts_of, tail, trailer_line}
use Rattle.aws_chunked.specs.declared.arrivals.Arrivals.{Arrivals}
use Rattle.aws_chunked.specs.declared.body.AwsChunkedBody.{AwsChunkedBody}
use Rattle.aws_chunked.specs.declared.body.ChunkNext.{ChunkNext}
use Rattle.aws_chunked.specs.declared.body.ChunkNext.TheVariants.{Frame, NotYet, OutOfTurns, End}
use Rattle.aws_chunked.specs.declared.chunk_engine.ChunkEngine.{ChunkEngine}
use Rattle.aws_chunked.specs.declared.error.AwsChunkedBodyError.{AwsChunkedBodyError}
use Rattle.aws_chunked.specs.declared.error.AwsChunkedBodyError.TheVariants.{FailedToSign, NoMemory, ReportedTrailerLengthMismatch, SourceFault, StreamLengthMismatch}
use Rattle.aws_chunked.specs.declared.phase.Phase.{Phase}
use Rattle.aws_chunked.specs.declared.phase.Phase.TheVariants as phase
use Rattle.aws_chunked.specs.declared.piece_engine.Sent.TheVariants as sent
use Rattle.aws_chunked.specs.declared.stop.Stop.{Stop}
use Rattle.aws_chunked.specs.declared.stop.Stop.TheVariants as stop

-- ## Frames

-- a trailer: its name and its value
abbrev pub Trailer : Type 0
Trailer = List ℕ × List ℕ

-- the data of a body: that of the frames before the first trailers
abbrev pub data_before : List FramePart → List ℕ
data_before [] = []
data_before (frame.Data piece ∷ frames) = piece ++ data_before frames
data_before (frame.Trailers trailers ∷ frames) = []

-- a name is among those of the trailers
abbrev pub is_named : List ℕ → List Trailer → Bool
is_named name trailers = list_any (λ trailer. bytes_eq trailer.0 name) trailers

-- a trailer takes the place of all of its name, or stands behind the others, where its name came before in its frame
abbrev pub put_after : List Trailer → List Trailer → List ℕ → List ℕ → List Trailer
put_after before kept name value = if is_named name before then kept ++ (name, value) ∷ [] else inserted kept name value

-- the trailers with those of a later frame, of which these came before the others; names are kept in lower case
abbrev pub merged_after : List Trailer → List Trailer → List Trailer → List Trailer
merged_after before kept [] = kept
merged_after before kept (trailer ∷ trailers) =
    merged_after (before ++ (lower trailer.0, trailer.1) ∷ []) (put_after before kept (lower trailer.0) trailer.1) trailers

-- the trailers with those of a later frame
abbrev pub merged : List Trailer → List Trailer → List Trailer
merged kept trailers = merged_after [] kept trailers

-- the trailers so far, if any came, with those of one more frame
abbrev pub with_frame : Option (List Trailer) → List Trailer → List Trailer
with_frame None trailers = trailers
with_frame (Some kept) trailers = merged kept trailers

-- the trailers so far, if any came, with those of the frames
abbrev pub trailers_from : Option (List Trailer) → List FramePart → Option (List Trailer)
trailers_from kept [] = kept
trailers_from kept (frame.Data piece ∷ frames) = trailers_from kept frames
trailers_from kept (frame.Trailers trailers ∷ frames) = trailers_from (Some (with_frame kept trailers)) frames

-- the trailers, of which there are none where none came
abbrev pub listed : Option (List Trailer) → List Trailer
listed None = []
listed (Some trailers) = trailers

-- ## What is due

-- the data that frames still bring
abbrev pub data_left : Phase → List FramePart → List ℕ
data_left phase.Data frames = data_before frames
data_left _ frames = []

-- the trailers with those that frames still bring
abbrev pub trailers_left : Phase → Option (List Trailer) → List FramePart → Option (List Trailer)
trailers_left phase.Data kept frames = trailers_from kept frames
trailers_left phase.Trailers kept frames = trailers_from kept frames
trailers_left _ kept frames = kept

-- the parts of the text that aren't made yet, with so much data held
abbrev pub parts_left : Phase → ℕ → List ℕ → Option (List Trailer) → List FramePart → List Part
parts_left phase.Closed size held kept frames = []
parts_left at size held kept frames = parts_of size (held ++ data_left at frames) (listed (trailers_left at kept frames))

-- the text that was made and isn't answered yet, the parts that aren't made yet, all trailers, once some came, and how much data there
-- is in all
pub record TextLeft : Type 0 where
  pub ready : List ℕ
  pub parts : List Part
  pub trailers : Option (List Trailer)
  pub total : ℕ

-- these bytes are the front of the text that was due, and the rest is due now
abbrev pub TakesText : List ℕ → Option (List ℕ) → Option (List ℕ) → Type 0
TakesText bytes None now = now ≡ None
TakesText bytes (Some text) None = ⊥
TakesText bytes (Some text) (Some rest) = text ≡ bytes ++ rest

-- nothing is due
abbrev pub IsNothing : Option (List ℕ) → Type 0
IsNothing None = Unit {0}
IsNothing (Some text) = text ≡ []

-- a frame is the front of what was due, and isn't empty; the end comes with nothing due; where nothing came nothing is taken
abbrev pub TakesDue : Option (List ℕ) → Option (List ℕ) → Result ChunkNext AwsChunkedBodyError → Type 0
TakesDue before now (Ok (Frame bytes)) = TakesText bytes before now × (0 < length bytes)
TakesDue before now (Ok NotYet) = now ≡ before
TakesDue before now (Ok OutOfTurns) = now ≡ before
TakesDue before now (Ok End) = (now ≡ before) × IsNothing now
TakesDue before now (Err error) = Unit {0}

-- why nothing can be made, as an answer
abbrev pub stop_answer : Stop → Result ChunkNext AwsChunkedBodyError
stop_answer stop.NotYet = Ok NotYet
stop_answer stop.OutOfTurns = Ok OutOfTurns
stop_answer (stop.Fault error) = Err error

-- the data that is held after a piece more: after the first trailers data is ignored
abbrev pub held_after : Phase → List ℕ → List ℕ → List ℕ
held_after phase.Data held piece = held ++ piece
held_after _ held piece = held

-- how much data was counted after a piece more
abbrev pub taken_after : Phase → ℕ → List ℕ → ℕ
taken_after phase.Data taken piece = counted (taken + length piece)
taken_after _ taken piece = taken

-- how many frames without data a piece is: one where it is empty, or comes after the first trailers
abbrev pub idle_in : Phase → List ℕ → ℕ
idle_in phase.Data piece = if length piece == 0 then 1 else 0
idle_in _ piece = 1

-- how many of the frames have no data: each after the first trailers counts as one
abbrev pub idle_frames : Phase → List FramePart → ℕ
idle_frames phase.Data [] = 0
idle_frames phase.Data (frame.Data piece ∷ frames) = idle_in phase.Data piece + idle_frames phase.Data frames
idle_frames phase.Data (frame.Trailers trailers ∷ frames) = 1 + length frames
idle_frames _ frames = length frames

-- how far a body has come after the frames
abbrev pub phase_after : Phase → List FramePart → Phase
phase_after phase.Data [] = phase.Data
phase_after phase.Data (frame.Data piece ∷ frames) = phase_after phase.Data frames
phase_after phase.Data (frame.Trailers trailers ∷ frames) = phase.Trailers
phase_after at frames = at

-- how many frames without data a call takes: 65,536 exactly where it is out of turns
abbrev pub AreTurns : Result ChunkNext AwsChunkedBodyError → ℕ → Type 0
AreTurns (Ok OutOfTurns) count = count ≡ 65536
AreTurns (Err NoMemory) count = count ≤ 65536
AreTurns result count = count < 65536

-- how long the lines of trailers are
abbrev pub lines_length : List Trailer → ℕ
lines_length trailers = sum (map (λ trailer. length (trailer_line trailer)) trailers)

-- the same, with the line of their signature, where there is one
abbrev pub actual_length : Bool → List Trailer → ℕ
actual_length is_signed trailers = lines_length trailers + (if has_signature is_signed trailers then 90 else 0)

-- a part can be made of so much data that is held: a whole chunk, or, once the data has ended, the last one, or the end of the text
abbrev pub CanMake : Phase → ℕ → List ℕ → Type 0
CanMake phase.Data size held = (0 < size) × (size ≤ length held)
CanMake phase.Trailers size held = 0 < length held
CanMake phase.Ended size held = Unit {0}
CanMake phase.Closed size held = ⊥

-- ## What has come of a source

-- the data has the declared length, or it is told which one it has
abbrev pub HasLength : Arrivals → Options → Result (Unit {0}) AwsChunkedBodyError → Type 0
HasLength came options (Ok _) = came.taken ≡ options.stream_length
HasLength came options (Err error) = (error ≡ StreamLengthMismatch came.taken options.stream_length) × (came.taken ≡ options.stream_length → ⊥)

-- for HTTP 1.x: the lines of the trailers, where some came, have the declared lengths, or it is told which one they have
abbrev pub HasTrailerLengthsIfAny : Arrivals → Options → Result (Unit {0}) AwsChunkedBodyError → Type 0
HasTrailerLengthsIfAny came options (Ok _) =
    IfSome came.trailers (λ trailers. counted (actual_length options.is_signed trailers) ≡ counted (declared_length options.trailer_lengths))
HasTrailerLengthsIfAny came options (Err error) = (trailers : List Trailer) × (came.trailers ≡ Some trailers)
    × (error ≡ ReportedTrailerLengthMismatch (counted (actual_length options.is_signed trailers)) (counted (declared_length options.trailer_lengths)))
    × (counted (actual_length options.is_signed trailers) ≡ counted (declared_length options.trailer_lengths) → ⊥)

-- for HTTP 0.x: the lines of the trailers, of which there are none where none came, have the declared lengths, or it is told which one
-- they have
abbrev pub HasTrailerLengthsAlways : Arrivals → Options → Result (Unit {0}) AwsChunkedBodyError → Type 0
HasTrailerLengthsAlways came options (Ok _) = counted (lines_length (listed came.trailers)) ≡ counted (declared_length options.trailer_lengths)
HasTrailerLengthsAlways came options (Err error) =
    (error ≡ ReportedTrailerLengthMismatch (counted (lines_length (listed came.trailers))) (counted (declared_length options.trailer_lengths)))
    × (counted (lines_length (listed came.trailers)) ≡ counted (declared_length options.trailer_lengths) → ⊥)

-- ## The text for HTTP 1.x

-- the first piece of the data that is held
abbrev pub first_piece : ℕ → List ℕ → List ℕ
first_piece size held = take (min (length held) size) held

module _ {G : Type 0} (signer : SignChunk.Ghosts G) where
  -- a chunk of the data that is held is made, or there is none for a reason
  abbrev pub MakesChunk : Options → ChunkEngine G → ChunkEngine G → Result (Unit {0}) AwsChunkedBodyError → Type 0
  MakesChunk options old new (Ok _) =
      MakesPart signer options.is_signed (chunk (first_piece options.chunk_size old.held.bytes)) old.signer new.ready new.signer
      × (old.held.bytes ≡ first_piece options.chunk_size old.held.bytes ++ new.held.bytes)
  MakesChunk options old new (Err error) =
      (error ≡ NoMemory) ⊎ FailsPart signer options.is_signed (chunk (first_piece options.chunk_size old.held.bytes)) old.signer error new.signer

  -- the end of the text is made, where the lines of the trailers have the declared lengths, or there is none for a reason: nothing is
  -- signed where the lengths differ
  abbrev pub MakesTail : Options → Arrivals → ChunkEngine G → ChunkEngine G → Result (Unit {0}) AwsChunkedBodyError → Type 0
  MakesTail options came old new (Ok _) =
      MakesPart signer options.is_signed (tail (listed came.trailers)) old.signer new.ready new.signer
      × HasTrailerLengthsIfAny came options (Ok tt)
      × (new ≡ record old { signer = new.signer; ready = new.ready })
  MakesTail options came old new (Err error) =
      ((error ≡ NoMemory) ⊎ (HasTrailerLengthsIfAny came options (Err error) × (new.signer ≡ old.signer))
      ⊎ (HasTrailerLengthsIfAny came options (Ok tt) × FailsPart signer options.is_signed (tail (listed came.trailers)) old.signer error new.signer))
      × (new ≡ record old { signer = new.signer; ready = new.ready })

-- ## A body

module _ {F G : Type 0} where
  -- the source of a body
  abbrev pub body_source : AwsChunkedBody F G → F
  body_source body = body.source

  -- how a body is encoded
  abbrev pub options_in : AwsChunkedBody F G → Options
  options_in body = body.options

  -- how much data is held
  abbrev pub held_bytes : AwsChunkedBody F G → List ℕ
  held_bytes body = body.chunks.held.bytes

  -- the text that was made and isn't answered yet
  abbrev pub ready_bytes : AwsChunkedBody F G → List ℕ
  ready_bytes body = body.chunks.ready

  -- nothing more is read, nor answered
  pub record IsBodyClosed (body : AwsChunkedBody F G) : Type 0 where
    pub over : body.came.phase ≡ phase.Closed
    pub answered : ready_bytes body ≡ []

  -- a body that has taken nothing
  pub record IsNewBody (source : F) (options : Options) (body : AwsChunkedBody F G) : Type 0 where
    pub reads_from : body.source ≡ source
    pub encoded : body.options ≡ options
    pub no_signer : body.chunks.signer ≡ None
    pub starts : body.came.phase ≡ phase.Data
    pub nothing_held : held_bytes body ≡ []
    pub nothing_ready : ready_bytes body ≡ []
    pub nothing_counted : body.came.taken ≡ 0
    pub no_trailers : body.came.trailers ≡ None
    pub nothing_sent : body.pieces.sent ≡ sent.Nothing

  -- a body with this signer
  abbrev pub signed_by : G → AwsChunkedBody F G → AwsChunkedBody F G
  signed_by signer body = record body { chunks = record body.chunks { signer = Some signer } }

  -- a body of whose text that was made this is left
  abbrev pub with_ready : List ℕ → AwsChunkedBody F G → AwsChunkedBody F G
  with_ready ready body = record body { chunks = record body.chunks { ready = ready } }

  -- a body after a stop: after a fault it is closed
  abbrev pub after_stop : Stop → AwsChunkedBody F G → AwsChunkedBody F G
  after_stop stop.NotYet body = body
  after_stop stop.OutOfTurns body = body
  after_stop (stop.Fault error) body = record body { came = record body.came { phase = phase.Closed }; chunks = record body.chunks { ready = [] } }

  -- a body that was closed answers the end, and stays as it is
  abbrev pub StaysClosed : AwsChunkedBody F G → AwsChunkedBody F G → Result ChunkNext AwsChunkedBodyError → Type 0
  StaysClosed old new result = IsBodyClosed old → (result ≡ Ok End) × (new ≡ old)

  -- what is left of a body whose source has these frames left
  abbrev pub text_to_come_with : AwsChunkedBody F G → List FramePart → TextLeft
  text_to_come_with body frames = record {
    ready = ready_bytes body;
    parts = parts_left body.came.phase body.options.chunk_size (held_bytes body) body.came.trailers frames;
    trailers = trailers_left body.came.phase body.came.trailers frames;
    total = counted (body.came.taken + length (data_left body.came.phase frames));
  }

  -- only the source, the data that is held and the trailers change, and how far the body has come
  abbrev pub OthersStay : AwsChunkedBody F G → AwsChunkedBody F G → Type 0
  OthersStay old new = new ≡ record old { source = new.source; came = new.came; chunks = record old.chunks { held = new.chunks.held } }

  -- a body after a piece of data
  abbrev pub with_data : AwsChunkedBody F G → List ℕ → AwsChunkedBody F G
  with_data body piece = record body { came = record body.came { taken = taken_after body.came.phase body.came.taken piece } }

  -- a body that may read on
  abbrev pub MayReadOn : AwsChunkedBody F G → Type 0
  MayReadOn body = (body.came.phase ≡ phase.Data) ⊎ (body.came.phase ≡ phase.Trailers)

  -- a body that isn't closed
  abbrev pub IsBodyOpen : AwsChunkedBody F G → Type 0
  IsBodyOpen body = body.came.phase ≡ phase.Closed → ⊥

  -- a part of the text can be made
  abbrev pub IsAtHand : AwsChunkedBody F G → Type 0
  IsAtHand body = CanMake body.came.phase body.options.chunk_size (held_bytes body)

  -- the data has ended
  abbrev pub HasEnded : AwsChunkedBody F G → Type 0
  HasEnded body = (body.came.phase ≡ phase.Trailers) ⊎ (body.came.phase ≡ phase.Ended)

  -- data that has ended has the declared length
  abbrev pub IsCompared : AwsChunkedBody F G → Type 0
  IsCompared body = HasEnded body → body.came.taken ≡ body.options.stream_length

  -- whether a part can be made, or why there is none: before the end of the text the length of the data is compared
  abbrev pub TestsPart : AwsChunkedBody F G → Result Bool AwsChunkedBodyError → Type 0
  TestsPart body (Ok true) = IsAtHand body × (0 < body.options.chunk_size) × (held_bytes body ≡ [] → body.came.taken ≡ body.options.stream_length)
  TestsPart body (Ok false) =
      (length (held_bytes body) < body.options.chunk_size) × (body.options.chunk_size ≤ 4294967295) × MayReadOn body × IsCompared body
  TestsPart body (Err error) = HasLength body.came body.options (Err error) × (held_bytes body ≡ []) × HasEnded body

  module _ (signer : SignChunk.Ghosts G) where
    -- a chunk is made, and the rest of the body stays
    abbrev pub MakesNextChunk : AwsChunkedBody F G → AwsChunkedBody F G → Result (Unit {0}) AwsChunkedBodyError → Type 0
    MakesNextChunk old new result = MakesChunk signer old.options old.chunks new.chunks result × (new ≡ record old { chunks = new.chunks })

    -- the end is made, and all of the text then
    abbrev pub MakesEnd : AwsChunkedBody F G → AwsChunkedBody F G → Result (Unit {0}) AwsChunkedBodyError → Type 0
    MakesEnd old new (Ok _) =
        MakesTail signer old.options old.came old.chunks new.chunks (Ok tt)
        × (new ≡ record old { came = record old.came { phase = phase.Closed }; chunks = new.chunks })
    MakesEnd old new (Err error) =
        MakesTail signer old.options old.came old.chunks new.chunks (Err error) × (new ≡ record old { chunks = new.chunks })

  module _ (source : FrameSource.Ghosts F) where
    -- what is left of a body, where its source tells its frames
    abbrev pub text_to_come : AwsChunkedBody F G → Option TextLeft
    text_to_come body = option_map (text_to_come_with body) (source.left body.source)

    -- the parts of the text that aren't made yet, where the source tells its frames
    abbrev pub parts_due : AwsChunkedBody F G → Option (List Part)
    parts_due body = option_map (λ (rest : TextLeft). rest.parts) (text_to_come body)

    -- how much data there is in all, where the source tells its frames
    abbrev pub total_of : AwsChunkedBody F G → Option ℕ
    total_of body = option_map (λ (rest : TextLeft). rest.total) (text_to_come body)

    -- all trailers, once some came, with those that the frames still bring
    abbrev pub trailers_due : AwsChunkedBody F G → Option (Option (List Trailer))
    trailers_due body = option_map (λ (rest : TextLeft). rest.trailers) (text_to_come body)

    -- all trailers that the source had left have come, and no others
    abbrev pub HaveAllCome : AwsChunkedBody F G → AwsChunkedBody F G → Type 0
    HaveAllCome old new = IfSome (trailers_due old) (λ trailers. new.came.trailers ≡ trailers)

    -- the end of the text comes only where all trailers have come, and the data and the lines of the trailers have the declared lengths
    abbrev pub HasLengths : AwsChunkedBody F G → Part → AwsChunkedBody F G → Type 0
    HasLengths old (chunk piece) new = Unit {0}
    HasLengths old (tail trailers) new = (new.came.taken ≡ new.options.stream_length) × HasTrailerLengthsIfAny new.came new.options (Ok tt) × HaveAllCome old new

    -- what is taken of the source is still left
    pub record KeepsText (old new : AwsChunkedBody F G) : Type 0 where
      pub rest : text_to_come new ≡ text_to_come old
      pub others : OthersStay old new
      pub held : length (held_bytes old) ≤ length (held_bytes new)
      pub waits : source.waits old.source ≤ source.waits new.source
      pub faults : source.faults old.source ≤ source.faults new.source

    -- what is counted of the source never falls, and the encoding stays
    pub record KeepsCounts (old new : AwsChunkedBody F G) : Type 0 where
      pub waits : source.waits old.source ≤ source.waits new.source
      pub faults : source.faults old.source ≤ source.faults new.source
      pub options : new.options ≡ old.options

    -- frames are taken of the source, and so many of them have no data; a body to which data still comes has taken no trailers
    pub record TakesIdleFrames (AreSo : ℕ → Type 0) (old new : AwsChunkedBody F G) : Type 0 where
      pub frames : List FramePart
      pub taken : source.left old.source ≡ option_map (λ rest. frames ++ rest) (source.left new.source)
      pub turns : AreSo (idle_frames old.came.phase frames)
      pub goes_on : new.came.phase ≡ phase.Data → phase_after old.came.phase frames ≡ phase.Data

    -- a frame without data counts, and another brings some, or the source has ended
    abbrev pub CountsOrBrings : ℕ → AwsChunkedBody F G → AwsChunkedBody F G → Type 0
    CountsOrBrings idle old new =
        ((idle ≡ 1) × (length (held_bytes old) ≤ length (held_bytes new)))
        ⊎ ((idle ≡ 0) × (length (held_bytes old) < length (held_bytes new)))
        ⊎ ((idle ≡ 0) × (new.came.phase ≡ phase.Ended) × (length (held_bytes old) ≤ length (held_bytes new)))

    -- frames are taken, so many of them without data, and what they bring is still left
    pub record TakesSourceFrames (frames : List FramePart) (old new : AwsChunkedBody F G) : Type 0 where
      pub keeps : KeepsText old new
      pub taken : source.left old.source ≡ option_map (λ rest. frames ++ rest) (source.left new.source)
      pub at : (new.came.phase ≡ phase_after old.came.phase frames) ⊎ (new.came.phase ≡ phase.Ended)
      pub on : IsBodyOpen new

    -- the source waited, less than a chunk is held, and data that has ended has the declared length
    abbrev pub HasWaited : AwsChunkedBody F G → AwsChunkedBody F G → Type 0
    HasWaited old new =
        RoseOrStands (source.waits old.source) (source.waits new.source) × (length (held_bytes new) < new.options.chunk_size) × IsCompared new

    -- the data has ended, none of it was held, of the parts only the end is left, and the data doesn't have the declared length
    abbrev pub LacksLength : AwsChunkedBody F G → AwsChunkedBody F G → ℕ → ℕ → Type 0
    LacksLength old new actual expected =
        (actual ≡ new.came.taken) × (expected ≡ new.options.stream_length) × (actual ≡ expected → ⊥)
        × IfSome (total_of old) (λ total. total ≡ counted actual)
        × (held_bytes old ≡ []) × IfSome (parts_due old) (λ parts. (trailers : List Trailer) × (parts ≡ tail trailers ∷ []))

    -- why no part is at hand
    abbrev pub StopsFor : AwsChunkedBody F G → AwsChunkedBody F G → Stop → Type 0
    StopsFor old new stop.NotYet = KeepsText old new × HasWaited old new
    StopsFor old new stop.OutOfTurns = KeepsText old new
    StopsFor old new (stop.Fault SourceFault) = RoseOrStands (source.faults old.source) (source.faults new.source)
    StopsFor old new (stop.Fault (StreamLengthMismatch actual expected)) = LacksLength old new actual expected
    StopsFor old new (stop.Fault NoMemory) = Unit {0}
    StopsFor old new (stop.Fault error) = ⊥

    -- a frame is taken, if the source has one, and what it brings is still left; or none is taken for a reason
    abbrev pub PullsFrame : AwsChunkedBody F G → AwsChunkedBody F G → Result ℕ Stop → Type 0
    PullsFrame old new (Ok idle) = (frames : List FramePart) × TakesSourceFrames frames old new × (idle ≡ idle_frames old.came.phase frames) × CountsOrBrings idle old new
    PullsFrame old new (Err stop.OutOfTurns) = ⊥
    PullsFrame old new (Err (stop.Fault (StreamLengthMismatch actual expected))) = ⊥
    PullsFrame old new (Err (stop.Fault NoMemory)) = KeepsCounts old new × TakesIdleFrames (λ count. count ≤ 1) old new
    PullsFrame old new (Err why) = KeepsCounts old new × StopsFor old new why × TakesIdleFrames (λ count. count ≡ 0) old new

    -- frames are taken until a part can be made, and what they bring is still left; or none can be made for a reason
    abbrev pub Gathers : AwsChunkedBody F G → AwsChunkedBody F G → Result (Unit {0}) Stop → Type 0
    Gathers old new (Ok _) =
        KeepsText old new × IsAtHand new × (0 < new.options.chunk_size) × (held_bytes new ≡ [] → new.came.taken ≡ new.options.stream_length)
        × TakesIdleFrames (λ count. count < 65536) old new
    Gathers old new (Err why) = KeepsCounts old new × StopsFor old new why × TakesIdleFrames (AreTurns (stop_answer why)) old new

  module _ (source : FrameSource.Ghosts F) (signer : SignChunk.Ghosts G) where
    -- the text of the first part that is due is made, with its signatures where the body is signed
    pub record MakesFirst (old new : AwsChunkedBody F G) (text : List ℕ) : Type 0 where
      pub part : Part
      pub made : MakesPart signer old.options.is_signed part old.chunks.signer text new.chunks.signer
      pub parts : parts_due source old ≡ option_map (λ rest. part ∷ rest) (parts_due source new)
      pub total : total_of source new ≡ total_of source old
      pub trailers : trailers_due source new ≡ trailers_due source old
      pub lengths : HasLengths source old part new

    -- what a call answers: bytes of text that was made, or, where there is none, of that of the first part; where nothing comes the
    -- frames that were taken are still due; the end changes nothing
    abbrev pub AnswersFrame : AwsChunkedBody F G → AwsChunkedBody F G → Result ChunkNext AwsChunkedBodyError → Type 0
    AnswersFrame old new (Ok (Frame bytes)) = (text : List ℕ) × (text ≡ bytes ++ ready_bytes new)
        × (((text ≡ ready_bytes old) × (new ≡ with_ready (ready_bytes new) old)) ⊎ ((ready_bytes old ≡ []) × MakesFirst old new text))
    AnswersFrame old new (Ok NotYet) = KeepsText source old new
    AnswersFrame old new (Ok OutOfTurns) = KeepsText source old new
    AnswersFrame old new (Ok End) = new ≡ old
    AnswersFrame old new (Err error) = Unit {0}

    -- the part is the first that was due
    abbrev pub IsFirstPart : AwsChunkedBody F G → Part → Type 0
    IsFirstPart body part = IfSome (parts_due source body) (λ parts. (rest : List Part) × (parts ≡ part ∷ rest))

    -- why a call gives no more: of data that doesn't have the declared length all was answered; where the lines of the trailers don't
    -- have the declared lengths nothing was signed, and what is signed at the end has all lengths
    abbrev pub Causes : AwsChunkedBody F G → AwsChunkedBody F G → Result ChunkNext AwsChunkedBodyError → Type 0
    Causes old new (Ok NotYet) = HasWaited source old new
    Causes old new (Err SourceFault) = RoseOrStands (source.faults old.source) (source.faults new.source)
    Causes old new (Err (StreamLengthMismatch actual expected)) = LacksLength source old new actual expected × (ready_bytes old ≡ [])
    Causes old new (Err (ReportedTrailerLengthMismatch actual expected)) =
        HasTrailerLengthsIfAny new.came new.options (Err (ReportedTrailerLengthMismatch actual expected)) × (new.came.taken ≡ new.options.stream_length)
        × HaveAllCome source old new × IsFirstPart old (tail (listed new.came.trailers)) × (new.chunks.signer ≡ old.chunks.signer)
    Causes old new (Err (FailedToSign why)) =
        (part : Part) × FailsPart signer old.options.is_signed part old.chunks.signer (FailedToSign why) new.chunks.signer × IsFirstPart old part
        × HasLengths source old part new
    Causes old new result = Unit {0}

    -- what a call takes of its source, and why it gives no more
    abbrev pub HasCause : AwsChunkedBody F G → AwsChunkedBody F G → Result ChunkNext AwsChunkedBodyError → Type 0
    HasCause old new result = KeepsCounts source old new × Causes old new result

    -- some text is ready, or none can be made for a reason
    abbrev pub HasTextOrStops : AwsChunkedBody F G → AwsChunkedBody F G → Result (Unit {0}) Stop → Type 0
    HasTextOrStops old new (Ok _) =
        KeepsCounts source old new × (0 < length (ready_bytes new)) × TakesIdleFrames source (λ count. count < 65536) old new
        × ((new ≡ old) ⊎ ((ready_bytes old ≡ []) × MakesFirst old new (ready_bytes new)))
    HasTextOrStops old new (Err (stop.Fault error)) = HasCause old new (Err error) × TakesIdleFrames source (AreTurns (Err error)) old new
    HasTextOrStops old new (Err why) = KeepsText source old new × HasCause old new (stop_answer why) × TakesIdleFrames source (AreTurns (stop_answer why)) old new
