-- What contracts see of a body in the form for HTTP 0.x: one chunk of the declared length, whose data is passed on as it comes.
use Rattle.std.specs.Prelude.{◌≡◌, ℕ, zero, suc, ◌+◌, ◌<◌, ◌≤◌, ◌⊎◌, List, [], ◌∷◌, ◌++◌, length, map, Option, None, Some, IfSome, option_map, Result, Ok, Err}
use Rattle.std.specs.List.{flat_map}
use Rattle.smithy_core.specs.Outside.{RoseOrStands}
use Rattle.smithy_core.specs.declared.outside.frame_part.FramePart.{FramePart}
use Rattle.smithy_core.specs.declared.outside.frame_part.FramePart.TheVariants as frame
use Rattle.smithy_core.specs.declared.outside.frame_source.FrameSource as FrameSource
use Rattle.aws_chunked.specs.Body.{AreTurns, HasLength, HasTrailerLengthsAlways, IsCompared, MayReadOn, Trailer, stop_answer, data_left, idle_frames, listed, phase_after, trailers_left}
use Rattle.aws_chunked.specs.Options.{Options, counted}
use Rattle.aws_chunked.specs.Text.{crlf, head_text, trailer_line}
use Rattle.aws_chunked.specs.declared.arrivals.Arrivals.{Arrivals}
use Rattle.aws_chunked.specs.declared.body.AwsChunkedBody.{AwsChunkedBody}
use Rattle.aws_chunked.specs.declared.body.ChunkNext.{ChunkNext}
use Rattle.aws_chunked.specs.declared.body.ChunkNext.TheVariants.{Frame, NotYet, OutOfTurns, End}
use Rattle.aws_chunked.specs.declared.error.AwsChunkedBodyError.{AwsChunkedBodyError}
use Rattle.aws_chunked.specs.declared.error.AwsChunkedBodyError.TheVariants.{FailedToSign, NoMemory, ReportedTrailerLengthMismatch, SourceFault, StreamLengthMismatch}
use Rattle.aws_chunked.specs.declared.phase.Phase.{Phase}
use Rattle.aws_chunked.specs.declared.phase.Phase.TheVariants as phase
use Rattle.aws_chunked.specs.declared.piece_engine.PieceEngine.{PieceEngine}
use Rattle.aws_chunked.specs.declared.piece_engine.Sent.{Sent}
use Rattle.aws_chunked.specs.declared.piece_engine.Sent.TheVariants as sent
use Rattle.aws_chunked.specs.declared.stop.Stop.{Stop}

-- ## The text

-- a piece of the text, as a call answers it
pub data Piece : Type 0 where
  -- the line of the declared length
  length_line : ℕ → Piece
  -- some data, as it came
  passed : List ℕ → Piece
  -- the end of the data's chunk, and the line of the empty one
  empty_chunk : Piece
  -- the trailers, and an empty line
  last_lines : List Trailer → Piece

-- the text of a piece
abbrev pub piece_text : Piece → List ℕ
piece_text (length_line n) = head_text n None
piece_text (passed bytes) = bytes
piece_text empty_chunk = crlf ++ head_text 0 None
piece_text (last_lines trailers) = flat_map trailer_line trailers ++ crlf

-- the text of pieces
abbrev pub pieces_text : List Piece → List ℕ
pieces_text pieces = flat_map piece_text pieces

-- a piece of data before others, if it isn't empty
abbrev pub onto_filled : List ℕ → List (List ℕ) → List (List ℕ)
onto_filled [] pieces = pieces
onto_filled (byte ∷ bytes) pieces = (byte ∷ bytes) ∷ pieces

-- the data as it comes: the pieces before the first trailers that aren't empty
abbrev pub filled_before : List FramePart → List (List ℕ)
filled_before [] = []
filled_before (frame.Data piece ∷ frames) = onto_filled piece (filled_before frames)
filled_before (frame.Trailers trailers ∷ frames) = []

-- how far the text is after the line of the declared length: that of an empty stream is the line of the empty chunk
abbrev pub sent_after : ℕ → Sent
sent_after zero = sent.EmptyChunk
sent_after (suc n) = sent.LengthLine

-- the pieces behind what was answered: the data as it comes, the end of its chunk, where one was begun, and the trailers
abbrev pub pieces_behind : Sent → ℕ → List (List ℕ) → List Trailer → List Piece
pieces_behind sent.EmptyChunk n bytes trailers = map passed bytes ++ last_lines trailers ∷ []
pieces_behind _ n bytes trailers = map passed bytes ++ empty_chunk ∷ last_lines trailers ∷ []

-- the pieces of the text that aren't answered yet, for data of so many declared bytes
abbrev pub pieces_of : Sent → ℕ → List (List ℕ) → List Trailer → List Piece
pieces_of sent.Nothing n bytes trailers = length_line n ∷ pieces_behind (sent_after n) n bytes trailers
pieces_of at n bytes trailers = pieces_behind at n bytes trailers

-- ## What is due

-- the data that frames still bring, as it comes
abbrev pub filled_left : Phase → List FramePart → List (List ℕ)
filled_left phase.Data frames = filled_before frames
filled_left _ frames = []

-- the pieces of the text that aren't answered yet
abbrev pub pieces_to_come : Sent → Phase → ℕ → Option (List Trailer) → List FramePart → List Piece
pieces_to_come was phase.Closed n kept frames = []
pieces_to_come was at n kept frames = pieces_of was n (filled_left at frames) (listed (trailers_left at kept frames))

-- how many frames without data a step takes
abbrev pub AreIdleInStep : Result ChunkNext AwsChunkedBodyError → ℕ → Type 0
AreIdleInStep (Ok OutOfTurns) count = ⊥
AreIdleInStep (Err NoMemory) count = count ≤ 1
AreIdleInStep result count = count ≡ 0

-- it takes none
abbrev pub AreNoneTaken : Result ChunkNext AwsChunkedBodyError → ℕ → Type 0
AreNoneTaken (Ok OutOfTurns) count = ⊥
AreNoneTaken result count = count ≡ 0

-- the data may have another length than declared where this is the next piece: at the end of the data, and, where none was declared,
-- at the first
abbrev pub MayLack : Piece → ℕ → Type 0
MayLack (length_line n) expected = ⊥
MayLack (passed bytes) expected = expected ≡ 0
MayLack empty_chunk expected = Unit {0}
MayLack (last_lines trailers) expected = Unit {0}

-- ## The engine

-- the end of the data is made, where it has the declared length, or it is told which one it has
abbrev pub MakesEmptyChunk : Options → Arrivals → PieceEngine → PieceEngine → Result (List ℕ) AwsChunkedBodyError → Type 0
MakesEmptyChunk options came old new (Ok bytes) =
    (bytes ≡ piece_text empty_chunk) × HasLength came options (Ok tt) × (new ≡ record { sent = sent.EmptyChunk })
MakesEmptyChunk options came old new (Err error) = HasLength came options (Err error) × (new ≡ old)

-- the trailers are made, where all lengths are the declared ones, or there are none for a reason
abbrev pub MakesLastLines : Options → Arrivals → Result (List ℕ) AwsChunkedBodyError → Type 0
MakesLastLines options came (Ok bytes) =
    (bytes ≡ piece_text (last_lines (listed came.trailers))) × HasLength came options (Ok tt) × HasTrailerLengthsAlways came options (Ok tt)
MakesLastLines options came (Err error) =
    (error ≡ NoMemory) ⊎ HasLength came options (Err error) ⊎ (HasLength came options (Ok tt) × HasTrailerLengthsAlways came options (Err error))

-- a piece of data is counted and passed on, or has nothing to pass on, or may not come where none is declared
abbrev pub PassesDataOn : Options → Arrivals → Arrivals → List ℕ → Result (Option (List ℕ)) AwsChunkedBodyError → Type 0
PassesDataOn options old new piece (Ok None) = (old.phase ≡ phase.Data → piece ≡ []) × (new ≡ old)
PassesDataOn options old new piece (Ok (Some bytes)) = (bytes ≡ piece) × (old.phase ≡ phase.Data) × (0 < length piece) × (0 < options.stream_length)
    × (new ≡ record old { taken = counted (old.taken + length piece) })
PassesDataOn options old new piece (Err error) = (old.phase ≡ phase.Data) × (0 < length piece) × (options.stream_length ≡ 0) × HasLength new options (Err error)
    × (new ≡ record old { taken = counted (old.taken + length piece) })

-- ## A body

module _ {F G : Type 0} where
  -- the pieces that aren't answered yet of a body whose source has these frames left
  abbrev pub pieces_with : AwsChunkedBody F G → List FramePart → List Piece
  pieces_with body frames = pieces_to_come body.pieces.sent body.came.phase body.options.stream_length body.came.trailers frames

  -- the line of the declared length was answered, data that has ended has that length, and more frames are to be taken
  abbrev pub AsksSource : AwsChunkedBody F G → Type 0
  AsksSource body = MayReadOn body × (body.pieces.sent ≡ sent.Nothing → ⊥) × IsCompared body

  -- data is passed on only where some is declared, its end comes only where it has the declared length, and the trailers where their
  -- lines have theirs too
  abbrev pub FitsPiece : Piece → AwsChunkedBody F G → Type 0
  FitsPiece (length_line n) body = Unit {0}
  FitsPiece (passed bytes) body = 0 < body.options.stream_length
  FitsPiece empty_chunk body = body.came.taken ≡ body.options.stream_length
  FitsPiece (last_lines trailers) body = (body.came.taken ≡ body.options.stream_length) × HasTrailerLengthsAlways body.came body.options (Ok tt)

  -- only the source, the data's count and the trailers change, and how far the body and its text have come
  abbrev pub OthersPass : AwsChunkedBody F G → AwsChunkedBody F G → Type 0
  OthersPass old new =
      new ≡ record old { source = new.source; came = new.came; pieces = new.pieces; chunks = record old.chunks { ready = new.chunks.ready } }

  module _ (source : FrameSource.Ghosts F) where
    -- the pieces that aren't answered yet, where the source tells its frames
    abbrev pub pieces_due : AwsChunkedBody F G → Option (List Piece)
    pieces_due body = option_map (pieces_with body) (source.left body.source)

    -- the piece is the first that is due
    abbrev pub IsNextPiece : AwsChunkedBody F G → Piece → Type 0
    IsNextPiece body piece = IfSome (pieces_due body) (λ pieces. (rest : List Piece) × (pieces ≡ piece ∷ rest))

    -- a frame is the piece that is due first, and isn't empty; where nothing came nothing is taken; the end comes of a closed body
    abbrev pub TakesPiece : AwsChunkedBody F G → AwsChunkedBody F G → Result ChunkNext AwsChunkedBodyError → Type 0
    TakesPiece old new (Ok (Frame bytes)) = (piece : Piece) × (bytes ≡ piece_text piece) × (0 < length bytes)
        × (pieces_due old ≡ option_map (λ rest. piece ∷ rest) (pieces_due new)) × FitsPiece piece new
    TakesPiece old new (Ok NotYet) = pieces_due new ≡ pieces_due old
    TakesPiece old new (Ok OutOfTurns) = pieces_due new ≡ pieces_due old
    TakesPiece old new (Ok End) = (pieces_due new ≡ pieces_due old) × (old.came.phase ≡ phase.Closed)
    TakesPiece old new (Err error) = Unit {0}

    -- why a call passes no more on
    abbrev pub PieceCauses : AwsChunkedBody F G → AwsChunkedBody F G → Result ChunkNext AwsChunkedBodyError → Type 0
    PieceCauses old new (Ok NotYet) = RoseOrStands (source.waits old.source) (source.waits new.source) × IsCompared new
    PieceCauses old new (Err SourceFault) = RoseOrStands (source.faults old.source) (source.faults new.source)
    PieceCauses old new (Err (StreamLengthMismatch actual expected)) =
        (actual ≡ new.came.taken) × (expected ≡ new.options.stream_length) × (actual ≡ expected → ⊥)
        × (piece : Piece) × MayLack piece expected × IsNextPiece old piece
    PieceCauses old new (Err (ReportedTrailerLengthMismatch actual expected)) =
        HasTrailerLengthsAlways new.came new.options (Err (ReportedTrailerLengthMismatch actual expected)) × (new.came.taken ≡ new.options.stream_length)
        × IsNextPiece old (last_lines (listed new.came.trailers))
    PieceCauses old new (Err (FailedToSign why)) = ⊥
    PieceCauses old new result = Unit {0}

    -- frames are taken, so many of them have no data, and the data of all of them is counted; a body to which data still comes has
    -- taken no trailers
    pub record TakesCountedFrames (AreSo : ℕ → Type 0) (old new : AwsChunkedBody F G) : Type 0 where
      pub frames : List FramePart
      pub taken : source.left old.source ≡ option_map (λ rest. frames ++ rest) (source.left new.source)
      pub turns : AreSo (idle_frames old.came.phase frames)
      pub data_count : counted new.came.taken ≡ counted (old.came.taken + length (data_left old.came.phase frames))
      pub goes_on : new.came.phase ≡ phase.Data → phase_after old.came.phase frames ≡ phase.Data

    -- what is counted of the source never falls; nothing is signed, and the rest stays
    pub record KeepsCountsUnsigned (old new : AwsChunkedBody F G) : Type 0 where
      pub waits : source.waits old.source ≤ source.waits new.source
      pub faults : source.faults old.source ≤ source.faults new.source
      pub others : OthersPass old new

    -- a step, with so many frames without data
    pub record AnswersStep (AreSo : ℕ → Type 0) (old new : AwsChunkedBody F G) (result : Result ChunkNext AwsChunkedBodyError) : Type 0 where
      pub takes : TakesPiece old new result
      pub cause : PieceCauses old new result
      pub turns : TakesCountedFrames AreSo old new
      pub keeps : KeepsCountsUnsigned old new

    -- so many frames without data are taken, and what is due stays
    pub record TakesOnlyIdleFrames (count : ℕ) (old new : AwsChunkedBody F G) : Type 0 where
      pub due : pieces_due new ≡ pieces_due old
      pub turns : TakesCountedFrames (λ n. n ≡ count) old new
      pub at : new.came.phase ≡ phase_after old.came.phase turns.frames
      pub keeps : KeepsCountsUnsigned old new
      pub same : new.pieces.sent ≡ old.pieces.sent

    -- a piece goes out, or there is none for a reason, or else more frames are to be taken
    abbrev pub Steps : Type 0 → (Result ChunkNext AwsChunkedBodyError → ℕ → Type 0) → AwsChunkedBody F G → AwsChunkedBody F G → Result (Option (List ℕ)) Stop → Type 0
    Steps More AreSo old new (Ok None) = More
    Steps More AreSo old new (Ok (Some bytes)) = AnswersStep (AreSo (Ok (Frame bytes))) old new (Ok (Frame bytes))
    Steps More AreSo old new (Err why) = AnswersStep (AreSo (stop_answer why)) old new (stop_answer why)

    -- a piece goes out, or there is none for a reason
    abbrev pub AnswersPiece : AwsChunkedBody F G → AwsChunkedBody F G → Result (List ℕ) Stop → Type 0
    AnswersPiece old new (Ok bytes) = AnswersStep (AreTurns (Ok (Frame bytes))) old new (Ok (Frame bytes))
    AnswersPiece old new (Err why) = AnswersStep (AreTurns (stop_answer why)) old new (stop_answer why)
