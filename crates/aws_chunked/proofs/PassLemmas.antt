-- What a body passes on is the first of what was due, and why it passes nothing on.
use Rattle.std.proofs.Common.{◌≡◌, ℕ, ◌⊎◌, inl, inr, ◌+◌, ◌<◌, ◌≤◌, List, [], ◌∷◌, ◌++◌, length, Option, None, Some, refl, ap, sym, subst, ◌∙◌, arith}
use Rattle.std.specs.Prelude.{IfSome, OnErr, Result, Ok, Err, option_map}
use Rattle.std.proofs.lemmas.List.{length-append}
use Rattle.smithy_core.specs.declared.outside.frame_source.FrameSource as FrameSource
use Rattle.smithy_core.specs.FrameSource.{TakesFrame}
use Rattle.smithy_core.specs.declared.outside.frame_part.FramePart.{FramePart}
use Rattle.smithy_core.specs.declared.outside.frame_part.FramePart.TheVariants as frame
use Rattle.smithy_core.proofs.OutsideLemmas.{rose_before}
use Rattle.aws_chunked.specs.Body.{AreTurns, MayReadOn, HasLength, HasTrailerLengthsAlways, IsBodyClosed, IsBodyOpen, Trailer, after_stop, data_left, idle_frames, listed, phase_after, ready_bytes, stop_answer, trailers_left, with_frame}
use Rattle.aws_chunked.specs.Options.{counted}
use Rattle.aws_chunked.specs.Passing.{AreIdleInStep, AreNoneTaken, FitsPiece, TakesOnlyIdleFrames, IsNextPiece, MakesLastLines, MayLack, OthersPass, PieceCauses, KeepsCountsUnsigned, PassesDataOn, TakesCountedFrames, AnswersStep, Piece, Steps, TakesPiece, empty_chunk, filled_before, last_lines, length_line, passed, piece_text, pieces_due, pieces_to_come, pieces_of, pieces_with, sent_after}
use Rattle.aws_chunked.specs.declared.arrivals.Arrivals.{Arrivals}
use Rattle.aws_chunked.specs.declared.body.AwsChunkedBody.{AwsChunkedBody}
use Rattle.aws_chunked.specs.declared.body.ChunkNext.{ChunkNext}
use Rattle.aws_chunked.specs.declared.body.ChunkNext.TheVariants as next
use Rattle.aws_chunked.specs.declared.error.AwsChunkedBodyError.{AwsChunkedBodyError}
use Rattle.aws_chunked.specs.declared.error.AwsChunkedBodyError.TheVariants as fault
use Rattle.aws_chunked.specs.declared.phase.Phase.{Phase}
use Rattle.aws_chunked.specs.declared.phase.Phase.TheVariants as phase
use Rattle.aws_chunked.specs.declared.piece_engine.PieceEngine.{PieceEngine}
use Rattle.aws_chunked.specs.declared.piece_engine.Sent.{Sent}
use Rattle.aws_chunked.specs.declared.piece_engine.Sent.TheVariants as sent
use Rattle.aws_chunked.specs.declared.stop.Stop.{Stop}
use Rattle.aws_chunked.specs.declared.stop.Stop.TheVariants as stop
use Rattle.aws_chunked.proofs.TurnLemmas.{idle_more, idle_none, left_more, left_none, left_one, phase_data, phase_more, phase_none}
use Rattle.aws_chunked.proofs.PiecesDueLemmas.{data_behind, data_ignored, data_more, data_none, data_trailers, few_turns, first_of, first_taken, idle_filled, idle_ignored, idle_trailers, ignored_left, line_left, line_some, lines_some, never_closed, next_taken, none_few, on_some, same_taken, some_text, trailers_same}

module _ {F G : Type 0} (source : FrameSource.Ghosts F) where
  -- ---- a piece is made of what was taken

  none_taken : (P : ℕ → Type 0) (old new : AwsChunkedBody F G) → new.source ≡ old.source → new.came.taken ≡ old.came.taken
      → (new.came.phase ≡ phase.Data → old.came.phase ≡ phase.Data) → P 0 → TakesCountedFrames source P old new
  none_taken P old new source_is taken on is = record {
    frames = [];
    taken = left_none (source.left old.source) ∙ ap (λ (f : F). option_map (λ (rest : List FramePart). [] ++ rest) (source.left f)) (sym source_is);
    turns = subst P (sym (idle_none old.came.phase)) is;
    data_count = ap counted (omega (arith, taken, data_none old.came.phase));
    goes_on = λ begun. phase_none old.came.phase ∙ on begun;
  }

  none_kept : (old new : AwsChunkedBody F G) → new.source ≡ old.source → OthersPass old new → KeepsCountsUnsigned source old new
  none_kept old new source_is others = record {
    waits = subst (λ (f : F). source.waits old.source ≤ source.waits f) (sym source_is) (omega arith);
    faults = subst (λ (f : F). source.faults old.source ≤ source.faults f) (sym source_is) (omega arith);
    others = others;
  }

  -- the piece that is made was the first that was due
  piece_made : (old new : AwsChunkedBody F G) (piece : Piece) (bytes : List ℕ) → new.source ≡ old.source → new.came.taken ≡ old.came.taken → (new.came.phase ≡ phase.Data → old.came.phase ≡ phase.Data) → OthersPass old new
      → ((frames : List FramePart) → pieces_with old frames ≡ piece ∷ pieces_with new frames) → bytes ≡ piece_text piece → 0 < length (piece_text piece)
      → FitsPiece piece new → AnswersStep source (λ count. count ≡ 0) old new (Ok (next.Frame bytes))
  piece_made old new piece bytes source_is taken on others first is some fits = record {
    takes = (
      piece,
      is,
      some_text bytes piece is some,
      first_of (pieces_with old) (pieces_with new) piece (source.left old.source) first
          ∙ ap (λ (f : F). option_map (λ (rest : List Piece). piece ∷ rest) (option_map (pieces_with new) (source.left f))) (sym source_is),
      fits,
    );
    cause = tt;
    turns = none_taken (λ count. count ≡ 0) old new source_is taken on refl;
    keeps = none_kept old new source_is others;
  }

  pub line_made : (old : AwsChunkedBody F G) (after : PieceEngine) (bytes : List ℕ) → IsBodyOpen old → old.pieces.sent ≡ sent.Nothing
      → bytes ≡ piece_text (length_line old.options.stream_length) → after ≡ record { sent = sent_after old.options.stream_length }
      → AnswersStep source (λ count. count ≡ 0) old (record old { pieces = after }) (Ok (next.Frame bytes))
  line_made old after bytes on was is same =
      piece_made old (record old { pieces = after }) (length_line n) bytes refl refl (λ on. on) refl
      (λ (frames : List FramePart).
      ap (λ (w : Sent). pieces_to_come w old.came.phase n old.came.trailers frames) was
      ∙ line_left old.came.phase n old.came.trailers frames on
      ∙ sym (ap (λ (engine : PieceEngine). length_line n ∷ pieces_to_come engine.sent old.came.phase n old.came.trailers frames) same))
      is (line_some n) tt
    where
      n : ℕ
      n = old.options.stream_length

  lines_left : (old : AwsChunkedBody F G) (frames : List FramePart) → old.came.phase ≡ phase.Ended → old.pieces.sent ≡ sent.EmptyChunk
      → pieces_with old frames ≡ last_lines (listed old.came.trailers) ∷ []
  lines_left old frames ended was = (λ i. pieces_to_come (was i) (ended i) old.options.stream_length old.came.trailers frames)

  pub lines_made : (old : AwsChunkedBody F G) (bytes : List ℕ) → old.came.phase ≡ phase.Ended → old.pieces.sent ≡ sent.EmptyChunk
      → MakesLastLines old.options old.came (Ok bytes)
      → AnswersStep source (λ count. count ≡ 0) old (record old { came = record old.came { phase = phase.Closed } }) (Ok (next.Frame bytes))
  lines_made old bytes ended was made =
      piece_made old (record old { came = record old.came { phase = phase.Closed } }) (last_lines (listed old.came.trailers)) bytes refl refl
      (λ on. absurd (let no : phase.Closed ≡ phase.Data = on in cc)) refl
      (λ (frames : List FramePart). lines_left old frames ended was)
      made.0 (lines_some (listed old.came.trailers)) (made.1, made.2)

  -- ---- why none is made

  stays : (old new : AwsChunkedBody F G) (answer : Result ChunkNext AwsChunkedBodyError) → new ≡ old → TakesPiece source old old answer → PieceCauses source old old answer
      → AnswersStep source (λ count. count ≡ 0) old new answer
  stays old new answer same takes cause = record {
    takes = subst (λ (body : AwsChunkedBody F G). TakesPiece source old body answer) (sym same) takes;
    cause = subst (λ (body : AwsChunkedBody F G). PieceCauses source old body answer) (sym same) cause;
    turns = none_taken (λ count. count ≡ 0) old new (ap (λ (body : AwsChunkedBody F G). body.source) same) (ap (λ (body : AwsChunkedBody F G). body.came.taken) same)
        (λ on. sym (ap (λ (body : AwsChunkedBody F G). body.came.phase) same) ∙ on) refl;
    keeps = none_kept old new (ap (λ (body : AwsChunkedBody F G). body.source) same)
        (same ∙ ap (λ (body : AwsChunkedBody F G). record old { source = body.source; came = body.came; pieces = body.pieces; chunks = record old.chunks { ready = body.chunks.ready } }) (sym same));
  }

  -- a body that was closed

  pub over_turns : (old new : AwsChunkedBody F G) → new ≡ record old { came = record old.came { phase = phase.Closed }; chunks = record old.chunks { ready = [] } } → TakesCountedFrames source (AreTurns (Ok next.End)) old new
  over_turns old new is =
      none_taken (AreTurns (Ok next.End)) old new (ap (λ (body : AwsChunkedBody F G). body.source) is) (ap (λ (body : AwsChunkedBody F G). body.came.taken) is)
      (λ on. absurd (let no : phase.Closed ≡ phase.Data = sym (ap (λ (body : AwsChunkedBody F G). body.came.phase) is) ∙ on in cc)) (omega arith)

  -- a stop as an answer

  pub stopped_cause : (old mid new : AwsChunkedBody F G) (why : Stop) → PieceCauses source old mid (stop_answer why) → new ≡ after_stop why mid
      → PieceCauses source old new (stop_answer why)
  stopped_cause old mid new stop.NotYet cause is = subst (λ (body : AwsChunkedBody F G). PieceCauses source old body (Ok next.NotYet)) (sym is) cause
  stopped_cause old mid new stop.OutOfTurns cause is = tt
  stopped_cause old mid new (stop.Fault error) cause is = subst (λ (body : AwsChunkedBody F G). PieceCauses source old body (Err error)) (sym is) (by error cause)
    where
      by : (e : AwsChunkedBodyError) → PieceCauses source old mid (Err e) → PieceCauses source old (record mid { came = record mid.came { phase = phase.Closed }; chunks = record mid.chunks { ready = [] } }) (Err e)
      by (fault.StreamLengthMismatch actual expected) told = told
      by (fault.ReportedTrailerLengthMismatch actual expected) told = told
      by (fault.FailedToSign why) told = told
      by fault.SourceFault told = told
      by fault.NoMemory told = told

  after_parts : (P : AwsChunkedBody F G → Type 0) (mid new : AwsChunkedBody F G) (why : Stop) → new ≡ after_stop why mid → P mid
      → P (record mid { came = record mid.came { phase = phase.Closed }; chunks = record mid.chunks { ready = [] } }) → P new
  after_parts P mid new stop.NotYet is same closed = subst P (sym is) same
  after_parts P mid new stop.OutOfTurns is same closed = subst P (sym is) same
  after_parts P mid new (stop.Fault error) is same closed = subst P (sym is) closed

  pub stopped_turns : (old mid new : AwsChunkedBody F G) (why : Stop) → TakesCountedFrames source (AreTurns (stop_answer why)) old mid → new ≡ after_stop why mid
      → TakesCountedFrames source (AreTurns (stop_answer why)) old new
  stopped_turns old mid new why turns is =
      after_parts (λ (body : AwsChunkedBody F G). TakesCountedFrames source (AreTurns (stop_answer why)) old body) mid new why is turns
      (record {
        frames = turns.frames;
        taken = turns.taken;
        turns = turns.turns;
        data_count = turns.data_count;
        goes_on = λ on. absurd (let no : phase.Closed ≡ phase.Data = on in cc);
      })

  pub stopped_closed : (mid new : AwsChunkedBody F G) (why : Stop) → new ≡ after_stop why mid → OnErr (stop_answer why) (IsBodyClosed new)
  stopped_closed mid new stop.NotYet is = tt
  stopped_closed mid new stop.OutOfTurns is = tt
  stopped_closed mid new (stop.Fault error) is =
      record { over = ap (λ (body : AwsChunkedBody F G). body.came.phase) is; answered = ap (λ (body : AwsChunkedBody F G). ready_bytes body) is }

  lack_told : (old : AwsChunkedBody F G) (error : AwsChunkedBodyError) (piece : Piece) → HasLength old.came old.options (Err error) → MayLack piece old.options.stream_length → IsNextPiece source old piece
      → PieceCauses source old old (Err error)
  lack_told old error piece lacks may first =
      subst (λ (e : AwsChunkedBodyError). PieceCauses source old old (Err e)) (sym lacks.0) (refl, refl, lacks.1, piece, may, first)

  pub lines_lack : (old : AwsChunkedBody F G) (error : AwsChunkedBodyError) → old.came.phase ≡ phase.Ended → old.pieces.sent ≡ sent.EmptyChunk
      → MakesLastLines old.options old.came (Err error) → AnswersStep source (λ count. count ≡ 0) old old (Err error)
  lines_lack old error ended was made = stays old old (Err error) refl tt (by made)
    where
      first : IsNextPiece source old (last_lines (listed old.came.trailers))
      first =
          on_some (pieces_with old) (source.left old.source) (λ (pieces : List Piece). (rest : List Piece) × (pieces ≡ last_lines (listed old.came.trailers) ∷ rest))
          (λ (frames : List FramePart). ([], lines_left old frames ended was))

      by : (error ≡ fault.NoMemory) ⊎ HasLength old.came old.options (Err error) ⊎ (HasLength old.came old.options (Ok tt) × HasTrailerLengthsAlways old.came old.options (Err error)) → PieceCauses source old old (Err error)
      by (inl is) = subst (λ (e : AwsChunkedBodyError). PieceCauses source old old (Err e)) (sym is) tt
      by (inr (inl lack)) = lack_told old error (last_lines (listed old.came.trailers)) lack tt first
      by (inr (inr (fits, lack))) =
          subst (λ (e : AwsChunkedBodyError). PieceCauses source old old (Err e)) (sym lack.0) ((refl, lack.1), fits, first)

  -- trailers came behind data that has another length
  pub trailers_lack : (old : AwsChunkedBody F G) (error : AwsChunkedBodyError) → old.came.phase ≡ phase.Trailers → old.pieces.sent ≡ sent.EmptyChunk → HasLength old.came old.options (Err error)
      → AnswersStep source (λ count. count ≡ 0) old old (Err error)
  trailers_lack old error at was lack = stays old old (Err error) refl tt (by (source.left old.source) refl)
    where
      due : (frames : List FramePart) → pieces_with old frames ≡ last_lines (listed (trailers_left phase.Trailers old.came.trailers frames)) ∷ []
      due frames = (λ i. pieces_to_come (was i) (at i) old.options.stream_length old.came.trailers frames)

      by : (left : Option (List FramePart)) → source.left old.source ≡ left → PieceCauses source old old (Err error)
      by None is = lack_told old error empty_chunk lack tt (subst (λ (all : Option (List FramePart)). IfSome (option_map (pieces_with old) all) (λ (pieces : List Piece). (rest : List Piece) × (pieces ≡ empty_chunk ∷ rest))) (sym is) tt)
      by (Some frames) is =
          let last = last_lines (listed (trailers_left phase.Trailers old.came.trailers frames)) in
          lack_told old error last lack tt (subst (λ (all : Option (List FramePart)). IfSome (option_map (pieces_with old) all) (λ (pieces : List Piece). (rest : List Piece) × (pieces ≡ last ∷ rest))) (sym is) ([], due frames))

  -- ---- a frame is taken

  takes_new : (part : FramePart) (old new : AwsChunkedBody F G) (from : F) → new.source ≡ from → TakesFrame part (source.left old.source) (source.left from)
      → TakesFrame part (source.left old.source) (source.left new.source)
  takes_new part old new from is gives = subst (λ (f : F). TakesFrame part (source.left old.source) (source.left f)) (sym is) gives

  one_taken : (P : ℕ → Type 0) (old new : AwsChunkedBody F G) (part : FramePart) → TakesFrame part (source.left old.source) (source.left new.source)
      → (new.came.phase ≡ phase.Data → phase_after old.came.phase (part ∷ []) ≡ phase.Data)
      → counted new.came.taken ≡ counted (old.came.taken + length (data_left old.came.phase (part ∷ []))) → P (idle_frames old.came.phase (part ∷ []))
      → TakesCountedFrames source P old new
  one_taken P old new part gives on count is = record {
    frames = part ∷ [];
    taken = left_one part (source.left old.source) (source.left new.source) gives;
    turns = is;
    data_count = count;
    goes_on = on;
  }

  -- trailers end the data
  trailers_on : (old new : AwsChunkedBody F G) (trailers : List Trailer) → new.came.phase ≡ phase.Trailers → new.came.phase ≡ phase.Data
      → phase_after old.came.phase (frame.Trailers trailers ∷ []) ≡ phase.Data
  trailers_on old new trailers at on = absurd (let no : phase.Trailers ≡ phase.Data = sym at ∙ on in cc)

  from_kept : (old new : AwsChunkedBody F G) (from : F) → new.source ≡ from → source.waits old.source ≤ source.waits from → source.faults old.source ≤ source.faults from
      → OthersPass old new → KeepsCountsUnsigned source old new
  from_kept old new from is waits faults others = record {
    waits = subst (λ (f : F). source.waits old.source ≤ source.waits f) (sym is) waits;
    faults = subst (λ (f : F). source.faults old.source ≤ source.faults f) (sym is) faults;
    others = others;
  }

  -- a body over a source that gave a piece, which it counts and passes on, or has nothing to pass on, or may not pass on
  abbrev PassesHere : AwsChunkedBody F G → AwsChunkedBody F G → List ℕ → Result (Option (List ℕ)) AwsChunkedBodyError → Type 0
  PassesHere old new piece (Ok None) = (old.came.phase ≡ phase.Data → piece ≡ []) × (new ≡ old)
  PassesHere old new piece (Ok (Some bytes)) = (bytes ≡ piece) × (old.came.phase ≡ phase.Data) × (0 < length piece) × (0 < old.options.stream_length)
      × (new ≡ record old { came = record old.came { taken = counted (old.came.taken + length piece) } })
  PassesHere old new piece (Err error) = (old.came.phase ≡ phase.Data) × (0 < length piece) × (old.options.stream_length ≡ 0) × HasLength new.came new.options (Err error)
      × (new ≡ record old { came = record old.came { taken = counted (old.came.taken + length piece) } })

  passes_here : (old : AwsChunkedBody F G) (from : F) (after : Arrivals) (piece : List ℕ) (found : Result (Option (List ℕ)) AwsChunkedBodyError)
      → PassesDataOn old.options old.came after piece found → PassesHere (record old { source = from }) (record old { source = from; came = after }) piece found
  passes_here old from after piece (Ok None) passes = (passes.0, ap (λ (came : Arrivals). record old { source = from; came = came }) passes.1)
  passes_here old from after piece (Ok (Some bytes)) passes =
      (passes.0, passes.1, passes.2, passes.3, ap (λ (came : Arrivals). record old { source = from; came = came }) passes.4)
  passes_here old from after piece (Err error) passes =
      (passes.0, passes.1, passes.2, passes.3, ap (λ (came : Arrivals). record old { source = from; came = came }) passes.4)

  -- data that is ignored
  data_idles : (old new : AwsChunkedBody F G) (from : F) (piece : List ℕ) → TakesFrame (frame.Data piece) (source.left old.source) (source.left from)
      → source.waits old.source ≤ source.waits from → source.faults old.source ≤ source.faults from
      → PassesHere (record old { source = from }) new piece (Ok None) → TakesOnlyIdleFrames source 1 old new
  unfolding one_taken
  data_idles old new from piece gives waits faults passes = record {
    due = same_taken (pieces_with old) (pieces_with new) (frame.Data piece) (source.left old.source) (source.left new.source) gives_new
        (λ (frames : List FramePart).
        ap (λ (body : AwsChunkedBody F G). pieces_with body frames) passes.1
        ∙ ignored_left old.pieces.sent old.came.phase old.options.stream_length old.came.trailers piece frames passes.0);
    turns = one_taken (λ n. n ≡ 1) old new (frame.Data piece) gives_new (λ on. phase_data old.came.phase piece ∙ sym (ap (λ (body : AwsChunkedBody F G). body.came.phase) passes.1) ∙ on)
        (ap counted (omega (arith, ap (λ (body : AwsChunkedBody F G). body.came.taken) passes.1, data_ignored old.came.phase piece passes.0))) (idle_ignored old.came.phase piece passes.0);
    at = ap (λ (body : AwsChunkedBody F G). body.came.phase) passes.1 ∙ sym (same_phase old.came.phase);
    keeps = from_kept old new from source_is waits faults
        (passes.1 ∙ ap (λ (body : AwsChunkedBody F G). record old { source = body.source; came = body.came; pieces = body.pieces; chunks = record old.chunks { ready = body.chunks.ready } }) (sym passes.1));
    same = ap (λ (body : AwsChunkedBody F G). body.pieces.sent) passes.1;
  }
    where
      source_is : new.source ≡ from
      source_is = ap (λ (body : AwsChunkedBody F G). body.source) passes.1

      gives_new : TakesFrame (frame.Data piece) (source.left old.source) (source.left new.source)
      gives_new = takes_new (frame.Data piece) old new from source_is gives

      same_phase : (at : Phase) → phase_after at (frame.Data piece ∷ []) ≡ at
      same_phase phase.Data = refl
      same_phase phase.Trailers = refl
      same_phase phase.Ended = refl
      same_phase phase.Closed = refl

  -- data that is passed on
  data_passed : (old new : AwsChunkedBody F G) (from : F) (piece bytes : List ℕ) → (old.pieces.sent ≡ sent.Nothing → ⊥)
      → TakesFrame (frame.Data piece) (source.left old.source) (source.left from)
      → source.waits old.source ≤ source.waits from → source.faults old.source ≤ source.faults from
      → PassesHere (record old { source = from }) new piece (Ok (Some bytes)) → AnswersStep source (AreIdleInStep (Ok (next.Frame bytes))) old new (Ok (next.Frame bytes))
  data_passed old new from piece bytes begun gives waits faults passes = record {
    takes = (
      passed piece,
      passes.0,
      omega (arith, ap length passes.0, passes.2),
      first_taken (pieces_with old) (pieces_with new) (passed piece) (frame.Data piece) (source.left old.source) (source.left new.source) gives_new
          (λ (frames : List FramePart).
          ap (λ (at : Phase). pieces_to_come old.pieces.sent at old.options.stream_length old.came.trailers (frame.Data piece ∷ frames)) passes.1
          ∙ data_behind old.pieces.sent old.options.stream_length piece (filled_before frames) (listed (trailers_left phase.Data old.came.trailers frames)) begun passes.2
          ∙ ap (λ (at : Phase). passed piece ∷ pieces_to_come old.pieces.sent at old.options.stream_length old.came.trailers frames) (sym passes.1)
          ∙ sym (ap (λ (body : AwsChunkedBody F G). passed piece ∷ pieces_with body frames) passes.4)),
      subst (λ (body : AwsChunkedBody F G). 0 < body.options.stream_length) (sym passes.4) passes.3,
    );
    cause = tt;
    turns = one_taken (λ n. n ≡ 0) old new (frame.Data piece) gives_new (λ on. phase_data old.came.phase piece ∙ sym (ap (λ (body : AwsChunkedBody F G). body.came.phase) passes.4) ∙ on) (counts passes.1 passes.4)
        (ap (λ (at : Phase). idle_frames at (frame.Data piece ∷ [])) passes.1 ∙ idle_filled piece passes.2);
    keeps = from_kept old new from source_is waits faults
        (passes.4 ∙ ap (λ (body : AwsChunkedBody F G). record old { source = body.source; came = body.came; pieces = body.pieces; chunks = record old.chunks { ready = body.chunks.ready } }) (sym passes.4));
  }
    where
      source_is : new.source ≡ from
      source_is = ap (λ (body : AwsChunkedBody F G). body.source) passes.4

      gives_new : TakesFrame (frame.Data piece) (source.left old.source) (source.left new.source)
      gives_new = takes_new (frame.Data piece) old new from source_is gives

      counts : old.came.phase ≡ phase.Data → new ≡ record old { source = from; came = record old.came { taken = counted (old.came.taken + length piece) } }
          → counted new.came.taken ≡ counted (old.came.taken + length (data_left old.came.phase (frame.Data piece ∷ [])))
      counts at is =
          omega (arith, ap (λ (body : AwsChunkedBody F G). body.came.taken) is, ap (λ (p : Phase). length (data_left p (frame.Data piece ∷ []))) at, length-append piece [])

  -- data that may not come
  data_refused : (old new : AwsChunkedBody F G) (from : F) (piece : List ℕ) (error : AwsChunkedBodyError) → (old.pieces.sent ≡ sent.Nothing → ⊥)
      → TakesFrame (frame.Data piece) (source.left old.source) (source.left from)
      → source.waits old.source ≤ source.waits from → source.faults old.source ≤ source.faults from
      → PassesHere (record old { source = from }) new piece (Err error) → AnswersStep source (AreIdleInStep (Err error)) old new (Err error)
  data_refused old new from piece error begun gives waits faults passes = record {
    takes = tt;
    cause = subst (λ (e : AwsChunkedBodyError). PieceCauses source old new (Err e)) (sym passes.3.0) (refl, refl, passes.3.1, passed piece, none_declared, first);
    turns = one_taken (AreIdleInStep (Err error)) old new (frame.Data piece) gives_new (λ on. phase_data old.came.phase piece ∙ sym (ap (λ (body : AwsChunkedBody F G). body.came.phase) passes.4) ∙ on) (counts passes.0 passes.4) (few error);
    keeps = from_kept old new from source_is waits faults
        (passes.4 ∙ ap (λ (body : AwsChunkedBody F G). record old { source = body.source; came = body.came; pieces = body.pieces; chunks = record old.chunks { ready = body.chunks.ready } }) (sym passes.4));
  }
    where
      source_is : new.source ≡ from
      source_is = ap (λ (body : AwsChunkedBody F G). body.source) passes.4

      gives_new : TakesFrame (frame.Data piece) (source.left old.source) (source.left new.source)
      gives_new = takes_new (frame.Data piece) old new from source_is gives

      none_declared : new.options.stream_length ≡ 0
      none_declared = ap (λ (body : AwsChunkedBody F G). body.options.stream_length) passes.4 ∙ passes.2

      first : IsNextPiece source old (passed piece)
      first =
          next_taken (pieces_with old) (passed piece) (frame.Data piece) (source.left old.source) (source.left new.source) gives_new
          (λ (frames : List FramePart). (
            pieces_of old.pieces.sent old.options.stream_length (filled_before frames) (listed (trailers_left phase.Data old.came.trailers frames)),
            ap (λ (at : Phase). pieces_to_come old.pieces.sent at old.options.stream_length old.came.trailers (frame.Data piece ∷ frames)) passes.0
                ∙ data_behind old.pieces.sent old.options.stream_length piece (filled_before frames) (listed (trailers_left phase.Data old.came.trailers frames)) begun passes.1,
          ))

      counts : old.came.phase ≡ phase.Data → new ≡ record old { source = from; came = record old.came { taken = counted (old.came.taken + length piece) } }
          → counted new.came.taken ≡ counted (old.came.taken + length (data_left old.came.phase (frame.Data piece ∷ [])))
      counts at is =
          omega (arith, ap (λ (body : AwsChunkedBody F G). body.came.taken) is, ap (λ (p : Phase). length (data_left p (frame.Data piece ∷ []))) at, length-append piece [])

      none : idle_frames old.came.phase (frame.Data piece ∷ []) ≡ 0
      none = ap (λ (at : Phase). idle_frames at (frame.Data piece ∷ [])) passes.0 ∙ idle_filled piece passes.1

      few : (e : AwsChunkedBodyError) → AreIdleInStep (Err e) (idle_frames old.came.phase (frame.Data piece ∷ []))
      few (fault.StreamLengthMismatch actual expected) = none
      few (fault.ReportedTrailerLengthMismatch actual expected) = none
      few (fault.FailedToSign why) = none
      few fault.SourceFault = none
      few fault.NoMemory = omega (arith, none)

  pub trailers_idle : (old new : AwsChunkedBody F G) (from : F) (trailers : List Trailer) → MayReadOn old
      → TakesFrame (frame.Trailers trailers) (source.left old.source) (source.left from)
      → source.waits old.source ≤ source.waits from → source.faults old.source ≤ source.faults from
      → new ≡ record old { source = from; came = record old.came { phase = phase.Trailers; trailers = Some (with_frame old.came.trailers trailers) } } → TakesOnlyIdleFrames source 1 old new
  unfolding one_taken
  trailers_idle old new from trailers on gives waits faults is = record {
    due = same_taken (pieces_with old) (pieces_with new) (frame.Trailers trailers) (source.left old.source) (source.left new.source) gives_new
        (λ (frames : List FramePart).
        ap (λ (body : AwsChunkedBody F G). pieces_with body frames) is
        ∙ trailers_same old.pieces.sent old.came.phase old.options.stream_length old.came.trailers trailers frames on);
    turns = one_taken (λ n. n ≡ 1) old new (frame.Trailers trailers) gives_new (trailers_on old new trailers (ap (λ (body : AwsChunkedBody F G). body.came.phase) is))
        (ap counted (omega (arith, ap (λ (body : AwsChunkedBody F G). body.came.taken) is, data_trailers old.came.phase trailers))) (idle_trailers old.came.phase trailers);
    at = ap (λ (body : AwsChunkedBody F G). body.came.phase) is ∙ after_is old.came.phase on;
    keeps = from_kept old new from source_is waits faults
        (is ∙ ap (λ (body : AwsChunkedBody F G). record old { source = body.source; came = body.came; pieces = body.pieces; chunks = record old.chunks { ready = body.chunks.ready } }) (sym is));
    same = ap (λ (body : AwsChunkedBody F G). body.pieces.sent) is;
  }
    where
      source_is : new.source ≡ from
      source_is = ap (λ (body : AwsChunkedBody F G). body.source) is

      gives_new : TakesFrame (frame.Trailers trailers) (source.left old.source) (source.left new.source)
      gives_new = takes_new (frame.Trailers trailers) old new from source_is gives

      after_is : (at : Phase) → (at ≡ phase.Data) ⊎ (at ≡ phase.Trailers) → phase.Trailers ≡ phase_after at (frame.Trailers trailers ∷ [])
      after_is phase.Data on = refl
      after_is phase.Trailers on = refl
      after_is phase.Ended (inl is) = cc
      after_is phase.Ended (inr is) = cc
      after_is phase.Closed (inl is) = cc
      after_is phase.Closed (inr is) = cc

  pub trailers_lost : (old new : AwsChunkedBody F G) (from : F) (trailers : List Trailer)
      → TakesFrame (frame.Trailers trailers) (source.left old.source) (source.left from)
      → source.waits old.source ≤ source.waits from → source.faults old.source ≤ source.faults from
      → new ≡ record old { source = from; came = record old.came { phase = phase.Trailers; trailers = new.came.trailers } } → AnswersStep source (AreIdleInStep (Err fault.NoMemory)) old new (Err fault.NoMemory)
  trailers_lost old new from trailers gives waits faults is = record {
    takes = tt;
    cause = tt;
    turns = one_taken (λ n. n ≤ 1) old new (frame.Trailers trailers) (takes_new (frame.Trailers trailers) old new from source_is gives) (trailers_on old new trailers (ap (λ (body : AwsChunkedBody F G). body.came.phase) is))
        (ap counted (omega (arith, ap (λ (body : AwsChunkedBody F G). body.came.taken) is, data_trailers old.came.phase trailers))) (omega (arith, idle_trailers old.came.phase trailers));
    keeps = from_kept old new from source_is waits faults
        (is ∙ ap (λ (body : AwsChunkedBody F G). record old { source = body.source; came = record { phase = body.came.phase; taken = body.came.taken; trailers = new.came.trailers }; pieces = body.pieces; chunks = record old.chunks { ready = body.chunks.ready } }) (sym is));
  }
    where
      source_is : new.source ≡ from
      source_is = ap (λ (body : AwsChunkedBody F G). body.source) is

  -- a source that gave nothing
  asked : (P : ℕ → Type 0) (old : AwsChunkedBody F G) (from : F) (answer : Result ChunkNext AwsChunkedBodyError) → source.left from ≡ source.left old.source
      → source.waits old.source ≤ source.waits from → source.faults old.source ≤ source.faults from → P 0
      → TakesPiece source old (record old { source = from }) answer → PieceCauses source old (record old { source = from }) answer
      → AnswersStep source P old (record old { source = from }) answer
  asked P old from answer left waits faults few takes cause = record {
    takes = takes;
    cause = cause;
    turns = record {
      frames = [];
      taken = sym left ∙ left_none (source.left from);
      turns = subst P (sym (idle_none old.came.phase)) few;
      data_count = ap counted (omega (arith, data_none old.came.phase));
      goes_on = λ on. phase_none old.came.phase ∙ on;
    };
    keeps = record { waits = waits; faults = faults; others = refl };
  }

  -- ---- one step after others

  keeps_joined : (old mid new : AwsChunkedBody F G) → KeepsCountsUnsigned source old mid → KeepsCountsUnsigned source mid new → KeepsCountsUnsigned source old new
  keeps_joined old mid new first second = record {
    waits = omega (arith, first.waits, second.waits);
    faults = omega (arith, first.faults, second.faults);
    others = second.others
        ∙ ap (λ (body : AwsChunkedBody F G). record body { source = new.source; came = new.came; pieces = new.pieces; chunks = record body.chunks { ready = new.chunks.ready } }) first.others;
  }

  takes_later : (old mid new : AwsChunkedBody F G) (answer : Result ChunkNext AwsChunkedBodyError) → pieces_due source mid ≡ pieces_due source old
      → (mid.came.phase ≡ phase.Closed → old.came.phase ≡ phase.Closed) → TakesPiece source mid new answer → TakesPiece source old new answer
  takes_later old mid new (Ok (next.Frame bytes)) due closed takes = (takes.0, takes.1, takes.2, sym due ∙ takes.3, takes.4)
  takes_later old mid new (Ok next.NotYet) due closed takes = takes ∙ due
  takes_later old mid new (Ok next.OutOfTurns) due closed takes = takes ∙ due
  takes_later old mid new (Ok next.End) due closed takes = (takes.0 ∙ due, closed takes.1)
  takes_later old mid new (Err error) due closed takes = tt

  next_later : (old mid : AwsChunkedBody F G) (piece : Piece) → pieces_due source mid ≡ pieces_due source old → IsNextPiece source mid piece → IsNextPiece source old piece
  next_later old mid piece due is = subst (λ (all : Option (List Piece)). IfSome all (λ (pieces : List Piece). (rest : List Piece) × (pieces ≡ piece ∷ rest))) due is

  cause_later : (old mid new : AwsChunkedBody F G) (answer : Result ChunkNext AwsChunkedBodyError) → pieces_due source mid ≡ pieces_due source old
      → source.waits old.source ≤ source.waits mid.source → source.faults old.source ≤ source.faults mid.source
      → PieceCauses source mid new answer → PieceCauses source old new answer
  cause_later old mid new (Ok (next.Frame bytes)) due waits faults cause = tt
  cause_later old mid new (Ok next.NotYet) due waits faults cause =
      (rose_before (source.waits old.source) (source.waits mid.source) (source.waits new.source) waits cause.0, cause.1)
  cause_later old mid new (Ok next.OutOfTurns) due waits faults cause = tt
  cause_later old mid new (Ok next.End) due waits faults cause = tt
  cause_later old mid new (Err (fault.StreamLengthMismatch actual expected)) due waits faults cause =
      (cause.0, cause.1, cause.2, cause.3, cause.4, next_later old mid cause.3 due cause.5)
  cause_later old mid new (Err (fault.ReportedTrailerLengthMismatch actual expected)) due waits faults cause =
      (cause.0, cause.1, next_later old mid (last_lines (listed new.came.trailers)) due cause.2)
  cause_later old mid new (Err (fault.FailedToSign why)) due waits faults cause = cause
  cause_later old mid new (Err fault.SourceFault) due waits faults cause =
      rose_before (source.faults old.source) (source.faults mid.source) (source.faults new.source) faults cause
  cause_later old mid new (Err fault.NoMemory) due waits faults cause = tt

  frames_joined : (P Q : ℕ → Type 0) (count : ℕ) (old mid new : AwsChunkedBody F G) → TakesOnlyIdleFrames source count old mid → TakesCountedFrames source P mid new
      → ((n : ℕ) → P n → Q (count + n)) → TakesCountedFrames source Q old new
  frames_joined P Q count old mid new idles turns is = record {
    frames = idles.turns.frames ++ turns.frames;
    taken = left_more idles.turns.frames turns.frames (source.left old.source) (source.left mid.source) (source.left new.source) idles.turns.taken turns.taken;
    turns = subst Q
        (sym (idle_more old.came.phase idles.turns.frames turns.frames ∙ (λ i. idles.turns.turns i + idle_frames (sym idles.at i) turns.frames)))
        (is (idle_frames mid.came.phase turns.frames) turns.turns);
    data_count = omega (
      arith,
      turns.data_count,
      idles.turns.data_count,
      data_more old.came.phase idles.turns.frames turns.frames,
      ap (λ (at : Phase). length (data_left at turns.frames)) idles.at,
    );
    goes_on = λ on.
        phase_more old.came.phase idles.turns.frames turns.frames ∙ ap (λ (at : Phase). phase_after at turns.frames) (sym idles.at) ∙ turns.goes_on on;
  }

  later : (P Q : ℕ → Type 0) (count : ℕ) (old mid new : AwsChunkedBody F G) (answer : Result ChunkNext AwsChunkedBodyError) → TakesOnlyIdleFrames source count old mid
      → AnswersStep source P mid new answer → ((n : ℕ) → P n → Q (count + n)) → AnswersStep source Q old new answer
  later P Q count old mid new answer idles passes is = record {
    takes = takes_later old mid new answer idles.due (λ closed. never_closed old.came.phase idles.turns.frames (sym idles.at ∙ closed)) passes.takes;
    cause = cause_later old mid new answer idles.due idles.keeps.waits idles.keeps.faults passes.cause;
    turns = frames_joined P Q count old mid new idles passes.turns is;
    keeps = keeps_joined old mid new idles.keeps passes.keeps;
  }

  pub idles_more : (count more : ℕ) (old mid new : AwsChunkedBody F G) → TakesOnlyIdleFrames source count old mid → TakesOnlyIdleFrames source more mid new → TakesOnlyIdleFrames source (count + more) old new
  unfolding frames_joined
  idles_more count more old mid new first second = record {
    due = second.due ∙ first.due;
    turns = frames_joined (λ n. n ≡ more) (λ n. n ≡ count + more) count old mid new first second.turns (λ n is. ap (λ m. count + m) is);
    at = second.at ∙ ap (λ (at : Phase). phase_after at second.turns.frames) first.at ∙ sym (phase_more old.came.phase first.turns.frames second.turns.frames);
    keeps = keeps_joined old mid new first.keeps second.keeps;
    same = second.same ∙ first.same;
  }

  pub idles_none : (body : AwsChunkedBody F G) → TakesOnlyIdleFrames source 0 body body
  unfolding none_taken
  idles_none body = record {
    due = refl;
    turns = none_taken (λ n. n ≡ 0) body body refl refl (λ on. on) refl;
    at = sym (by body.came.phase);
    keeps = none_kept body body refl refl;
    same = refl;
  }
    where
      by : (at : Phase) → phase_after at [] ≡ at
      by phase.Data = refl
      by phase.Trailers = refl
      by phase.Ended = refl
      by phase.Closed = refl

  -- a frame was passed on, or none was for a reason, after others without data
  pub passed_later : (count : ℕ) (old mid new : AwsChunkedBody F G) (answer : Result ChunkNext AwsChunkedBodyError) → count < 65536 → TakesOnlyIdleFrames source count old mid
      → AnswersStep source (AreIdleInStep answer) mid new answer → AnswersStep source (AreTurns answer) old new answer
  passed_later count old mid new answer low idles passes =
      later (AreIdleInStep answer) (AreTurns answer) count old mid new answer idles passes (λ n few. few_turns answer count n low few)

  -- a piece was made, or none was for a reason, after others without data
  pub made_later : (count : ℕ) (old mid new : AwsChunkedBody F G) (answer : Result ChunkNext AwsChunkedBodyError) → count < 65536 → TakesOnlyIdleFrames source count old mid
      → AnswersStep source (AreNoneTaken answer) mid new answer → AnswersStep source (AreTurns answer) old new answer
  made_later count old mid new answer low idles passes =
      later (AreNoneTaken answer) (AreTurns answer) count old mid new answer idles passes (λ n none. few_turns answer count n low (none_few answer n none))

  -- ---- the source has ended

  -- ---- what a step answered

  pub data_steps : (old : AwsChunkedBody F G) (from : F) (after : Arrivals) (piece : List ℕ) (found : Option (List ℕ)) → (old.pieces.sent ≡ sent.Nothing → ⊥)
      → TakesFrame (frame.Data piece) (source.left old.source) (source.left from)
      → source.waits old.source ≤ source.waits from → source.faults old.source ≤ source.faults from → PassesDataOn old.options old.came after piece (Ok found)
      → Steps source (TakesOnlyIdleFrames source 1 old (record old { source = from; came = after })) AreIdleInStep old (record old { source = from; came = after }) (Ok found)
  data_steps old from after piece None begun gives waits faults passes =
      data_idles old (record old { source = from; came = after }) from piece gives waits faults (passes_here old from after piece (Ok None) passes)
  data_steps old from after piece (Some bytes) begun gives waits faults passes =
      data_passed old (record old { source = from; came = after }) from piece bytes begun gives waits faults (passes_here old from after piece (Ok (Some bytes)) passes)

  pub data_lacks : (old : AwsChunkedBody F G) (from : F) (after : Arrivals) (piece : List ℕ) (error : AwsChunkedBodyError) → (old.pieces.sent ≡ sent.Nothing → ⊥)
      → TakesFrame (frame.Data piece) (source.left old.source) (source.left from)
      → source.waits old.source ≤ source.waits from → source.faults old.source ≤ source.faults from → PassesDataOn old.options old.came after piece (Err error)
      → AnswersStep source (AreIdleInStep (Err error)) old (record old { source = from; came = after }) (Err error)
  data_lacks old from after piece error begun gives waits faults passes =
      data_refused old (record old { source = from; came = after }) from piece error begun gives waits faults (passes_here old from after piece (Err error) passes)

  pub stays_open : (count : ℕ) (old mid : AwsChunkedBody F G) → TakesOnlyIdleFrames source count old mid → IsBodyOpen old → IsBodyOpen mid
  stays_open count old mid idles on closed = on (never_closed old.came.phase idles.turns.frames (sym idles.at ∙ closed))

  pub idles_at : (count : ℕ) (old mid new : AwsChunkedBody F G) → TakesOnlyIdleFrames source count old mid → new ≡ mid → TakesOnlyIdleFrames source count old new
  idles_at count old mid new idles is = subst (λ (body : AwsChunkedBody F G). TakesOnlyIdleFrames source count old body) (sym is) idles

  pub step_some : (More : Type 0) (AreSo : Result ChunkNext AwsChunkedBodyError → ℕ → Type 0) (old new : AwsChunkedBody F G) (found : Option (List ℕ)) (bytes : List ℕ)
      → found ≡ Some bytes → Steps source More AreSo old new (Ok found) → AnswersStep source (AreSo (Ok (next.Frame bytes))) old new (Ok (next.Frame bytes))
  step_some More AreSo old new found bytes is steps = subst (λ (f : Option (List ℕ)). Steps source More AreSo old new (Ok f)) is steps

  pub step_none : (More : Type 0) (AreSo : Result ChunkNext AwsChunkedBodyError → ℕ → Type 0) (old new : AwsChunkedBody F G) (found : Option (List ℕ))
      → found ≡ None → Steps source More AreSo old new (Ok found) → More
  step_none More AreSo old new found is steps = subst (λ (f : Option (List ℕ)). Steps source More AreSo old new (Ok f)) is steps
