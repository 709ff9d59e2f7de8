-- What a body makes is what was due, and why it makes nothing.
use Rattle.std.proofs.Common.{◌≡◌, ℕ, ◌⊎◌, inl, inr, ◌+◌, ◌<◌, ◌≤◌, min, Bool, List, [], ◌∷◌, ◌++◌, length, drop, Option, None, Some, refl, ap, sym, subst, ◌∙◌, arith}
use Rattle.std.specs.Prelude.{Result, Ok, Err, IfSome, OnErr, option_map, string_bytes}
use Rattle.std.specs.List.{flat_map}
use Rattle.std.proofs.lemmas.List.{take-append-drop}
use Rattle.sigv4.specs.declared.chunk_signer.SignChunk as SignChunk
use Rattle.sigv4.specs.declared.error.SigningError.{SigningError}
use Rattle.smithy_core.specs.declared.outside.frame_source.FrameSource as FrameSource
use Rattle.smithy_core.specs.declared.outside.frame_part.FramePart.{FramePart}
use Rattle.aws_chunked.specs.Body.{AnswersFrame, AreTurns, CanMake, Causes, KeepsCounts, Gathers, HasCause, HasLengths, HasTrailerLengthsIfAny, HaveAllCome, actual_length, after_stop, IsAtHand, IsBodyClosed, IsFirstPart, KeepsText, MakesEnd, MakesFirst, MakesNextChunk, HasTextOrStops, TextLeft, TakesDue, TakesIdleFrames, Trailer, stop_answer, data_left, first_piece, held_bytes, idle_frames, listed, parts_due, parts_left, ready_bytes, text_to_come_with, total_of, trailers_due, trailers_left}
use Rattle.aws_chunked.specs.Due.{due}
use Rattle.aws_chunked.specs.Options.{counted, declared_length}
use Rattle.aws_chunked.specs.Signing.{ChunkAnswers, FailsPart, MakesPart, TrailerAnswers, has_signature}
use Rattle.aws_chunked.specs.Text.{Part, chunk, chunk_text, pieces_of_size, cut_within, head_text, last_line, tail, tail_text, trailer_line}
use Rattle.aws_chunked.specs.declared.body.AwsChunkedBody.{AwsChunkedBody}
use Rattle.aws_chunked.specs.declared.chunk_engine.ChunkEngine.{ChunkEngine}
use Rattle.aws_chunked.specs.declared.body.ChunkNext.{ChunkNext}
use Rattle.aws_chunked.specs.declared.body.ChunkNext.TheVariants as next
use Rattle.aws_chunked.specs.declared.error.AwsChunkedBodyError.{AwsChunkedBodyError}
use Rattle.aws_chunked.specs.declared.error.AwsChunkedBodyError.TheVariants as fault
use Rattle.aws_chunked.specs.declared.stop.Stop.{Stop}
use Rattle.aws_chunked.specs.declared.stop.Stop.TheVariants as stop
use Rattle.aws_chunked.specs.declared.phase.Phase.{Phase}
use Rattle.aws_chunked.specs.declared.phase.Phase.TheVariants as phase
use Rattle.aws_chunked.proofs.BodyLemmas.{parts_chunk, piece_length}
use Rattle.aws_chunked.proofs.DueLemmas.{closed_due, due_kept, front_due}
use Rattle.aws_chunked.proofs.PullLemmas.{counts_of, if_parts, if_trailers}
use Rattle.aws_chunked.proofs.SignLemmas.{signs_error}
use Rattle.aws_chunked.proofs.TurnLemmas.{idle_none, left_none, phase_none}
use Rattle.aws_chunked.proofs.PiecesDueLemmas.{ends_some}

-- a part has some text
part_some : {G : Type 0} (signer : SignChunk.Ghosts G) (is_signed : Bool) (part : Part) (old : Option G) (text : List ℕ) (new : Option G)
    → MakesPart signer is_signed part old text new → 0 < length text
unfolding chunk_text tail_text
part_some signer is_signed (chunk piece) old text new made = ends_some text (head_text (length piece) (option_map string_bytes made.0) ++ piece) made.2
part_some signer is_signed (tail trailers) old text new made =
    ends_some text (head_text 0 (option_map string_bytes made.0) ++ flat_map trailer_line trailers ++ last_line (option_map string_bytes made.2)) made.5

-- ---- over frames that may not be told

parts_step : (before now : List FramePart → TextLeft) (part : Part) (left : Option (List FramePart))
    → ((frames : List FramePart) → (before frames).parts ≡ part ∷ (now frames).parts)
    → option_map (λ (rest : TextLeft). rest.parts) (option_map before left)
    ≡ option_map (λ (parts : List Part). part ∷ parts) (option_map (λ (rest : TextLeft). rest.parts) (option_map now left))
parts_step before now part None same = refl
parts_step before now part (Some frames) same = ap Some (same frames)

trailers_same : (before now : List FramePart → TextLeft) (left : Option (List FramePart)) → ((frames : List FramePart) → (now frames).trailers ≡ (before frames).trailers)
    → option_map (λ (rest : TextLeft). rest.trailers) (option_map now left) ≡ option_map (λ (rest : TextLeft). rest.trailers) (option_map before left)
trailers_same before now None same = refl
trailers_same before now (Some frames) same = ap Some (same frames)

totals_same : (before now : List FramePart → TextLeft) (left : Option (List FramePart)) → ((frames : List FramePart) → (now frames).total ≡ (before frames).total)
    → option_map (λ (rest : TextLeft). rest.total) (option_map now left) ≡ option_map (λ (rest : TextLeft). rest.total) (option_map before left)
totals_same before now None same = refl
totals_same before now (Some frames) same = ap Some (same frames)

ended : (at : Phase) (size : ℕ) (held : List ℕ) → 0 < size → CanMake at size held → held ≡ [] → at ≡ phase.Ended
ended phase.Data size held some can none = absurd (omega (arith, can.0, can.1, ap length none))
ended phase.Trailers size held some can none = absurd (omega (arith, can, ap length none))
ended phase.Ended size held some can none = refl
ended phase.Closed size held some can none = absurd can

tail_left : (size : ℕ) (held : List ℕ) (kept : Option (List Trailer)) (frames : List FramePart) → held ≡ []
    → parts_left phase.Ended size held kept frames ≡ tail (listed kept) ∷ []
unfolding pieces_of_size cut_within
tail_left size held kept frames none = ap (λ (bytes : List ℕ). parts_left phase.Ended size bytes kept frames) none

pub some_bytes : (bytes : List ℕ) → (bytes ≡ [] → ⊥) → 0 < length bytes
some_bytes [] some = absurd (some refl)
some_bytes (byte ∷ bytes) some = omega arith

abbrev NotEnd : Result ChunkNext AwsChunkedBodyError → Type 0
NotEnd (Ok next.End) = ⊥
NotEnd _ = Unit {0}

not_end : (result : Result ChunkNext AwsChunkedBodyError) → result ≡ Ok next.End → NotEnd result → ⊥
not_end result is other = subst NotEnd is other

not_fault : (error : AwsChunkedBodyError) → Err error ≡ Ok next.End → ⊥
not_fault error is = subst NotEnd is tt

module _ {F G : Type 0} (source : FrameSource.Ghosts F) (signer : SignChunk.Ghosts G) where
  -- ---- what is made

  parts_made : (old new : AwsChunkedBody F G) (part : Part) → new.source ≡ old.source
      → ((frames : List FramePart) → (text_to_come_with old frames).parts ≡ part ∷ (text_to_come_with new frames).parts)
      → parts_due source old ≡ option_map (λ (parts : List Part). part ∷ parts) (parts_due source new)
  parts_made old new part source_is same =
      parts_step (text_to_come_with old) (text_to_come_with new) part (source.left old.source) same
      ∙ ap (λ (f : F). option_map (λ (parts : List Part). part ∷ parts) (option_map (λ (rest : TextLeft). rest.parts) (option_map (text_to_come_with new) (source.left f)))) (sym source_is)

  total_made : (old new : AwsChunkedBody F G) → new.source ≡ old.source → ((frames : List FramePart) → (text_to_come_with new frames).total ≡ (text_to_come_with old frames).total)
      → total_of source new ≡ total_of source old
  total_made old new source_is same =
      ap (λ (f : F). option_map (λ (rest : TextLeft). rest.total) (option_map (text_to_come_with new) (source.left f))) source_is
      ∙ totals_same (text_to_come_with old) (text_to_come_with new) (source.left old.source) same

  trailers_made : (old new : AwsChunkedBody F G) → new.source ≡ old.source
      → ((frames : List FramePart) → (text_to_come_with new frames).trailers ≡ (text_to_come_with old frames).trailers) → trailers_due source new ≡ trailers_due source old
  trailers_made old new source_is same =
      ap (λ (f : F). option_map (λ (rest : TextLeft). rest.trailers) (option_map (text_to_come_with new) (source.left f))) source_is
      ∙ trailers_same (text_to_come_with old) (text_to_come_with new) (source.left old.source) same

  -- once the source has ended all trailers have come
  all_come : (old new : AwsChunkedBody F G) → old.came.phase ≡ phase.Ended → new.came.trailers ≡ old.came.trailers → HaveAllCome source old new
  all_come old new ends same =
      if_trailers (text_to_come_with old) (source.left old.source) (λ (trailers : Option (List Trailer)). new.came.trailers ≡ trailers)
      (λ (frames : List FramePart). same ∙ sym (ap (λ (at : Phase). trailers_left at old.came.trailers frames) ends))

  come_later : (old mid new : AwsChunkedBody F G) → KeepsText source old mid → HaveAllCome source mid new → HaveAllCome source old new
  come_later old mid new keeps come =
      subst (λ (rest : Option TextLeft). IfSome (option_map (λ (r : TextLeft). r.trailers) rest) (λ (trailers : Option (List Trailer)). new.came.trailers ≡ trailers)) keeps.rest come

  lengths_later : (old mid new : AwsChunkedBody F G) (part : Part) → KeepsText source old mid → HasLengths source mid part new → HasLengths source old part new
  lengths_later old mid new (chunk piece) keeps has = tt
  lengths_later old mid new (tail trailers) keeps has = (has.0, has.1, come_later old mid new keeps has.2)

  lengths_of : (old new : AwsChunkedBody F G) (part : Part) (at : Phase) (ready : List ℕ) → HasLengths source old part new
      → HasLengths source old part (record new { came = record new.came { phase = at }; chunks = record new.chunks { ready = ready } })
  lengths_of old new (chunk piece) at ready has = has
  lengths_of old new (tail trailers) at ready has = has

  chunk_first : (old new : AwsChunkedBody F G) → IsAtHand old → 0 < old.options.chunk_size → 0 < length (held_bytes old)
      → MakesNextChunk signer old new (Ok tt) → MakesFirst source signer old new (ready_bytes new)
  chunk_first old new at_hand some full made =
      let size = old.options.chunk_size in
      let piece = first_piece old.options.chunk_size (held_bytes old) in
      let long : length piece ≡ min (length (held_bytes old)) size = piece_length size (held_bytes old) in
      let whole : 0 < length piece = omega (arith, long, some, full) in
      let source_is : new.source ≡ old.source = ap (λ (body : AwsChunkedBody F G). body.source) made.1 in
      record {
        part = chunk piece;
        made = made.0.0;
        parts = parts_made old new (chunk piece) source_is (λ (frames : List FramePart).
            parts_chunk old.came.phase size (held_bytes old) piece (held_bytes new) old.came.trailers frames some whole at_hand long made.0.1
            ∙ ap (λ (parts : List Part). chunk piece ∷ parts) (sym (ap (λ (body : AwsChunkedBody F G). parts_left body.came.phase body.options.chunk_size (held_bytes new) body.came.trailers frames) made.1)));
        total = total_made old new source_is (λ (frames : List FramePart).
            ap (λ (body : AwsChunkedBody F G). counted (body.came.taken + length (data_left body.came.phase frames))) made.1);
        trailers = trailers_made old new source_is (λ (frames : List FramePart). ap (λ (body : AwsChunkedBody F G). trailers_left body.came.phase body.came.trailers frames) made.1);
        lengths = tt;
      }

  tail_first : (old new : AwsChunkedBody F G) → held_bytes old ≡ [] → IsAtHand old → 0 < old.options.chunk_size
      → (held_bytes old ≡ [] → old.came.taken ≡ old.options.stream_length) → MakesEnd signer old new (Ok tt) → MakesFirst source signer old new (ready_bytes new)
  tail_first old new none at_hand some taken made =
      let size = old.options.chunk_size in
      let last = tail (listed old.came.trailers) in
      let ends : old.came.phase ≡ phase.Ended = ended old.came.phase size (held_bytes old) some at_hand none in
      let source_is : new.source ≡ old.source = ap (λ (body : AwsChunkedBody F G). body.source) made.1 in
      record {
        part = last;
        made = made.0.0;
        parts = parts_made old new last source_is (λ (frames : List FramePart).
            ap (λ (at : Phase). parts_left at size (held_bytes old) old.came.trailers frames) ends
            ∙ tail_left size (held_bytes old) old.came.trailers frames none
            ∙ ap (λ (parts : List Part). last ∷ parts) (sym (ap (λ (body : AwsChunkedBody F G). (text_to_come_with body frames).parts) made.1)));
        total = total_made old new source_is (λ (frames : List FramePart).
            ap (λ (body : AwsChunkedBody F G). counted (body.came.taken + length (data_left body.came.phase frames))) made.1
            ∙ sym (ap (λ (at : Phase). counted (old.came.taken + length (data_left at frames))) ends));
        trailers = trailers_made old new source_is (λ (frames : List FramePart).
            ap (λ (body : AwsChunkedBody F G). trailers_left body.came.phase body.came.trailers frames) made.1
            ∙ sym (ap (λ (at : Phase). trailers_left at old.came.trailers frames) ends));
        lengths = subst (λ (body : AwsChunkedBody F G). HasLengths source old last body) (sym made.1) (taken none, made.0.1, all_come old old ends refl);
      }

  first_later : (old mid new : AwsChunkedBody F G) (text : List ℕ) → KeepsText source old mid → MakesFirst source signer mid new text → MakesFirst source signer old new text
  first_later old mid new text keeps first = record {
    part = first.part;
    made = subst (λ (body : AwsChunkedBody F G). MakesPart signer body.options.is_signed first.part body.chunks.signer text new.chunks.signer) keeps.others first.made;
    parts = sym (ap (option_map (λ (rest : TextLeft). rest.parts)) keeps.rest) ∙ first.parts;
    total = first.total ∙ ap (option_map (λ (rest : TextLeft). rest.total)) keeps.rest;
    trailers = first.trailers ∙ ap (option_map (λ (rest : TextLeft). rest.trailers)) keeps.rest;
    lengths = lengths_later old mid new first.part keeps first.lengths;
  }

  turns_kept : (P : ℕ → Type 0) (old mid new : AwsChunkedBody F G) → TakesIdleFrames source P old mid → new.source ≡ mid.source
      → (new.came.phase ≡ phase.Data → mid.came.phase ≡ phase.Data) → TakesIdleFrames source P old new
  turns_kept P old mid new turns source_is on = record {
    frames = turns.frames;
    taken = turns.taken ∙ ap (λ (f : F). option_map (λ (rest : List FramePart). turns.frames ++ rest) (source.left f)) (sym source_is);
    turns = turns.turns;
    goes_on = λ begun. turns.goes_on (on begun);
  }

  counts_kept : (old mid new : AwsChunkedBody F G) → KeepsCounts source old mid → new.source ≡ mid.source → new.options ≡ mid.options → KeepsCounts source old new
  counts_kept old mid new counts source_is options = record {
    waits = subst (λ (f : F). source.waits old.source ≤ source.waits f) (sym source_is) counts.waits;
    faults = subst (λ (f : F). source.faults old.source ≤ source.faults f) (sym source_is) counts.faults;
    options = options ∙ counts.options;
  }

  -- a body that is closed goes on to no data
  over_on : {chunks : ChunkEngine G} (mid new : AwsChunkedBody F G) → new ≡ record mid { came = record mid.came { phase = phase.Closed }; chunks = chunks }
      → new.came.phase ≡ phase.Data → mid.came.phase ≡ phase.Data
  over_on mid new is on = absurd (let no : phase.Closed ≡ phase.Data = sym (ap (λ (body : AwsChunkedBody F G). body.came.phase) is) ∙ on in cc)

  pub made_ready : (old mid new : AwsChunkedBody F G) → ready_bytes old ≡ [] → Gathers source old mid (Ok tt)
      → (0 < length (held_bytes mid) → MakesNextChunk signer mid new (Ok tt)) → (held_bytes mid ≡ [] → MakesEnd signer mid new (Ok tt))
      → HasTextOrStops source signer old new (Ok tt)
  made_ready old mid new none gathers as_chunk as_tail = by (held_bytes mid) refl
    where
      keeps : KeepsText source old mid
      keeps = gathers.0

      by : (held : List ℕ) → held_bytes mid ≡ held → HasTextOrStops source signer old new (Ok tt)
      by [] is =
          let made = as_tail is in
          let source_is : new.source ≡ mid.source = ap (λ (body : AwsChunkedBody F G). body.source) made.1 in (
            counts_kept old mid new (counts_of source old mid gathers.0) source_is (ap (λ (body : AwsChunkedBody F G). body.options) made.1),
            part_some signer mid.options.is_signed (tail (listed mid.came.trailers)) mid.chunks.signer (ready_bytes new) new.chunks.signer made.0.0,
            turns_kept (λ (count : ℕ). count < 65536) old mid new gathers.4 source_is (over_on mid new made.1),
            inr (none, first_later old mid new (ready_bytes new) gathers.0 (tail_first mid new is gathers.1 gathers.2 gathers.3 made)),
          )
      by (byte ∷ bytes) is =
          let full : 0 < length (held_bytes mid) = omega (arith, ap length is) in
          let made = as_chunk full in
          let source_is : new.source ≡ mid.source = ap (λ (body : AwsChunkedBody F G). body.source) made.1 in (
            counts_kept old mid new (counts_of source old mid gathers.0) source_is (ap (λ (body : AwsChunkedBody F G). body.options) made.1),
            part_some signer mid.options.is_signed (chunk (first_piece mid.options.chunk_size (held_bytes mid))) mid.chunks.signer (ready_bytes new) new.chunks.signer made.0.0,
            turns_kept (λ (count : ℕ). count < 65536) old mid new gathers.4 source_is (λ on. sym (ap (λ (body : AwsChunkedBody F G). body.came.phase) made.1) ∙ on),
            inr (none, first_later old mid new (ready_bytes new) gathers.0 (chunk_first mid new gathers.1 gathers.2 full made)),
          )

  pub clear_after : (old mid : AwsChunkedBody F G) → Gathers source old mid (Ok tt) → ready_bytes old ≡ [] → ready_bytes mid ≡ []
  clear_after old mid gathers none = ap (λ (body : AwsChunkedBody F G). ready_bytes body) gathers.0.others ∙ none

  turns_not : (P : ℕ → Type 0) (old new : AwsChunkedBody F G) → new ≡ old → P 0 → TakesIdleFrames source P old new
  turns_not P old new is zero_is = record {
    frames = [];
    taken = left_none (source.left old.source) ∙ ap (λ (body : AwsChunkedBody F G). option_map (λ (rest : List FramePart). [] ++ rest) (source.left body.source)) (sym is);
    turns = subst P (sym (idle_none old.came.phase)) zero_is;
    goes_on = λ on. phase_none old.came.phase ∙ sym (ap (λ (body : AwsChunkedBody F G). body.came.phase) is) ∙ on;
  }

  counts_not : (old new : AwsChunkedBody F G) → new ≡ old → KeepsCounts source old new
  counts_not old new is = subst (λ (body : AwsChunkedBody F G). KeepsCounts source old body) (sym is) (record { waits = omega arith; faults = omega arith; options = refl })

  -- text is ready
  pub stays_ready : (body : AwsChunkedBody F G) → 0 < length (ready_bytes body) → HasTextOrStops source signer body body (Ok tt)
  stays_ready body some =
      (counts_not body body refl, some, turns_not (λ (count : ℕ). count < 65536) body body refl (omega arith), inl refl)

  -- ---- why nothing is made

  first_kept : (old mid : AwsChunkedBody F G) (part : Part) → KeepsText source old mid → IsFirstPart source signer mid part → IsFirstPart source signer old part
  first_kept old mid part keeps first =
      subst (λ (rest : Option TextLeft). IfSome (option_map (λ (r : TextLeft). r.parts) rest) (λ (parts : List Part). (more : List Part) × (parts ≡ part ∷ more))) keeps.rest first

  chunk_is_first : (old : AwsChunkedBody F G) → IsAtHand old → 0 < old.options.chunk_size → 0 < length (held_bytes old) → IsFirstPart source signer old (chunk (first_piece old.options.chunk_size (held_bytes old)))
  chunk_is_first old at_hand some full =
      let size = old.options.chunk_size in
      let piece = first_piece old.options.chunk_size (held_bytes old) in
      let long : length piece ≡ min (length (held_bytes old)) size = piece_length size (held_bytes old) in
      let whole : 0 < length piece = omega (arith, long, some, full) in
      let left = drop (min (length (held_bytes old)) size) (held_bytes old) in
      let is : held_bytes old ≡ piece ++ left = sym (take-append-drop (min (length (held_bytes old)) size) (held_bytes old)) in
      if_parts (text_to_come_with old) (source.left old.source) (λ (parts : List Part). (more : List Part) × (parts ≡ chunk piece ∷ more))
      (λ (frames : List FramePart). (
        parts_left old.came.phase size left old.came.trailers frames,
        parts_chunk old.came.phase size (held_bytes old) piece left old.came.trailers frames some whole at_hand long is,
      ))

  tail_is_first : (old : AwsChunkedBody F G) → held_bytes old ≡ [] → IsAtHand old → 0 < old.options.chunk_size → IsFirstPart source signer old (tail (listed old.came.trailers))
  tail_is_first old none at_hand some =
      let size = old.options.chunk_size in
      let ends : old.came.phase ≡ phase.Ended = ended old.came.phase size (held_bytes old) some at_hand none in
      if_parts (text_to_come_with old) (source.left old.source) (λ (parts : List Part). (more : List Part) × (parts ≡ tail (listed old.came.trailers) ∷ more))
      (λ (frames : List FramePart). (
        [],
        ap (λ (at : Phase). parts_left at size (held_bytes old) old.came.trailers frames) ends ∙ tail_left size (held_bytes old) old.came.trailers frames none,
      ))

  abbrev MayCause : AwsChunkedBody F G → AwsChunkedBody F G → AwsChunkedBodyError → Type 0
  MayCause old new error =
      (error ≡ fault.NoMemory)
      ⊎ ((actual : ℕ) × (expected : ℕ) × (error ≡ fault.ReportedTrailerLengthMismatch actual expected) × Causes source signer old new (Err (fault.ReportedTrailerLengthMismatch actual expected)))
      ⊎ ((why : SigningError) × (error ≡ fault.FailedToSign why) × Causes source signer old new (Err (fault.FailedToSign why)))

  causes_of : (old new : AwsChunkedBody F G) (error : AwsChunkedBodyError) → MayCause old new error → Causes source signer old new (Err error)
  causes_of old new error (inl is) = subst (λ (e : AwsChunkedBodyError). Causes source signer old new (Err e)) (sym is) tt
  causes_of old new error (inr (inl told)) = subst (λ (e : AwsChunkedBodyError). Causes source signer old new (Err e)) (sym told.2) told.3
  causes_of old new error (inr (inr told)) = subst (λ (e : AwsChunkedBodyError). Causes source signer old new (Err e)) (sym told.1) told.2

  fails_for : (old mid new : AwsChunkedBody F G) (part : Part) (error : AwsChunkedBodyError) → KeepsText source old mid → IsFirstPart source signer mid part
      → HasLengths source mid part new → FailsPart signer mid.options.is_signed part mid.chunks.signer error new.chunks.signer
      → (error ≡ fault.NoMemory) ⊎ ((why : SigningError) × (error ≡ fault.FailedToSign why)) → MayCause old new error
  fails_for old mid new part error keeps first has fails (inl is) = inl is
  fails_for old mid new part error keeps first has fails (inr told) =
      inr (inr (
        told.0,
        told.1,
        (
          part,
          subst (λ (body : AwsChunkedBody F G). FailsPart signer body.options.is_signed part body.chunks.signer (fault.FailedToSign told.0) new.chunks.signer) keeps.others
              (subst (λ (e : AwsChunkedBodyError). FailsPart signer mid.options.is_signed part mid.chunks.signer e new.chunks.signer) told.1 fails),
          first_kept old mid part keeps first,
          lengths_later old mid new part keeps has,
        ),
      ))

  fault_chunk : (old mid new : AwsChunkedBody F G) (error : AwsChunkedBodyError) → Gathers source old mid (Ok tt) → 0 < length (held_bytes mid)
      → MakesNextChunk signer mid new (Err error) → MayCause old new error
  fault_chunk old mid new error gathers full (inl is, others) = inl is
  fault_chunk old mid new error gathers full (inr fails, others) =
      fails_for old mid new (chunk (first_piece mid.options.chunk_size (held_bytes mid))) error gathers.0 (chunk_is_first mid gathers.1 gathers.2 full) tt fails
      (signs_error (ChunkAnswers signer (first_piece mid.options.chunk_size (held_bytes mid))) mid.options.is_signed mid.chunks.signer new.chunks.signer error fails)

  fault_tail : (old mid new : AwsChunkedBody F G) (error : AwsChunkedBodyError) → Gathers source old mid (Ok tt) → held_bytes mid ≡ []
      → MakesEnd signer mid new (Err error) → MayCause old new error
  fault_tail old mid new error gathers none ((inl is, rest), others) = inl is
  fault_tail old mid new error gathers none ((inr (inl (lacks, signs)), rest), others) =
      let actual = counted (actual_length mid.options.is_signed lacks.0) in
      let expected = counted (declared_length mid.options.trailer_lengths) in
      inr (inl (
        actual,
        expected,
        lacks.2,
        (
          subst (λ (body : AwsChunkedBody F G). HasTrailerLengthsIfAny body.came body.options (Err (fault.ReportedTrailerLengthMismatch actual expected))) (sym others)
              (lacks.0, lacks.1, refl, lacks.3),
          ap (λ (body : AwsChunkedBody F G). body.came.taken) others ∙ gathers.3 none ∙ sym (ap (λ (body : AwsChunkedBody F G). body.options.stream_length) others),
          come_later old mid new gathers.0 (all_come mid new (ended mid.came.phase mid.options.chunk_size (held_bytes mid) gathers.2 gathers.1 none)
              (ap (λ (body : AwsChunkedBody F G). body.came.trailers) others)),
          first_kept old mid (tail (listed new.came.trailers)) gathers.0
              (subst (λ (kept : Option (List Trailer)). IsFirstPart source signer mid (tail (listed kept))) (sym (ap (λ (body : AwsChunkedBody F G). body.came.trailers) others))
              (tail_is_first mid none gathers.1 gathers.2)),
          signs ∙ ap (λ (body : AwsChunkedBody F G). body.chunks.signer) gathers.0.others,
        ),
      ))
  fault_tail old mid new error gathers none ((inr (inr (fits, fails)), rest), others) =
      fails_for old mid new (tail (listed mid.came.trailers)) error gathers.0 (tail_is_first mid none gathers.1 gathers.2) has fails (by fails)
    where
      has : HasLengths source mid (tail (listed mid.came.trailers)) new
      has =
          subst (λ (body : AwsChunkedBody F G). HasLengths source mid (tail (listed mid.came.trailers)) body) (sym others)
          (gathers.3 none, fits, all_come mid mid (ended mid.came.phase mid.options.chunk_size (held_bytes mid) gathers.2 gathers.1 none) refl)

      by : FailsPart signer mid.options.is_signed (tail (listed mid.came.trailers)) mid.chunks.signer error new.chunks.signer
          → (error ≡ fault.NoMemory) ⊎ ((why : SigningError) × (error ≡ fault.FailedToSign why))
      by (inl first) = signs_error (ChunkAnswers signer []) mid.options.is_signed mid.chunks.signer new.chunks.signer error first
      by (inr last) =
          signs_error (TrailerAnswers signer (listed mid.came.trailers)) (has_signature mid.options.is_signed (listed mid.came.trailers)) last.1 new.chunks.signer error last.3

  pub made_fault : (old mid new : AwsChunkedBody F G) (error : AwsChunkedBodyError) → Gathers source old mid (Ok tt)
      → (0 < length (held_bytes mid) → MakesNextChunk signer mid new (Err error)) → (held_bytes mid ≡ [] → MakesEnd signer mid new (Err error))
      → HasTextOrStops source signer old new (Err (stop.Fault error))
  made_fault old mid new error gathers as_chunk as_tail = by (held_bytes mid) refl
    where
      few : (at : AwsChunkedBodyError) (count : ℕ) → count < 65536 → AreTurns (Err at) count
      few (fault.StreamLengthMismatch actual expected) count is = is
      few (fault.ReportedTrailerLengthMismatch actual expected) count is = is
      few (fault.FailedToSign why) count is = is
      few fault.SourceFault count is = is
      few fault.NoMemory count is = omega (arith, is)

      ends : new ≡ record mid { chunks = new.chunks } → MayCause old new error → HasTextOrStops source signer old new (Err (stop.Fault error))
      ends others cause =
          let source_is : new.source ≡ mid.source = ap (λ (body : AwsChunkedBody F G). body.source) others in
          let options : new.options ≡ mid.options = ap (λ (body : AwsChunkedBody F G). body.options) others in
          let turns = turns_kept (λ (count : ℕ). count < 65536) old mid new gathers.4 source_is (λ on. sym (ap (λ (body : AwsChunkedBody F G). body.came.phase) others) ∙ on) in (
            (counts_kept old mid new (counts_of source old mid gathers.0) source_is options, causes_of old new error cause),
            record { frames = turns.frames; taken = turns.taken; turns = few error (idle_frames old.came.phase turns.frames) turns.turns; goes_on = turns.goes_on },
          )

      by : (held : List ℕ) → held_bytes mid ≡ held → HasTextOrStops source signer old new (Err (stop.Fault error))
      by [] is =
          let made = as_tail is in
          ends made.1 (fault_tail old mid new error gathers is made)
      by (byte ∷ bytes) is =
          let full : 0 < length (held_bytes mid) = omega (arith, ap length is) in
          let made = as_chunk full in
          ends made.1 (fault_chunk old mid new error gathers full made)

  cause_gathered : (old mid : AwsChunkedBody F G) (error : AwsChunkedBodyError) → ready_bytes old ≡ [] → Gathers source old mid (Err (stop.Fault error))
      → Causes source signer old mid (Err error)
  cause_gathered old mid (fault.StreamLengthMismatch actual expected) none gathers = (gathers.1, none)
  cause_gathered old mid (fault.ReportedTrailerLengthMismatch actual expected) none gathers = absurd gathers.1
  cause_gathered old mid (fault.FailedToSign why) none gathers = absurd gathers.1
  cause_gathered old mid fault.SourceFault none gathers = gathers.1
  cause_gathered old mid fault.NoMemory none gathers = tt

  pub gathered_not : (old mid : AwsChunkedBody F G) (why : Stop) → ready_bytes old ≡ [] → Gathers source old mid (Err why) → HasTextOrStops source signer old mid (Err why)
  gathered_not old mid stop.NotYet none gathers = (gathers.1.0, (gathers.0, gathers.1.1), gathers.2)
  gathered_not old mid stop.OutOfTurns none gathers = (gathers.1, (gathers.0, tt), gathers.2)
  gathered_not old mid (stop.Fault error) none gathers = ((gathers.0, cause_gathered old mid error none gathers), gathers.2)

  -- ---- what a call answers

  -- ---- a body that was closed

  closed_is : (mid new : AwsChunkedBody F G) → new ≡ record mid { came = record mid.came { phase = phase.Closed }; chunks = record mid.chunks { ready = [] } } → IsBodyClosed new
  closed_is mid new is =
      record { over = ap (λ (body : AwsChunkedBody F G). body.came.phase) is; answered = ap (λ (body : AwsChunkedBody F G). ready_bytes body) is }

  closed_cause : (old mid new : AwsChunkedBody F G) (error : AwsChunkedBodyError) → HasCause source signer old mid (Err error)
      → new ≡ record mid { came = record mid.came { phase = phase.Closed }; chunks = record mid.chunks { ready = [] } } → HasCause source signer old new (Err error)
  closed_cause old mid new error told is = subst (λ (body : AwsChunkedBody F G). HasCause source signer old body (Err error)) (sym is) (counts, by error told.1)
    where
      counts : KeepsCounts source old (record mid { came = record mid.came { phase = phase.Closed }; chunks = record mid.chunks { ready = [] } })
      counts = record { waits = told.0.waits; faults = told.0.faults; options = told.0.options }

      by : (at : AwsChunkedBodyError) → Causes source signer old mid (Err at) → Causes source signer old (record mid { came = record mid.came { phase = phase.Closed }; chunks = record mid.chunks { ready = [] } }) (Err at)
      by (fault.StreamLengthMismatch actual expected) cause = cause
      by (fault.ReportedTrailerLengthMismatch actual expected) cause = cause
      by (fault.FailedToSign why) cause = (cause.0, cause.1, cause.2, lengths_of old mid cause.0 phase.Closed [] cause.3)
      by fault.SourceFault cause = cause
      by fault.NoMemory cause = cause

  closed_turns : (old mid new : AwsChunkedBody F G) (error : AwsChunkedBodyError) → TakesIdleFrames source (AreTurns (Err error)) old mid
      → new ≡ record mid { came = record mid.came { phase = phase.Closed }; chunks = record mid.chunks { ready = [] } } → TakesIdleFrames source (AreTurns (Err error)) old new
  closed_turns old mid new error turns is = turns_kept (AreTurns (Err error)) old mid new turns (ap (λ (body : AwsChunkedBody F G). body.source) is) (over_on mid new is)

  pub over_cause : (body : AwsChunkedBody F G) → HasCause source signer body body (Ok next.End)
  over_cause body = (counts_not body body refl, tt)

  pub over_turns : (body : AwsChunkedBody F G) → TakesIdleFrames source (AreTurns (Ok next.End)) body body
  over_turns body = turns_not (AreTurns (Ok next.End)) body body refl (omega arith)

  pub over_due : (body : AwsChunkedBody F G) → IsBodyClosed body → TakesDue (due source signer body) (due source signer body) (Ok next.End)
  over_due body closed = (refl, closed_due source signer body closed)

  pub stopped_due : (old mid new : AwsChunkedBody F G) (why : Stop) → HasTextOrStops source signer old mid (Err why) → new ≡ after_stop why mid
      → TakesDue (due source signer old) (due source signer new) (stop_answer why)
  stopped_due old mid new stop.NotYet told is = ap (λ (body : AwsChunkedBody F G). due source signer body) is ∙ due_kept source signer old mid told.0
  stopped_due old mid new stop.OutOfTurns told is = ap (λ (body : AwsChunkedBody F G). due source signer body) is ∙ due_kept source signer old mid told.0
  stopped_due old mid new (stop.Fault error) told is = tt

  pub stopped_answers : (old mid new : AwsChunkedBody F G) (why : Stop) → HasTextOrStops source signer old mid (Err why) → new ≡ after_stop why mid
      → AnswersFrame source signer old new (stop_answer why)
  stopped_answers old mid new stop.NotYet told is = subst (λ (body : AwsChunkedBody F G). KeepsText source old body) (sym is) told.0
  stopped_answers old mid new stop.OutOfTurns told is = subst (λ (body : AwsChunkedBody F G). KeepsText source old body) (sym is) told.0
  stopped_answers old mid new (stop.Fault error) told is = tt

  pub stopped_cause : (old mid new : AwsChunkedBody F G) (why : Stop) → HasTextOrStops source signer old mid (Err why) → new ≡ after_stop why mid
      → HasCause source signer old new (stop_answer why)
  stopped_cause old mid new stop.NotYet told is = subst (λ (body : AwsChunkedBody F G). HasCause source signer old body (Ok next.NotYet)) (sym is) told.1
  stopped_cause old mid new stop.OutOfTurns told is = subst (λ (body : AwsChunkedBody F G). HasCause source signer old body (Ok next.OutOfTurns)) (sym is) told.1
  stopped_cause old mid new (stop.Fault error) told is = closed_cause old mid new error told.0 is

  pub stopped_turns : (old mid new : AwsChunkedBody F G) (why : Stop) → HasTextOrStops source signer old mid (Err why) → new ≡ after_stop why mid
      → TakesIdleFrames source (AreTurns (stop_answer why)) old new
  stopped_turns old mid new stop.NotYet told is = turns_kept (AreTurns (Ok next.NotYet)) old mid new told.2 (ap (λ (body : AwsChunkedBody F G). body.source) is) (λ on. sym (ap (λ (body : AwsChunkedBody F G). body.came.phase) is) ∙ on)
  stopped_turns old mid new stop.OutOfTurns told is = turns_kept (AreTurns (Ok next.OutOfTurns)) old mid new told.2 (ap (λ (body : AwsChunkedBody F G). body.source) is) (λ on. sym (ap (λ (body : AwsChunkedBody F G). body.came.phase) is) ∙ on)
  stopped_turns old mid new (stop.Fault error) told is = closed_turns old mid new error told.1 is

  pub stopped_closed : (mid new : AwsChunkedBody F G) (why : Stop) → new ≡ after_stop why mid → OnErr (stop_answer why) (IsBodyClosed new)
  stopped_closed mid new stop.NotYet is = tt
  stopped_closed mid new stop.OutOfTurns is = tt
  stopped_closed mid new (stop.Fault error) is = closed_is mid new is

  pub stopped_on : (why : Stop) → stop_answer why ≡ Ok next.End → ⊥
  stopped_on stop.NotYet is = not_end (Ok next.NotYet) is tt
  stopped_on stop.OutOfTurns is = not_end (Ok next.OutOfTurns) is tt
  stopped_on (stop.Fault error) is = not_fault error is

  pub front_answers : (old mid new : AwsChunkedBody F G) (piece : List ℕ) → HasTextOrStops source signer old mid (Ok tt) → ready_bytes mid ≡ piece ++ ready_bytes new
      → new ≡ record mid { chunks = record mid.chunks { ready = ready_bytes new } } → AnswersFrame source signer old new (Ok (next.Frame piece))
  front_answers old mid new piece readies is others = (ready_bytes mid, is, by readies.3)
    where
      by : (mid ≡ old) ⊎ ((ready_bytes old ≡ []) × MakesFirst source signer old mid (ready_bytes mid))
          → ((ready_bytes mid ≡ ready_bytes old) × (new ≡ record old { chunks = record old.chunks { ready = ready_bytes new } }))
          ⊎ ((ready_bytes old ≡ []) × MakesFirst source signer old new (ready_bytes mid))
      by (inl same) = inl (ap (λ (body : AwsChunkedBody F G). ready_bytes body) same, others ∙ ap (λ (body : AwsChunkedBody F G). record body { chunks = record body.chunks { ready = ready_bytes new } }) same)
      by (inr (none, first)) = inr (
        none,
        subst (λ (body : AwsChunkedBody F G). MakesFirst source signer old body (ready_bytes mid)) (sym others) (record {
          part = first.part;
          made = first.made;
          parts = first.parts ∙ ap (option_map (λ (parts : List Part). first.part ∷ parts)) (parts_ready (source.left mid.source));
          total = totals_ready (source.left mid.source) ∙ first.total;
          trailers = trailers_ready (source.left mid.source) ∙ first.trailers;
          lengths = lengths_of old mid first.part mid.came.phase (ready_bytes new) first.lengths;
        }),
      )
        where
          parts_ready : (left : Option (List FramePart)) → option_map (λ (rest : TextLeft). rest.parts) (option_map (text_to_come_with mid) left)
              ≡ option_map (λ (rest : TextLeft). rest.parts) (option_map (text_to_come_with (record mid { chunks = record mid.chunks { ready = ready_bytes new } })) left)
          parts_ready None = refl
          parts_ready (Some frames) = refl

          totals_ready : (left : Option (List FramePart)) → option_map (λ (rest : TextLeft). rest.total) (option_map (text_to_come_with (record mid { chunks = record mid.chunks { ready = ready_bytes new } })) left)
              ≡ option_map (λ (rest : TextLeft). rest.total) (option_map (text_to_come_with mid) left)
          totals_ready None = refl
          totals_ready (Some frames) = refl

          trailers_ready : (left : Option (List FramePart)) → option_map (λ (rest : TextLeft). rest.trailers) (option_map (text_to_come_with (record mid { chunks = record mid.chunks { ready = ready_bytes new } })) left)
              ≡ option_map (λ (rest : TextLeft). rest.trailers) (option_map (text_to_come_with mid) left)
          trailers_ready None = refl
          trailers_ready (Some frames) = refl

  pub front_taken_due : (old mid new : AwsChunkedBody F G) (piece : List ℕ) → HasTextOrStops source signer old mid (Ok tt) → ready_bytes mid ≡ piece ++ ready_bytes new
      → 0 < length piece → new ≡ record mid { chunks = record mid.chunks { ready = ready_bytes new } } → TakesDue (due source signer old) (due source signer new) (Ok (next.Frame piece))
  front_taken_due old mid new piece readies is some others = (
    front_due source signer old new piece (front_answers old mid new piece readies is others)
        (ap (λ (body : AwsChunkedBody F G). body.options) others ∙ readies.0.options),
    some,
  )

  pub front_cause : (old mid new : AwsChunkedBody F G) (piece : List ℕ) → HasTextOrStops source signer old mid (Ok tt) → new ≡ record mid { chunks = record mid.chunks { ready = ready_bytes new } }
      → HasCause source signer old new (Ok (next.Frame piece))
  front_cause old mid new piece readies others =
      (counts_kept old mid new readies.0 (ap (λ (body : AwsChunkedBody F G). body.source) others) (ap (λ (body : AwsChunkedBody F G). body.options) others), tt)

  pub front_turns : (old mid new : AwsChunkedBody F G) (piece : List ℕ) → HasTextOrStops source signer old mid (Ok tt) → new ≡ record mid { chunks = record mid.chunks { ready = ready_bytes new } }
      → TakesIdleFrames source (AreTurns (Ok (next.Frame piece))) old new
  front_turns old mid new piece readies others =
      turns_kept (AreTurns (Ok (next.Frame piece))) old mid new readies.2 (ap (λ (body : AwsChunkedBody F G). body.source) others) (λ on. sym (ap (λ (body : AwsChunkedBody F G). body.came.phase) others) ∙ on)
