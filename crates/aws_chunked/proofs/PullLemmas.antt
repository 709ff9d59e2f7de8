-- What a body takes of its source stays due.
use Rattle.std.proofs.Common.{◌≡◌, ℕ, ◌⊎◌, inl, inr, ◌+◌, ◌<◌, ◌≤◌, Bool, true, false, List, [], ◌∷◌, ◌++◌, length, Option, None, Some, refl, ap, sym, subst, ◌∙◌, arith}
use Rattle.std.specs.Prelude.{IfSome, Ok, Err, option_map}
use Rattle.std.proofs.lemmas.Bool.{true≢false}
use Rattle.seg_buf.specs.Segments.{Segments}
use Rattle.smithy_core.specs.declared.outside.frame_source.FrameSource as FrameSource
use Rattle.smithy_core.specs.FrameSource.{TakesFrame}
use Rattle.smithy_core.specs.declared.outside.frame_part.FramePart.{FramePart}
use Rattle.smithy_core.specs.declared.outside.frame_part.FramePart.TheVariants as frame
use Rattle.smithy_core.proofs.OutsideLemmas.{rose_before}
use Rattle.aws_chunked.specs.Body.{CanMake, KeepsCounts, Gathers, MayReadOn, IsBodyOpen, IsCompared, KeepsText, PullsFrame, TextLeft, TakesSourceFrames, TakesIdleFrames, TestsPart, Trailer, data_left, held_after, held_bytes, idle_frames, idle_in, listed, parts_left, phase_after, ready_bytes, text_to_come_with, trailers_left, with_data, with_frame}
use Rattle.aws_chunked.specs.Options.{counted}
use Rattle.aws_chunked.specs.Text.{Part, cut_within, pieces_of_size, tail}
use Rattle.aws_chunked.specs.declared.body.AwsChunkedBody.{AwsChunkedBody}
use Rattle.aws_chunked.specs.declared.error.AwsChunkedBodyError.{AwsChunkedBodyError}
use Rattle.aws_chunked.specs.declared.error.AwsChunkedBodyError.TheVariants as fault
use Rattle.aws_chunked.specs.declared.stop.Stop.{Stop}
use Rattle.aws_chunked.specs.declared.stop.Stop.TheVariants as stop
use Rattle.aws_chunked.specs.declared.phase.Phase.{Phase}
use Rattle.aws_chunked.specs.declared.phase.Phase.TheVariants as phase
use Rattle.aws_chunked.proofs.BodyLemmas.{frame_taken, held_more, parts_data, parts_trailers, total_data, total_trailers, trailers_data, trailers_more}
use Rattle.aws_chunked.proofs.TurnLemmas.{few_idle, idle_data, idle_more, idle_none, is_open, left_more, left_none, left_one, nears_data, on_after, phase_data, phase_more, phase_none}

rest_same : (a b : TextLeft) → a.ready ≡ b.ready → a.parts ≡ b.parts → a.trailers ≡ b.trailers → a.total ≡ b.total → a ≡ b
rest_same a b ready parts trailers total = λ i. record { ready = ready i; parts = parts i; trailers = trailers i; total = total i }

pub if_parts : (now : List FramePart → TextLeft) (left : Option (List FramePart)) (P : List Part → Type 0) → ((frames : List FramePart) → P (now frames).parts)
    → IfSome (option_map (λ (rest : TextLeft). rest.parts) (option_map now left)) P
if_parts now None P holds = tt
if_parts now (Some frames) P holds = holds frames

pub if_total : (now : List FramePart → TextLeft) (left : Option (List FramePart)) (P : ℕ → Type 0) → ((frames : List FramePart) → P (now frames).total)
    → IfSome (option_map (λ (rest : TextLeft). rest.total) (option_map now left)) P
if_total now None P holds = tt
if_total now (Some frames) P holds = holds frames

pub if_trailers : (now : List FramePart → TextLeft) (left : Option (List FramePart)) (P : Option (List Trailer) → Type 0) → ((frames : List FramePart) → P (now frames).trailers)
    → IfSome (option_map (λ (rest : TextLeft). rest.trailers) (option_map now left)) P
if_trailers now None P holds = tt
if_trailers now (Some frames) P holds = holds frames

ended_total : (at : Phase) (taken : ℕ) (frames : List FramePart) → (at ≡ phase.Trailers) ⊎ (at ≡ phase.Ended)
    → counted (taken + length (data_left at frames)) ≡ counted taken
ended_total at taken frames (inl is) =
    ap (λ (p : Phase). counted (taken + length (data_left p frames))) is ∙ ap counted (omega arith)
ended_total at taken frames (inr is) =
    ap (λ (p : Phase). counted (taken + length (data_left p frames))) is ∙ ap counted (omega arith)

-- of data that has ended and of which none is held only the end is left
end_left : (at : Phase) (size : ℕ) (held : List ℕ) (kept : Option (List Trailer)) (frames : List FramePart) → (at ≡ phase.Trailers) ⊎ (at ≡ phase.Ended) → held ≡ []
    → (trailers : List Trailer) × (parts_left at size held kept frames ≡ tail trailers ∷ [])
unfolding pieces_of_size cut_within
end_left phase.Data size held kept frames (inl is) none = cc
end_left phase.Data size held kept frames (inr is) none = cc
end_left phase.Trailers size held kept frames ends none =
    (listed (trailers_left phase.Trailers kept frames), ap (λ (bytes : List ℕ). parts_left phase.Trailers size bytes kept frames) none)
end_left phase.Ended size held kept frames ends none = (listed kept, ap (λ (bytes : List ℕ). parts_left phase.Ended size bytes kept frames) none)
end_left phase.Closed size held kept frames (inl is) none = cc
end_left phase.Closed size held kept frames (inr is) none = cc

-- of the parts only the end is left
abbrev OnlyEnd : List Part → Type 0
OnlyEnd parts = (trailers : List Trailer) × (parts ≡ tail trailers ∷ [])

-- where a part can be made of what is held
pub can_make_last : (at : Phase) (size : ℕ) (held : List ℕ) → (at ≡ phase.Data → ⊥) → (at ≡ phase.Closed → ⊥) → 0 < length held → CanMake at size held
can_make_last phase.Data size held begun closed some = absurd (begun refl)
can_make_last phase.Trailers size held begun closed some = some
can_make_last phase.Ended size held begun closed some = tt
can_make_last phase.Closed size held begun closed some = absurd (closed refl)

module _ {F G : Type 0} where
  pub can_make_end : (body : AwsChunkedBody F G) → body.came.phase ≡ phase.Ended → CanMake body.came.phase body.options.chunk_size (held_bytes body)
  can_make_end body ended = subst (λ (at : Phase). CanMake at body.options.chunk_size (held_bytes body)) (sym ended) tt

  -- the last chunk is held
  pub tests_last : (body : AwsChunkedBody F G) → (body.came.phase ≡ phase.Data → ⊥) → (body.came.phase ≡ phase.Closed → ⊥) → 1 ≤ body.options.chunk_size
      → 0 < length (held_bytes body) → TestsPart body (Ok true)
  tests_last body begun closed size some =
      (can_make_last body.came.phase body.options.chunk_size (held_bytes body) begun closed some, omega (arith, size), λ none. absurd (omega (arith, some, ap length none)))

  -- trailers may still come
  pub tests_more : (body : AwsChunkedBody F G) → body.came.phase ≡ phase.Trailers → 1 ≤ body.options.chunk_size → body.options.chunk_size ≤ 4294967295
      → length (held_bytes body) ≤ 0 → body.came.taken ≡ body.options.stream_length → TestsPart body (Ok false)
  tests_more body at size bound none taken = (omega (arith, size, none), bound, inr at, λ ends. taken)

  -- the end can be made
  pub tests_end : (body : AwsChunkedBody F G) → body.came.phase ≡ phase.Ended → 1 ≤ body.options.chunk_size → body.came.taken ≡ body.options.stream_length → TestsPart body (Ok true)
  tests_end body at size taken = (can_make_end body at, omega (arith, size), λ none. taken)

  pub tests_goes_on : (body : AwsChunkedBody F G) (made : Bool) → TestsPart body (Ok made) → made ≡ false → MayReadOn body
  tests_goes_on body true tests is = absurd (true≢false is)
  tests_goes_on body false tests is = tests.2

  pub tests_compared : (body : AwsChunkedBody F G) (made : Bool) → TestsPart body (Ok made) → made ≡ false → IsCompared body
  tests_compared body true tests is = absurd (true≢false is)
  tests_compared body false tests is = tests.3

module _ {F G : Type 0} (source : FrameSource.Ghosts F) where
  pub counts_of : (old new : AwsChunkedBody F G) → KeepsText source old new → KeepsCounts source old new
  counts_of old new keeps = record { waits = keeps.waits; faults = keeps.faults; options = ap (λ (body : AwsChunkedBody F G). body.options) keeps.others }

  counts_more : (old between new : AwsChunkedBody F G) → KeepsCounts source old between → KeepsCounts source between new → KeepsCounts source old new
  counts_more old between new first second = record {
    waits = omega (arith, first.waits, second.waits);
    faults = omega (arith, first.faults, second.faults);
    options = second.options ∙ first.options;
  }

  keeps_none : (body : AwsChunkedBody F G) → KeepsText source body body
  keeps_none body = record { rest = refl; others = refl; held = omega arith; waits = omega arith; faults = omega arith }

  keeps_more : (old between new : AwsChunkedBody F G) → KeepsText source old between → KeepsText source between new → KeepsText source old new
  keeps_more old between new first second = record {
    rest = second.rest ∙ first.rest;
    others = second.others ∙ ap (λ (body : AwsChunkedBody F G). record body { source = new.source; came = new.came; chunks = record body.chunks { held = new.chunks.held } }) first.others;
    held = omega (arith, first.held, second.held);
    waits = omega (arith, first.waits, second.waits);
    faults = omega (arith, first.faults, second.faults);
  }

  -- a source that gave nothing, and room for a piece more
  keeps_same : (old : AwsChunkedBody F G) (from : F) (room : Segments) → source.left from ≡ source.left old.source → room.bytes ≡ held_bytes old
      → source.waits old.source ≤ source.waits from → source.faults old.source ≤ source.faults from → KeepsText source old (record old { source = from; chunks = record old.chunks { held = room } })
  keeps_same old from room left bytes waits faults = record {
    rest = λ i. option_map (λ (frames : List FramePart). record {
      ready = ready_bytes old;
      parts = parts_left old.came.phase old.options.chunk_size (bytes i) old.came.trailers frames;
      trailers = trailers_left old.came.phase old.came.trailers frames;
      total = counted (old.came.taken + length (data_left old.came.phase frames));
    }) (left i);
    others = refl;
    held = omega (arith, ap length bytes);
    waits = waits;
    faults = faults;
  }

  -- ---- a pull

  pub pulls_data : (old : AwsChunkedBody F G) (from : F) (room : Segments) (new : AwsChunkedBody F G) (piece : List ℕ) (idle : ℕ) → MayReadOn old
      → TakesFrame (frame.Data piece) (source.left old.source) (source.left from) → room.bytes ≡ held_bytes old
      → source.waits old.source ≤ source.waits from → source.faults old.source ≤ source.faults from
      → new ≡ record (with_data (record old { source = from; chunks = record old.chunks { held = room } }) piece) { chunks = record (with_data (record old { source = from; chunks = record old.chunks { held = room } }) piece).chunks { held = new.chunks.held } }
      → held_bytes new ≡ held_after old.came.phase room.bytes piece → idle ≡ idle_in old.came.phase piece → PullsFrame source old new (Ok idle)
  pulls_data old from room new piece idle on gives bytes waits faults is held count =
      (frame.Data piece ∷ [], takes, count ∙ idle_data old.came.phase piece, nears_data old.came.phase new.came.phase idle (held_bytes old) (held_bytes new) piece count held_is)
    where
      held_is : held_bytes new ≡ held_after old.came.phase (held_bytes old) piece
      held_is = held ∙ ap (λ (b : List ℕ). held_after old.came.phase b piece) bytes

      from_is : new.source ≡ from
      from_is = ap (λ (body : AwsChunkedBody F G). body.source) is

      at_is : new.came.phase ≡ old.came.phase
      at_is = ap (λ (body : AwsChunkedBody F G). body.came.phase) is

      gives_new : TakesFrame (frame.Data piece) (source.left old.source) (source.left new.source)
      gives_new = subst (λ (f : F). TakesFrame (frame.Data piece) (source.left old.source) (source.left f)) (sym from_is) gives

      same : (frames : List FramePart) → text_to_come_with new frames ≡ text_to_come_with old (frame.Data piece ∷ frames)
      same frames =
          rest_same (text_to_come_with new frames) (text_to_come_with old (frame.Data piece ∷ frames)) (ap (λ (body : AwsChunkedBody F G). ready_bytes body) is)
          (ap (λ (body : AwsChunkedBody F G). parts_left body.came.phase body.options.chunk_size (held_bytes new) body.came.trailers frames) is
          ∙ ap (λ (b : List ℕ). parts_left old.came.phase old.options.chunk_size b old.came.trailers frames) held_is
          ∙ parts_data old.came.phase old.options.chunk_size (held_bytes old) old.came.trailers piece frames)
          (ap (λ (body : AwsChunkedBody F G). trailers_left body.came.phase body.came.trailers frames) is ∙ trailers_data old.came.phase old.came.trailers piece frames)
          (ap (λ (body : AwsChunkedBody F G). counted (body.came.taken + length (data_left body.came.phase frames))) is ∙ total_data old.came.phase old.came.taken piece frames)

      takes : TakesSourceFrames source (frame.Data piece ∷ []) old new
      takes = record {
        keeps = record {
          rest = frame_taken (text_to_come_with old) (text_to_come_with new) (frame.Data piece) (source.left old.source) (source.left new.source) gives_new same;
          others = is ∙ ap (λ (body : AwsChunkedBody F G). record old { source = body.source; came = body.came; chunks = record old.chunks { held = new.chunks.held } }) (sym is);
          held = held_more old.came.phase (held_bytes old) (held_bytes new) piece held_is;
          waits = subst (λ (f : F). source.waits old.source ≤ source.waits f) (sym from_is) waits;
          faults = subst (λ (f : F). source.faults old.source ≤ source.faults f) (sym from_is) faults;
        };
        taken = left_one (frame.Data piece) (source.left old.source) (source.left new.source) gives_new;
        at = inl (at_is ∙ sym (phase_data old.came.phase piece));
        on = λ closed. is_open old.came.phase on (sym at_is ∙ closed);
      }

  pub pulls_trailers : (old : AwsChunkedBody F G) (from : F) (room : Segments) (new : AwsChunkedBody F G) (trailers : List Trailer) → MayReadOn old
      → TakesFrame (frame.Trailers trailers) (source.left old.source) (source.left from) → room.bytes ≡ held_bytes old
      → source.waits old.source ≤ source.waits from → source.faults old.source ≤ source.faults from
      → new ≡ record old { source = from; chunks = record old.chunks { held = room }; came = record old.came { phase = phase.Trailers; trailers = Some (with_frame old.came.trailers trailers) } }
      → PullsFrame source old new (Ok 1)
  pulls_trailers old from room new trailers on gives bytes waits faults is =
      (frame.Trailers trailers ∷ [], takes, idle_is old.came.phase on, inl (refl, omega (arith, ap length held_is)))
    where
      from_is : new.source ≡ from
      from_is = ap (λ (body : AwsChunkedBody F G). body.source) is

      at_is : new.came.phase ≡ phase.Trailers
      at_is = ap (λ (body : AwsChunkedBody F G). body.came.phase) is

      held_is : held_bytes new ≡ held_bytes old
      held_is = ap (λ (body : AwsChunkedBody F G). held_bytes body) is ∙ bytes

      idle_is : (at : Phase) → (at ≡ phase.Data) ⊎ (at ≡ phase.Trailers) → 1 ≡ idle_frames at (frame.Trailers trailers ∷ [])
      idle_is phase.Data on = refl
      idle_is phase.Trailers on = refl
      idle_is phase.Ended on = refl
      idle_is phase.Closed on = refl

      after_is : (at : Phase) → (at ≡ phase.Data) ⊎ (at ≡ phase.Trailers) → phase.Trailers ≡ phase_after at (frame.Trailers trailers ∷ [])
      after_is phase.Data on = refl
      after_is phase.Trailers on = refl
      after_is phase.Ended (inl is) = cc
      after_is phase.Ended (inr is) = cc
      after_is phase.Closed (inl is) = cc
      after_is phase.Closed (inr is) = cc

      gives_new : TakesFrame (frame.Trailers trailers) (source.left old.source) (source.left new.source)
      gives_new = subst (λ (f : F). TakesFrame (frame.Trailers trailers) (source.left old.source) (source.left f)) (sym from_is) gives

      same : (frames : List FramePart) → text_to_come_with new frames ≡ text_to_come_with old (frame.Trailers trailers ∷ frames)
      same frames =
          rest_same (text_to_come_with new frames) (text_to_come_with old (frame.Trailers trailers ∷ frames)) (ap (λ (body : AwsChunkedBody F G). ready_bytes body) is)
          (ap (λ (body : AwsChunkedBody F G). parts_left body.came.phase body.options.chunk_size (held_bytes body) body.came.trailers frames) is
          ∙ ap (λ (b : List ℕ). parts_left phase.Trailers old.options.chunk_size b (Some (with_frame old.came.trailers trailers)) frames) bytes
          ∙ parts_trailers old.came.phase old.options.chunk_size (held_bytes old) old.came.trailers trailers frames on)
          (ap (λ (body : AwsChunkedBody F G). trailers_left body.came.phase body.came.trailers frames) is ∙ trailers_more old.came.phase old.came.trailers trailers frames on)
          (ap (λ (body : AwsChunkedBody F G). counted (body.came.taken + length (data_left body.came.phase frames))) is ∙ total_trailers old.came.phase old.came.taken trailers frames)

      takes : TakesSourceFrames source (frame.Trailers trailers ∷ []) old new
      takes = record {
        keeps = record {
          rest = frame_taken (text_to_come_with old) (text_to_come_with new) (frame.Trailers trailers) (source.left old.source) (source.left new.source) gives_new same;
          others = is ∙ ap (λ (body : AwsChunkedBody F G). record old { source = body.source; came = body.came; chunks = record old.chunks { held = body.chunks.held } }) (sym is);
          held = omega (arith, ap length held_is);
          waits = subst (λ (f : F). source.waits old.source ≤ source.waits f) (sym from_is) waits;
          faults = subst (λ (f : F). source.faults old.source ≤ source.faults f) (sym from_is) faults;
        };
        taken = left_one (frame.Trailers trailers) (source.left old.source) (source.left new.source) gives_new;
        at = inl (at_is ∙ after_is old.came.phase on);
        on = λ closed. (let no : phase.Trailers ≡ phase.Closed = sym at_is ∙ closed in cc);
      }

  pub pulls_no_trailers : (old : AwsChunkedBody F G) (from : F) (room : Segments) (new : AwsChunkedBody F G) (trailers : List Trailer)
      → TakesFrame (frame.Trailers trailers) (source.left old.source) (source.left from)
      → source.waits old.source ≤ source.waits from → source.faults old.source ≤ source.faults from
      → new ≡ record old { source = from; chunks = record old.chunks { held = room }; came = record old.came { phase = phase.Trailers; trailers = new.came.trailers } }
      → PullsFrame source old new (Err (stop.Fault fault.NoMemory))
  pulls_no_trailers old from room new trailers gives waits faults is = (
    record {
      waits = subst (λ (f : F). source.waits old.source ≤ source.waits f) (sym from_is) waits;
      faults = subst (λ (f : F). source.faults old.source ≤ source.faults f) (sym from_is) faults;
      options = ap (λ (body : AwsChunkedBody F G). body.options) is;
    },
    record {
      frames = frame.Trailers trailers ∷ [];
      taken = left_one (frame.Trailers trailers) (source.left old.source) (source.left new.source)
          (subst (λ (f : F). TakesFrame (frame.Trailers trailers) (source.left old.source) (source.left f)) (sym from_is) gives);
      turns = few old.came.phase;
      goes_on = λ on. (let no : phase.Trailers ≡ phase.Data = sym (ap (λ (body : AwsChunkedBody F G). body.came.phase) is) ∙ on in cc);
    },
  )
    where
      from_is : new.source ≡ from
      from_is = ap (λ (body : AwsChunkedBody F G). body.source) is

      few : (at : Phase) → idle_frames at (frame.Trailers trailers ∷ []) ≤ 1
      few phase.Data = omega arith
      few phase.Trailers = omega arith
      few phase.Ended = omega arith
      few phase.Closed = omega arith

  -- ---- pulls, one after another

  pub record Turned (old now : AwsChunkedBody F G) (idle : ℕ) : Type 0 where
    pub frames : List FramePart
    pub takes : TakesSourceFrames source frames old now
    pub counts : idle_frames old.came.phase frames ≡ idle
    pub within : idle ≤ 65536

  pub turned_none : (body : AwsChunkedBody F G) → IsBodyOpen body → Turned body body 0
  turned_none body may = record {
    frames = [];
    takes = record { keeps = keeps_none body; taken = left_none (source.left body.source); at = inl (sym (phase_none body.came.phase)); on = may };
    counts = idle_none body.came.phase;
    within = omega arith;
  }

  counts_join : (old between : AwsChunkedBody F G) (idle : ℕ) (turned : Turned old between idle) → MayReadOn between → (more : List FramePart)
      → idle_frames old.came.phase (turned.frames ++ more) ≡ idle + idle_frames between.came.phase more
  counts_join old between idle turned on more =
      let at = on_after between.came.phase (phase_after old.came.phase turned.frames) on turned.takes.at in
      idle_more old.came.phase turned.frames more
      ∙ (λ i. turned.counts i + idle_frames (sym at i) more)

  pub turned_more : (old between now : AwsChunkedBody F G) (idle more : ℕ) → Turned old between idle → idle < 65536 → MayReadOn between
      → PullsFrame source between now (Ok more) → Turned old now (idle + more)
  turned_more old between now idle more turned few on pulls =
      let at = on_after between.came.phase (phase_after old.came.phase turned.frames) on turned.takes.at in
      record {
        frames = turned.frames ++ pulls.0;
        takes = record {
          keeps = keeps_more old between now turned.takes.keeps pulls.1.keeps;
          taken = left_more turned.frames pulls.0 (source.left old.source) (source.left between.source) (source.left now.source) turned.takes.taken pulls.1.taken;
          at = by at pulls.1.at;
          on = pulls.1.on;
        };
        counts = counts_join old between idle turned on pulls.0 ∙ ap (λ (n : ℕ). idle + n) (sym pulls.2);
        within = omega (arith, few, few_idle now.came.phase more (held_bytes between) (held_bytes now) pulls.3);
      }
    where
      by : between.came.phase ≡ phase_after old.came.phase turned.frames → (now.came.phase ≡ phase_after between.came.phase pulls.0) ⊎ (now.came.phase ≡ phase.Ended)
          → (now.came.phase ≡ phase_after old.came.phase (turned.frames ++ pulls.0)) ⊎ (now.came.phase ≡ phase.Ended)
      by at (inl is) = inl (is ∙ ap (λ (p : Phase). phase_after p pulls.0) at ∙ sym (phase_more old.came.phase turned.frames pulls.0))
      by at (inr ended) = inr ended

  turns_more : (P Q : ℕ → Type 0) (old between now : AwsChunkedBody F G) (idle : ℕ) → Turned old between idle → MayReadOn between → TakesIdleFrames source P between now
      → ((count : ℕ) → P count → Q (idle + count)) → TakesIdleFrames source Q old now
  turns_more P Q old between now idle turned on turns is = record {
    frames = turned.frames ++ turns.frames;
    taken = left_more turned.frames turns.frames (source.left old.source) (source.left between.source) (source.left now.source) turned.takes.taken turns.taken;
    turns = subst Q (sym (counts_join old between idle turned on turns.frames)) (is (idle_frames between.came.phase turns.frames) turns.turns);
    goes_on = λ begun.
        phase_more old.came.phase turned.frames turns.frames
        ∙ ap (λ (p : Phase). phase_after p turns.frames) (sym (on_after between.came.phase (phase_after old.came.phase turned.frames) on turned.takes.at)) ∙ turns.goes_on begun;
  }

  turns_now : (Q : ℕ → Type 0) (old now : AwsChunkedBody F G) (idle : ℕ) → Turned old now idle → Q idle → TakesIdleFrames source Q old now
  turns_now Q old now idle turned is =
      record { frames = turned.frames; taken = turned.takes.taken; turns = subst Q (sym turned.counts) is; goes_on = λ on. by turned.takes.at on }
    where
      by : (now.came.phase ≡ phase_after old.came.phase turned.frames) ⊎ (now.came.phase ≡ phase.Ended) → now.came.phase ≡ phase.Data
          → phase_after old.came.phase turned.frames ≡ phase.Data
      by (inl at) on = sym at ∙ on
      by (inr ends) on = absurd (let no : phase.Ended ≡ phase.Data = sym ends ∙ on in cc)

  pub gathers_lacks : (old now : AwsChunkedBody F G) (idle : ℕ) (error : AwsChunkedBodyError) → Turned old now idle → idle < 65536 → TestsPart now (Err error)
      → Gathers source old now (Err (stop.Fault error))
  gathers_lacks old now idle error turned few tests =
      subst (λ (e : AwsChunkedBodyError). Gathers source old now (Err (stop.Fault e))) (sym tests.0.0) (
        counts_of old now turned.takes.keeps,
        (
          refl,
          refl,
          tests.0.1,
          subst (λ (rest : Option TextLeft). IfSome (option_map (λ (r : TextLeft). r.total) rest) (λ (total : ℕ). total ≡ counted now.came.taken)) turned.takes.keeps.rest
              (if_total (text_to_come_with now) (source.left now.source) (λ (total : ℕ). total ≡ counted now.came.taken)
              (λ (frames : List FramePart). ended_total now.came.phase now.came.taken frames tests.2)),
          none_of (held_bytes old) (omega (arith, turned.takes.keeps.held, ap length tests.1)),
          subst (λ (rest : Option TextLeft). IfSome (option_map (λ (r : TextLeft). r.parts) rest) OnlyEnd) turned.takes.keeps.rest
              (if_parts (text_to_come_with now) (source.left now.source) OnlyEnd
              (λ (frames : List FramePart). end_left now.came.phase now.options.chunk_size (held_bytes now) now.came.trailers frames tests.2 tests.1)),
        ),
        turns_now (λ (count : ℕ). count < 65536) old now idle turned few,
      )
    where
      none_of : (bytes : List ℕ) → length bytes ≤ 0 → bytes ≡ []
      none_of [] low = refl
      none_of (byte ∷ bytes) low = absurd (omega (arith, low))

  pub gathers_stops : (old between now : AwsChunkedBody F G) (idle : ℕ) (why : Stop) → Turned old between idle → idle < 65536 → MayReadOn between
      → PullsFrame source between now (Err why) → Gathers source old now (Err why)
  gathers_stops old between now idle stop.NotYet turned few on pulls = (
    counts_more old between now (counts_of old between turned.takes.keeps) pulls.0,
    (
      keeps_more old between now turned.takes.keeps pulls.1.0,
      (
        rose_before (source.waits old.source) (source.waits between.source) (source.waits now.source) turned.takes.keeps.waits pulls.1.1.0,
        pulls.1.1.1,
        pulls.1.1.2,
      ),
    ),
    turns_more (λ (count : ℕ). count ≡ 0) (λ (count : ℕ). count < 65536) old between now idle turned on pulls.2 (λ count none. omega (arith, few, none)),
  )
  gathers_stops old between now idle stop.OutOfTurns turned few on pulls = absurd pulls
  gathers_stops old between now idle (stop.Fault (fault.StreamLengthMismatch actual expected)) turned few on pulls = absurd pulls
  gathers_stops old between now idle (stop.Fault (fault.ReportedTrailerLengthMismatch actual expected)) turned few on pulls = absurd pulls.1
  gathers_stops old between now idle (stop.Fault (fault.FailedToSign why)) turned few on pulls = absurd pulls.1
  gathers_stops old between now idle (stop.Fault fault.SourceFault) turned few on pulls = (
    counts_more old between now (counts_of old between turned.takes.keeps) pulls.0,
    rose_before (source.faults old.source) (source.faults between.source) (source.faults now.source) turned.takes.keeps.faults pulls.1,
    turns_more (λ (count : ℕ). count ≡ 0) (λ (count : ℕ). count < 65536) old between now idle turned on pulls.2 (λ count none. omega (arith, few, none)),
  )
  gathers_stops old between now idle (stop.Fault fault.NoMemory) turned few on pulls = (
    counts_more old between now (counts_of old between turned.takes.keeps) pulls.0,
    tt,
    turns_more (λ (count : ℕ). count ≤ 1) (λ (count : ℕ). count ≤ 65536) old between now idle turned on pulls.1 (λ count one. omega (arith, few, one)),
  )
