-- A body in memory gives its text, and has no fault.
use Rattle.std.proofs.Common.{◌≡◌, ℕ, ◌+◌, ◌≤◌, inl, inr, true, false, List, [], ◌∷◌, ◌++◌, length, map, Option, None, Some, refl, ap, sym, subst, ◌∙◌, append-nil, arith}
use Rattle.std.specs.Prelude.{Bool, Err, Ok, IfSome, String, option_map}
use Rattle.std.specs.List.{AllByRecursion}
use Rattle.std.specs.Option.{option_or}
use Rattle.std.specs.declared.alloc.Global.{Global}
use Rattle.std.proofs.Math.Dec.{eqb}
use Rattle.std.proofs.lemmas.Bool.{eqb-true}
use Rattle.std.proofs.lemmas.List.{length-append}
use Rattle.smithy_core.specs.Civil.{is_in_years}
use Rattle.smithy_core.specs.Moment.{Instant}
use Rattle.smithy_core.specs.declared.outside.frame_part.FramePart.{FramePart}
use Rattle.smithy_core.specs.declared.outside.frame_part.FramePart.TheVariants as frame
use Rattle.smithy_core.specs.declared.outside.frame_source.FrameSource as FrameSource
use Rattle.eventstream.specs.Key.{Signer}
use Rattle.sigv4.specs.ChunkTold.{ChunkTold, SignsNext, signs_over, untold, unwired}
use Rattle.sigv4.specs.declared.error.SigningError.{SigningError}
use Rattle.sigv4.specs.declared.error.SigningError.TheVariants as signing
use Rattle.aws_chunked.specs.Announcement.{unannounced, unless_enabled, unless_fitting, unless_same}
use Rattle.aws_chunked.specs.declared.announcement.AnnounceFault.{AnnounceFault}
use Rattle.aws_chunked.specs.declared.announcement.AnnounceFault.TheVariants.{TrailerLengths}
use Rattle.aws_chunked.specs.Error.{signing_error}
use Rattle.aws_chunked.specs.Signing.{ChunkAnswers, FailsPart, SignsWhereSigned, TrailerAnswers, has_signature}
use Rattle.aws_chunked.specs.declared.error.AwsChunkedBodyError.{AwsChunkedBodyError}
use Rattle.aws_chunked.specs.declared.error.AwsChunkedBodyError.TheVariants.{FailedToSign, NoMemory}
use Rattle.sigv4.specs.declared.chunk_signer.SignChunk as SignChunk
use Rattle.aws_chunked.specs.Body.{AnswersFrame, AreTurns, HasCause, IsBodyClosed, IsNothing, TextLeft, TakesDue, TakesText, TakesIdleFrames, Trailer, actual_length, parts_due, ready_bytes, text_to_come_with, body_source, total_of, with_ready}
use Rattle.aws_chunked.specs.Due.{due, text_due, told_of_chunks, writing}
use Rattle.aws_chunked.specs.Options.{Options, counted, declared_length, encoded_length}
use Rattle.aws_chunked.specs.Text.{Part, chunk, pieces_of_size, parts_of, tail}
use Rattle.aws_chunked.specs.declared.body.AwsChunkedBody.{AwsChunkedBody}
use Rattle.aws_chunked.specs.declared.body.ChunkNext.TheVariants as next
use Rattle.aws_chunked.proofs.DueLemmas.{closed_due, parts_same}
use Rattle.aws_chunked.specs.SoundBody.{EndsWith, GivesNextText, IsSoundBodyOf, IsSoundBody, text_left, text_or_none}

-- ---- what is told of a signer

-- it signs over a signature, at a moment in the years 0 to 9999
abbrev pub Wired : ChunkTold → Type 0
Wired (signs_over before who t) = is_in_years t ≡ true
Wired unwired = ⊥
Wired untold = ⊥

-- a signer of which a text is due is so
wired_by : (told : ChunkTold) (ready : List ℕ) (parts : Option (List Part)) (text : List ℕ) → text_due (writing true told) ready parts ≡ Some text → Wired told
wired_by (signs_over before who t) ready parts text is = by (is_in_years t) refl
  where
    by : (in_years : Bool) → is_in_years t ≡ in_years → is_in_years t ≡ true
    by true years = years
    by false years = absurd (let no : ◌≡◌ {A = Option (List ℕ)} None (Some text) = rw years at is in cc)
wired_by unwired ready parts text is = absurd (let no : ◌≡◌ {A = Option (List ℕ)} None (Some text) = is in cc)
wired_by untold ready parts text is = absurd (let no : ◌≡◌ {A = Option (List ℕ)} None (Some text) = is in cc)

-- it refuses only where memory ran out
refuses_for_memory : (told after : ChunkTold) (next : Signer → Instant → List ℕ → List ℕ) (why : SigningError) → Wired told → SignsNext next told (Err why) after → why ≡ signing.NoMemory
refuses_for_memory (signs_over before who t) after next why years (inl late, now) = absurd (let no : ◌≡◌ {A = Option SigningError} None (Some why) = rw years at late in cc)
refuses_for_memory (signs_over before who t) after next why years (inr memory, now) = memory
refuses_for_memory unwired after next why wired signs = absurd wired
refuses_for_memory untold after next why wired signs = absurd wired

-- and goes on so
stays_wired : (told after : ChunkTold) (next : Signer → Instant → List ℕ → List ℕ) (answer : String Global) → Wired told → SignsNext next told (Ok answer) after → Wired after
stays_wired (signs_over before who t) after next answer years (passed, same, now) = subst Wired (sym now) years
stays_wired unwired after next answer wired signs = absurd wired
stays_wired untold after next answer wired signs = absurd wired

-- no signing that failed for want of memory is another refusal
not_for_memory : (why failed : SigningError) → why ≡ signing.NoMemory → FailedToSign failed ≡ signing_error why → ⊥
not_for_memory why failed memory is = let no : ◌≡◌ {A = AwsChunkedBodyError} (FailedToSign failed) NoMemory = rw memory at is in cc

-- ---- declared lengths

-- of a body that is announced the trailers are as long as declared
pub as_declared : (options : Options) (trailers : List Trailer) → unannounced options trailers ≡ None
    → counted (actual_length options.is_signed trailers) ≡ counted (declared_length options.trailer_lengths)
unfolding unannounced
as_declared options trailers none =
    same (counted (actual_length options.is_signed trailers)) (counted (declared_length options.trailer_lengths)) (first (unless_same (counted (actual_length
    options.is_signed trailers)) (counted (declared_length options.trailer_lengths))) (unless_fitting (encoded_length options)) (later (unless_enabled
    options.disabled) (option_or (unless_same (counted (actual_length options.is_signed trailers)) (counted (declared_length options.trailer_lengths)))
    (unless_fitting (encoded_length options))) none))
  where
    first : (a b : Option AnnounceFault) → option_or a b ≡ None → a ≡ None
    first None b is = refl
    first (Some fault) b is = absurd (let no : ◌≡◌ {A = Option AnnounceFault} (Some fault) None = is in cc)

    later : (a b : Option AnnounceFault) → option_or a b ≡ None → b ≡ None
    later None b is = is
    later (Some fault) b is = absurd (let no : ◌≡◌ {A = Option AnnounceFault} (Some fault) None = is in cc)

    same : (m n : ℕ) → unless_same m n ≡ None → m ≡ n
    same m n fine = by (eqb m n) refl
      where
        by : (b : Bool) → eqb m n ≡ b → m ≡ n
        by true is = eqb-true m n is
        by false is = absurd (let no : ◌≡◌ {A = Option AnnounceFault} (Some (TrailerLengths m n)) None = rw is at fine in cc)

-- ---- parts

-- the parts of a text have its trailers
pub parts_with : (trailers : List Trailer) (pieces : List (List ℕ)) → AllByRecursion (EndsWith trailers) (map chunk pieces ++ tail trailers ∷ [])
parts_with trailers [] = (refl, tt)
parts_with trailers (piece ∷ pieces) = (tt, parts_with trailers pieces)

module _ {F G : Type 0} (source : FrameSource.Ghosts F) (signer : SignChunk.Ghosts G) where
  -- ---- a new body

  -- a body of data and trailers of the declared lengths, of which this text is due
  pub new_sound : (options : Options) (bytes : List ℕ) (trailers : List Trailer) (text : List ℕ) (body : AwsChunkedBody F G)
      → body.options ≡ options → source.left (body_source body) ≡ Some (frame.Data bytes ∷ frame.Trailers trailers ∷ []) → due source signer body ≡ Some text
      → parts_due source body ≡ Some (parts_of options.chunk_size (bytes ++ []) trailers) → total_of source body ≡ Some (counted (length (bytes ++ [])))
      → counted (actual_length options.is_signed trailers) ≡ counted (declared_length options.trailer_lengths) → options.stream_length ≡ length bytes
      → length bytes ≤ 4294967295 → IsSoundBodyOf source signer text body
  new_sound options bytes trailers text body encoded left text_is parts total declared long short = (is, ap text_or_none text_is)
    where
      all : bytes ++ [] ≡ bytes
      all = append-nil bytes

      is : IsSoundBody source signer body
      is = record {
        text = text;
        text_is = text_is;
        trailers = trailers;
        declared = subst (λ (o : Options). counted (actual_length o.is_signed trailers) ≡ counted (declared_length o.trailer_lengths)) (sym encoded) declared;
        short = omega (arith, ap (λ (o : Options). o.stream_length) encoded, long, short);
        total = total ∙ ap Some (omega (arith, ap length all, ap (λ (o : Options). o.stream_length) encoded, long, short));
        parts = parts_of options.chunk_size (bytes ++ []) trailers;
        parts_are = parts;
        with_trailers = parts_with trailers (pieces_of_size options.chunk_size (bytes ++ []));
        frames = frame.Data bytes ∷ frame.Trailers trailers ∷ [];
        frames_are = left;
        few = omega arith;
      }

  -- ---- a call

  totals_same : (body : AwsChunkedBody F G) (ready : List ℕ) → total_of source (with_ready ready body) ≡ total_of source body
  totals_same body ready = by (source.left body.source)
    where
      by : (left : Option (List FramePart)) → option_map (λ (rest : TextLeft). rest.total) (option_map (text_to_come_with (with_ready ready body)) left)
          ≡ option_map (λ (rest : TextLeft). rest.total) (option_map (text_to_come_with body) left)
      by None = refl
      by (Some frames) = refl

  total_stays : (old new : AwsChunkedBody F G) (bytes : List ℕ) → AnswersFrame source signer old new (Ok (next.Frame bytes)) → total_of source new ≡ total_of source old
  total_stays old new bytes (text, is, inl (same, others)) =
      ap (λ (body : AwsChunkedBody F G). total_of source body) others ∙ totals_same old (ready_bytes new)
  total_stays old new bytes (text, is, inr (none, first)) = first.total

  -- the parts that are left after a call
  record Parts (trailers : List Trailer) (body : AwsChunkedBody F G) : Type 0 where
    parts : List Part
    are : parts_due source body ≡ Some parts
    with_trailers : AllByRecursion (EndsWith trailers) parts

  parts_stay : (trailers : List Trailer) (old new : AwsChunkedBody F G) (bytes : List ℕ) → AnswersFrame source signer old new (Ok (next.Frame bytes)) → Parts trailers old → Parts trailers new
  parts_stay trailers old new bytes (text, is, inl (same, others)) left = record {
    parts = left.parts;
    are = ap (λ (body : AwsChunkedBody F G). parts_due source body) others ∙ parts_same source signer old (ready_bytes new) ∙ left.are;
    with_trailers = left.with_trailers;
  }
  parts_stay trailers old new bytes (text, is, inr (none, first)) left = by (parts_due source new) refl
    where
      by : (now : Option (List Part)) → parts_due source new ≡ now → Parts trailers new
      by None now_is = absurd
          (let no : ◌≡◌ {A = Option (List Part)} (Some left.parts) None =
          sym left.are ∙ first.parts ∙ ap (option_map (λ (rest : List Part). first.part ∷ rest)) now_is in cc)
      by (Some rest) now_is =
          let all : ◌≡◌ {A = Option (List Part)} (Some left.parts) (Some (first.part ∷ rest)) =
          sym left.are ∙ first.parts ∙ ap (option_map (λ (others : List Part). first.part ∷ others)) now_is in
          record {
            parts = rest;
            are = now_is;
            with_trailers = (subst (λ (parts : Option (List Part)). IfSome parts (AllByRecursion (EndsWith trailers))) all left.with_trailers).1;
          }

  -- the frames that are left
  record Few (body : AwsChunkedBody F G) : Type 0 where
    frames : List FramePart
    are : source.left (body_source body) ≡ Some frames
    few : length frames ≤ 2

  few_stay : (P : ℕ → Type 0) (old new : AwsChunkedBody F G) → TakesIdleFrames source P old new → Few old → Few new
  few_stay P old new turns left = by (source.left new.source) refl
    where
      by : (now : Option (List FramePart)) → source.left new.source ≡ now → Few new
      by None now_is = absurd
          (let no : ◌≡◌ {A = Option (List FramePart)} (Some left.frames) None =
          sym left.are ∙ turns.taken ∙ ap (option_map (λ (rest : List FramePart). turns.frames ++ rest)) now_is in cc)
      by (Some rest) now_is =
          let all : ◌≡◌ {A = Option (List FramePart)} (Some left.frames) (Some (turns.frames ++ rest)) =
          sym left.are ∙ turns.taken ∙ ap (option_map (λ (others : List FramePart). turns.frames ++ others)) now_is in
          let few : length (turns.frames ++ rest) ≤ 2 = subst (λ (frames : Option (List FramePart)). IfSome frames (λ (fs : List FramePart). length fs ≤ 2)) all left.few in
          record { frames = rest; are = now_is; few = omega (arith, few, length-append turns.frames rest) }

  -- a sound body stays so, and gives the next bytes of its text
  pub sound_next : (old new : AwsChunkedBody F G) (bytes : List ℕ) → IsSoundBody source signer old
      → TakesDue (due source signer old) (due source signer new) (Ok (next.Frame bytes)) → AnswersFrame source signer old new (Ok (next.Frame bytes))
      → HasCause source signer old new (Ok (next.Frame bytes)) → TakesIdleFrames source (AreTurns (Ok (next.Frame bytes))) old new
      → GivesNextText source signer old new bytes
  sound_next old new bytes sound takes answers cause turns =
      by (due source signer new) refl (subst (λ (before : Option (List ℕ)). TakesText bytes before (due source signer new)) sound.text_is takes.0)
    where
      options : new.options ≡ old.options
      options = cause.0.options

      parts : Parts sound.trailers new
      parts = parts_stay sound.trailers old new bytes answers (record { parts = sound.parts; are = sound.parts_are; with_trailers = sound.with_trailers })

      frames : Few new
      frames = few_stay (AreTurns (Ok (next.Frame bytes))) old new turns (record { frames = sound.frames; are = sound.frames_are; few = sound.few })

      by : (now : Option (List ℕ)) → due source signer new ≡ now → TakesText bytes (Some sound.text) now → GivesNextText source signer old new bytes
      by None now_is taken = absurd taken
      by (Some rest) now_is taken = (
        record {
          text = rest;
          text_is = now_is;
          trailers = sound.trailers;
          declared = subst (λ (o : Options). counted (actual_length o.is_signed sound.trailers) ≡ counted (declared_length o.trailer_lengths)) (sym options) sound.declared;
          short = omega (arith, sound.short, ap (λ (o : Options). o.stream_length) options);
          total = total_stays old new bytes answers ∙ sound.total ∙ ap (λ (o : Options). Some o.stream_length) (sym options);
          parts = parts.parts;
          parts_are = parts.are;
          with_trailers = parts.with_trailers;
          frames = frames.frames;
          frames_are = frames.are;
          few = frames.few;
        },
        ap text_or_none sound.text_is ∙ taken ∙ sym (ap (λ (left : Option (List ℕ)). bytes ++ text_or_none left) now_is),
        takes.1,
      )

  -- nothing is left of a body that is closed
  pub closed_left : (body : AwsChunkedBody F G) → IsBodyClosed body → text_left source signer body ≡ []
  closed_left body closed = by (due source signer body) (closed_due source signer body closed)
    where
      by : (left : Option (List ℕ)) → IsNothing left → text_or_none left ≡ []
      by None nothing = refl
      by (Some text) nothing = nothing

  -- ---- faults

  -- the signer that a sound body holds, where it is signed
  sound_wired : (body : AwsChunkedBody F G) → IsSoundBody source signer body → body.options.is_signed ≡ true → Wired (told_of_chunks signer body.chunks.signer)
  unfolding due
  sound_wired body sound signed =
      wired_by (told_of_chunks signer body.chunks.signer) (ready_bytes body) (parts_due source body) sound.text
      (subst (λ (is_signed : Bool). text_due (writing is_signed (told_of_chunks signer body.chunks.signer)) (ready_bytes body) (parts_due source body) ≡ Some sound.text)
      signed sound.text_is)

  -- a wired signer refuses no chunk but where memory ran out
  chunk_signed : (held new : Option G) (piece : List ℕ) (why : SigningError) → Wired (told_of_chunks signer held)
      → SignsWhereSigned (ChunkAnswers signer piece) true held (Err (FailedToSign why)) new → ⊥
  chunk_signed None new piece why wired fails = wired
  chunk_signed (Some held) new piece why wired (after, failed, (signs, told), is, now) =
      not_for_memory failed why (refuses_for_memory (signer.told held) (signer.told after) _ failed wired told) is

  trailers_signed : (is_signed : Bool) (held new : Option G) (trailers : List Trailer) (why : SigningError) → Wired (told_of_chunks signer held)
      → SignsWhereSigned (TrailerAnswers signer trailers) is_signed held (Err (FailedToSign why)) new → ⊥
  trailers_signed false held new trailers why wired fails = fails
  trailers_signed true None new trailers why wired fails = wired
  trailers_signed true (Some held) new trailers why wired (after, failed, (signs, told), is, now) =
      not_for_memory failed why (refuses_for_memory (signer.told held) (signer.told after) _ failed wired told) is

  goes_on_wired : (held new : Option G) (piece : List ℕ) (signature : Option (String Global)) → Wired (told_of_chunks signer held)
      → SignsWhereSigned (ChunkAnswers signer piece) true held (Ok signature) new → Wired (told_of_chunks signer new)
  goes_on_wired None new piece signature wired signs = absurd wired
  goes_on_wired (Some held) new piece signature wired (after, answer, (signs, told), is, now) =
      subst (λ (holds : Option G). Wired (told_of_chunks signer holds)) (sym now) (stays_wired (signer.told held) (signer.told after) _ answer wired told)

  part_signed : (part : Part) (held new : Option G) (why : SigningError) → Wired (told_of_chunks signer held)
      → FailsPart signer true part held (FailedToSign why) new → ⊥
  part_signed (chunk piece) held new why wired fails = chunk_signed held new piece why wired fails
  part_signed (tail trailers) held new why wired (inl fails) = chunk_signed held new [] why wired fails
  part_signed (tail trailers) held new why wired (inr (signature, between, signs, fails)) =
      trailers_signed (has_signature true trailers) between new trailers why (goes_on_wired held between [] signature wired signs) fails

  -- a body that isn't signed has no part to sign
  part_passed : (is_signed : Bool) (part : Part) (held new : Option G) (why : SigningError) → (is_signed ≡ true → Wired (told_of_chunks signer held))
      → FailsPart signer is_signed part held (FailedToSign why) new → ⊥
  part_passed true part held new why wired fails = part_signed part held new why (wired refl) fails
  part_passed false (chunk piece) held new why wired fails = fails
  part_passed false (tail trailers) held new why wired (inl fails) = fails
  part_passed false (tail []) held new why wired (inr (signature, between, signs, fails)) = fails
  part_passed false (tail (trailer ∷ trailers)) held new why wired (inr (signature, between, signs, fails)) = fails

  -- so a sound body is made to its end
  pub signs_all : (old new : AwsChunkedBody F G) (why : SigningError) → IsSoundBody source signer old → HasCause source signer old new (Err (FailedToSign why)) → ⊥
  signs_all old new why sound cause =
      part_passed old.options.is_signed cause.1.0 old.chunks.signer new.chunks.signer why (sound_wired old sound) cause.1.1
