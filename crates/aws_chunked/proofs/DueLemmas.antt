-- Each call takes the front of what is due.
use Rattle.std.proofs.Common.{◌≡◌, ℕ, ◌⊎◌, inl, inr, Bool, true, false, List, [], ◌∷◌, ◌++◌, map, Option, None, Some, refl, ap, sym, subst, ◌∙◌, append-nil, append_assoc}
use Rattle.std.specs.Prelude.{Result, Ok, String, string_bytes, option_map, if◌then◌else◌}
use Rattle.std.specs.declared.alloc.Global.{Global}
use Rattle.smithy_core.specs.Civil.{is_in_years}
use Rattle.smithy_core.specs.Moment.{Instant}
use Rattle.smithy_core.specs.declared.outside.frame_part.FramePart.{FramePart}
use Rattle.smithy_core.specs.declared.outside.frame_source.FrameSource as FrameSource
use Rattle.eventstream.specs.Key.{Signer}
use Rattle.sigv4.specs.Chunk.{chunk_signature, trailer_signature}
use Rattle.sigv4.specs.ChunkTold.{ChunkTold, SignsNext, signs_over, untold, unsigned_chunk_at, unwired}
use Rattle.sigv4.specs.declared.chunk_signer.SignChunk as SignChunk
use Rattle.sigv4.specs.declared.error.SigningError.{SigningError}
use Rattle.sigv4.specs.declared.error.SigningError.TheVariants.{MomentOutOfRange}
use Rattle.aws_chunked.specs.Body.{AnswersFrame, IsBodyClosed, IsNewBody, IsNothing, KeepsText, MakesFirst, TextLeft, TakesText, Trailer, data_before, held_bytes, listed, parts_due, parts_left, ready_bytes, text_to_come_with, trailers_from}
use Rattle.aws_chunked.specs.Options.{Options}
use Rattle.aws_chunked.specs.Due.{StartsSigned, due, signed_chunked_text, signed_chunks, text_due, told_of_chunks, trailers_signature, writing}
use Rattle.aws_chunked.specs.Signing.{Answering, ChunkAnswers, MakesPart, SignsWhereSigned, TrailerAnswers, has_signature}
use Rattle.aws_chunked.specs.Text.{Part, chunk, chunk_text, chunked_text, part_text, parts_of, parts_text, tail, tail_text}
use Rattle.aws_chunked.specs.declared.body.AwsChunkedBody.{AwsChunkedBody}
use Rattle.aws_chunked.specs.declared.body.ChunkNext.TheVariants as next
use Rattle.aws_chunked.specs.declared.phase.Phase.{Phase}
use Rattle.aws_chunked.specs.declared.phase.Phase.TheVariants as phase
use Rattle.aws_chunked.proofs.NewLemmas.{new_parts}

-- ---- a signature that was made

-- what is told of a signer that made this signature, before and after
Seals : (Signer → Instant → List ℕ → List ℕ) → ChunkTold → Option (List ℕ) → ChunkTold → Type 0
Seals next (signs_over before who t) signature now =
    (is_in_years t ≡ true) × (signature ≡ Some (next who t before)) × (now ≡ signs_over (next who t before) who t)
Seals next unwired signature now = ⊥
Seals next untold signature now = now ≡ untold

in_years : (t : Instant) → unsigned_chunk_at t ≡ None → is_in_years t ≡ true
in_years t none = by (is_in_years t) none
  where
    by : (b : Bool) → (if b then None else Some (MomentOutOfRange t)) ≡ None → b ≡ true
    by true none = refl
    by false none = (let no : ◌≡◌ {A = Option SigningError} (Some (MomentOutOfRange t)) None = none in cc)

seals_next : (next : Signer → Instant → List ℕ → List ℕ) (told : ChunkTold) (answer : String Global) (now : ChunkTold)
    → SignsNext next told (Ok answer) now → Seals next told (Some (string_bytes answer)) now
unfolding Seals
seals_next next (signs_over before who t) answer now signs = (in_years t signs.0, ap Some signs.1, signs.2)
seals_next next unwired answer now signs = absurd signs
seals_next next untold answer now signs = signs

seals_part : {G : Type 0} (signer : SignChunk.Ghosts G) (next : Signer → Instant → List ℕ → List ℕ) (answers : Answering G)
    (old new : Option G) (signature : Option (String Global))
    → ((before : G) (result : Result (String Global) SigningError) (after : G) → answers before result after
    → SignsNext next (signer.told before) result (signer.told after))
    → SignsWhereSigned answers true old (Ok signature) new → Seals next (told_of_chunks signer old) (option_map string_bytes signature) (told_of_chunks signer new)
seals_part signer next answers None new signature tells signs = absurd signs
seals_part signer next answers (Some old) new signature tells signs =
    subst (λ (now : Option _). Seals next (signer.told old) (option_map string_bytes signature) (told_of_chunks signer now)) (sym signs.4)
    (subst (λ (made : Option (String Global)). Seals next (signer.told old) (option_map string_bytes made) (signer.told signs.0)) (sym signs.3)
    (seals_next next (signer.told old) signs.1 (signer.told signs.0) (tells old (Ok signs.1) signs.0 signs.2)))

-- the same of the trailers, where there are some
SealsTrailers : List Trailer → ChunkTold → Option (List ℕ) → ChunkTold → Type 0
SealsTrailers [] told signature now = (signature ≡ None) × (now ≡ told)
SealsTrailers (trailer ∷ trailers) told signature now = Seals (trailer_signature (trailer ∷ trailers)) told signature now

seals_trailers : {G : Type 0} (signer : SignChunk.Ghosts G) (trailers : List Trailer) (old new : Option G) (signature : Option (String Global))
    → SignsWhereSigned (TrailerAnswers signer trailers) (has_signature true trailers) old (Ok signature) new
    → SealsTrailers trailers (told_of_chunks signer old) (option_map string_bytes signature) (told_of_chunks signer new)
unfolding SealsTrailers
seals_trailers signer [] old new signature signs = (ap (option_map string_bytes) signs.0, ap (told_of_chunks signer) signs.1)
seals_trailers signer (trailer ∷ trailers) old new signature signs =
    seals_part signer (trailer_signature (trailer ∷ trailers)) (TrailerAnswers signer (trailer ∷ trailers)) old new signature
    (λ before result after is. is.1) signs

-- it is over the signature of the empty chunk, and the signer goes on
closes_over : (zero : List ℕ) (who : Signer) (t : Instant) (trailers : List Trailer) (signature : Option (List ℕ)) (now : ChunkTold)
    → SealsTrailers trailers (signs_over zero who t) signature now
    → (signature ≡ trailers_signature who t zero trailers) × ((last : List ℕ) × (now ≡ signs_over last who t))
unfolding SealsTrailers Seals
closes_over zero who t [] signature now seals = (seals.0, (zero, seals.1))
closes_over zero who t (trailer ∷ trailers) signature now seals = (seals.1, (trailer_signature (trailer ∷ trailers) who t zero, seals.2))

closes_untold : (trailers : List Trailer) (signature : Option (List ℕ)) (now : ChunkTold) → SealsTrailers trailers untold signature now → now ≡ untold
unfolding SealsTrailers Seals
closes_untold [] signature now seals = seals.1
closes_untold (trailer ∷ trailers) signature now seals = seals

-- ---- nothing stands behind the end

EndsAt : Part → List Part → Type 0
EndsAt (chunk piece) rest = Unit {0}
EndsAt (tail trailers) rest = rest ≡ []

ends_at : (pieces : List (List ℕ)) (trailers : List Trailer) (part : Part) (rest : List Part) → map chunk pieces ++ tail trailers ∷ [] ≡ part ∷ rest → EndsAt part rest
unfolding EndsAt
ends_at pieces trailers (chunk piece) rest is = tt
ends_at [] trailers (tail last) rest is = (let all : ◌≡◌ {A = List Part} (tail trailers ∷ []) (tail last ∷ rest) = is in cc)
ends_at (piece ∷ pieces) trailers (tail last) rest is =
    (let no : ◌≡◌ {A = List Part} (chunk piece ∷ (map chunk pieces ++ tail trailers ∷ [])) (tail last ∷ rest) = is in cc)

left_ends : (at : Phase) (size : ℕ) (held : List ℕ) (kept : Option (List Trailer)) (frames : List FramePart) (part : Part) (rest : List Part)
    → parts_left at size held kept frames ≡ part ∷ rest → EndsAt part rest
left_ends phase.Data size held kept frames part rest is = ends_at _ _ part rest is
left_ends phase.Trailers size held kept frames part rest is = ends_at _ _ part rest is
left_ends phase.Ended size held kept frames part rest is = ends_at _ _ part rest is
left_ends phase.Closed size held kept frames part rest is = (let no : ◌≡◌ {A = List Part} [] (part ∷ rest) = is in cc)

due_ends : (before : List FramePart → TextLeft) (part : Part) (left : Option (List FramePart)) (now : Option (List Part))
    → ((frames : List FramePart) (rest : List Part) → (before frames).parts ≡ part ∷ rest → EndsAt part rest)
    → option_map (λ (rest : TextLeft). rest.parts) (option_map before left) ≡ option_map (λ (rest : List Part). part ∷ rest) now
    → (rest : List Part) → now ≡ Some rest → EndsAt part rest
due_ends before part None now each is rest some = (let no : ◌≡◌ {A = Option (List Part)} None (Some (part ∷ rest)) = is ∙ ap (option_map (λ (others : List Part). part ∷ others)) some in cc)
due_ends before part (Some frames) now each is rest some =
    (let all : ◌≡◌ {A = Option (List Part)} (Some (before frames).parts) (Some (part ∷ rest)) = is ∙ ap (option_map (λ (others : List Part). part ∷ others)) some in
    each frames rest cc)

-- ---- the text of a part

-- the text of the first part is the front of what is due
step : (before_of now_of : List Part → List ℕ) (part : Part) (text bytes ready : List ℕ) (before after : Option (List Part)) → text ≡ bytes ++ ready
    → before ≡ option_map (λ (rest : List Part). part ∷ rest) after → ((rest : List Part) → after ≡ Some rest → before_of (part ∷ rest) ≡ text ++ now_of rest)
    → TakesText bytes (text_due (Some before_of) [] before) (text_due (Some now_of) ready after)
step before_of now_of part text bytes ready before None same parts text_is = rw parts refl
step before_of now_of part text bytes ready before (Some rest) same parts text_is =
    rw parts (text_is rest refl ∙ ap (λ (front : List ℕ). front ++ now_of rest) same ∙ append_assoc bytes ready (now_of rest))

-- an unsigned part has no signature
unsigned_none : {G : Type 0} (answers : Answering G) (old new : Option G) (signature : Option (String Global))
    → SignsWhereSigned answers false old (Ok signature) new → option_map string_bytes signature ≡ None
unsigned_none answers old new signature signs = ap (option_map string_bytes) signs.0

unsigned_text : {G : Type 0} (signer : SignChunk.Ghosts G) (part : Part) (old new : Option G) (text : List ℕ) → MakesPart signer false part old text new → text ≡ part_text part
unsigned_text signer (chunk piece) old new text made =
    made.2 ∙ ap (λ (o : Option (List ℕ)). chunk_text o piece) (unsigned_none (ChunkAnswers signer piece) old new made.0 made.1)
unsigned_text signer (tail trailers) old new text made =
    made.5 ∙ (λ i. tail_text (unsigned_none (ChunkAnswers signer []) old made.1 made.0 made.3 i) trailers (last trailers made.4 i))
  where
    last : (all : List Trailer) → SignsWhereSigned (TrailerAnswers signer all) (has_signature false all) made.1 (Ok made.2) new → option_map string_bytes made.2 ≡ None
    last [] signs = unsigned_none (TrailerAnswers signer []) made.1 new made.2 signs
    last (trailer ∷ all) signs = unsigned_none (TrailerAnswers signer (trailer ∷ all)) made.1 new made.2 signs

chunk_step : (piece : List ℕ) (told now : ChunkTold) (signature : Option (List ℕ)) (text bytes ready : List ℕ) (before after : Option (List Part))
    → Seals (chunk_signature piece) told signature now → text ≡ chunk_text signature piece → text ≡ bytes ++ ready
    → before ≡ option_map (λ (rest : List Part). chunk piece ∷ rest) after
    → TakesText bytes (text_due (writing true told) [] before) (text_due (writing true now) ready after)
unfolding Seals signed_chunks
chunk_step piece (signs_over s who t) now signature text bytes ready before after seals is same parts =
    rw (seals.2, seals.0)
    (step (signed_chunks who t s) (signed_chunks who t (chunk_signature piece who t s)) (chunk piece) text bytes ready before after same parts
    (λ rest some. ap (λ (front : List ℕ). front ++ signed_chunks who t (chunk_signature piece who t s) rest)
    (ap (λ (o : Option (List ℕ)). chunk_text o piece) (sym seals.1) ∙ sym is)))
chunk_step piece unwired now signature text bytes ready before after seals is same parts = absurd seals
chunk_step piece untold now signature text bytes ready before after seals is same parts = rw seals refl

tail_step : (trailers : List Trailer) (told mid now : ChunkTold) (signature last : Option (List ℕ)) (text bytes ready : List ℕ) (before after : Option (List Part))
    → Seals (chunk_signature []) told signature mid → SealsTrailers trailers mid last now → text ≡ tail_text signature trailers last → text ≡ bytes ++ ready
    → before ≡ option_map (λ (rest : List Part). tail trailers ∷ rest) after → ((rest : List Part) → after ≡ Some rest → rest ≡ [])
    → TakesText bytes (text_due (writing true told) [] before) (text_due (writing true now) ready after)
unfolding Seals signed_chunks
tail_step trailers (signs_over s who t) mid now signature last text bytes ready before after seals closing is same parts ends =
    rw (closes.1.1, seals.0)
    (step (signed_chunks who t s) (signed_chunks who t closes.1.0) (tail trailers) text bytes ready before after same parts
    (λ rest some. (λ i. tail_text (sym seals.1 i) trailers (sym closes.0 i)) ∙ sym is
    ∙ sym (ap (λ (others : List Part). text ++ signed_chunks who t closes.1.0 others) (ends rest some) ∙ append-nil text)))
  where
    closes : (last ≡ trailers_signature who t (chunk_signature [] who t s) trailers) × ((s' : List ℕ) × (now ≡ signs_over s' who t))
    closes = closes_over (chunk_signature [] who t s) who t trailers last now (subst (λ (m : ChunkTold). SealsTrailers trailers m last now) seals.2 closing)
tail_step trailers unwired mid now signature last text bytes ready before after seals closing is same parts ends = absurd seals
tail_step trailers untold mid now signature last text bytes ready before after seals closing is same parts ends =
    rw (closes_untold trailers last now (subst (λ (m : ChunkTold). SealsTrailers trailers m last now) seals closing)) refl

part_step : {G : Type 0} (signer : SignChunk.Ghosts G) (is_signed : Bool) (part : Part) (old new : Option G) (text bytes ready : List ℕ) (before after : Option (List Part))
    → MakesPart signer is_signed part old text new → text ≡ bytes ++ ready → before ≡ option_map (λ (rest : List Part). part ∷ rest) after
    → ((rest : List Part) → after ≡ Some rest → EndsAt part rest)
    → TakesText bytes (text_due (writing is_signed (told_of_chunks signer old)) [] before) (text_due (writing is_signed (told_of_chunks signer new)) ready after)
unfolding EndsAt
part_step signer false part old new text bytes ready before after made same parts ends =
    step parts_text parts_text part text bytes ready before after same parts
    (λ rest some. ap (λ (front : List ℕ). front ++ parts_text rest) (sym (unsigned_text signer part old new text made)))
part_step signer true (chunk piece) old new text bytes ready before after made same parts ends =
    chunk_step piece (told_of_chunks signer old) (told_of_chunks signer new) (option_map string_bytes made.0) text bytes ready before after
    (seals_part signer (chunk_signature piece) (ChunkAnswers signer piece) old new made.0 (λ b result a is. is.1) made.1) made.2 same parts
part_step signer true (tail trailers) old new text bytes ready before after made same parts ends =
    tail_step trailers (told_of_chunks signer old) (told_of_chunks signer made.1) (told_of_chunks signer new) (option_map string_bytes made.0) (option_map string_bytes made.2)
    text bytes ready before after
    (seals_part signer (chunk_signature []) (ChunkAnswers signer []) old made.1 made.0 (λ b result a is. is.1) made.3)
    (seals_trailers signer trailers made.1 new made.2 made.4) made.5 same parts ends

-- ---- text that was made

ready_step : (text_of : Option (List Part → List ℕ)) (bytes ready now : List ℕ) (parts : Option (List Part)) → ready ≡ bytes ++ now
    → TakesText bytes (text_due text_of ready parts) (text_due text_of now parts)
ready_step None bytes ready now parts is = refl
ready_step (Some text_of) bytes ready now None is = refl
ready_step (Some text_of) bytes ready now (Some rest) is = ap (λ (front : List ℕ). front ++ text_of rest) is ∙ append_assoc bytes now (text_of rest)

-- of no parts there is no text
writes_none : (is_signed : Bool) (told : ChunkTold) (parts : Option (List Part)) → ((rest : List Part) → parts ≡ Some rest → rest ≡ [])
    → IsNothing (text_due (writing is_signed told) [] parts)
unfolding signed_chunks
writes_none false told None none = tt
writes_none false told (Some rest) none = ap parts_text (none rest refl)
writes_none true (signs_over s who t) parts none = by (is_in_years t) parts none
  where
    by : (b : Bool) (left : Option (List Part)) → ((rest : List Part) → left ≡ Some rest → rest ≡ [])
        → IsNothing (text_due (if b then Some (signed_chunks who t s) else None) [] left)
    by false left no_parts = tt
    by true None no_parts = tt
    by true (Some rest) no_parts = ap (signed_chunks who t s) (no_parts rest refl)
writes_none true unwired parts none = tt
writes_none true untold parts none = tt

-- ---- what a call takes

module _ {F G : Type 0} (source : FrameSource.Ghosts F) (signer : SignChunk.Ghosts G) where
  -- the text that was made is none of the parts
  pub parts_same : (body : AwsChunkedBody F G) (ready : List ℕ) → parts_due source (record body { chunks = record body.chunks { ready = ready } }) ≡ parts_due source body
  parts_same body ready = by (source.left body.source)
    where
      by : (left : Option (List FramePart)) → option_map (λ (rest : TextLeft). rest.parts) (option_map (text_to_come_with (record body { chunks = record body.chunks { ready = ready } })) left)
          ≡ option_map (λ (rest : TextLeft). rest.parts) (option_map (text_to_come_with body) left)
      by None = refl
      by (Some frames) = refl

  -- how the text of the parts that are left is written
  abbrev writing_of : AwsChunkedBody F G → Option (List Part → List ℕ)
  writing_of body = writing body.options.is_signed (told_of_chunks signer body.chunks.signer)

  first_due : (old new : AwsChunkedBody F G) (text bytes : List ℕ) → new.options ≡ old.options → text ≡ bytes ++ ready_bytes new → ready_bytes old ≡ []
      → MakesFirst source signer old new text → TakesText bytes (due source signer old) (due source signer new)
  unfolding due
  first_due old new text bytes options is none first =
      subst (λ (o : Options). TakesText bytes (due source signer old) (text_due (writing o.is_signed (told_of_chunks signer new.chunks.signer)) (ready_bytes new) (parts_due source new)))
      (sym options)
      (subst (λ (ready : List ℕ). TakesText bytes (text_due (writing_of old) ready (parts_due source old))
      (text_due (writing old.options.is_signed (told_of_chunks signer new.chunks.signer)) (ready_bytes new) (parts_due source new))) (sym none)
      (part_step signer old.options.is_signed first.part old.chunks.signer new.chunks.signer text bytes (ready_bytes new) (parts_due source old) (parts_due source new) first.made is first.parts
      (due_ends (text_to_come_with old) first.part (source.left old.source) (parts_due source new)
      (λ frames rest same. left_ends old.came.phase old.options.chunk_size (held_bytes old) old.came.trailers frames first.part rest same) first.parts)))

  ready_due : (old new : AwsChunkedBody F G) (text bytes : List ℕ) → text ≡ bytes ++ ready_bytes new → text ≡ ready_bytes old
      → new ≡ record old { chunks = record old.chunks { ready = ready_bytes new } } → TakesText bytes (due source signer old) (due source signer new)
  unfolding due
  ready_due old new text bytes is same others =
      subst (λ (body : AwsChunkedBody F G). TakesText bytes (due source signer old) (due source signer body)) (sym others)
      (subst (λ (parts : Option (List Part)). TakesText bytes (due source signer old) (text_due (writing_of old) (ready_bytes new) parts))
      (sym (parts_same old (ready_bytes new)))
      (ready_step (writing_of old) bytes (ready_bytes old) (ready_bytes new) (parts_due source old) (sym same ∙ is)))

  -- bytes that are answered are the front of what was due
  pub front_due : (old new : AwsChunkedBody F G) (bytes : List ℕ) → AnswersFrame source signer old new (Ok (next.Frame bytes)) → new.options ≡ old.options
      → TakesText bytes (due source signer old) (due source signer new)
  front_due old new bytes answers options = by answers.2
    where
      by : ((answers.0 ≡ ready_bytes old) × (new ≡ record old { chunks = record old.chunks { ready = ready_bytes new } })) ⊎ ((ready_bytes old ≡ []) × MakesFirst source signer old new answers.0)
          → TakesText bytes (due source signer old) (due source signer new)
      by (inl (same, others)) = ready_due old new answers.0 bytes answers.1 same others
      by (inr (none, first)) = first_due old new answers.0 bytes options answers.1 none first

  pub due_kept : (old new : AwsChunkedBody F G) → KeepsText source old new → due source signer new ≡ due source signer old
  unfolding due
  due_kept old new keeps =
      (λ i. text_due (writing_of (kept i)) (ready_bytes (kept i)) (option_map (λ (rest : TextLeft). rest.parts) (keeps.rest i)))
    where
      kept : new ≡ record old { source = new.source; came = new.came; chunks = record old.chunks { held = new.chunks.held } }
      kept = keeps.others

  pub closed_due : (body : AwsChunkedBody F G) → IsBodyClosed body → IsNothing (due source signer body)
  unfolding due
  closed_due body closed =
      subst (λ (ready : List ℕ). IsNothing (text_due (writing_of body) ready (parts_due source body))) (sym closed.answered)
      (writes_none body.options.is_signed (told_of_chunks signer body.chunks.signer) (parts_due source body) (by (source.left body.source)))
    where
      by : (left : Option (List FramePart)) (rest : List Part) → option_map (λ (rest : TextLeft). rest.parts) (option_map (text_to_come_with body) left) ≡ Some rest → rest ≡ []
      by None rest is = (let no : ◌≡◌ {A = Option (List Part)} None (Some rest) = is in cc)
      by (Some frames) rest is =
          (let all : ◌≡◌ {A = Option (List Part)} (Some (parts_left body.came.phase body.options.chunk_size (held_bytes body) body.came.trailers frames)) (Some rest) = is in
          let none : parts_left body.came.phase body.options.chunk_size (held_bytes body) body.came.trailers frames ≡ [] =
          ap (λ (at : Phase). parts_left at body.options.chunk_size (held_bytes body) body.came.trailers frames) closed.over in cc)

  -- ---- a new body

  pub new_due : (body : AwsChunkedBody F G) (from : F) (options : Options) → IsNewBody from options body → options.is_signed ≡ false
      → due source signer body ≡ option_map (λ (frames : List FramePart). chunked_text options.chunk_size (data_before frames) (listed (trailers_from None frames))) (source.left from)
  unfolding due chunked_text
  new_due body from options new unsigned =
      (λ i. text_due (writing (encoded i) (told_of_chunks signer body.chunks.signer)) (new.nothing_ready i) (new_parts source body from options new i)) ∙ by (source.left from)
    where
      encoded : body.options.is_signed ≡ false
      encoded = ap (λ (o : Options). o.is_signed) new.encoded ∙ unsigned

      by : (left : Option (List FramePart)) → option_map (λ (rest : List Part). [] ++ parts_text rest)
          (option_map (λ (frames : List FramePart). parts_of options.chunk_size (data_before frames) (listed (trailers_from None frames))) left)
          ≡ option_map (λ (frames : List FramePart). parts_text (parts_of options.chunk_size (data_before frames) (listed (trailers_from None frames)))) left
      by None = refl
      by (Some frames) = refl

  pub starts_sealed : (old new : AwsChunkedBody F G) (given : G) → new ≡ record old { chunks = record old.chunks { signer = Some given } } → StartsSigned source signer old new
  unfolding due signed_chunked_text
  starts_sealed old new given is from options before who t started signed told years =
      subst (λ (body : AwsChunkedBody F G). text_due (writing body.options.is_signed (told_of_chunks signer new.chunks.signer)) (ready_bytes body) (parts_due source body)
      ≡ option_map (λ (frames : List FramePart). signed_chunked_text who t before options.chunk_size (data_before frames) (listed (trailers_from None frames))) (source.left from))
      (sym is)
      ((λ i. text_due (writing (encoded i) (told i)) (started.nothing_ready i) (parts i)) ∙ rw years (by (source.left from)))
    where
      encoded : old.options.is_signed ≡ true
      encoded = ap (λ (o : Options). o.is_signed) started.encoded ∙ signed

      signer_same : (left : Option (List FramePart)) → option_map (λ (rest : TextLeft). rest.parts) (option_map (text_to_come_with (record old { chunks = record old.chunks { signer = Some given } })) left)
          ≡ option_map (λ (rest : TextLeft). rest.parts) (option_map (text_to_come_with old) left)
      signer_same None = refl
      signer_same (Some frames) = refl

      parts : parts_due source (record old { chunks = record old.chunks { signer = Some given } })
          ≡ option_map (λ (frames : List FramePart). parts_of options.chunk_size (data_before frames) (listed (trailers_from None frames))) (source.left from)
      parts = signer_same (source.left old.source) ∙ new_parts source old from options started

      by : (left : Option (List FramePart)) → option_map (λ (rest : List Part). [] ++ signed_chunks who t before rest)
          (option_map (λ (frames : List FramePart). parts_of options.chunk_size (data_before frames) (listed (trailers_from None frames))) left)
          ≡ option_map (λ (frames : List FramePart). signed_chunks who t before (parts_of options.chunk_size (data_before frames) (listed (trailers_from None frames)))) left
      by None = refl
      by (Some frames) = refl
