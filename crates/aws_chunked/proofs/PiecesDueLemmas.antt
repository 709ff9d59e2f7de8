-- The pieces that are due, and what the frames behind them count.
use Rattle.std.proofs.Common.{◌≡◌, ℕ, ◌⊎◌, inl, inr, zero, suc, ◌+◌, ◌<◌, ◌==◌, List, [], ◌∷◌, ◌++◌, length, Option, None, Some, refl, ap, sym, ◌∙◌, arith}
use Rattle.std.specs.Prelude.{IfSome, Result, Ok, Err, option_map}
use Rattle.std.specs.Fmt.{digits}
use Rattle.std.specs.List.{flat_map}
use Rattle.std.proofs.lemmas.List.{length-append}
use Rattle.smithy_core.specs.FrameSource.{TakesFrame}
use Rattle.smithy_core.specs.declared.outside.frame_part.FramePart.{FramePart}
use Rattle.smithy_core.specs.declared.outside.frame_part.FramePart.TheVariants as frame
use Rattle.aws_chunked.specs.Body.{AreTurns, Trailer, data_before, data_left, idle_frames, listed, phase_after, trailers_left, with_frame}
use Rattle.aws_chunked.specs.Text.{crlf, head_text, length_text, signature_text, trailer_line}
use Rattle.aws_chunked.specs.Passing.{AreIdleInStep, AreNoneTaken, Piece, empty_chunk, filled_before, last_lines, length_line, onto_filled, passed, piece_text, pieces_to_come, pieces_of, sent_after}
use Rattle.aws_chunked.specs.declared.body.ChunkNext.{ChunkNext}
use Rattle.aws_chunked.specs.declared.body.ChunkNext.TheVariants as next
use Rattle.aws_chunked.specs.declared.error.AwsChunkedBodyError.{AwsChunkedBodyError}
use Rattle.aws_chunked.specs.declared.error.AwsChunkedBodyError.TheVariants as fault
use Rattle.aws_chunked.specs.declared.phase.Phase.{Phase}
use Rattle.aws_chunked.specs.declared.phase.Phase.TheVariants as phase
use Rattle.aws_chunked.specs.declared.piece_engine.Sent.{Sent}
use Rattle.aws_chunked.specs.declared.piece_engine.Sent.TheVariants as sent
use Rattle.aws_chunked.proofs.TurnLemmas.{none_idle}

-- ---- the text of a piece

-- a text that ends with the end of a line has some bytes
pub ends_some : (text front : List ℕ) → text ≡ front ++ crlf → 0 < length text
ends_some text front is = let long : length text ≡ length front + 2 = ap length is ∙ length-append front crlf in omega arith

pub line_some : (n : ℕ) → 0 < length (piece_text (length_line n))
line_some n = ends_some (head_text n None) (length_text n ++ signature_text None) refl

pub chunk_some : 0 < length (piece_text empty_chunk)
chunk_some = omega (arith, length-append crlf (head_text 0 None))

pub lines_some : (trailers : List Trailer) → 0 < length (piece_text (last_lines trailers))
lines_some trailers = ends_some (piece_text (last_lines trailers)) (flat_map trailer_line trailers) refl

pub empty_chunk_is : (bytes : List ℕ) → bytes ≡ 13 ∷ 10 ∷ 48 ∷ 13 ∷ 10 ∷ [] → bytes ≡ piece_text empty_chunk
unfolding digits
empty_chunk_is bytes is = is

pub some_text : (bytes : List ℕ) (piece : Piece) → bytes ≡ piece_text piece → 0 < length (piece_text piece) → 0 < length bytes
some_text bytes piece is some = omega (arith, ap length is, some)

-- ---- the pieces that are left

pub line_left : (at : Phase) (n : ℕ) (kept : Option (List Trailer)) (frames : List FramePart) → (at ≡ phase.Closed → ⊥)
    → pieces_to_come sent.Nothing at n kept frames ≡ length_line n ∷ pieces_to_come (sent_after n) at n kept frames
line_left phase.Data zero kept frames on = refl
line_left phase.Data (suc n) kept frames on = refl
line_left phase.Trailers zero kept frames on = refl
line_left phase.Trailers (suc n) kept frames on = refl
line_left phase.Ended zero kept frames on = refl
line_left phase.Ended (suc n) kept frames on = refl
line_left phase.Closed n kept frames on = absurd (on refl)

filled_onto : (piece : List ℕ) (pieces : List (List ℕ)) → 0 < length piece → onto_filled piece pieces ≡ piece ∷ pieces
filled_onto [] pieces some = absurd (omega (arith, some))
filled_onto (byte ∷ bytes) pieces some = refl

pub data_behind : (was : Sent) (n : ℕ) (piece : List ℕ) (pieces : List (List ℕ)) (trailers : List Trailer) → (was ≡ sent.Nothing → ⊥) → 0 < length piece
    → pieces_of was n (onto_filled piece pieces) trailers ≡ passed piece ∷ pieces_of was n pieces trailers
data_behind sent.Nothing n piece pieces trailers begun some = absurd (begun refl)
data_behind sent.LengthLine n piece pieces trailers begun some =
    ap (λ (all : List (List ℕ)). pieces_of sent.LengthLine n all trailers) (filled_onto piece pieces some)
data_behind sent.EmptyChunk n piece pieces trailers begun some =
    ap (λ (all : List (List ℕ)). pieces_of sent.EmptyChunk n all trailers) (filled_onto piece pieces some)

-- data that is ignored leaves what is due
pub ignored_left : (was : Sent) (at : Phase) (n : ℕ) (kept : Option (List Trailer)) (piece : List ℕ) (frames : List FramePart) → (at ≡ phase.Data → piece ≡ [])
    → pieces_to_come was at n kept frames ≡ pieces_to_come was at n kept (frame.Data piece ∷ frames)
ignored_left was phase.Data n kept piece frames none =
    ap (λ (bytes : List ℕ). pieces_of was n (onto_filled bytes (filled_before frames)) (listed (trailers_left phase.Data kept frames))) (sym (none refl))
ignored_left was phase.Trailers n kept piece frames none = refl
ignored_left was phase.Ended n kept piece frames none = refl
ignored_left was phase.Closed n kept piece frames none = refl

pub trailers_same : (was : Sent) (at : Phase) (n : ℕ) (kept : Option (List Trailer)) (trailers : List Trailer) (frames : List FramePart)
    → (at ≡ phase.Data) ⊎ (at ≡ phase.Trailers)
    → pieces_to_come was phase.Trailers n (Some (with_frame kept trailers)) frames ≡ pieces_to_come was at n kept (frame.Trailers trailers ∷ frames)
trailers_same was phase.Data n kept trailers frames on = refl
trailers_same was phase.Trailers n kept trailers frames on = refl
trailers_same was phase.Ended n kept trailers frames (inl is) = cc
trailers_same was phase.Ended n kept trailers frames (inr is) = cc
trailers_same was phase.Closed n kept trailers frames (inl is) = cc
trailers_same was phase.Closed n kept trailers frames (inr is) = cc

-- ---- what is counted

pub data_none : (at : Phase) → length (data_left at []) ≡ 0
data_none phase.Data = refl
data_none phase.Trailers = refl
data_none phase.Ended = refl
data_none phase.Closed = refl

pub data_more : (at : Phase) (frames more : List FramePart)
    → length (data_left at (frames ++ more)) ≡ length (data_left at frames) + length (data_left (phase_after at frames) more)
data_more phase.Data [] more = omega arith
data_more phase.Data (frame.Data piece ∷ frames) more =
    omega (arith, length-append piece (data_before (frames ++ more)), length-append piece (data_before frames), data_more phase.Data frames more)
data_more phase.Data (frame.Trailers trailers ∷ frames) more = refl
data_more phase.Trailers frames more = refl
data_more phase.Ended frames more = refl
data_more phase.Closed frames more = refl

pub data_ignored : (at : Phase) (piece : List ℕ) → (at ≡ phase.Data → piece ≡ []) → length (data_left at (frame.Data piece ∷ [])) ≡ 0
data_ignored phase.Data piece none = ap (λ (bytes : List ℕ). length (bytes ++ [])) (none refl)
data_ignored phase.Trailers piece none = refl
data_ignored phase.Ended piece none = refl
data_ignored phase.Closed piece none = refl

pub idle_ignored : (at : Phase) (piece : List ℕ) → (at ≡ phase.Data → piece ≡ []) → idle_frames at (frame.Data piece ∷ []) ≡ 1
idle_ignored phase.Data piece none = ap (λ (bytes : List ℕ). idle_frames phase.Data (frame.Data bytes ∷ [])) (none refl)
idle_ignored phase.Trailers piece none = refl
idle_ignored phase.Ended piece none = refl
idle_ignored phase.Closed piece none = refl

pub idle_filled : (piece : List ℕ) → 0 < length piece → idle_frames phase.Data (frame.Data piece ∷ []) ≡ 0
idle_filled [] some = absurd (omega (arith, some))
idle_filled (byte ∷ bytes) some = omega (arith, none_idle (suc (length bytes) == 0) (length bytes) refl)

pub idle_trailers : (at : Phase) (trailers : List Trailer) → idle_frames at (frame.Trailers trailers ∷ []) ≡ 1
idle_trailers phase.Data trailers = refl
idle_trailers phase.Trailers trailers = refl
idle_trailers phase.Ended trailers = refl
idle_trailers phase.Closed trailers = refl

pub data_trailers : (at : Phase) (trailers : List Trailer) → length (data_left at (frame.Trailers trailers ∷ [])) ≡ 0
data_trailers phase.Data trailers = refl
data_trailers phase.Trailers trailers = refl
data_trailers phase.Ended trailers = refl
data_trailers phase.Closed trailers = refl

pub never_closed : (at : Phase) (frames : List FramePart) → phase_after at frames ≡ phase.Closed → at ≡ phase.Closed
never_closed phase.Data [] is = is
never_closed phase.Data (frame.Data piece ∷ frames) is = never_closed phase.Data frames is
never_closed phase.Data (frame.Trailers trailers ∷ frames) is = cc
never_closed phase.Trailers frames is = is
never_closed phase.Ended frames is = is
never_closed phase.Closed frames is = refl

pub on_some : {A B : Type 0} (f : A → B) (left : Option A) (P : B → Type 0) → ((a : A) → P (f a)) → IfSome (option_map f left) P
on_some f None P holds = tt
on_some f (Some a) P holds = holds a

pub first_of : (before now : List FramePart → List Piece) (piece : Piece) (left : Option (List FramePart)) → ((frames : List FramePart) → before frames ≡ piece ∷ now frames)
    → option_map before left ≡ option_map (λ (rest : List Piece). piece ∷ rest) (option_map now left)
first_of before now piece None same = refl
first_of before now piece (Some frames) same = ap Some (same frames)

pub first_taken : (before now : List FramePart → List Piece) (piece : Piece) (part : FramePart) (old new : Option (List FramePart)) → TakesFrame part old new
    → ((frames : List FramePart) → before (part ∷ frames) ≡ piece ∷ now frames)
    → option_map before old ≡ option_map (λ (rest : List Piece). piece ∷ rest) (option_map now new)
first_taken before now piece part None new taken same = sym (ap (λ (left : Option (List FramePart)). option_map (λ (rest : List Piece). piece ∷ rest) (option_map now left)) taken)
first_taken before now piece part (Some old) None taken same = absurd taken
first_taken before now piece part (Some old) (Some new) taken same = ap (λ (frames : List FramePart). Some (before frames)) taken ∙ ap Some (same new)

pub next_taken : (before : List FramePart → List Piece) (piece : Piece) (part : FramePart) (old new : Option (List FramePart)) → TakesFrame part old new
    → ((frames : List FramePart) → (rest : List Piece) × (before (part ∷ frames) ≡ piece ∷ rest))
    → IfSome (option_map before old) (λ (pieces : List Piece). (rest : List Piece) × (pieces ≡ piece ∷ rest))
next_taken before piece part None new taken is = tt
next_taken before piece part (Some old) None taken is = absurd taken
next_taken before piece part (Some old) (Some new) taken is = let first = is new in (first.0, ap before taken ∙ first.1)

pub same_taken : (before now : List FramePart → List Piece) (part : FramePart) (old new : Option (List FramePart)) → TakesFrame part old new
    → ((frames : List FramePart) → now frames ≡ before (part ∷ frames)) → option_map now new ≡ option_map before old
same_taken before now part None new taken same = ap (option_map now) taken
same_taken before now part (Some old) None taken same = absurd taken
same_taken before now part (Some old) (Some new) taken same = ap Some (same new) ∙ ap (λ (frames : List FramePart). Some (before frames)) (sym taken)

-- ---- how many frames have no data

pub few_turns : (answer : Result ChunkNext AwsChunkedBodyError) (count n : ℕ) → count < 65536 → AreIdleInStep answer n → AreTurns answer (count + n)
few_turns (Ok (next.Frame bytes)) count n low few = omega (arith, low, few)
few_turns (Ok next.NotYet) count n low few = omega (arith, low, few)
few_turns (Ok next.OutOfTurns) count n low few = absurd few
few_turns (Ok next.End) count n low few = omega (arith, low, few)
few_turns (Err (fault.StreamLengthMismatch actual expected)) count n low few = omega (arith, low, few)
few_turns (Err (fault.ReportedTrailerLengthMismatch actual expected)) count n low few = omega (arith, low, few)
few_turns (Err (fault.FailedToSign why)) count n low few = omega (arith, low, few)
few_turns (Err fault.SourceFault) count n low few = omega (arith, low, few)
few_turns (Err fault.NoMemory) count n low few = omega (arith, low, few)

pub none_few : (answer : Result ChunkNext AwsChunkedBodyError) (n : ℕ) → AreNoneTaken answer n → AreIdleInStep answer n
none_few (Ok (next.Frame bytes)) n none = none
none_few (Ok next.NotYet) n none = none
none_few (Ok next.OutOfTurns) n none = none
none_few (Ok next.End) n none = none
none_few (Err (fault.StreamLengthMismatch actual expected)) n none = none
none_few (Err (fault.ReportedTrailerLengthMismatch actual expected)) n none = none
none_few (Err (fault.FailedToSign why)) n none = none
none_few (Err fault.SourceFault) n none = none
none_few (Err fault.NoMemory) n none = omega (arith, none)
