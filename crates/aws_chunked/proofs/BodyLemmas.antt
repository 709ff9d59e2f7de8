-- What a body takes of its source is still left, and what it makes was the first part.
use Rattle.std.proofs.Common.{◌≡◌, ℕ, ◌⊎◌, inl, inr, zero, suc, ◌+◌, ◌<◌, ◌≤◌, min, List, [], ◌∷◌, ◌++◌, length, take, take_all, drop, map, Option, None, Some, refl, ap, sym, ◌∙◌, arith}
use Rattle.std.specs.Prelude.{option_map}
use Rattle.std.proofs.lemmas.List.{drop_all, length-append, length-take}
use Rattle.smithy_core.specs.FrameSource.{TakesFrame}
use Rattle.smithy_core.specs.declared.outside.frame_part.FramePart.{FramePart}
use Rattle.smithy_core.specs.declared.outside.frame_part.FramePart.TheVariants as frame
use Rattle.aws_chunked.specs.Body.{CanMake, TextLeft, Trailer, data_before, data_left, held_after, listed, parts_left, taken_after, trailers_left, with_frame}
use Rattle.aws_chunked.specs.Options.{counted}
use Rattle.aws_chunked.specs.Text.{chunk, pieces_of_size, parts_of, tail}
use Rattle.aws_chunked.specs.declared.phase.Phase.{Phase}
use Rattle.aws_chunked.specs.declared.phase.Phase.TheVariants as phase
use Rattle.aws_chunked.proofs.CutLemmas.{cut_first}
use Rattle.aws_chunked.proofs.MadeLemmas.{append_assoc, append_nil}

-- ---- what a frame brings

pub parts_data : (at : Phase) (size : ℕ) (held : List ℕ) (kept : Option (List Trailer)) (piece : List ℕ) (frames : List FramePart)
    → parts_left at size (held_after at held piece) kept frames ≡ parts_left at size held kept (frame.Data piece ∷ frames)
parts_data phase.Data size held kept piece frames =
    ap (λ bytes. parts_of size bytes (listed (trailers_left phase.Data kept frames))) (append_assoc held piece (data_before frames))
parts_data phase.Trailers size held kept piece frames = refl
parts_data phase.Ended size held kept piece frames = refl
parts_data phase.Closed size held kept piece frames = refl

pub trailers_data : (at : Phase) (kept : Option (List Trailer)) (piece : List ℕ) (frames : List FramePart)
    → trailers_left at kept frames ≡ trailers_left at kept (frame.Data piece ∷ frames)
trailers_data phase.Data kept piece frames = refl
trailers_data phase.Trailers kept piece frames = refl
trailers_data phase.Ended kept piece frames = refl
trailers_data phase.Closed kept piece frames = refl

pub held_more : (at : Phase) (held now piece : List ℕ) → now ≡ held_after at held piece → length held ≤ length now
held_more phase.Data held now piece is = omega (arith, ap length is, length-append held piece)
held_more phase.Trailers held now piece is = omega (arith, ap length is)
held_more phase.Ended held now piece is = omega (arith, ap length is)
held_more phase.Closed held now piece is = omega (arith, ap length is)

pub total_data : (at : Phase) (taken : ℕ) (piece : List ℕ) (frames : List FramePart)
    → counted (taken_after at taken piece + length (data_left at frames)) ≡ counted (taken + length (data_left at (frame.Data piece ∷ frames)))
total_data phase.Data taken piece frames = omega (arith, length-append piece (data_before frames))
total_data phase.Trailers taken piece frames = refl
total_data phase.Ended taken piece frames = refl
total_data phase.Closed taken piece frames = refl

pub parts_trailers : (at : Phase) (size : ℕ) (held : List ℕ) (kept : Option (List Trailer)) (trailers : List Trailer) (frames : List FramePart)
    → (at ≡ phase.Data) ⊎ (at ≡ phase.Trailers)
    → parts_left phase.Trailers size held (Some (with_frame kept trailers)) frames ≡ parts_left at size held kept (frame.Trailers trailers ∷ frames)
parts_trailers phase.Data size held kept trailers frames on = refl
parts_trailers phase.Trailers size held kept trailers frames on = refl
parts_trailers phase.Ended size held kept trailers frames (inl is) = cc
parts_trailers phase.Ended size held kept trailers frames (inr is) = cc
parts_trailers phase.Closed size held kept trailers frames (inl is) = cc
parts_trailers phase.Closed size held kept trailers frames (inr is) = cc

pub trailers_more : (at : Phase) (kept : Option (List Trailer)) (trailers : List Trailer) (frames : List FramePart) → (at ≡ phase.Data) ⊎ (at ≡ phase.Trailers)
    → trailers_left phase.Trailers (Some (with_frame kept trailers)) frames ≡ trailers_left at kept (frame.Trailers trailers ∷ frames)
trailers_more phase.Data kept trailers frames on = refl
trailers_more phase.Trailers kept trailers frames on = refl
trailers_more phase.Ended kept trailers frames (inl is) = cc
trailers_more phase.Ended kept trailers frames (inr is) = cc
trailers_more phase.Closed kept trailers frames (inl is) = cc
trailers_more phase.Closed kept trailers frames (inr is) = cc

pub total_trailers : (at : Phase) (taken : ℕ) (trailers : List Trailer) (frames : List FramePart)
    → counted (taken + length (data_left phase.Trailers frames)) ≡ counted (taken + length (data_left at (frame.Trailers trailers ∷ frames)))
total_trailers phase.Data taken trailers frames = refl
total_trailers phase.Trailers taken trailers frames = refl
total_trailers phase.Ended taken trailers frames = refl
total_trailers phase.Closed taken trailers frames = refl

pub frame_taken : (before_rest now_rest : List FramePart → TextLeft) (part : FramePart) (before now : Option (List FramePart))
    → TakesFrame part before now → ((frames : List FramePart) → now_rest frames ≡ before_rest (part ∷ frames))
    → option_map now_rest now ≡ option_map before_rest before
frame_taken before_rest now_rest part None now taken same = ap (option_map now_rest) taken
frame_taken before_rest now_rest part (Some before) None taken same = absurd taken
frame_taken before_rest now_rest part (Some before) (Some now) taken same =
    ap Some (same now) ∙ ap (λ frames. Some (before_rest frames)) (sym taken)

-- ---- what is made

take_front : (xs ys : List ℕ) (n : ℕ) → n ≡ length xs → take n (xs ++ ys) ≡ xs
take_front [] ys n e = ap (λ m. take m ys) e
take_front (x ∷ xs) ys zero e = absurd (omega (arith, e))
take_front (x ∷ xs) ys (suc n) e = ap (λ rest. x ∷ rest) (take_front xs ys n (omega (arith, e)))

drop_front : (xs ys : List ℕ) (n : ℕ) → n ≡ length xs → drop n (xs ++ ys) ≡ ys
drop_front [] ys n e = ap (λ m. drop m ys) e
drop_front (x ∷ xs) ys zero e = absurd (omega (arith, e))
drop_front (x ∷ xs) ys (suc n) e = drop_front xs ys n (omega (arith, e))

-- the first piece of bytes of which it is a whole chunk, or all
cut_piece : (size : ℕ) (piece rest : List ℕ) → 0 < size → 0 < length piece → (length piece ≡ size) ⊎ ((length piece ≤ size) × (rest ≡ []))
    → pieces_of_size size (piece ++ rest) ≡ piece ∷ pieces_of_size size rest
cut_piece size piece rest some full (inl whole) =
    cut_first size (piece ++ rest) some (omega (arith, full, length-append piece rest))
    ∙ (λ i. take_front piece rest size (sym whole) i ∷ pieces_of_size size (drop_front piece rest size (sym whole) i))
cut_piece size piece rest some full (inr last) =
    let all : piece ++ rest ≡ piece = ap (λ bytes. piece ++ bytes) last.1 ∙ append_nil piece in
    ap (pieces_of_size size) all ∙ cut_first size piece some full
    ∙ (λ i. take_all size piece last.0 i ∷ pieces_of_size size ((drop_all size piece last.0 ∙ sym last.1) i))

pub piece_length : (size : ℕ) (held : List ℕ) → length (take (min (length held) size) held) ≡ min (length held) size
piece_length size held = omega (arith, length-take (min (length held) size) held)

-- the bytes that are held are a whole chunk and more, or the last chunk
last_piece : (size : ℕ) (held piece rest : List ℕ) → length piece ≡ min (length held) size → held ≡ piece ++ rest
    → (length piece ≡ size) ⊎ ((length piece ≤ size) × (rest ++ [] ≡ []))
last_piece size held piece rest long is = by rest (omega (arith, ap length is, length-append piece rest))
  where
    by : (bytes : List ℕ) → length held ≡ length piece + length bytes → (length piece ≡ size) ⊎ ((length piece ≤ size) × (bytes ++ [] ≡ []))
    by [] e = inr (omega (arith, long), refl)
    by (byte ∷ bytes) e = inl (omega (arith, e, long))

whole_or_last : (at : Phase) (size : ℕ) (held piece rest : List ℕ) (frames : List FramePart) → CanMake at size held → length piece ≡ min (length held) size
    → held ≡ piece ++ rest → (length piece ≡ size) ⊎ ((length piece ≤ size) × (rest ++ data_left at frames ≡ []))
whole_or_last phase.Data size held piece rest frames can long is = inl (omega (arith, long, can.1))
whole_or_last phase.Trailers size held piece rest frames can long is = last_piece size held piece rest long is
whole_or_last phase.Ended size held piece rest frames can long is = last_piece size held piece rest long is
whole_or_last phase.Closed size held piece rest frames can long is = absurd can

cut_held : (size : ℕ) (held piece rest more : List ℕ) → 0 < size → 0 < length piece → held ≡ piece ++ rest
    → (length piece ≡ size) ⊎ ((length piece ≤ size) × (rest ++ more ≡ [])) → pieces_of_size size (held ++ more) ≡ piece ∷ pieces_of_size size (rest ++ more)
cut_held size held piece rest more some full is either =
    ap (λ bytes. pieces_of_size size (bytes ++ more)) is ∙ ap (pieces_of_size size) (append_assoc piece rest more) ∙ cut_piece size piece (rest ++ more) some full either

pub parts_chunk : (at : Phase) (size : ℕ) (held piece rest : List ℕ) (kept : Option (List Trailer)) (frames : List FramePart)
    → 0 < size → 0 < length piece → CanMake at size held → length piece ≡ min (length held) size → held ≡ piece ++ rest
    → parts_left at size held kept frames ≡ chunk piece ∷ parts_left at size rest kept frames
parts_chunk at size held piece rest kept frames some full can long is =
    by at can (cut_held size held piece rest (data_left at frames) some full is (whole_or_last at size held piece rest frames can long is))
  where
    by : (at : Phase) → CanMake at size held → pieces_of_size size (held ++ data_left at frames) ≡ piece ∷ pieces_of_size size (rest ++ data_left at frames)
        → parts_left at size held kept frames ≡ chunk piece ∷ parts_left at size rest kept frames
    by phase.Data can cuts = ap (λ pieces. map chunk pieces ++ tail (listed (trailers_left phase.Data kept frames)) ∷ []) cuts
    by phase.Trailers can cuts = ap (λ pieces. map chunk pieces ++ tail (listed (trailers_left phase.Trailers kept frames)) ∷ []) cuts
    by phase.Ended can cuts = ap (λ pieces. map chunk pieces ++ tail (listed kept) ∷ []) cuts
    by phase.Closed can cuts = absurd can
