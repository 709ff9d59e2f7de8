-- The frames that a call takes, and how many of them have no data.
use Rattle.std.proofs.Common.{◌≡◌, ℕ, ◌⊎◌, inl, inr, suc, ◌+◌, ◌-◌, ◌<◌, ◌≤◌, ◌==◌, Bool, true, false, if◌then◌else◌, List, [], ◌∷◌, ◌++◌, length, Option, None, Some, refl, ap, sym, ◌∙◌, append_assoc, arith}
use Rattle.std.specs.Prelude.{option_map}
use Rattle.std.proofs.lemmas.Bool.{eqb-true}
use Rattle.std.proofs.lemmas.List.{length-append}
use Rattle.smithy_core.specs.FrameSource.{TakesFrame}
use Rattle.smithy_core.specs.declared.outside.frame_part.FramePart.{FramePart}
use Rattle.smithy_core.specs.declared.outside.frame_part.FramePart.TheVariants as frame
use Rattle.aws_chunked.specs.Body.{held_after, idle_frames, idle_in, phase_after}
use Rattle.aws_chunked.specs.declared.phase.Phase.{Phase}
use Rattle.aws_chunked.specs.declared.phase.Phase.TheVariants as phase

-- ---- what is left of a source

pub left_none : (left : Option (List FramePart)) → left ≡ option_map (λ (rest : List FramePart). [] ++ rest) left
left_none None = refl
left_none (Some rest) = refl

pub left_one : (part : FramePart) (before now : Option (List FramePart)) → TakesFrame part before now
    → before ≡ option_map (λ (rest : List FramePart). (part ∷ []) ++ rest) now
left_one part None now taken = sym (ap (option_map (λ (rest : List FramePart). (part ∷ []) ++ rest)) taken)
left_one part (Some before) None taken = absurd taken
left_one part (Some before) (Some now) taken = ap Some taken

pub left_more : (frames more : List FramePart) (before between now : Option (List FramePart))
    → before ≡ option_map (λ (rest : List FramePart). frames ++ rest) between → between ≡ option_map (λ (rest : List FramePart). more ++ rest) now
    → before ≡ option_map (λ (rest : List FramePart). (frames ++ more) ++ rest) now
left_more frames more before between now first second = first ∙ ap (option_map (λ (rest : List FramePart). frames ++ rest)) second ∙ by now
  where
    by : (now : Option (List FramePart)) → option_map (λ (rest : List FramePart). frames ++ rest) (option_map (λ (rest : List FramePart). more ++ rest) now)
        ≡ option_map (λ (rest : List FramePart). (frames ++ more) ++ rest) now
    by None = refl
    by (Some rest) = ap Some (sym (append_assoc frames more rest))

-- ---- how many have no data

pub idle_none : (at : Phase) → idle_frames at [] ≡ 0
idle_none phase.Data = refl
idle_none phase.Trailers = refl
idle_none phase.Ended = refl
idle_none phase.Closed = refl

pub idle_more : (at : Phase) (frames more : List FramePart) → idle_frames at (frames ++ more) ≡ idle_frames at frames + idle_frames (phase_after at frames) more
idle_more phase.Data [] more = omega arith
idle_more phase.Data (frame.Data piece ∷ frames) more = omega (arith, idle_more phase.Data frames more)
idle_more phase.Data (frame.Trailers trailers ∷ frames) more = omega (arith, length-append frames more)
idle_more phase.Trailers frames more = length-append frames more
idle_more phase.Ended frames more = length-append frames more
idle_more phase.Closed frames more = length-append frames more

pub phase_more : (at : Phase) (frames more : List FramePart) → phase_after at (frames ++ more) ≡ phase_after (phase_after at frames) more
phase_more phase.Data [] more = refl
phase_more phase.Data (frame.Data piece ∷ frames) more = phase_more phase.Data frames more
phase_more phase.Data (frame.Trailers trailers ∷ frames) more = refl
phase_more phase.Trailers frames more = refl
phase_more phase.Ended frames more = refl
phase_more phase.Closed frames more = refl

pub phase_none : (at : Phase) → phase_after at [] ≡ at
phase_none phase.Data = refl
phase_none phase.Trailers = refl
phase_none phase.Ended = refl
phase_none phase.Closed = refl

pub phase_data : (at : Phase) (piece : List ℕ) → phase_after at (frame.Data piece ∷ []) ≡ at
phase_data phase.Data piece = refl
phase_data phase.Trailers piece = refl
phase_data phase.Ended piece = refl
phase_data phase.Closed piece = refl

pub idle_data : (at : Phase) (piece : List ℕ) → idle_in at piece ≡ idle_frames at (frame.Data piece ∷ [])
idle_data phase.Data piece = omega arith
idle_data phase.Trailers piece = refl
idle_data phase.Ended piece = refl
idle_data phase.Closed piece = refl

-- ---- how far a body has come

pub is_open : (at : Phase) → (at ≡ phase.Data) ⊎ (at ≡ phase.Trailers) → at ≡ phase.Closed → ⊥
is_open at (inl is) closed = (let no : phase.Data ≡ phase.Closed = sym is ∙ closed in cc)
is_open at (inr is) closed = (let no : phase.Trailers ≡ phase.Closed = sym is ∙ closed in cc)

pub on_after : (at after : Phase) → (at ≡ phase.Data) ⊎ (at ≡ phase.Trailers) → (at ≡ after) ⊎ (at ≡ phase.Ended) → at ≡ after
on_after at after on (inl is) = is
on_after at after (inl on) (inr ended) = absurd (let no : phase.Data ≡ phase.Ended = sym on ∙ ended in cc)
on_after at after (inr on) (inr ended) = absurd (let no : phase.Trailers ≡ phase.Ended = sym on ∙ ended in cc)

abbrev pub CountsOrBringsBy : Phase → ℕ → List ℕ → List ℕ → Type 0
CountsOrBringsBy now idle old new =
    ((idle ≡ 1) × (length old ≤ length new)) ⊎ ((idle ≡ 0) × (length old < length new)) ⊎ ((idle ≡ 0) × (now ≡ phase.Ended) × (length old ≤ length new))

pub none_idle : (b : Bool) (n : ℕ) → (suc n == 0) ≡ b → ◌≡◌ {A = ℕ} (if b then 1 else 0) 0
none_idle true n is = absurd (omega (arith, eqb-true (suc n) 0 is))
none_idle false n is = refl

pub nears_data : (at now : Phase) (idle : ℕ) (old new piece : List ℕ) → idle ≡ idle_in at piece → new ≡ held_after at old piece → CountsOrBringsBy now idle old new
nears_data phase.Data now idle old new [] one held = inl (one, omega (arith, ap length held, length-append old []))
nears_data phase.Data now idle old new (byte ∷ bytes) none held =
    inr (inl (none ∙ none_idle (suc (length bytes) == 0) (length bytes) refl, omega (arith, ap length held, length-append old (byte ∷ bytes))))
nears_data phase.Trailers now idle old new piece one held = inl (one, omega (arith, ap length held))
nears_data phase.Ended now idle old new piece one held = inl (one, omega (arith, ap length held))
nears_data phase.Closed now idle old new piece one held = inl (one, omega (arith, ap length held))

pub few_idle : (now : Phase) (idle : ℕ) (old new : List ℕ) → CountsOrBringsBy now idle old new → idle ≤ 1
few_idle now idle old new (inl one) = omega (arith, one.0)
few_idle now idle old new (inr (inl none)) = omega (arith, none.0)
few_idle now idle old new (inr (inr none)) = omega (arith, none.0)

-- how many more times the source is asked at most
abbrev pub still : Phase → ℕ
still phase.Ended = 0
still _ = 1
