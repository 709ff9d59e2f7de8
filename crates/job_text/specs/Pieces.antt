-- Pieces of a text, words or lines, that are taken one by one. Each moves a draft on, or is bad.
use Rattle.std.specs.Prelude.{ℕ, ◌+◌, List, [], ◌∷◌, Option, Some, None, Result, Ok, Err}

-- goes on, where the piece at a place isn't bad
abbrev pub unless_bad : {A B : Type 0} → ℕ → (A → Result B ℕ) → Option A → Result B ℕ
unless_bad place others (Some next) = others next
unless_bad place others None = Err place

-- the draft after the pieces from a place on, and the place behind them; or the place of the first bad one
abbrev pub taken_from : {D : Type 0} → (D → List ℕ → Option D) → ℕ → D → List (List ℕ) → Result (D × ℕ) ℕ
taken_from step place draft [] = Ok (draft, place)
taken_from step place draft (piece ∷ pieces) = unless_bad place (λ next. taken_from step (place + 1) next pieces) (step draft piece)

-- goes on with the draft and the place behind the pieces, where none is bad
abbrev pub after_pieces : {D A : Type 0} → (ℕ → D → Result A ℕ) → Result (D × ℕ) ℕ → Result A ℕ
after_pieces whole (Ok taken) = whole taken.1 taken.0
after_pieces whole (Err place) = Err place
