-- The line of a value.
use Rattle.std.proofs.Common.{◌≡◌, ℕ, suc, ◌+◌, ◌-◌, ◌<◌, Bool, false, cond, List, [], drop, length, length-drop, le_of_eq, map, take, take_all, slice_index_or, Bor, Some, arith, ap, sym, ◌∙◌}
use Rattle.std.proofs.lemmas.List.{get_or-map}
use Rattle.awsign_settings.specs.ValueLine.{first_line}

-- the line at a place
pub found_line : (lines : List (Bor (List ℕ))) (texts : List (List ℕ)) (at : ℕ) (d : Bor (List ℕ)) → map (λ (l : Bor (List ℕ)). l.now) lines ≡ texts → at < length lines
    → (slice_index_or lines at d).now ≡ slice_index_or texts at []
found_line lines texts at d same within =
    sym (get_or-map (λ (l : Bor (List ℕ)). l.now) lines at d [] within) ∙ ap (λ (texts : List (List ℕ)). slice_index_or texts at []) same

-- a line that doesn't pass
pub first_step : (test : ℕ → Bool) (at n : ℕ) → at < n → test at ≡ false → first_line test at (n - at) ≡ first_line test (at + 1) (n - (at + 1))
first_step test at n within passes =
    let more : n - at ≡ suc (n - (at + 1)) = omega (arith, within) in
    ap (first_line test at) more ∙ ap (λ (b : Bool). cond b (Some (at + 1)) (first_line test (at + 1) (n - (at + 1)))) passes

-- the lines from a place on
pub lines_from : {X : Type 0} (n : ℕ) (lines : List X) → take (length lines - n) (drop n lines) ≡ drop n lines
lines_from n lines = take_all (length lines - n) (drop n lines) (le_of_eq (length-drop n lines))
