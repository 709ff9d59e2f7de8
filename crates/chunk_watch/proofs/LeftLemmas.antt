-- The bytes that are left over, moved to the front of their memory.
use Rattle.std.proofs.Common.{◌≡◌, ℕ, ◌-◌, List, ◌++◌, take, drop, length, sym, ap, ◌∙◌, length-drop}
use Rattle.std.proofs.Math.Seq.{take-append_seam}

-- bytes that were turned, without those that were left behind
pub closed_up : (all turned kept_bytes : List ℕ) (begin kept : ℕ) → turned ≡ drop begin all ++ take begin all → kept ≡ length all - begin → kept_bytes ≡ take kept turned
    → kept_bytes ≡ drop begin all
closed_up all turned kept_bytes begin kept turned_is kept_is is =
    is ∙ (λ i. take (kept_is i) (turned_is i)) ∙ ap (λ (n : ℕ). take n (drop begin all ++ take begin all)) (sym (length-drop begin all))
    ∙ take-append_seam (drop begin all) (take begin all)
