-- The tables, checked entry by entry: those of the first by the byte, those of each other one by the entry before them.
use Rattle.std.proofs.Common.{◌≡◌, ℕ, zero, suc, ◌+◌, ◌*◌, ◌<◌, Bool, true, eqb, [], get_or, refl, sym, ap, ◌∙◌, arith, eqb-true}
use Rattle.std.proofs.lemmas.Bool.{agree_below, agree_below_at}
use Rattle.mac_core.specs.Crc.{after_bits}
use Rattle.mac_core.specs.declared.tables.TheConstants.{TABLES}
use Rattle.mac_core.proofs.LinearLemmas.{joined}

abbrev entry_of : ℕ → ℕ → ℕ
entry_of zeros b = get_or (get_or TABLES zeros []) b 0

-- entry b of the first table
abbrev is_first : ℕ → Bool
is_first b = eqb (entry_of 0 b) (after_bits 8 b 0)

-- entry b of a table after the first, as one zero byte leaves the entry of the table before it
abbrev is_next : ℕ → ℕ → Bool
is_next zeros b = eqb (entry_of (suc zeros) b) (after_bits 8 (entry_of zeros b) 0)

first_checked : agree_below is_first (λ _. true) 256 ≡ true
unfolding after_bits
first_checked = refl

others_checked : agree_below (λ zeros. agree_below (is_next zeros) (λ _. true) 256) (λ _. true) 15 ≡ true
unfolding after_bits
others_checked = refl

pub entry_at : (zeros b : ℕ) → zeros < 16 → b < 256 → entry_of zeros b ≡ after_bits (8 * zeros + 8) b 0
entry_at zero b m l = eqb-true _ _ (agree_below_at is_first (λ _. true) 256 b first_checked l)
entry_at (suc zeros) b m l =
    eqb-true _ _ (agree_below_at (is_next zeros) (λ _. true) 256 b (agree_below_at (λ zeros. agree_below (is_next zeros) (λ _. true) 256) (λ _. true) 15 zeros others_checked (omega arith)) l)
    ∙ ap (λ (z : ℕ). after_bits 8 z 0) (entry_at zeros b (omega arith) l)
    ∙ sym (joined (8 * suc zeros + 8) (8 * zeros + 8) 8 b (omega arith))
