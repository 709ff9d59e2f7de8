use Rattle.std.proofs.Common.{rules, ◌≡◌, ℕ, ◌+◌, ◌*◌, ◌<◌, ap, sym, ◌∙◌, get_or, [], ◌∷◌, List, length, drop, arith}
use Rattle.std.proofs.lemmas.List.{drop_all, drop_more}
use Rattle.mac_core.specs.Crc.{after_bits, after_bytes}
use Rattle.mac_core.proofs.LinearLemmas.{four_by_entries}
use Rattle.mac_core.proofs.crc.next_four.Goals as goal

-- the list from place i on
item : (xs rest : List ℕ) (i : ℕ) → length xs ≡ 4 → i < 4 → drop (i + 1) xs ≡ rest → drop i xs ≡ get_or xs i 0 ∷ rest
item xs rest i l m e = drop_more xs i 0 (omega arith) ∙ ap (λ (z : List ℕ). get_or xs i 0 ∷ z) e

-- a list of four, item by item
listed : (xs : List ℕ) → length xs ≡ 4 → xs ≡ get_or xs 0 0 ∷ get_or xs 1 0 ∷ get_or xs 2 0 ∷ get_or xs 3 0 ∷ []
listed xs l = item xs _ 0 l (omega arith) (item xs _ 1 l (omega arith) (item xs _ 2 l (omega arith) (item xs [] 3 l (omega arith) (drop_all 4 xs (omega arith)))))

pub returns : goal.returns
returns c =
    let bytes = c.args.bytes in
    let l : length bytes ≡ 4 = search rules in
    rw (c.entry.ensures, c.entry-2.ensures, c.entry-3.ensures, c.entry-4.ensures, c.to_le_bytes.ensures)
    (sym (ap (λ (list : List ℕ). after_bits (8 * c.args.zeros) (after_bytes c.args.register list) 0) (listed bytes l)
    ∙ four_by_entries c.args.register (get_or bytes 0 0) (get_or bytes 1 0) (get_or bytes 2 0) (get_or bytes 3 0) c.args.zeros
    c.ranges.register.fits c.element_fits.fits c.element_fits2.fits c.element_fits3.fits c.element_fits4.fits))
