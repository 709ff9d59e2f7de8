use Rattle.std.proofs.Common.{rules, ◌≡◌, ℕ, ◌+◌, ◌<◌, ap, sym, ◌∙◌, get_or, [], ◌∷◌, List, length, drop, arith}
use Rattle.std.proofs.lemmas.List.{drop_all, drop_more}
use Rattle.mac_core.specs.Crc.{after_bytes}
use Rattle.mac_core.proofs.LinearLemmas.{sixteen_by_fours}
use Rattle.mac_core.proofs.crc.next_sixteen.Goals as goal

-- the list from place i on
item : (xs rest : List ℕ) (i : ℕ) → length xs ≡ 16 → i < 16 → drop (i + 1) xs ≡ rest → drop i xs ≡ get_or xs i 0 ∷ rest
item xs rest i l m e = drop_more xs i 0 (omega arith) ∙ ap (λ (z : List ℕ). get_or xs i 0 ∷ z) e

-- a list of sixteen, item by item
listed : (xs : List ℕ) → length xs ≡ 16 → xs ≡ get_or xs 0 0 ∷ get_or xs 1 0 ∷ get_or xs 2 0 ∷ get_or xs 3 0 ∷ get_or xs 4 0 ∷ get_or xs 5 0 ∷ get_or xs 6 0 ∷ get_or xs 7 0 ∷ get_or xs 8 0 ∷ get_or xs 9 0 ∷ get_or xs 10 0 ∷ get_or xs 11 0 ∷ get_or xs 12 0 ∷ get_or xs 13 0 ∷ get_or xs 14 0 ∷ get_or xs 15 0 ∷ []
listed xs l = item xs _ 0 l (omega arith) (item xs _ 1 l (omega arith) (item xs _ 2 l (omega arith) (item xs _ 3 l (omega arith) (item xs _ 4 l (omega arith) (item xs _ 5 l (omega arith) (item xs _ 6 l (omega arith) (item xs _ 7 l (omega arith) (item xs _ 8 l (omega arith) (item xs _ 9 l (omega arith) (item xs _ 10 l (omega arith) (item xs _ 11 l (omega arith) (item xs _ 12 l (omega arith) (item xs _ 13 l (omega arith) (item xs _ 14 l (omega arith) (item xs [] 15 l (omega arith) (drop_all 16 xs (omega arith)))))))))))))))))

pub returns : goal.returns
returns c =
    let bytes = c.args.bytes in
    let l : length bytes ≡ 16 = search rules in
    rw (c.next_four.ensures, c.next_four-2.ensures, c.next_four-3.ensures, c.next_four-4.ensures)
    (sym (ap (after_bytes c.args.register) (listed bytes l)
    ∙ sixteen_by_fours c.args.register (get_or bytes 0 0) (get_or bytes 1 0) (get_or bytes 2 0) (get_or bytes 3 0) (get_or bytes 4 0) (get_or bytes 5 0) (get_or bytes 6 0) (get_or bytes 7 0) (get_or bytes 8 0) (get_or bytes 9 0) (get_or bytes 10 0) (get_or bytes 11 0) (get_or bytes 12 0) (get_or bytes 13 0) (get_or bytes 14 0) (get_or bytes 15 0)))
