-- The checksum of a frame, piece by piece.
use Rattle.std.proofs.Common.{◌≡◌, ℕ, ◌+◌, ◌-◌, ◌≤◌, ◌<◌, ◌^◌, List, ◌++◌, take, drop, Option, Some, None, ap, ◌∙◌, arith}
use Rattle.std.specs.Prelude.{IfSome}
use Rattle.std.proofs.Math.Seq.{take-add}
use Rattle.mac_core.specs.Crc.{after_bytes, before_any, remainder}
use Rattle.mac_core.proofs.CrcLemmas.{after_bytes-append, bytes_below, remainder_pieces}
use Rattle.eventstream.specs.Read.{IsSumOf}

-- the header block and the payload
front : (end headers : ℕ) (rest : List ℕ) → headers ≤ end → take end rest ≡ take headers rest ++ take (end - headers) (drop headers rest)
front end headers rest l = let whole : end ≡ headers + (end - headers) = omega arith in ap (λ (n : ℕ). take n rest) whole ∙ take-add headers (end - headers) rest

-- these, and the closing checksum
behind : (total : ℕ) (rest : List ℕ) → 16 ≤ total → take (total - 12) rest ≡ take (total - 16) rest ++ take 4 (drop (total - 16) rest)
behind total rest l = let whole : total - 12 ≡ total - 16 + 4 = omega arith in ap (λ (n : ℕ). take n rest) whole ∙ take-add (total - 16) 4 rest

summed_front : (register end headers : ℕ) (rest : List ℕ) → headers ≤ end
    → after_bytes register (take end rest) ≡ after_bytes (after_bytes register (take headers rest)) (take (end - headers) (drop headers rest))
summed_front register end headers rest l = ap (after_bytes register) (front end headers rest l) ∙ after_bytes-append register (take headers rest) (take (end - headers) (drop headers rest))

-- the remainder of all that is before the closing checksum
pub before_closing : (end headers : ℕ) (prelude rest : List ℕ) → headers ≤ end
    → remainder (prelude ++ take end rest) ≡ 0xFFFFFFFF - after_bytes (after_bytes (after_bytes before_any prelude) (take headers rest)) (take (end - headers) (drop headers rest))
before_closing end headers prelude rest l =
    remainder_pieces prelude (take end rest) ∙ ap (λ (r : ℕ). 0xFFFFFFFF - r) (summed_front (after_bytes before_any prelude) end headers rest l)

-- the checksum of a whole frame by its parts
pub whole_by_parts : (total headers checksum : ℕ) (prelude rest : List ℕ) → headers + 16 ≤ total → IsSumOf total prelude rest checksum
    → checksum ≡ after_bytes (after_bytes (after_bytes (after_bytes before_any prelude) (take headers rest)) (take (total - 16 - headers) (drop headers rest))) (take 4 (drop (total - 16) rest))
whole_by_parts total headers checksum prelude rest l is =
    let register = after_bytes before_any prelude in
    is ∙ after_bytes-append before_any prelude (take (total - 12) rest)
    ∙ ap (after_bytes register) (behind total rest (omega arith))
    ∙ after_bytes-append register (take (total - 16) rest) (take 4 (drop (total - 16) rest))
    ∙ ap (λ (r : ℕ). after_bytes r (take 4 (drop (total - 16) rest))) (summed_front register (total - 16) headers rest (omega arith))

-- the same, where the checksum may be known
pub known_behind : (total headers : ℕ) (prelude rest payload closing : List ℕ) (before : ℕ) (whole : Option ℕ) → headers + 16 ≤ total
    → before ≡ after_bytes (after_bytes before_any prelude) (take headers rest) → payload ≡ take (total - 16 - headers) (drop headers rest)
    → closing ≡ take 4 (drop (total - 16) rest) → IfSome whole (IsSumOf total prelude rest)
    → IfSome whole (λ whole. whole ≡ after_bytes (after_bytes before payload) closing)
known_behind total headers prelude rest payload closing before None l b p c is = tt
known_behind total headers prelude rest payload closing before (Some whole) l b p c is = rw (b, p, c) (whole_by_parts total headers whole prelude rest l is)

-- a checksum of two pieces has 32 bits
pub two_below : (xs ys : List ℕ) → after_bytes (after_bytes before_any xs) ys < 2 ^ 32
two_below xs ys = bytes_below _ ys (bytes_below before_any xs (omega arith))
