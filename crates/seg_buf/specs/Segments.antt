-- What contracts see of a `SegBuf`, how it shows itself, and what holds of its fields.
use Rattle.std.specs.Prelude.{◌≡◌, ℕ, zero, suc, ◌-◌, ◌<◌, nat_lt, if◌then◌else◌, List, [], ◌∷◌, ◌++◌, length, drop, codes, Option, Some, None}
use Rattle.std.specs.Fmt.{decimal}
use Rattle.std.specs.List.{AllByRecursion, flat_map}

-- the bytes of a prelude, with which a frame of the event stream encoding begins: two lengths and their checksum
abbrev pub prelude_len : ℕ
prelude_len = 12

-- all bytes in one list, the segments in which they lie, and for how many pieces more there is room
pub record Segments : Type 0 where
  pub bytes : List ℕ
  pub segments : List (List ℕ)
  pub spare : ℕ

-- the segments with one more at the end, where that isn't empty
abbrev pub with_segment : List (List ℕ) → List ℕ → List (List ℕ)
with_segment segments [] = segments
with_segment segments (byte ∷ bytes) = segments ++ (byte ∷ bytes) ∷ []

-- the segments without their first n bytes; one that is used up goes
unfoldable pub cut : ℕ → List (List ℕ) → List (List ℕ)
cut zero segments = segments
cut (suc n) [] = []
cut (suc n) (segment ∷ segments) =
    if nat_lt (suc n) (length segment) then drop (suc n) segment ∷ segments else cut (suc n - length segment) segments

-- the first segment, where there is one
abbrev pub first_segment : List (List ℕ) → Option (List ℕ)
first_segment [] = None
first_segment (segment ∷ segments) = Some segment

-- the bytes lie in the segments, none of which is empty
pub record LieIn (bytes : List ℕ) (segments : List (List ℕ)) : Type 0 where
  pub whole : bytes ≡ flat_map (λ segment. segment) segments
  pub filled : AllByRecursion (λ segment. 0 < length segment) segments

-- the bytes of the pieces, one after another, without those that were taken of the first
abbrev pub flat : List (List ℕ) → ℕ → List ℕ
flat pieces taken = drop taken (flat_map (λ piece. piece) pieces)

-- the pieces as they are left: the first without the bytes that were taken of it
abbrev pub left_of : List (List ℕ) → ℕ → List (List ℕ)
left_of [] taken = []
left_of (piece ∷ pieces) taken = drop taken piece ∷ pieces

-- no piece is used up: the first has more bytes than were taken of it, and no other is empty
abbrev pub AreLive : List (List ℕ) → ℕ → Type 0
AreLive [] taken = taken ≡ 0
AreLive (piece ∷ pieces) taken = (taken < length piece) × AreLive pieces 0

-- the pieces are live, and the kept length is that of the flat list
pub record IsKept (pieces : List (List ℕ)) (taken len : ℕ) : Type 0 where
  pub live : AreLive pieces taken
  pub counted : len ≡ length (flat pieces taken)

-- how a buffer shows itself: so many bytes
abbrev pub buffer_size : ℕ → List ℕ
buffer_size count = codes "SegBuf(" ++ (decimal count ++ codes " bytes)")
