-- The flat list as pieces come and go.
use Rattle.std.proofs.Common.{◌≡◌, ℕ, zero, suc, ◌+◌, ◌-◌, ◌<◌, ◌≤◌, nat_lt, true, false, List, [], ◌∷◌, ◌++◌, length, take, drop, Some, None, ap, ◌∙◌, refl, sym, arith, append-nil, length-append, length-drop, slice_index_or}
use Rattle.std.proofs.lemmas.Bool.{le-ltb, lt-ltb}
use Rattle.std.proofs.lemmas.List.{drop-append-le, drop-drop, take-append-le}
use Rattle.std.proofs.lemmas.List.Concat.{flat_map-append}
use Rattle.std.specs.List.{AllByRecursion, flat_map}
use Rattle.seg_buf.specs.Segments.{LieIn, prelude_len, flat, left_of, first_segment, cut, with_segment, AreLive}

-- the bytes of the pieces, one after another
abbrev joined : List (List ℕ) → List ℕ
joined pieces = flat_map (λ piece. piece) pieces

-- what came first and what the pieces have left are these bytes
pub record AreSplit (front : List ℕ) (pieces : List (List ℕ)) (taken : ℕ) (bytes : List ℕ) : Type 0 where
  pub live : AreLive pieces taken
  pub all : front ++ flat pieces taken ≡ bytes

-- what was taken is within the pieces
taken_within : (pieces : List (List ℕ)) (taken : ℕ) → AreLive pieces taken → taken ≤ length (joined pieces)
taken_within [] taken live = omega arith
taken_within (piece ∷ pieces) taken live = omega (arith, length-append piece (joined pieces))

-- a piece at the end joins the flat list at its end
pub flat_pushed : (pieces : List (List ℕ)) (taken : ℕ) (piece : List ℕ) → AreLive pieces taken → flat (pieces ++ piece ∷ []) taken ≡ flat pieces taken ++ piece
flat_pushed pieces taken piece live =
    ap (drop taken) (flat_map-append (λ part. part) pieces (piece ∷ []) ∙ ap (λ bytes. joined pieces ++ bytes) (append-nil piece))
    ∙ drop-append-le taken (joined pieces) piece (taken_within pieces taken live)

-- a piece that isn't empty is live at the end
pub live_pushed : (pieces now : List (List ℕ)) (taken : ℕ) (piece : List ℕ) → now ≡ pieces ++ piece ∷ [] → AreLive pieces taken → 0 < length piece → AreLive now taken
live_pushed [] now taken piece pushed live filled = rw pushed (omega arith, refl)
live_pushed (first ∷ pieces) now taken piece pushed live filled = rw pushed (live.0, live_pushed pieces (pieces ++ piece ∷ []) 0 piece refl live.1 filled)

-- it adds its length
pub length_pushed : (pieces now : List (List ℕ)) (taken : ℕ) (piece : List ℕ) → now ≡ pieces ++ piece ∷ [] → AreLive pieces taken → length (flat now taken) ≡ length (flat pieces taken) + length piece
length_pushed pieces now taken piece pushed live = rw (pushed, flat_pushed pieces taken piece live) (length-append (flat pieces taken) piece)

-- it is a segment at the end
pub segment_pushed : (pieces now : List (List ℕ)) (taken : ℕ) (piece : List ℕ) → now ≡ pieces ++ piece ∷ [] → AreLive pieces taken → 0 < length piece → left_of now taken ≡ with_segment (left_of pieces taken) piece
segment_pushed pieces now taken [] pushed live filled = absurd (omega arith)
segment_pushed [] now taken (byte ∷ bytes) pushed live filled = rw (pushed, live) refl
segment_pushed (first ∷ pieces) now taken (byte ∷ bytes) pushed live filled = rw pushed refl

-- cutting nothing leaves the segments
pub cut_nothing : (segments : List (List ℕ)) → cut 0 segments ≡ segments
unfolding cut
cut_nothing segments = refl

-- cutting less than the first piece has left
pub cut_within : (piece : List ℕ) (pieces : List (List ℕ)) (taken n : ℕ) → 0 < n → taken + n < length piece
    → left_of (piece ∷ pieces) (taken + n) ≡ cut n (left_of (piece ∷ pieces) taken)
unfolding cut
cut_within piece pieces taken zero some within = absurd (omega arith)
cut_within piece pieces taken (suc n) some within =
    let more : nat_lt (suc n) (length (drop taken piece)) ≡ true = lt-ltb _ _ (omega (arith, length-drop taken piece)) in
    rw (more, drop-drop (suc n) taken piece) refl

-- the first n bytes of pieces whose first one is known
pub cut_first : (pieces segments : List (List ℕ)) (taken n : ℕ) (first : List ℕ) → 0 < n → 0 < length pieces → first ≡ slice_index_or pieces 0 first
    → taken + n < length first → left_of pieces taken ≡ segments → cut (n - n) (left_of pieces (taken + n)) ≡ cut n segments
cut_first [] segments taken n first some there is within all = absurd (omega arith)
cut_first (piece ∷ pieces) segments taken n first some there is within all =
    let none : n - n ≡ 0 = omega arith in
    rw (none, ← all) (cut_nothing (left_of (piece ∷ pieces) (taken + n)) ∙ cut_within piece pieces taken n some (rw (← is) within))

-- cutting what the first piece has left, at least
pub cut_past : (piece : List ℕ) (pieces : List (List ℕ)) (taken n : ℕ) → 0 < n → length piece - taken ≤ n
    → cut (n - (length piece - taken)) pieces ≡ cut n (left_of (piece ∷ pieces) taken)
unfolding cut
cut_past piece pieces taken zero some past = absurd (omega arith)
cut_past piece pieces taken (suc n) some past =
    let none : nat_lt (suc n) (length (drop taken piece)) ≡ false = le-ltb _ _ (omega (arith, length-drop taken piece)) in
    rw (none, length-drop taken piece) refl

-- pieces of which none was taken are left as they are
pub left_whole : (pieces : List (List ℕ)) → left_of pieces 0 ≡ pieces
left_whole [] = refl
left_whole (piece ∷ pieces) = refl

-- the bytes lie in what is left of the pieces
pub lie : (pieces : List (List ℕ)) (taken : ℕ) → AreLive pieces taken → LieIn (flat pieces taken) (left_of pieces taken)
lie [] taken live = record { whole = rw live refl; filled = tt }
lie (piece ∷ pieces) taken live = record {
  whole = drop-append-le taken piece (joined pieces) (omega (arith, live.0));
  filled = (omega (arith, length-drop taken piece, live.0), others pieces live.1);
}
  where
    others : (pieces : List (List ℕ)) → AreLive pieces 0 → AllByRecursion (λ segment. 0 < length segment) pieces
    others [] live = tt
    others (piece ∷ pieces) live = (live.0, others pieces live.1)

-- the bytes of a prelude, where the first segment has as many
pub prelude_in_first : (bytes first : List ℕ) (segments : List (List ℕ)) → LieIn bytes segments → Some first ≡ first_segment segments → prelude_len ≤ length first
    → take prelude_len first ≡ take prelude_len bytes
prelude_in_first bytes first [] lies is long = absurd (let none : Some first ≡ None = is in cc)
prelude_in_first bytes first (segment ∷ segments) lies is long =
    let some : Some first ≡ Some segment = is in
    let same : first ≡ segment = cc in
    rw (lies.whole, same) (sym (take-append-le prelude_len segment (flat_map (λ (part : List ℕ). part) segments) (rw (← same) long)))

pub ruleset cuts = (cut_nothing, cut_within, cut_past, left_whole)

pub ruleset pushes = (flat_pushed, live_pushed, length_pushed, segment_pushed)
