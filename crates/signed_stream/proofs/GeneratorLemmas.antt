-- Draws, one after the other.
use Rattle.std.proofs.Common.{◌≡◌, ℕ, suc, ◌+◌, ◌-◌, ◌%◌, ◌/◌, ◌<◌, ◌≤◌, List, [], ◌∷◌, ◌++◌, sym, ◌∙◌, arith, append_assoc, append-nil}
use Rattle.smithy_core.specs.Message.{Parts}
use Rattle.signed_stream.specs.Generator.{draw_after, drawn_bytes, drawn_event, drawn_events, drawn_len, next_draw}

-- a product that wraps before the sum does
pub wrapped : (n : ℕ) → (n % 18446744073709551616 + 1442695040888963407) % 18446744073709551616 ≡ (n + 1442695040888963407) % 18446744073709551616
wrapped n = omega arith

-- a draw fits 64 bits
pub draw_fits : (draw : ℕ) → next_draw draw < 18446744073709551616
unfolding next_draw
draw_fits draw = omega arith

-- the bytes that are left, after one was drawn
pub byte_drawn : (n i draw : ℕ) (bytes all : List ℕ) → i < n → bytes ++ drawn_bytes (n - i) draw ≡ all
    → (bytes ++ next_draw draw / 72057594037927936 ∷ []) ++ drawn_bytes (n - (i + 1)) (next_draw draw) ≡ all
unfolding drawn_bytes
byte_drawn n i draw bytes all more is =
    let left : n - i ≡ suc (n - (i + 1)) = omega arith in
    append_assoc bytes (next_draw draw / 72057594037927936 ∷ []) (drawn_bytes (n - (i + 1)) (next_draw draw)) ∙ rw left at is

-- the draw that comes after those that are left
pub draw_left : (n i draw last : ℕ) → i < n → draw_after (n - i) draw ≡ last → draw_after (n - (i + 1)) (next_draw draw) ≡ last
unfolding draw_after
draw_left n i draw last more is = let left : n - i ≡ suc (n - (i + 1)) = omega arith in rw left at is

-- the events that are left, after one was drawn
pub event_drawn : (n i draw : ℕ) (events all : List Parts) → i < n → events ++ drawn_events (n - i) draw ≡ all
    → (events ++ drawn_event (next_draw draw) ∷ []) ++ drawn_events (n - (i + 1)) (draw_after (drawn_len (next_draw draw)) (next_draw draw)) ≡ all
unfolding drawn_events
event_drawn n i draw events all more is =
    let left : n - i ≡ suc (n - (i + 1)) = omega arith in
    append_assoc events (drawn_event (next_draw draw) ∷ []) (drawn_events (n - (i + 1)) (draw_after (drawn_len (next_draw draw)) (next_draw draw))) ∙ rw left at is

-- where none is left, those so far are all
pub bytes_drawn : (n i draw : ℕ) (bytes all : List ℕ) → n ≤ i → bytes ++ drawn_bytes (n - i) draw ≡ all → bytes ≡ all
unfolding drawn_bytes
bytes_drawn n i draw bytes all done is = let left : n - i ≡ 0 = omega arith in sym (append-nil bytes) ∙ rw left at is

pub draws_done : (n i draw last : ℕ) → n ≤ i → draw_after (n - i) draw ≡ last → draw ≡ last
unfolding draw_after
draws_done n i draw last done is = let left : n - i ≡ 0 = omega arith in rw left at is

pub all_drawn : (n i draw : ℕ) (events all : List Parts) → n ≤ i → events ++ drawn_events (n - i) draw ≡ all → events ≡ all
unfolding drawn_events
all_drawn n i draw events all done is = let left : n - i ≡ 0 = omega arith in sym (append-nil events) ∙ rw left at is
