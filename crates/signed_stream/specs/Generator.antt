-- The generator of events: a linear congruential one over 64 bits. A draw gives an event's header, and by its upper bits the length of its payload; the
-- bytes of the payload are the upper bits of the draws after it.
use Rattle.std.specs.Prelude.{ℕ, zero, suc, ◌+◌, ◌*◌, ◌/◌, ◌%◌, List, [], ◌∷◌, codes}
use Rattle.std.specs.Int.{w64, cast_signed}
use Rattle.smithy_core.specs.Message.{Parts}
use Rattle.smithy_core.specs.declared.header.HeaderValue.TheVariants.{Int64}

-- the draw after one
unfoldable pub next_draw : ℕ → ℕ
next_draw draw = (draw * 6364136223846793005 + 1442695040888963407) % 18446744073709551616

-- the draw that comes so many after one
unfoldable pub draw_after : ℕ → ℕ → ℕ
draw_after zero draw = draw
draw_after (suc n) draw = draw_after n (next_draw draw)

-- the upper eight bits of so many draws after one
unfoldable pub drawn_bytes : ℕ → ℕ → List ℕ
drawn_bytes zero draw = []
drawn_bytes (suc n) draw = next_draw draw / 72057594037927936 ∷ drawn_bytes n (next_draw draw)

-- how many bytes the payload of a draw's event has: its upper six bits
unfoldable pub drawn_len : ℕ → ℕ
drawn_len draw = draw / 288230376151711744

-- the event of a draw: a header `n` with its bits, and a payload
unfoldable pub drawn_event : ℕ → Parts
drawn_event draw = record { headers = record { name = codes "n"; value = Int64 (cast_signed w64 draw) } ∷ []; payload = drawn_bytes (drawn_len draw) draw }

-- so many events, the first of the draw after this one
unfoldable pub drawn_events : ℕ → ℕ → List Parts
drawn_events zero draw = []
drawn_events (suc count) draw = let first = next_draw draw in drawn_event first ∷ drawn_events count (draw_after (drawn_len first) first)
