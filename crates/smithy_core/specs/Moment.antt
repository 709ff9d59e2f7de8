-- What contracts see of a moment.
use Rattle.std.specs.Prelude.{ℕ, ◌/◌, ◌*◌, ℤ, pos, negsuc, ◌+ℤ◌, ◌*ℤ◌, ◌≤ℤ◌, ◌&&◌, Option, Some, None, if◌then◌else◌, int_le, option_map, unsigned_abs, unwrap_or}
use Rattle.std.specs.Int.{int_div_euclid, int_rem_euclid}

-- seconds since 1970-01-01T00:00:00Z, and the nanoseconds after them
pub record Instant : Type 0 where
  pub secs : ℤ
  pub nanos : ℕ

-- a moment without its nanoseconds
abbrev pub floor_secs : Instant → Instant
floor_secs t = record { secs = t.secs; nanos = 0 }

-- whole milliseconds, rounded down
abbrev pub floor_ms : Instant → ℤ
floor_ms t = t.secs *ℤ pos 1000 +ℤ pos (t.nanos / 1000000)

-- the nanoseconds since 1970-01-01T00:00:00Z
abbrev pub total_nanos : Instant → ℤ
total_nanos t = t.secs *ℤ pos 1000000000 +ℤ pos t.nanos

-- within the nanoseconds that a moment with 64 bits of seconds has
abbrev pub IsNanos : ℤ → Type 0
IsNanos n = (negsuc 9999999999999999999999999999 ≤ℤ n) × (n ≤ℤ pos 9999999999999999999999999999)

-- a number, where it fits 64 bits
abbrev pub if_i64 : ℤ → Option ℤ
if_i64 n = if int_le (negsuc 9223372036854775807) n && int_le n (pos 9223372036854775807) then Some n else None

-- the moment so many nanoseconds after 1970-01-01T00:00:00Z, where its seconds fit 64 bits
unfoldable pub at_nanos : ℤ → Option Instant
at_nanos nanos =
    option_map (λ secs. record { secs = secs; nanos = unsigned_abs (int_rem_euclid nanos (pos 1000000000)) }) (if_i64 (int_div_euclid nanos (pos 1000000000)))

-- the moment so many milliseconds later, or the same where its seconds don't fit
unfoldable pub shifted : Instant → ℤ → Instant
shifted t millis = unwrap_or (at_nanos (total_nanos t +ℤ millis *ℤ pos 1000000)) t

-- the moment of so many whole milliseconds
abbrev pub at_ms : ℤ → Instant
at_ms ms = record { secs = int_div_euclid ms (pos 1000); nanos = unsigned_abs (int_rem_euclid ms (pos 1000)) * 1000000 }

-- a moment, floored to whole milliseconds
abbrev pub floored : Instant → Instant
floored t = record { secs = t.secs; nanos = t.nanos / 1000000 * 1000000 }
