-- What contracts say of a clock. The list of what it gave is optional: it need not tell.
use Rattle.std.specs.Prelude.{◌≡◌, ℕ, zero, suc, ◌-◌, ◌^◌, List, [], ◌∷◌, ◌++◌, Option, Some, None, nat_lt, if◌then◌else◌}
use Rattle.std.specs.List.{slice_index_or}
use Rattle.smithy_core.specs.Moment.{Instant}
use Rattle.smithy_core.specs.Calls.{one_more}

-- the answers were appended, where the list is told afterwards
abbrev pub GainsMoments : Option (List Instant) → Option (List Instant) → List Instant → Type 0
GainsMoments before None moments = Unit {0}
GainsMoments None (Some now) moments = ⊥
GainsMoments (Some before) (Some now) moments = now ≡ before ++ moments

-- one moment was appended to those that a clock gave
abbrev pub GainsOne : Option (List Instant) → Option (List Instant) → Instant → Type 0
GainsOne before now moment = GainsMoments before now (moment ∷ [])

-- the first n answers of a clock over these moments: in order, and then the last again and again
abbrev pub answers : Instant → List Instant → ℕ → List Instant
answers last moments zero = []
answers last moments (suc n) = answers last moments n ++ slice_index_or moments n last ∷ []

-- told while the count of calls is below its greatest value
abbrev pub given_of : Instant → List Instant → ℕ → Option (List Instant)
given_of last moments count = if nat_lt count (2 ^ 64 - 1) then Some (answers last moments count) else None

-- what contracts see of a clock: the moments that it is to give, the one that follows them again and again, and the calls made
pub record ClockState : Type 0 where
  pub moments : List Instant
  pub last : Instant
  pub calls : ℕ

-- what a clock has given
abbrev pub given : ClockState → Option (List Instant)
given clock = given_of clock.last clock.moments clock.calls

-- the next moment was given; calls are counted up to the greatest number
pub record GivesNext (before : ClockState) (moment : Instant) (now : ClockState) : Type 0 where
  pub next : moment ≡ slice_index_or before.moments before.calls before.last
  pub counted : now ≡ record before { calls = one_more before.calls }
