-- The calls of an I/O object in memory, which counts those that it fails.
use Rattle.std.specs.Prelude.{◌≡◌, ℕ, ◌+◌, ◌-◌, ◌^◌, ◌↔◌, ◌≤◌, min, Contains, List}

-- the calls of an object: the numbers of those that are to fail, how many were made, and how many failed
pub record Tally : Type 0 where
  pub fails : List ℕ
  pub calls : ℕ
  pub faults : ℕ

-- a tally of no calls, of which these are to fail
abbrev pub no_calls : List ℕ → Tally
no_calls fails = record { fails = fails; calls = 0; faults = 0 }

-- one more than a count, saturating at the greatest number
abbrev pub one_more : ℕ → ℕ
one_more count = min (count + 1) (2 ^ 64 - 1)

-- one call more, counted from 1: it fails exactly where its number is listed, and exactly then one fault more is counted
pub record FailsAsListed (Fails : Type 0) (before now : Tally) : Type 0 where
  pub fails : Fails ↔ Contains before.fails now.calls
  pub calls : now.calls ≡ one_more before.calls
  pub fault : Fails → now.faults ≡ one_more before.faults
  pub no_fault : (Fails → ⊥) → now.faults ≡ before.faults
  pub count : before.faults ≤ now.faults
  pub same : now.fails ≡ before.fails
