-- What is kept of a body lies within the limits.
use Rattle.std.proofs.Common.{◌≡◌, ℕ, ◌+◌, ◌<◌, ◌≤◌, ◌==◌, Bool, true, false, cond, List, [], Option, Some, None, take, drop, length, inl, inr, refl, sym, ap, subst, arith, length-drop}
use Rattle.std.specs.Prelude.{Result, Err, bytes_eq, nat_lt}
use Rattle.std.specs.List.{prefix_len}
use Rattle.std.specs.Str.Parse.{digits_value}
use Rattle.std.proofs.lemmas.Bool.Decides.{nat_tests}
use Rattle.aws_chunked.specs.Text.{crlf}
use Rattle.chunk_watch.specs.Front.{Begun, bad, begun_behind, begun_line, begun_with, chunk, empty, front_begun, is_hex_digit, line_signature, short}
use Rattle.chunk_watch.specs.Signing.{Signing}
use Rattle.chunk_watch.specs.Walk.{ChunkPoint, Rules, at_end, failed, in_chunks, step, step_over}
use Rattle.chunk_watch.specs.Watch.{ChunkWatching, IsKeptWithin, KeepsWithin, rules_of}
use Rattle.chunk_watch.specs.WatchParts.{chunk_point_of}
use Rattle.chunk_watch.specs.declared.fault.ChunkFault.{ChunkFault}
use Rattle.chunk_watch.specs.declared.fault.ChunkFault.TheVariants.{BadEnd, BadLine, LongChunk, LongEnd, NoMemory}
use Rattle.chunk_watch.specs.declared.limits.ChunkLimits.{ChunkLimits}
use Rattle.chunk_watch.specs.declared.watch.Phase.{Phase}
use Rattle.chunk_watch.specs.declared.watch.Phase.TheVariants as phases

module _ (most place : ℕ) where
  -- of data that isn't there whole
  behind : (size line_len len : ℕ) (signature given : List ℕ) (b1 b2 b3 b4 : Bool)
      → cond b1 (bad (LongChunk place)) (cond b2 (empty signature line_len) (cond b3 short (cond b4 (chunk signature given len) (bad (BadEnd place))))) ≡ short
      → (b1 ≡ false) × (b3 ≡ true)
  behind size line_len len signature given true b2 b3 b4 e = absurd (cc)
  behind size line_len len signature given false true b3 b4 e = absurd (cc)
  behind size line_len len signature given false false true b4 e = (refl, refl)
  behind size line_len len signature given false false false true e = absurd (cc)
  behind size line_len len signature given false false false false e = absurd (cc)

  data_short : (size line_len : ℕ) (bytes signature : List ℕ) → begun_behind most place size line_len bytes signature ≡ short → (size ≤ most) × (length bytes < size + 2)
  data_short size line_len bytes signature e =
      let parts = behind size line_len (line_len + size + 2) signature (take size bytes) (nat_lt most size) (size == 0) (nat_lt (length bytes) (size + 2))
      (bytes_eq (take 2 (drop size bytes)) crlf) e in
      (low parts.0, few parts.1)
    where
      low : nat_lt most size ≡ false → size ≤ most
      low h = grind (arith, nat_tests)

      few : nat_lt (length bytes) (size + 2) ≡ true → length bytes < size + 2
      few h = grind (arith, nat_tests)

  line_short : (size line_len : ℕ) (bytes : List ℕ) (signature : Option (List ℕ)) → begun_line most place size line_len bytes signature ≡ short
      → (size ≤ most) × (length bytes < size + 2)
  line_short size line_len bytes None e = absurd (cc)
  line_short size line_len bytes (Some signature) e = data_short size line_len bytes signature e

  with_short : (bytes : List ℕ) (n : ℕ) → begun_with most place bytes n ≡ short → length bytes < most + 93
  with_short bytes n e = by (nat_lt 8 n) (nat_lt (length (drop n bytes)) 83) (n == 0) refl refl e
    where
      low : nat_lt 8 n ≡ false → n ≤ 8
      low h = grind (arith, nat_tests)

      few : nat_lt (length (drop n bytes)) 83 ≡ true → length (drop n bytes) < 83
      few h = grind (arith, nat_tests)

      by : (b1 b2 b3 : Bool) → nat_lt 8 n ≡ b1 → nat_lt (length (drop n bytes)) 83 ≡ b2
          → cond b1 (bad (BadLine place)) (cond b2 short (cond b3 (bad (BadLine place))
          (begun_line most place (digits_value 16 (take n bytes)) (n + 83) (drop 83 (drop n bytes)) (line_signature (take 83 (drop n bytes)))))) ≡ short
          → length bytes < most + 93
      by true b2 b3 p q e = absurd (cc)
      by false true b3 p q e = omega (arith, low p, few q, length-drop n bytes)
      by false false true p q e = absurd (cc)
      by false false false p q e =
          let both = line_short (digits_value 16 (take n bytes)) (n + 83) (drop 83 (drop n bytes)) (line_signature (take 83 (drop n bytes))) e in
          omega (arith, low p, both.0, both.1, length-drop 83 (drop n bytes), length-drop n bytes)

  front_short : (bytes : List ℕ) → front_begun most place bytes ≡ short → length bytes < most + 93
  unfolding front_begun
  front_short bytes e = with_short bytes (prefix_len is_hex_digit bytes) e

-- ---- where no step is left

over_short : (rules : Rules) (before : List ℕ) (place : ℕ) (left : List ℕ) (f : Begun) → step_over rules before place left f ≡ None → f ≡ short
over_short rules before place left short e = refl
over_short rules before place left (bad fault) e = absurd (cc)
over_short rules before place left (chunk signature bytes len) e = absurd (cc)
over_short rules before place left (empty signature len) e = absurd (cc)

within : (rules : Rules) (limits : ChunkLimits) (point : ChunkPoint) → rules.most ≡ limits.chunk → rules.most_end ≡ limits.end → step rules point ≡ None → IsKeptWithin limits point
within rules limits (in_chunks before place left) most_is end_is e =
    subst (λ (n : ℕ). length left < n + 93) most_is (front_short rules.most place left (over_short rules before place left (front_begun rules.most place left) e))
within rules limits (at_end before left) most_is end_is e = subst (λ (n : ℕ). length left ≤ n) end_is (by (nat_lt rules.most_end (length left)) refl e)
  where
    by : (b : Bool) → nat_lt rules.most_end (length left) ≡ b → ◌≡◌ {A = Option (List ℕ × ChunkPoint)} (cond b (Some ([], failed LongEnd)) None) None
        → length left ≤ rules.most_end
    by true is e = absurd (cc)
    by false is e = grind (arith, nat_tests)
within rules limits (failed fault) most_is end_is e = tt

pub keeps_stopped : (mid new : ChunkWatching) (result : Result (Unit {0}) ChunkFault) → step (rules_of mid) mid.point ≡ None → new ≡ mid → KeepsWithin new result
keeps_stopped mid new result none same =
    subst (λ (watch : ChunkWatching). KeepsWithin watch result) (sym same) (inl (within (rules_of mid) mid.limits mid.point refl refl none))

-- memory ran out
pub keeps_none : (new : ChunkWatching) (fault : ChunkFault) → fault ≡ NoMemory → KeepsWithin new (Err fault)
keeps_none new fault room = inr (ap (λ (f : ChunkFault). Err f) room)

-- behind a fault nothing is kept
pub keeps_failed : (signing : Signing) (limits : ChunkLimits) (declared : Option ℕ) (taken place : ℕ) (before left : List ℕ) (phase : Phase) (fault : ChunkFault)
    → phase ≡ phases.Failed fault
    → KeepsWithin (record { signing = signing; limits = limits; declared = declared; point = chunk_point_of phase place before left; taken = taken }) (Err fault)
keeps_failed signing limits declared taken place before left phase fault is =
    subst (λ (p : Phase). KeepsWithin (record { signing = signing; limits = limits; declared = declared; point = chunk_point_of p place before left; taken = taken }) (Err fault)) (sym is) (inl tt)

pub ruleset keeps = (keeps_stopped, keeps_none, keeps_failed)
