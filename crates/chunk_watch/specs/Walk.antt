-- The walk over the chunks of a body: a step is taken where a chunk is there whole, and its data is handed out where it carries its own signature.
use Rattle.std.specs.Prelude.{◌≡◌, ℕ, ◌+◌, Bool, true, false, nat_lt, min, List, [], ◌∷◌, ◌++◌, bytes_eq, drop, length, Option, Some, None, if◌then◌else◌}
use Rattle.aws_chunked.specs.Made.{joined}
use Rattle.chunk_watch.specs.Front.{Begun, front_begun, short, bad, chunk, empty}
use Rattle.chunk_watch.specs.declared.fault.ChunkFault.{ChunkFault}
use Rattle.chunk_watch.specs.declared.fault.ChunkFault.TheVariants.{LongEnd, Mismatch}

-- the signature of data over the signature before it, how many bytes a chunk's data has at most, and how many stand behind the empty chunk
pub record Rules : Type 0 where
  pub own : List ℕ → List ℕ → List ℕ
  pub most : ℕ
  pub most_end : ℕ

-- where a reader is
pub data ChunkPoint : Type 0 where
  -- over a signature, before the chunk at a place, with bytes left over that don't hold it whole
  in_chunks : List ℕ → ℕ → List ℕ → ChunkPoint
  -- behind the empty chunk, over its signature, with the bytes behind it
  at_end : List ℕ → List ℕ → ChunkPoint
  -- at the first fault
  failed : ChunkFault → ChunkPoint

-- the place of the next chunk; the last one that can be named stays
abbrev pub next_place : ℕ → ℕ
next_place place = min (place + 1) 18446744073709551615

-- a chunk that carries its own signature is passed, and its data handed out; another one is a fault
abbrev pub chunk_compared : Bool → ℕ → List ℕ → ChunkPoint → List ℕ × ChunkPoint
chunk_compared true place bytes next = (bytes, next)
chunk_compared false place bytes next = ([], failed (Mismatch place))

-- the step over what stands first
abbrev pub step_over : Rules → List ℕ → ℕ → List ℕ → Begun → Option (List ℕ × ChunkPoint)
step_over rules before place left short = None
step_over rules before place left (bad fault) = Some ([], failed fault)
step_over rules before place left (chunk signature bytes len) =
    let own = rules.own before bytes in
    Some (chunk_compared (bytes_eq own signature) place bytes (in_chunks own (next_place place) (drop len left)))
step_over rules before place left (empty signature len) =
    let own = rules.own before [] in
    Some (chunk_compared (bytes_eq own signature) place [] (at_end own (drop len left)))

-- the step from a point, where there is one: the bytes that it hands out, and the next point
abbrev pub step : Rules → ChunkPoint → Option (List ℕ × ChunkPoint)
step rules (in_chunks before place left) = step_over rules before place left (front_begun rules.most place left)
step rules (at_end before left) = if nat_lt rules.most_end (length left) then Some ([], failed LongEnd) else None
step rules (failed fault) = None

-- steps from one point to another, that hand out these bytes
abbrev pub Walks : Rules → ChunkPoint → List (List ℕ) → ChunkPoint → Type 0
Walks rules from [] to = to ≡ from
Walks rules from (bytes ∷ others) to = (next : ChunkPoint) × (step rules from ≡ Some (bytes, next)) × Walks rules next others to

-- a point with more bytes left over
abbrev pub with_more : ChunkPoint → List ℕ → ChunkPoint
with_more (in_chunks before place left) more = in_chunks before place (left ++ more)
with_more (at_end before left) more = at_end before (left ++ more)
with_more (failed fault) more = failed fault

-- calls with these pieces, one after another, hand out these bytes and lead from one point to another
abbrev pub FedAll : Rules → ChunkPoint → List (List ℕ) → List ℕ → ChunkPoint → Type 0
FedAll rules from [] given to = (given ≡ []) × (to ≡ from)
FedAll rules from (piece ∷ pieces) given to =
    (handed : List (List ℕ)) × (next : ChunkPoint) × (others : List ℕ) × Walks rules (with_more from piece) handed next × (given ≡ joined handed ++ others)
    × FedAll rules next pieces others to

-- the same bytes in other pieces hand out the same and lead to the same point, where no step is left
abbrev pub IsAnyCut : Rules → Type 0
IsAnyCut rules =
    (from : ChunkPoint) (pieces others : List (List ℕ)) (given told : List ℕ) (to end : ChunkPoint) → joined pieces ≡ joined others → FedAll rules from pieces given to
    → FedAll rules from others told end → step rules to ≡ None → step rules end ≡ None → (told ≡ given) × (end ≡ to)
