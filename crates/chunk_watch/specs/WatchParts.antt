-- Between the functions of a watch: a reader of `ChunkWatch` needs none of it.
use Rattle.std.specs.Prelude.{◌≡◌, ◌+◌, ◌<◌, ℕ, Bool, true, false, List, ◌++◌, bytes_eq, length, Option, Some, None, Result, Ok, Err, String, string_bytes}
use Rattle.std.specs.declared.alloc.Global.{Global}
use Rattle.chunk_watch.specs.Walk.{ChunkPoint, at_end, failed, in_chunks, step}
use Rattle.chunk_watch.specs.Watch.{ChunkWatching, is_other_length, rules_of, count_after}
use Rattle.chunk_watch.specs.declared.fault.ChunkFault.{ChunkFault}
use Rattle.chunk_watch.specs.declared.fault.ChunkFault.TheVariants.{NoEmptyChunk, OtherLength}
use Rattle.chunk_watch.specs.declared.watch.Phase.{Phase}
use Rattle.chunk_watch.specs.declared.watch.Phase.TheVariants as phases

-- the point that a watch keeps in its parts
abbrev pub chunk_point_of : Phase → ℕ → List ℕ → List ℕ → ChunkPoint
chunk_point_of phases.Chunks place before left = in_chunks before place left
chunk_point_of phases.End place before left = at_end before left
chunk_point_of (phases.Failed fault) place before left = failed fault

-- the data isn't of another length than declared
abbrev pub length_told : Bool → Result (Unit {0}) ChunkFault
length_told true = Err OtherLength
length_told false = Ok tt

-- why the end of a body isn't looked at, at a point
abbrev pub reached_at : Bool → ChunkPoint → Result (Unit {0}) ChunkFault
reached_at other_length (in_chunks before place left) = Err NoEmptyChunk
reached_at other_length (at_end before left) = length_told other_length
reached_at other_length (failed fault) = Err fault

-- why it isn't, where the watch is
abbrev pub end_reached : ChunkWatching → Result (Unit {0}) ChunkFault
end_reached watch = reached_at (is_other_length watch.declared watch.taken) watch.point

-- the own signature of a chunk, where it is the one that the chunk carries
abbrev pub JudgesChunk : List ℕ → List ℕ → Option (String Global) → Type 0
JudgesChunk own signature (Some judged) = (string_bytes judged ≡ own) × (bytes_eq own signature ≡ true)
JudgesChunk own signature None = bytes_eq own signature ≡ false

-- the same, with the chunk's data behind what was given; and nothing for another signature, or where memory ran out
abbrev pub HandsChunk : {E : Type 0} → List ℕ → List ℕ → List ℕ → List ℕ → List ℕ → Result (Option (String Global)) E → Type 0
HandsChunk own signature bytes given gained (Ok (Some judged)) = (string_bytes judged ≡ own) × (bytes_eq own signature ≡ true) × (gained ≡ given ++ bytes)
HandsChunk own signature bytes given gained (Ok None) = (bytes_eq own signature ≡ false) × (gained ≡ given)
HandsChunk own signature bytes given gained (Err refused) = gained ≡ given

-- how much may still be walked
abbrev pub chunk_rank : ChunkPoint → ℕ
chunk_rank (in_chunks before place left) = length left + 2
chunk_rank (at_end before left) = 1
chunk_rank (failed fault) = 0

-- a step is taken, and there is less to be walked then; or there is none; or memory ran out, and nothing changes
abbrev pub StepsChunk : {E : Type 0} → ChunkWatching → List ℕ → ChunkWatching → List ℕ → Result Bool E → Type 0
StepsChunk old given new gained (Ok true) =
    (bytes : List ℕ) × (step (rules_of old) old.point ≡ Some (bytes, new.point)) × (gained ≡ given ++ bytes)
    × (new ≡ record old { point = new.point; taken = count_after old.taken bytes })
    × (chunk_rank new.point < chunk_rank old.point)
StepsChunk old given new gained (Ok false) = (step (rules_of old) old.point ≡ None) × (new ≡ old) × (gained ≡ given)
StepsChunk old given new gained (Err refused) = (new ≡ old) × (gained ≡ given)
