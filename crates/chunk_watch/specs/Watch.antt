-- What a watch of a body in signed chunks promises of each call: the data of the chunks that carried their own signatures, each once.
use Rattle.std.specs.Prelude.{◌≡◌, ◌≢◌, ◌⊎◌, ℕ, ◌+◌, ◌<◌, ◌≤◌, ◌==◌, Bool, true, false, not, List, [], ◌∷◌, ◌++◌, length, Option, Some, None, Result, Ok, Err}
use Rattle.smithy_core.specs.Civil.{is_in_years}
use Rattle.smithy_core.specs.Moment.{Instant}
use Rattle.eventstream.specs.Key.{Signer}
use Rattle.sigv4.specs.Chunk.{chunk_signature}
use Rattle.aws_chunked.specs.Body.{Trailer}
use Rattle.aws_chunked.specs.Made.{joined}
use Rattle.aws_chunked.specs.Options.{counted}
use Rattle.aws_chunked.specs.Text.{crlf}
use Rattle.chunk_watch.specs.Signing.{Signing}
use Rattle.chunk_watch.specs.Trailers.{JudgesTrailers}
use Rattle.chunk_watch.specs.Walk.{ChunkPoint, Rules, Walks, at_end, failed, in_chunks, step, with_more}
use Rattle.chunk_watch.specs.declared.fault.ChunkFault.{ChunkFault}
use Rattle.chunk_watch.specs.declared.fault.ChunkFault.TheVariants.{MomentOutOfRange, NoEmptyChunk, NoMemory, OtherEnd, OtherLength}
use Rattle.chunk_watch.specs.declared.limits.ChunkLimits.{ChunkLimits}

-- what contracts see of a watch: who signs and when, the limits, how much data was declared, the point that its walk is at, and how much data was handed out
pub record ChunkWatching : Type 0 where
  pub signing : Signing
  pub limits : ChunkLimits
  pub declared : Option ℕ
  pub point : ChunkPoint
  pub taken : ℕ

-- how much data was handed out after some more, counted up to the greatest number
abbrev pub count_after : ℕ → List ℕ → ℕ
count_after taken [] = taken
count_after taken (byte ∷ bytes) = counted (taken + length (byte ∷ bytes))

-- the rules of its walk: a chunk's own signature is that of its data at the moment, over the signature before it
abbrev pub rules_of : ChunkWatching → Rules
rules_of watch = record {
  own = λ before bytes. chunk_signature bytes watch.signing.signer watch.signing.at before;
  most = watch.limits.chunk;
  most_end = watch.limits.end;
}

-- a watch of a body of which it has taken nothing
abbrev pub new_chunk_watch : Signer → Instant → ChunkLimits → List ℕ → ChunkWatching
new_chunk_watch signer at limits seed = record {
  signing = record { signer = signer; at = at };
  limits = limits;
  declared = None;
  point = in_chunks seed 1 [];
  taken = 0;
}

-- this watch is made, or the moment is refused, at which nothing is signed, or memory ran out
abbrev pub MakesWatch : ChunkWatching → Result ChunkWatching ChunkFault → Type 0
MakesWatch wanted (Ok watch) = watch ≡ wanted
MakesWatch wanted (Err fault) = ((fault ≡ MomentOutOfRange) × (is_in_years wanted.signing.at ≡ false)) ⊎ (fault ≡ NoMemory)

-- what is said at a point
abbrev pub chunk_state : ChunkPoint → Result (Unit {0}) ChunkFault
chunk_state (in_chunks before place left) = Ok tt
chunk_state (at_end before left) = Ok tt
chunk_state (failed fault) = Err fault

-- the walk goes on from a point, and what it hands out stands behind what was given
pub record HandsChunks (old : ChunkWatching) (from : ChunkPoint) (given : List ℕ) (new : ChunkWatching) (gained : List ℕ) : Type 0 where
  pub handed : List (List ℕ)
  pub gained_is : gained ≡ given ++ joined handed
  pub walks : Walks (rules_of old) from handed new.point
  pub same : new ≡ record old { point = new.point; taken = count_after old.taken (joined handed) }

-- no step is left, and the state is the answer; or memory ran out
abbrev pub AnswersChunks : ChunkWatching → Result (Unit {0}) ChunkFault → Type 0
AnswersChunks watch result = ((step (rules_of watch) watch.point ≡ None) × (result ≡ chunk_state watch.point)) ⊎ (result ≡ Err NoMemory)

-- what a call of `feed` does: the walk goes on with the piece behind the bytes that were left over, to where no step is left; or nothing is taken for want
-- of memory
abbrev pub FeedsChunks : ChunkWatching → List ℕ → List ℕ → ChunkWatching → List ℕ → Result (Unit {0}) ChunkFault → Type 0
FeedsChunks old piece given new gained result =
    (HandsChunks old (with_more old.point piece) given new gained × AnswersChunks new result) ⊎ ((result ≡ Err NoMemory) × (new ≡ old) × (gained ≡ given))

-- what is kept of a body at a point lies within the limits: less than a chunk, with its line of up to 91 bytes and the end of its data, and behind the empty
-- chunk so many bytes at most
abbrev pub IsKeptWithin : ChunkLimits → ChunkPoint → Type 0
IsKeptWithin limits (in_chunks before place left) = length left < limits.chunk + 93
IsKeptWithin limits (at_end before left) = length left ≤ limits.end
IsKeptWithin limits (failed fault) = Unit {0}

-- after a call of `feed` that memory sufficed for
abbrev pub KeepsWithin : ChunkWatching → Result (Unit {0}) ChunkFault → Type 0
KeepsWithin watch result = IsKeptWithin watch.limits watch.point ⊎ (result ≡ Err NoMemory)

-- data was declared, and of another length
abbrev pub is_other_length : Option ℕ → ℕ → Bool
is_other_length None taken = false
is_other_length (Some declared) taken = not (declared == taken)

-- the bytes behind the empty chunk are an empty line, or they aren't, where the data isn't of another length than declared
abbrev pub EndsByLine : Bool → List ℕ → Result (Unit {0}) ChunkFault → Type 0
EndsByLine true left result = result ≡ Err OtherLength
EndsByLine false left (Ok _) = left ≡ crlf
EndsByLine false left (Err fault) = (fault ≡ OtherEnd) × (left ≢ crlf)

-- what a call of `finish` does at a point: behind the empty chunk an empty line ends the body, and else the body has no end
abbrev pub EndsAt : Bool → ChunkPoint → Result (Unit {0}) ChunkFault → Type 0
EndsAt other_length (in_chunks before place left) result = result ≡ Err NoEmptyChunk
EndsAt other_length (at_end before left) result = EndsByLine other_length left result
EndsAt other_length (failed fault) result = result ≡ Err fault

-- what `finish` does at the point where the watch is
abbrev pub EndsBody : ChunkWatching → Result (Unit {0}) ChunkFault → Type 0
EndsBody watch result = EndsAt (is_other_length watch.declared watch.taken) watch.point result

-- behind the empty chunk the trailers are judged, where the data isn't of another length than declared
abbrev pub EndsByTrailers : Bool → Signing → List ℕ → Option (List ℕ) → List ℕ → Result (List Trailer) ChunkFault → Type 0
EndsByTrailers true signing before announced left result = result ≡ Err OtherLength
EndsByTrailers false signing before announced left result = JudgesTrailers signing before announced left result

-- what a call of `finish_with_trailers` does at a point
abbrev pub EndsSignedAt : Bool → Signing → Option (List ℕ) → ChunkPoint → Result (List Trailer) ChunkFault → Type 0
EndsSignedAt other_length signing announced (in_chunks before place left) result = result ≡ Err NoEmptyChunk
EndsSignedAt other_length signing announced (at_end before left) result = EndsByTrailers other_length signing before announced left result
EndsSignedAt other_length signing announced (failed fault) result = result ≡ Err fault

-- what `finish_with_trailers` does there
abbrev pub EndsWithTrailers : ChunkWatching → Option (List ℕ) → Result (List Trailer) ChunkFault → Type 0
EndsWithTrailers watch announced result = EndsSignedAt (is_other_length watch.declared watch.taken) watch.signing announced watch.point result
