-- How a body ends.
use Rattle.std.proofs.Common.{◌≡◌, ℕ, Bool, true, false, List, Option, Ok, Err, refl, sym, ap, ◌∙◌, subst, true≢false}
use Rattle.std.specs.Prelude.{Result, bytes_eq}
use Rattle.sigv4.proofs.InsertedLemmas.{itself, same_name}
use Rattle.aws_chunked.specs.Body.{Trailer}
use Rattle.aws_chunked.specs.Text.{crlf}
use Rattle.chunk_watch.specs.Signing.{Signing}
use Rattle.chunk_watch.specs.Trailers.{JudgesTrailers}
use Rattle.chunk_watch.specs.Walk.{ChunkPoint}
use Rattle.chunk_watch.specs.Watch.{ChunkWatching, EndsAt, EndsBody, EndsByLine, EndsSignedAt, EndsWithTrailers, is_other_length}
use Rattle.chunk_watch.specs.WatchParts.{chunk_point_of, end_reached, reached_at}
use Rattle.chunk_watch.specs.declared.fault.ChunkFault.{ChunkFault}
use Rattle.chunk_watch.specs.declared.fault.ChunkFault.TheVariants.{NoEmptyChunk, OtherEnd, OtherLength}
use Rattle.chunk_watch.specs.declared.limits.ChunkLimits.{ChunkLimits}
use Rattle.chunk_watch.specs.declared.watch.Phase.{Phase}
use Rattle.chunk_watch.specs.declared.watch.Phase.TheVariants as phases

abbrev Told : Type 0
Told = Result (Unit {0}) ChunkFault

abbrev Trailers : Type 0
Trailers = Result (List Trailer) ChunkFault

told_apart : (done : Unit {0}) (fault : ChunkFault) → ◌≡◌ {A = Told} (Ok done) (Err fault) → ⊥
told_apart done fault e = cc

-- as one refusal, as another
refused : (fault other : ChunkFault) → ◌≡◌ {A = Told} (Err fault) (Err other) → ◌≡◌ {A = Trailers} (Err other) (Err fault)
refused fault other e = cc

module _ (place : ℕ) (before left : List ℕ) where
  abbrev at : Phase → ChunkPoint
  at phase = chunk_point_of phase place before left

  -- the end isn't reached
  unreached : (phase : Phase) (b : Bool) (fault : ChunkFault) → reached_at b (at phase) ≡ Err fault → EndsAt b (at phase) (Err fault)
  unreached phases.Chunks b fault e = sym e
  unreached phases.End true fault e = sym e
  unreached phases.End false fault e = absurd (told_apart tt fault e)
  unreached (phases.Failed met) b fault e = sym e

  unreached_signed : (signing : Signing) (announced : Option (List ℕ)) (phase : Phase) (b : Bool) (fault : ChunkFault) → reached_at b (at phase) ≡ Err fault
      → EndsSignedAt b signing announced (at phase) (Err fault)
  unreached_signed signing announced phases.Chunks b fault e = refused NoEmptyChunk fault e
  unreached_signed signing announced phases.End true fault e = refused OtherLength fault e
  unreached_signed signing announced phases.End false fault e = absurd (told_apart tt fault e)
  unreached_signed signing announced (phases.Failed met) b fault e = refused met fault e

  -- it is, with data of the declared length
  reached : (phase : Phase) (b : Bool) (done : Unit {0}) (result : Told) → reached_at b (at phase) ≡ Ok done → EndsByLine false left result → EndsAt b (at phase) result
  reached phases.Chunks b done result e ends = absurd (told_apart done NoEmptyChunk (sym e))
  reached phases.End true done result e ends = absurd (told_apart done OtherLength (sym e))
  reached phases.End false done result e ends = ends
  reached (phases.Failed met) b done result e ends = absurd (told_apart done met (sym e))

  reached_signed : (signing : Signing) (announced : Option (List ℕ)) (phase : Phase) (b : Bool) (done : Unit {0}) (result : Trailers) → reached_at b (at phase) ≡ Ok done
      → JudgesTrailers signing before announced left result → EndsSignedAt b signing announced (at phase) result
  reached_signed signing announced phases.Chunks b done result e judged = absurd (told_apart done NoEmptyChunk (sym e))
  reached_signed signing announced phases.End true done result e judged = absurd (told_apart done OtherLength (sym e))
  reached_signed signing announced phases.End false done result e judged = judged
  reached_signed signing announced (phases.Failed met) b done result e judged = absurd (told_apart done met (sym e))

module _ (signing : Signing) (limits : ChunkLimits) (declared : Option ℕ) (phase : Phase) (place : ℕ) (before left : List ℕ) (taken : ℕ) (told : Told) where
  abbrev watching : ChunkWatching
  watching = record { signing = signing; limits = limits; declared = declared; point = chunk_point_of phase place before left; taken = taken }

  abbrev other : Bool
  other = is_other_length declared taken

  module _ (told_is : told ≡ end_reached watching) where
    pub ends_unreached : (fault : ChunkFault) → told ≡ Err fault → EndsBody watching (Err fault)
    ends_unreached fault is = unreached place before left phase other fault (sym told_is ∙ is)

    pub ends_line : (done : Unit {0}) (slice : List ℕ) (b : Bool) → told ≡ Ok done → slice ≡ left → b ≡ bytes_eq slice crlf → b ≡ true → EndsBody watching (Ok tt)
    ends_line done slice b is same tells held =
        reached place before left phase other done (Ok tt) (sym told_is ∙ is) (sym same ∙ same_name slice crlf (sym tells ∙ held))

    pub ends_other : (done : Unit {0}) (slice : List ℕ) (b : Bool) → told ≡ Ok done → slice ≡ left → b ≡ bytes_eq slice crlf → b ≡ false → EndsBody watching (Err OtherEnd)
    ends_other done slice b is same tells not =
        reached place before left phase other done (Err OtherEnd) (sym told_is ∙ is)
        (refl, λ e. true≢false (sym (ap (λ (bytes : List ℕ). bytes_eq bytes crlf) (same ∙ e) ∙ itself crlf) ∙ (sym tells ∙ not)))

    pub signed_unreached : (announced : Option (List ℕ)) (fault : ChunkFault) → told ≡ Err fault → EndsWithTrailers watching announced (Err fault)
    signed_unreached announced fault is = unreached_signed place before left signing announced phase other fault (sym told_is ∙ is)

    pub signed_judged : (announced : Option (List ℕ)) (done : Unit {0}) (result : Trailers) (slice text : List ℕ) → told ≡ Ok done → slice ≡ left → text ≡ before
        → JudgesTrailers signing text announced slice result → EndsWithTrailers watching announced result
    signed_judged announced done result slice text is same text_is judged =
        reached_signed place before left signing announced phase other done result (sym told_is ∙ is)
        (subst (λ (b : List ℕ). JudgesTrailers signing b announced left result) text_is
        (subst (λ (l : List ℕ). JudgesTrailers signing text announced l result) same judged))

pub ruleset ends = (ends_unreached, ends_line, ends_other)

pub ruleset ends_signed = (signed_unreached, signed_judged)
