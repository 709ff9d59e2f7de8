-- One step of a watch.
use Rattle.std.proofs.Common.{◌≡◌, ℕ, ◌+◌, ◌<◌, ◌≤◌, Bool, true, false, cond, List, [], ◌++◌, Option, Some, None, drop, length, refl, sym, ap, ◌∙◌, subst, arith, append-nil, length-drop}
use Rattle.std.specs.Prelude.{bytes_eq, nat_lt, Ok}
use Rattle.std.proofs.lemmas.Bool.Decides.{nat_tests}
use Rattle.sigv4.specs.Chunk.{chunk_signature}
use Rattle.chunk_watch.specs.Front.{Begun, front_begun, short, bad, chunk, empty}
use Rattle.chunk_watch.specs.Signing.{Signing}
use Rattle.chunk_watch.specs.Walk.{ChunkPoint, Rules, at_end, chunk_compared, failed, in_chunks, next_place, step, step_over}
use Rattle.chunk_watch.specs.Watch.{ChunkWatching, rules_of, count_after}
use Rattle.chunk_watch.specs.WatchParts.{StepsChunk, chunk_point_of, chunk_rank}
use Rattle.chunk_watch.specs.declared.fault.ChunkFault.{ChunkFault}
use Rattle.chunk_watch.specs.declared.fault.ChunkFault.TheVariants.{LongEnd, Mismatch}
use Rattle.chunk_watch.specs.declared.limits.ChunkLimits.{ChunkLimits}
use Rattle.chunk_watch.specs.declared.watch.Phase.{Phase}
use Rattle.chunk_watch.specs.declared.watch.Phase.TheVariants as phases
use Rattle.chunk_watch.proofs.FrontLemmas.{IsStable, begun_stable}

-- what is there whole lies within the bytes
within : (most place : ℕ) (left signature bytes : List ℕ) (len : ℕ) → front_begun most place left ≡ chunk signature bytes len → (len ≤ length left) × (0 < len)
within most place left signature bytes len e =
    let stable = subst (λ (f : Begun). IsStable f (front_begun most place (left ++ [])) (length left)) e (begun_stable most place left []) in
    (stable.1, stable.2)

pub chunk_within : (most place : ℕ) (left slice signature bytes : List ℕ) (len : ℕ) → slice ≡ left → chunk signature bytes len ≡ front_begun most place slice → len ≤ length left
chunk_within most place left slice signature bytes len same e =
    (within most place left signature bytes len (ap (front_begun most place) (sym same) ∙ sym e)).0

pub empty_within : (most place : ℕ) (left slice signature : List ℕ) (len : ℕ) → slice ≡ left → empty signature len ≡ front_begun most place slice → len ≤ length left
empty_within most place left slice signature len same e =
    let is : front_begun most place left ≡ empty signature len = ap (front_begun most place) (sym same) ∙ sym e in
    let stable = subst (λ (f : Begun). IsStable f (front_begun most place (left ++ [])) (length left)) is (begun_stable most place left []) in
    stable.1

-- ---- one step

module _ (signing : Signing) (limits : ChunkLimits) (declared : Option ℕ) (taken : ℕ) (given : List ℕ) where
  abbrev counting : ℕ → ChunkPoint → ChunkWatching
  counting count point = record { signing = signing; limits = limits; declared = declared; point = point; taken = count }

  abbrev watching : ChunkPoint → ChunkWatching
  watching point = counting taken point

  abbrev rules : Rules
  rules = rules_of (watching (failed LongEnd))

  abbrev own_of : List ℕ → List ℕ → List ℕ
  own_of before bytes = chunk_signature bytes signing.signer signing.at before

  module _ (phase : Phase) (place : ℕ) (before left : List ℕ) where
    abbrev here : ChunkWatching
    here = watching (chunk_point_of phase place before left)

    -- at a fault there is none
    pub step_failed : (fault : ChunkFault) → phase ≡ phases.Failed fault → StepsChunk {E = Unit {0}} here given here given (Ok false)
    step_failed fault is = (ap (λ (p : Phase). step rules (chunk_point_of p place before left)) is, refl, refl)

    -- behind the empty chunk
    end_step : (b : Bool) → phase ≡ phases.End → nat_lt limits.end (length left) ≡ b
        → step rules (chunk_point_of phase place before left) ≡ cond {A = Option (List ℕ × ChunkPoint)} b (Some ([], failed LongEnd)) None
    end_step b is e =
        ap (λ (p : Phase). step rules (chunk_point_of p place before left)) is
        ∙ ap (λ (b : Bool). cond {A = Option (List ℕ × ChunkPoint)} b (Some ([], failed LongEnd)) None) e

    few : (slice : List ℕ) → slice ≡ left → length slice ≤ limits.end → nat_lt limits.end (length left) ≡ false
    few slice same low = let long : length slice ≡ length left = ap length same in grind (arith, nat_tests)

    many : (slice : List ℕ) → slice ≡ left → limits.end < length slice → nat_lt limits.end (length left) ≡ true
    many slice same low = let long : length slice ≡ length left = ap length same in grind (arith, nat_tests)

    pub step_end : (slice : List ℕ) → phase ≡ phases.End → slice ≡ left → length slice ≤ limits.end → StepsChunk {E = Unit {0}} here given here given (Ok false)
    step_end slice is same low = (end_step false is (few slice same low), refl, refl)

    pub step_long_end : (slice : List ℕ) → phase ≡ phases.End → slice ≡ left → limits.end < length slice
        → StepsChunk {E = Unit {0}} here given (watching (failed LongEnd)) given (Ok true)
    step_long_end slice is same long =
        let one : chunk_rank (chunk_point_of phase place before left) ≡ 1 = ap (λ (p : Phase). chunk_rank (chunk_point_of p place before left)) is in
        ([], end_step true is (many slice same long), sym (append-nil given), refl, omega (arith, one))

    -- in the chunks
    module _ (chunks : phase ≡ phases.Chunks) (most : ℕ) (slice : List ℕ) (text : List ℕ) (most_is : most ≡ limits.chunk) (same : slice ≡ left) (text_is : text ≡ before) where
      own_same : (bytes : List ℕ) → own_of text bytes ≡ own_of before bytes
      own_same bytes = ap (λ (b : List ℕ). own_of b bytes) text_is

      tested : (bytes signature : List ℕ) (b : Bool) → bytes_eq (own_of text bytes) signature ≡ b → bytes_eq (own_of before bytes) signature ≡ b
      tested bytes signature b e = ap (λ (own : List ℕ). bytes_eq own signature) (sym (own_same bytes)) ∙ e

      at_chunks : (n : ℕ) (b l : List ℕ) → chunk_point_of phase n b l ≡ in_chunks b n l
      at_chunks n b l = ap (λ (p : Phase). chunk_point_of p n b l) chunks

      ranked : (n : ℕ) (b l : List ℕ) → chunk_rank (chunk_point_of phase n b l) ≡ length l + 2
      ranked n b l = ap chunk_rank (at_chunks n b l)

      begun_is : (f : Begun) → f ≡ front_begun most place slice → front_begun limits.chunk place left ≡ f
      begun_is f e = sym (e ∙ (λ i. front_begun (most_is i) place (same i)))

      stepped : (f : Begun) → f ≡ front_begun most place slice → step rules (chunk_point_of phase place before left) ≡ step_over rules before place left f
      stepped f e = ap (step rules) (at_chunks place before left) ∙ ap (step_over rules before place left) (begun_is f e)

      fails : (fault : ChunkFault) (all : List ℕ) → all ≡ given → step rules (chunk_point_of phase place before left) ≡ Some ([], failed fault)
          → StepsChunk {E = Unit {0}} here given (watching (failed fault)) all (Ok true)
      fails fault all all_is e = ([], e, all_is ∙ sym (append-nil given), refl, omega (arith, ranked place before left))

      pub step_short : short ≡ front_begun most place slice → StepsChunk {E = Unit {0}} here given here given (Ok false)
      step_short e = (stepped short e, refl, refl)

      pub step_bad : (fault : ChunkFault) → bad fault ≡ front_begun most place slice → StepsChunk {E = Unit {0}} here given (watching (failed fault)) given (Ok true)
      step_bad fault e = fails fault given refl (stepped (bad fault) e)

      pub step_chunk : (signature bytes own rest all : List ℕ) (len next count : ℕ) → chunk signature bytes len ≡ front_begun most place slice → own ≡ own_of text bytes
          → bytes_eq (own_of text bytes) signature ≡ true → next ≡ next_place place → rest ≡ drop len left → all ≡ given ++ bytes
          → count ≡ count_after taken bytes → StepsChunk {E = Unit {0}} here given (counting count (in_chunks own next rest)) all (Ok true)
      step_chunk signature bytes own rest all len next count e own_is genuine next_is rest_is all_is count_is =
          let inside = within limits.chunk place left signature bytes len (begun_is (chunk signature bytes len) e) in
          let less : length rest + 2 < chunk_rank (chunk_point_of phase place before left) =
          omega (arith, ranked place before left, ap length rest_is, length-drop len left, inside.0, inside.1) in (
            bytes,
            stepped (chunk signature bytes len) e
                ∙ ((λ i. let s : Option (List ℕ × ChunkPoint) =
                Some (chunk_compared (tested bytes signature true genuine i) place bytes (in_chunks (own_of before bytes) (next_place place) (drop len left))) in s)
                ∙ ap (λ (p : ChunkPoint). let s : Option (List ℕ × ChunkPoint) = Some (bytes, p) in s)
                (sym (λ i. in_chunks ((own_is ∙ own_same bytes) i) (next_is i) (rest_is i)))),
            all_is,
            ap (λ (n : ℕ). counting n (in_chunks own next rest)) count_is,
            less,
          )

      pub step_mismatch : (signature bytes all : List ℕ) (len : ℕ) → chunk signature bytes len ≡ front_begun most place slice → bytes_eq (own_of text bytes) signature ≡ false → all ≡ given
          → StepsChunk {E = Unit {0}} here given (watching (failed (Mismatch place))) all (Ok true)
      step_mismatch signature bytes all len e differs all_is =
          fails (Mismatch place) all all_is (stepped (chunk signature bytes len) e
          ∙ (λ i. let s : Option (List ℕ × ChunkPoint) =
          Some (chunk_compared (tested bytes signature false differs i) place bytes (in_chunks (own_of before bytes) (next_place place) (drop len left))) in s))

      pub step_empty : (signature own rest : List ℕ) (len : ℕ) → empty signature len ≡ front_begun most place slice → own ≡ own_of text []
          → bytes_eq (own_of text []) signature ≡ true → rest ≡ drop len left
          → StepsChunk {E = Unit {0}} here given (watching (at_end own rest)) given (Ok true)
      step_empty signature own rest len e own_is genuine rest_is = (
        [],
        stepped (empty signature len) e
            ∙ ((λ i. let s : Option (List ℕ × ChunkPoint) = Some (chunk_compared (tested [] signature true genuine i) place [] (at_end (own_of before []) (drop len left))) in s)
            ∙ ap (λ (p : ChunkPoint). let s : Option (List ℕ × ChunkPoint) = Some ([], p) in s) (sym (λ i. at_end ((own_is ∙ own_same []) i) (rest_is i)))),
        sym (append-nil given),
        refl,
        omega (arith, ranked place before left),
      )

      pub step_empty_mismatch : (signature : List ℕ) (len : ℕ) → empty signature len ≡ front_begun most place slice → bytes_eq (own_of text []) signature ≡ false
          → StepsChunk {E = Unit {0}} here given (watching (failed (Mismatch place))) given (Ok true)
      step_empty_mismatch signature len e differs =
          fails (Mismatch place) given refl (stepped (empty signature len) e
          ∙ (λ i. let s : Option (List ℕ × ChunkPoint) = Some (chunk_compared (tested [] signature false differs i) place [] (at_end (own_of before []) (drop len left))) in s))

pub ruleset steps = (step_failed, step_end, step_long_end, step_short, step_bad, step_chunk, step_mismatch, step_empty, step_empty_mismatch, chunk_within, empty_within)
