-- Walks over the chunks of a body: they go on as their bytes do, and each point is reached by one.
use Rattle.std.proofs.Common.{◌≡◌, ℕ, Bool, true, false, cond, List, [], ◌∷◌, ◌++◌, Option, Some, None, drop, length, refl, sym, ap, ◌∙◌, subst, arith, append_assoc, append-nil, length-append}
use Rattle.std.specs.Prelude.{bytes_eq, nat_lt}
use Rattle.std.proofs.lemmas.Bool.Decides.{nat_tests}
use Rattle.std.proofs.lemmas.List.{drop-append-le}
use Rattle.aws_chunked.specs.Made.{joined}
use Rattle.chunk_watch.specs.Front.{Begun, front_begun, short, bad, chunk, empty}
use Rattle.chunk_watch.specs.Walk.{ChunkPoint, Rules, Walks, at_end, chunk_compared, failed, in_chunks, next_place, step, step_over, with_more, FedAll, IsAnyCut}
use Rattle.chunk_watch.specs.declared.fault.ChunkFault.TheVariants.{LongEnd}
use Rattle.chunk_watch.proofs.FrontLemmas.{IsStable, begun_stable}

abbrev Step : Type 0
Step = List ℕ × ChunkPoint

no_step : {s : Step} → ◌≡◌ {A = Option Step} None (Some s) → ⊥
no_step {s} e = cc

pub same_step : {a b : Step} → ◌≡◌ {A = Option Step} (Some a) (Some b) → a ≡ b
same_step {a} {b} e = cc

-- ---- more bytes

module _ (rules : Rules) (m : List ℕ) where
  abbrev lifted : Step → Step
  lifted s = (s.0, with_more s.1 m)

  abbrev lift : Option Step → Option Step
  lift None = None
  lift (Some s) = Some (lifted s)

  compared_more : (b : Bool) (place : ℕ) (bytes : List ℕ) (q q' : ChunkPoint) → q' ≡ with_more q m → chunk_compared b place bytes q' ≡ lifted (chunk_compared b place bytes q)
  compared_more true place bytes q q' e = ap (λ (p : ChunkPoint). let s : Step = (bytes, p) in s) e
  compared_more false place bytes q q' e = refl

  over_more : (before : List ℕ) (place : ℕ) (left : List ℕ) (f other : Begun) → IsStable f other (length left)
      → (s : Step) → step_over rules before place left f ≡ Some s → step_over rules before place (left ++ m) other ≡ Some (lifted s)
  over_more before place left short other is s e = absurd (no_step e)
  over_more before place left (bad fault) other is s e = ap (step_over rules before place (left ++ m)) is ∙ ap lift e
  over_more before place left (chunk signature bytes len) other is s e =
      ap (step_over rules before place (left ++ m)) is.0
      ∙ (ap (λ (t : Step). let o : Option Step = Some t in o) (compared_more (bytes_eq (rules.own before bytes) signature) place bytes
      (in_chunks (rules.own before bytes) (next_place place) (drop len left)) (in_chunks (rules.own before bytes) (next_place place) (drop len (left ++ m)))
      (ap (in_chunks (rules.own before bytes) (next_place place)) (drop-append-le len left m is.1)))
      ∙ ap lift e)
  over_more before place left (empty signature len) other is s e =
      ap (step_over rules before place (left ++ m)) is.0
      ∙ (ap (λ (t : Step). let o : Option Step = Some t in o) (compared_more (bytes_eq (rules.own before []) signature) place []
      (at_end (rules.own before []) (drop len left)) (at_end (rules.own before []) (drop len (left ++ m)))
      (ap (at_end (rules.own before [])) (drop-append-le len left m is.1)))
      ∙ ap lift e)

  longer : (left : List ℕ) → nat_lt rules.most_end (length left) ≡ true → nat_lt rules.most_end (length (left ++ m)) ≡ true
  longer left e = grind (arith, nat_tests, length-append {A = ℕ})

  step_more : (p : ChunkPoint) (s : Step) → step rules p ≡ Some s → step rules (with_more p m) ≡ Some (lifted s)
  step_more (in_chunks before place left) s e =
      over_more before place left (front_begun rules.most place left) (front_begun rules.most place (left ++ m)) (begun_stable rules.most place left m) s e
  step_more (at_end before left) s e = by (nat_lt rules.most_end (length left)) refl e
    where
      by : (b : Bool) → nat_lt rules.most_end (length left) ≡ b → ◌≡◌ {A = Option Step} (cond b (Some ([], failed LongEnd)) None) (Some s)
          → ◌≡◌ {A = Option Step} (cond (nat_lt rules.most_end (length (left ++ m))) (Some ([], failed LongEnd)) None) (Some (lifted s))
      by true is e = ap (λ (b : Bool). cond {A = Option Step} b (Some ([], failed LongEnd)) None) (longer left is) ∙ ap lift e
      by false is e = absurd (no_step e)
  step_more (failed fault) s e = absurd (no_step e)

  pub walks_more : (p : ChunkPoint) (ds : List (List ℕ)) (q : ChunkPoint) → Walks rules p ds q → Walks rules (with_more p m) ds (with_more q m)
  walks_more p [] q e = ap (λ (x : ChunkPoint). with_more x m) e
  walks_more p (d ∷ ds) q (next, one, others) = (with_more next m, step_more p (d, next) one, walks_more next ds q others)

-- ---- one walk after another

pub walks_join : (rules : Rules) (p : ChunkPoint) (ds : List (List ℕ)) (q : ChunkPoint) (es : List (List ℕ)) (r : ChunkPoint) → Walks rules p ds q → Walks rules q es r → Walks rules p (ds ++ es) r
walks_join rules p [] q es r e more = subst (λ (x : ChunkPoint). Walks rules x es r) e more
walks_join rules p (d ∷ ds) q es r (next, one, others) more = (next, one, walks_join rules next ds q es r others more)

-- ---- a walk to a point without a step is the only one

pub walks_once : (rules : Rules) (p : ChunkPoint) (ds : List (List ℕ)) (q : ChunkPoint) (es : List (List ℕ)) (r : ChunkPoint) → Walks rules p ds q → step rules q ≡ None
    → Walks rules p es r → step rules r ≡ None → (es ≡ ds) × (r ≡ q)
walks_once rules p [] q [] r a stop b end = (refl, b ∙ sym a)
walks_once rules p [] q (e ∷ es) r a stop (next, one, others) end = absurd (no_step (sym (sym one ∙ (ap (step rules) (sym a) ∙ stop)) ∙ refl))
walks_once rules p (d ∷ ds) q [] r (next, one, others) stop b end = absurd (no_step (sym (sym one ∙ (ap (step rules) (sym b) ∙ end)) ∙ refl))
walks_once rules p (d ∷ ds) q (e ∷ es) r (next, one, others) stop (next', one', others') end =
    let same = same_step (sym one' ∙ one) in
    let rest = walks_once rules next ds q es r others stop (subst (λ (x : ChunkPoint). Walks rules x es r) (ap (λ (s : Step). s.1) same) others') end in
    (λ i. (same i).0 ∷ rest.0 i, rest.1)

-- ---- calls

more_joined : (p : ChunkPoint) (a b : List ℕ) → with_more (with_more p a) b ≡ with_more p (a ++ b)
more_joined (in_chunks before place left) a b = ap (in_chunks before place) (append_assoc left a b)
more_joined (at_end before left) a b = ap (at_end before) (append_assoc left a b)
more_joined (failed fault) a b = refl

more_none : (p : ChunkPoint) → with_more p [] ≡ p
more_none (in_chunks before place left) = ap (in_chunks before place) (append-nil left)
more_none (at_end before left) = ap (at_end before) (append-nil left)
more_none (failed fault) = refl

pub joined_both : (ds es : List (List ℕ)) → joined (ds ++ es) ≡ joined ds ++ joined es
joined_both [] es = refl
joined_both (d ∷ ds) es = ap (λ (rest : List ℕ). d ++ rest) (joined_both ds es) ∙ sym (append_assoc d (joined ds) (joined es))

record OneWalk (rules : Rules) (from : ChunkPoint) (bytes given : List ℕ) (to : ChunkPoint) : Type 0 where
  ds : List (List ℕ)
  walks : Walks rules (with_more from bytes) ds to
  is : given ≡ joined ds

one_walk : (rules : Rules) (from : ChunkPoint) (pieces : List (List ℕ)) (given : List ℕ) (to : ChunkPoint) → FedAll rules from pieces given to → OneWalk rules from (joined pieces) given to
one_walk rules from [] given to (none, same) = record { ds = []; walks = same ∙ sym (more_none from); is = none }
one_walk rules from (piece ∷ pieces) given to (ds, next, others, walks, split, rest) =
    let later = one_walk rules next pieces others to rest in
    record {
      ds = ds ++ later.ds;
      walks = walks_join rules (with_more from (piece ++ joined pieces)) ds (with_more next (joined pieces)) later.ds to
          (subst (λ (x : ChunkPoint). Walks rules x ds (with_more next (joined pieces))) (more_joined from piece (joined pieces))
          (walks_more rules (joined pieces) (with_more from piece) ds next walks)) later.walks;
      is = split ∙ (ap (λ (o : List ℕ). joined ds ++ o) later.is ∙ sym (joined_both ds later.ds));
    }

pub any_cut : (rules : Rules) → IsAnyCut rules
any_cut rules = λ from pieces others given told to end same first second stop halt.
    let a = one_walk rules from pieces given to first in
    let b = one_walk rules from others told end second in
    let once = walks_once rules (with_more from (joined pieces)) a.ds to b.ds end a.walks stop
    (subst (λ (bytes : List ℕ). Walks rules (with_more from bytes) b.ds end) (sym same) b.walks) halt in
    (b.is ∙ (ap joined once.0 ∙ sym a.is), once.1)
