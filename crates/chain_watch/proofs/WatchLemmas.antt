-- What a watch finds at the front of its bytes, and where its walk is then.
use Rattle.std.proofs.Common.{◌≡◌, ℕ, ◌+◌, ◌<◌, ◌≤◌, List, [], ◌∷◌, ◌++◌, length, drop, Result, Ok, Err, inl, inr, ◌⊎◌, refl, sym, ap, ◌∙◌, append-nil, append_assoc, arith, length-drop}
use Rattle.std.specs.Prelude.{string_bytes}
use Rattle.smithy_core.specs.Message.{Parts}
use Rattle.eventstream.specs.Decode.{IsUnfinished}
use Rattle.eventstream.specs.Key.{Signer}
use Rattle.eventstream.specs.Reading.{First, nothing, leftover, fault, begins, first_of}
use Rattle.eventstream.specs.declared.error.ErrorKind.{ErrorKind}
use Rattle.eventstream.specs.declared.error.ErrorKind.TheVariants as kinds
use Rattle.eventstream.proofs.FrontLemmas.{prelude_told}
use Rattle.eventstream.proofs.ReadingLemmas.{begins_whole}
use Rattle.chain_watch.specs.declared.chain_fault.ChainFault.{ChainFault}
use Rattle.chain_watch.specs.declared.chain_fault.ChainFault.TheVariants.{NoMemory, NotChain}
use Rattle.chain_watch.specs.declared.chain_fault.ChainPart.TheVariants.{AfterClosing, NotFrame}
use Rattle.chain_watch.specs.declared.frame.CheckedFrame.{CheckedFrame}
use Rattle.chain_watch.specs.declared.position.Phase.{Phase}
use Rattle.chain_watch.specs.declared.position.Phase.TheVariants as phases
use Rattle.chain_watch.specs.declared.position.Position.{Position}
use Rattle.chain_watch.specs.declared.watch.Watched.{Watched}
use Rattle.chain_watch.specs.declared.watch.Watched.TheVariants.{Closed, Open}
use Rattle.chain_watch.specs.Frame.{TestsFrame, part_fault}
use Rattle.chain_watch.specs.Position.{open_at, point_of, walk_at, walk_behind}
use Rattle.chain_watch.specs.Walk.{Point, Walk, after_closing, closed, ending, failed, frame_test, stays, unclosed, walk, walk_frames, walk_onto}
use Rattle.chain_watch.specs.Watch.{AnswersState, Feeds, FeedsAt, EndsWatch, WalksOn, Puts, PutsAt, FeedsPiece, Watching, state, unwalked}
use Rattle.chain_watch.proofs.FrameLemmas.{fault_in, part_or_want}
use Rattle.chain_watch.proofs.WalkLemmas.{walk_first, walk_tests}

-- ## What stands at the front

-- less than a frame is there
pub unfinished_stays : (signer : Signer) (signature : List ℕ) (passed : ℕ) (bytes : List ℕ) → IsUnfinished (first_of bytes)
    → walk_frames signer signature passed bytes ≡ stays (unclosed signature passed bytes)
unfinished_stays signer signature passed bytes less = by_first (first_of bytes) refl less
  where
    by_first : (first : First) → first_of bytes ≡ first → IsUnfinished first → walk_frames signer signature passed bytes ≡ stays (unclosed signature passed bytes)
    by_first nothing is less = walk_first signer signature passed bytes nothing is
    by_first (leftover some) is less = walk_first signer signature passed bytes (leftover some) is
    by_first (fault kind) is less = absurd less
    by_first (begins message rest) is less = absurd less

pub front_stays : (signer : Signer) (position : Position) → IsUnfinished (first_of position.left.bytes) → walk_at signer position ≡ stays (open_at position)
front_stays signer position less = unfinished_stays signer (string_bytes position.signature) position.passed position.left.bytes less

-- a fault is there, or memory ran out
pub front_faulty : (signer : Signer) (position : Position) (kind : ErrorKind) → (first_of position.left.bytes ≡ fault kind) ⊎ (kind ≡ kinds.NoMemory)
    → (walk_at signer position ≡ stays (failed (part_fault (position.passed + 1) NotFrame kind))) ⊎ (part_fault (position.passed + 1) NotFrame kind ≡ NoMemory)
front_faulty signer position kind (inr want) = inr (ap (part_fault (position.passed + 1) NotFrame) want)
front_faulty signer position kind (inl is) = by_fault (part_or_want (position.passed + 1) NotFrame kind)
  where
    by_fault : (part_fault (position.passed + 1) NotFrame kind ≡ NotChain (position.passed + 1) NotFrame) ⊎ (part_fault (position.passed + 1) NotFrame kind ≡ NoMemory)
        → (walk_at signer position ≡ stays (failed (part_fault (position.passed + 1) NotFrame kind))) ⊎ (part_fault (position.passed + 1) NotFrame kind ≡ NoMemory)
    by_fault (inr want) = inr want
    by_fault (inl told) =
        inl (walk_first signer (string_bytes position.signature) position.passed position.left.bytes (fault kind) is
        ∙ ap (λ (found : ChainFault). stays (failed found)) (sym told))

-- a frame is there whole: it is as long as the smallest at least
pub front_long : (bytes : List ℕ) (message : Parts) (len : ℕ) → len ≤ length bytes → first_of bytes ≡ begins message (drop len bytes) → 16 ≤ len
front_long bytes message len there first =
    let is = begins_whole bytes message (drop len bytes) first in
    let least = (prelude_told _ is.lengths is.told).fit.least in
    let same : length (drop is.lengths.total bytes) ≡ length (drop len bytes) = ap length is.left in
    omega (arith, least, is.there, there, same, length-drop is.lengths.total bytes, length-drop len bytes)

-- it passes
pub front_passes : (signer : Signer) (position : Position) (message : Parts) (frame : CheckedFrame) (len : ℕ) → first_of position.left.bytes ≡ begins message (drop len position.left.bytes)
    → TestsFrame (frame_test signer (string_bytes position.signature) (position.passed + 1) message) (Ok frame)
    → walk_at signer position ≡ walk_behind signer position frame len
front_passes signer position message frame len first tests =
    walk_tests signer (string_bytes position.signature) position.passed position.left.bytes (drop len position.left.bytes) message _ first tests

-- it doesn't, or memory ran out
pub front_fails : (signer : Signer) (position : Position) (message : Parts) (rest : List ℕ) (told : ChainFault) → first_of position.left.bytes ≡ begins message rest
    → TestsFrame (frame_test signer (string_bytes position.signature) (position.passed + 1) message) (Err told)
    → (walk_at signer position ≡ stays (failed told)) ⊎ (told ≡ NoMemory)
front_fails signer position message rest told first (inl tests) =
    inl (walk_tests signer (string_bytes position.signature) position.passed position.left.bytes rest message (Err told) first tests)
front_fails signer position message rest told first (inr want) = inr want

-- a fault of the test, or memory ran out
pub ruleset fronts = (front_stays, front_faulty, front_long, front_passes, front_fails)

-- bytes follow the closing frame
pub closing_more : (passed len : ℕ) (bytes : List ℕ) → len < length bytes → after_closing (passed + 1) (drop len bytes) ≡ stays (failed (NotChain (passed + 2) AfterClosing))
closing_more passed len bytes more = by_rest (drop len bytes) (omega (arith, length-drop len bytes))
  where
    by_rest : (rest : List ℕ) → 0 < length rest → after_closing (passed + 1) rest ≡ stays (failed (NotChain (passed + 2) AfterClosing))
    by_rest [] none = absurd (omega arith)
    by_rest (byte ∷ rest) some = ap (λ (place : ℕ). stays (failed (NotChain place AfterClosing))) (omega arith)

-- none does
pub closing_last : (passed len : ℕ) (bytes : List ℕ) → len ≡ length bytes → after_closing passed (drop len bytes) ≡ stays (closed passed)
closing_last passed len bytes all = by_rest (drop len bytes) (omega (arith, length-drop len bytes))
  where
    by_rest : (rest : List ℕ) → length rest ≡ 0 → after_closing passed rest ≡ stays (closed passed)
    by_rest [] none = refl
    by_rest (byte ∷ rest) some = absurd (omega arith)

pub ruleset closing = (closing_more, closing_last)

-- ## StepsOn

pub goes_none : (watch : Watching) (events : List Parts) → WalksOn watch events watch events
goes_none watch events = record {
  fed = refl;
  signer = refl;
  handed = record { given = []; gained = sym (append-nil events); split = refl };
}

-- one step after others
pub goes_more : (first between last : Watching) (events gained all : List Parts) → WalksOn first events between gained → WalksOn between gained last all → WalksOn first events last all
goes_more first between last events gained all one other = record {
  fed = other.fed ∙ one.fed;
  signer = other.signer ∙ one.signer;
  handed = record {
    given = one.handed.given ++ other.handed.given;
    gained = other.handed.gained ∙ ap (λ (front : List Parts). front ++ other.handed.given) one.handed.gained ∙ append_assoc events one.handed.given other.handed.given;
    split = one.handed.split ∙ ap (walk_onto one.handed.given) other.handed.split
        ∙ ap (λ (some : List Parts). record { events = some; at = (unwalked last).at }) (sym (append_assoc one.handed.given other.handed.given (unwalked last).events));
  };
}

pub ruleset goes = (goes_none, goes_more)

-- what a call of `feed` does where its piece was taken
pub feeds_taken : (old between new : Watching) (piece : List ℕ) (events gained : List Parts) (result : Result Watched ChainFault) → Puts old piece between (Ok tt)
    → WalksOn between events new gained → AnswersState new result → Feeds old piece events new gained result
feeds_taken old between new piece events gained result puts goes answer = by_point old.at puts
  where
    taken : (between.fed ≡ old.fed + length piece) × (between.signer ≡ old.signer) × (unwalked between ≡ walk old.signer old.at piece) → FeedsPiece old piece events new gained result
    taken put = record {
      fed = goes.fed ∙ put.0;
      signer = goes.signer ∙ put.1;
      handed = record { given = goes.handed.given; gained = goes.handed.gained; split = sym put.2 ∙ goes.handed.split };
      answer = answer;
    }

    by_point : (at : Point) → PutsAt at old piece between (Ok tt) → FeedsAt at old piece events new gained result
    by_point (unclosed signature passed left) put = inl (taken put)
    by_point (closed passed) put = inl (taken put)
    by_point (failed told) put = absurd (let wrong = put.0 in cc)

-- and where it wasn't
pub feeds_refused : (old new : Watching) (piece : List ℕ) (events : List Parts) (told : ChainFault) → Puts old piece new (Err told) → Feeds old piece events new events (Err told)
feeds_refused old new piece events told puts = by_point old.at puts
  where
    by_point : (at : Point) → PutsAt at old piece new (Err told) → FeedsAt at old piece events new events (Err told)
    by_point (unclosed signature passed left) put = inr (ap (λ (fault : ChainFault). Err fault) put.0, (put.1, refl))
    by_point (closed passed) put = inr (ap (λ (fault : ChainFault). Err fault) put.0, (put.1, refl))
    by_point (failed found) put = (ap (λ (fault : ChainFault). Err fault) (ap (fault_in told) put.0), (put.1, refl))

-- an open state is that of a position
opens : (phase : Phase) (position : Position) → state (point_of phase position) ≡ Ok Open → point_of phase position ≡ open_at position
opens phases.Open position is = refl
opens phases.Closed position is = cc
opens (phases.Failed told) position is = cc

closes_state : (at : Point) → state at ≡ Ok Closed → ending at ≡ Ok tt
closes_state (unclosed signature passed left) is = cc
closes_state (closed passed) is = refl
closes_state (failed told) is = cc

fails_state : (at : Point) (told : ChainFault) → state at ≡ Err told → ending at ≡ Err told
fails_state (unclosed signature passed left) told is = cc
fails_state (closed passed) told is = cc
fails_state (failed found) told is = ap (λ (fault : ChainFault). Err fault) (ap (fault_in told) is)

-- all events are handed out, and this is how the chain ends
finishes_all : (watch new : Watching) (events gained : List Parts) (result : Result (Unit {0}) ChainFault) → WalksOn watch events new gained → unwalked new ≡ stays new.at
    → result ≡ ending new.at → EndsWatch watch events gained result
finishes_all watch new events gained result goes none is =
    let walked : unwalked watch ≡ walk_onto goes.handed.given (stays new.at) = goes.handed.split ∙ ap (walk_onto goes.handed.given) none in
    inl (
      goes.handed.gained ∙ ap (λ (given : List Parts). events ++ given) (sym (append-nil goes.handed.given) ∙ sym (ap (λ (w : Walk). w.events) walked)),
      is ∙ ap ending (sym (ap (λ (w : Walk). w.at) walked)),
    )

pub finishes_closed : (watch new : Watching) (events gained : List Parts) → WalksOn watch events new gained → AnswersState new (Ok Closed) → EndsWatch watch events gained (Ok tt)
finishes_closed watch new events gained goes (inl all) = finishes_all watch new events gained (Ok tt) goes all.0 (sym (closes_state new.at (sym all.1)))
finishes_closed watch new events gained goes (inr want) = absurd (let wrong = want in cc)

pub finishes_open : (watch new : Watching) (phase : Phase) (position : Position) (events gained : List Parts) (told : ChainFault) → WalksOn watch events new gained → AnswersState new (Ok Open)
    → new.at ≡ point_of phase position → ending (open_at position) ≡ Err told → EndsWatch watch events gained (Err told)
finishes_open watch new phase position events gained told goes (inl all) at missing =
    let open_now : point_of phase position ≡ open_at position = opens phase position (ap state (sym at) ∙ sym all.1) in
    finishes_all watch new events gained (Err told) goes all.0 (sym (ap ending (at ∙ open_now) ∙ missing))
finishes_open watch new phase position events gained told goes (inr want) at missing = absurd (let wrong = want in cc)

pub finishes_failed : (watch new : Watching) (events gained : List Parts) (told : ChainFault) → WalksOn watch events new gained → AnswersState new (Err told) → EndsWatch watch events gained (Err told)
finishes_failed watch new events gained told goes (inl all) = finishes_all watch new events gained (Err told) goes all.0 (sym (fails_state new.at told (sym all.1)))
finishes_failed watch new events gained told goes (inr want) =
    inr (ap (λ (fault : ChainFault). Err fault) (ap (fault_in NoMemory) want), unwalked new, goes.handed)

pub ruleset feeds = (feeds_taken, feeds_refused)

pub ruleset finishes = (finishes_closed, finishes_open, finishes_failed)
