-- The first message of a stream, and the reading that goes on after it.
use Rattle.std.proofs.Common.{◌≡◌, ℕ, zero, suc, ◌<◌, ◌≤◌, Bool, true, false, if◌then◌else◌, nat_lt, ◌==◌, List, [], ◌∷◌, ◌++◌, length, take, drop, map, flat_map, All, Result, Ok, Err, None, inl, inr, refl, sym, ap, subst, ◌∙◌, append-nil, arith, length-append, length-drop}
use Rattle.std.specs.List.{AllByRecursion}
use Rattle.std.specs.Prelude.{◌⊎◌}
use Rattle.std.proofs.lemmas.Bool.{cases_lt, le-ltb}
use Rattle.std.proofs.lemmas.List.Elements.{recursion_from_All}
use Rattle.std.proofs.lemmas.List.{take_at, drop_at, take-append-le, drop-append-le}
use Rattle.smithy_core.specs.Message.{Parts}
use Rattle.eventstream.specs.declared.error.ErrorKind.{ErrorKind}
use Rattle.eventstream.specs.declared.read.lengths.Lengths.{Lengths}
use Rattle.eventstream.specs.Frame.{frame, frame_len, unframed}
use Rattle.eventstream.specs.Laws.{IsProper, floored_message}
use Rattle.eventstream.specs.Read.{read, read_prelude}
use Rattle.eventstream.specs.Reading.{First, nothing, leftover, fault, begins, as_first, first_behind, first_of, Begin, Read, onto, read_on, reading, reading_within}
use Rattle.eventstream.specs.Decode.{IsUnfinished}
use Rattle.eventstream.proofs.FrameLemmas.{frame_again, frame_prelude, length-frame}
use Rattle.eventstream.proofs.FrontLemmas.{behind_is, first_more, first_whole, prelude_told, short_is}

-- ## The first message

-- a message or a fault
abbrev IsDecided : First → Type 0
IsDecided nothing = ⊥
IsDecided (leftover bytes) = ⊥
IsDecided (fault kind) = Unit {0}
IsDecided (begins message rest) = Unit {0}

-- the bytes tell a first message, or a fault in its place: their prelude is there, and the frame that it announces
record IsTold (bytes : List ℕ) : Type 0 where
  long : 12 ≤ length bytes
  there : (lengths : Lengths) → read_prelude (take 12 bytes) ≡ Ok lengths → lengths.total ≤ length bytes

told_from : (bytes : List ℕ) → IsDecided (first_of bytes) → IsTold bytes
told_from bytes decided =
    elim (cases_lt (length bytes) 12) [
      | inl short ↦ absurd (undecided (length bytes == 0) (subst IsDecided (short_is bytes short) decided))
      | inr long ↦ record { long = long; there = λ lengths told. whole lengths long told (cases_lt (length bytes) lengths.total) }
    ]
  where
    undecided : (b : Bool) → IsDecided (if b then nothing else leftover bytes) → ⊥
    undecided true decided = decided
    undecided false decided = decided

    whole : (lengths : Lengths) → 12 ≤ length bytes → read_prelude (take 12 bytes) ≡ Ok lengths → (length bytes < lengths.total) ⊎ (lengths.total ≤ length bytes)
        → lengths.total ≤ length bytes
    whole lengths long told (inl partial) = absurd (subst IsDecided (first_more bytes lengths long told partial) decided)
    whole lengths long told (inr there) = there

-- more bytes behind
abbrev followed : List ℕ → First → First
followed more nothing = nothing
followed more (leftover bytes) = leftover bytes
followed more (fault kind) = fault kind
followed more (begins message rest) = begins message (rest ++ more)

-- what is told stays, whatever follows
told_followed : (bytes more : List ℕ) → IsTold bytes → first_of (bytes ++ more) ≡ followed more (first_of bytes)
told_followed bytes more is =
    behind_is (bytes ++ more) (omega (arith, length-append bytes more, is.long))
    ∙ ap (λ (prelude : List ℕ). first_behind (bytes ++ more) (read_prelude prelude)) (take-append-le 12 bytes more is.long)
    ∙ by_prelude (read_prelude (take 12 bytes)) refl ∙ ap (followed more) (sym (behind_is bytes is.long))
  where
    by_read : (n : ℕ) (r : Result (Parts × ℕ) ErrorKind) → drop n (bytes ++ more) ≡ drop n bytes ++ more → as_first n (bytes ++ more) r ≡ followed more (as_first n bytes r)
    by_read n (Ok message) rest = ap (begins message.0) rest
    by_read n (Err kind) rest = refl

    by_prelude : (r : Result Lengths ErrorKind) → read_prelude (take 12 bytes) ≡ r → first_behind (bytes ++ more) r ≡ followed more (first_behind bytes r)
    by_prelude (Err kind) told = refl
    by_prelude (Ok lengths) told =
        let whole = is.there lengths told in
        let there : nat_lt (length bytes) lengths.total ≡ false = le-ltb _ _ whole in
        let still : nat_lt (length (bytes ++ more)) lengths.total ≡ false = le-ltb _ _ (omega (arith, length-append bytes more, whole)) in
        rw (there, still, take-append-le lengths.total bytes more whole) (by_read lengths.total (read (take lengths.total bytes)) (drop-append-le lengths.total bytes more whole))

-- the first message of a stream stays the first, and so does a fault
pub first_stays : (bytes : List ℕ) (message : Parts) (rest more : List ℕ) → first_of bytes ≡ begins message rest → first_of (bytes ++ more) ≡ begins message (rest ++ more)
first_stays bytes message rest more first = told_followed bytes more (told_from bytes (subst IsDecided (sym first) tt)) ∙ ap (followed more) first

pub fault_stays : (bytes : List ℕ) (kind : ErrorKind) (more : List ℕ) → first_of bytes ≡ fault kind → first_of (bytes ++ more) ≡ fault kind
fault_stays bytes kind more first = told_followed bytes more (told_from bytes (subst IsDecided (sym first) tt)) ∙ ap (followed more) first

-- ## What goes on after a message

-- bytes that begin with a message: its frame is there
pub record BeginsWhole (bytes : List ℕ) (message : Parts) (rest : List ℕ) : Type 0 where
  pub lengths : Lengths
  pub told : read_prelude (take 12 bytes) ≡ Ok lengths
  pub there : lengths.total ≤ length bytes
  pub frame_length : ℕ
  pub message_read : read (take lengths.total bytes) ≡ Ok (message, frame_length)
  pub left : drop lengths.total bytes ≡ rest

pub begins_whole : (bytes : List ℕ) (message : Parts) (rest : List ℕ) → first_of bytes ≡ begins message rest → BeginsWhole bytes message rest
begins_whole bytes message rest first =
    let is = told_from bytes (subst IsDecided (sym first) tt) in
    by_prelude is (read_prelude (take 12 bytes)) refl (sym (behind_is bytes is.long) ∙ first)
  where
    by_read : (lengths : Lengths) → read_prelude (take 12 bytes) ≡ Ok lengths → lengths.total ≤ length bytes → (r : Result (Parts × ℕ) ErrorKind)
        → read (take lengths.total bytes) ≡ r → as_first lengths.total bytes r ≡ begins message rest → BeginsWhole bytes message rest
    by_read lengths told there (Ok found) read_is e =
        let same : found.0 ≡ message = cc in
        let left : drop lengths.total bytes ≡ rest = cc in
        record { lengths = lengths; told = told; there = there; frame_length = found.1; message_read = read_is ∙ ap (λ (m : Parts). Ok (m, found.1)) same; left = left }
    by_read lengths told there (Err kind) read_is e = cc

    by_prelude : IsTold bytes → (r : Result Lengths ErrorKind) → read_prelude (take 12 bytes) ≡ r → first_behind bytes r ≡ begins message rest → BeginsWhole bytes message rest
    by_prelude is (Err kind) told e = cc
    by_prelude is (Ok lengths) told e =
        let whole = is.there lengths told in
        by_read lengths told whole (read (take lengths.total bytes)) refl (sym (first_whole bytes lengths told whole) ∙ first)

-- a message takes some bytes
pub shorter : (bytes : List ℕ) (message : Parts) (rest : List ℕ) → first_of bytes ≡ begins message rest → length rest < length bytes
shorter bytes message rest first =
    let is = begins_whole bytes message rest first in
    rw (← is.left) (omega (arith, length-drop is.lengths.total bytes, (prelude_told (take 12 bytes) is.lengths is.told).fit.least, is.there))

-- two readings go on alike after a first message, where they read less alike
same_after : (k m : ℕ) (bytes : List ℕ) (first : First) → first_of bytes ≡ first
    → ((rest : List ℕ) → length rest < length bytes → reading_within k rest ≡ reading_within m rest)
    → read_on (reading_within k) first ≡ read_on (reading_within m) first
same_after k m bytes nothing is same = refl
same_after k m bytes (leftover some) is same = refl
same_after k m bytes (fault kind) is same = refl
same_after k m bytes (begins message rest) is same = ap (onto message) (same rest (shorter bytes message rest is))

nothing_is : first_of [] ≡ nothing
unfolding first_of
nothing_is = refl

-- each bound that is enough gives the same reading
same_within : (k m : ℕ) (bytes : List ℕ) → length bytes ≤ k → length bytes ≤ m → reading_within k bytes ≡ reading_within m bytes
unfolding reading_within
same_within zero zero bytes first second = refl
same_within zero (suc m) [] first second = rw nothing_is refl
same_within zero (suc m) (byte ∷ bytes) first second = absurd (omega arith)
same_within (suc k) zero [] first second = rw nothing_is refl
same_within (suc k) zero (byte ∷ bytes) first second = absurd (omega arith)
same_within (suc k) (suc m) bytes first second = same_after k m bytes (first_of bytes) refl (λ rest less. same_within k m rest (omega arith) (omega arith))

-- a reading goes on after its first message
pub goes_on : (bytes : List ℕ) (message : Parts) (rest : List ℕ) → first_of bytes ≡ begins message rest → reading bytes ≡ onto message (reading rest)
unfolding reading reading_within
goes_on [] message rest first = absurd (let none : nothing ≡ begins message rest = sym nothing_is ∙ first in cc)
goes_on (byte ∷ bytes) message rest first =
    let less = shorter (byte ∷ bytes) message rest first in
    ap (read_on (reading_within (length bytes))) first ∙ ap (onto message) (same_within (length bytes) (length rest) rest (omega arith) (omega arith))

-- ## A frame at the front

-- the message of a frame comes first, whatever follows the frame
pub frame_first : (m : Parts) (more : List ℕ) → IsProper m → unframed m ≡ None → first_of (frame m ++ more) ≡ begins (floored_message m) more
frame_first m more proper none =
    let message : read (frame m) ≡ Ok (floored_message m, length (frame m)) = ap read (sym (append-nil (frame m))) ∙ frame_again m [] proper none in
    first_whole (frame m ++ more) _ (frame_prelude m more none) (omega (arith, length-append (frame m) more, length-frame m))
    ∙ rw (take_at (frame m) more (frame_len m) (length-frame m), message, drop_at (frame m) more (frame_len m) (length-frame m)) refl

-- and the others after it
pub frame_read : (m : Parts) (more : List ℕ) → IsProper m → unframed m ≡ None → reading (frame m ++ more) ≡ onto (floored_message m) (reading more)
frame_read m more proper none = goes_on (frame m ++ more) (floored_message m) more (frame_first m more proper none)

pub nothing_read : reading [] ≡ record { messages = []; end = nothing }
unfolding reading reading_within
nothing_read = rw nothing_is refl

-- frames one after another are read as their messages
frames_again : (ms : List Parts) → AllByRecursion IsProper ms → AllByRecursion (λ m. unframed m ≡ None) ms
    → reading (flat_map frame ms) ≡ record { messages = map floored_message ms; end = nothing }
frames_again [] proper none = nothing_read
frames_again (m ∷ ms) proper none = frame_read m (flat_map frame ms) proper.0 none.0 ∙ ap (onto (floored_message m)) (frames_again ms proper.1 none.1)

pub frames_read : (ms : List Parts) → All IsProper ms → AllByRecursion (λ m. unframed m ≡ None) ms
    → reading (flat_map frame ms) ≡ record { messages = map floored_message ms; end = nothing }
frames_read ms proper none = frames_again ms (recursion_from_All IsProper ms proper) none

-- ## Messages that come first

-- others after them
pub begin_join : (messages others : List Parts) (bytes between rest : List ℕ) → Begin messages bytes between → Begin others between rest → Begin (messages ++ others) bytes rest
begin_join [] others bytes between rest first second = subst (λ (all : List ℕ). Begin others all rest) first second
begin_join (message ∷ messages) others bytes between rest first second = (first.0, first.1, begin_join messages others first.0 between rest first.2 second)

-- they stay the first
pub begin_stays : (messages : List Parts) (bytes rest more : List ℕ) → Begin messages bytes rest → Begin messages (bytes ++ more) (rest ++ more)
begin_stays [] bytes rest more is = ap (λ (all : List ℕ). all ++ more) is
begin_stays (message ∷ messages) bytes rest more is = (is.0 ++ more, first_stays bytes message is.0 more is.1, begin_stays messages is.0 rest more is.2)

-- they are read first
pub begin_read : (messages : List Parts) (bytes rest : List ℕ) → Begin messages bytes rest
    → reading bytes ≡ record { messages = messages ++ (reading rest).messages; end = (reading rest).end }
begin_read [] bytes rest is = ap reading (sym is)
begin_read (message ∷ messages) bytes rest is = goes_on bytes message is.0 is.1 ∙ ap (onto message) (begin_read messages is.0 rest is.2)

-- what comes in place of a first message ends the reading
read_first : (bytes : List ℕ) → (others : List ℕ → Read) × (reading bytes ≡ read_on others (first_of bytes))
unfolding reading reading_within
read_first [] = (λ rest. record { messages = []; end = nothing }, refl)
read_first (byte ∷ bytes) = (reading_within (length bytes), refl)

unfinished_read : (first : First) (others : List ℕ → Read) → IsUnfinished first → read_on others first ≡ record { messages = []; end = first }
unfinished_read nothing others is = refl
unfinished_read (leftover bytes) others is = refl
unfinished_read (fault kind) others is = absurd is
unfinished_read (begins message rest) others is = absurd is

pub begin_unfinished : (messages : List Parts) (bytes rest : List ℕ) → Begin messages bytes rest → IsUnfinished (first_of rest)
    → reading bytes ≡ record { messages = messages; end = first_of rest }
begin_unfinished messages bytes rest is less =
    let last = read_first rest in
    let ends : reading rest ≡ record { messages = []; end = first_of rest } = last.1 ∙ unfinished_read (first_of rest) last.0 less in
    begin_read messages bytes rest is ∙ rw (ends, append-nil messages) refl

pub begin_fault : (messages : List Parts) (bytes rest : List ℕ) (kind : ErrorKind) → Begin messages bytes rest → first_of rest ≡ fault kind
    → reading bytes ≡ record { messages = messages; end = fault kind }
begin_fault messages bytes rest kind is faulty =
    let last = read_first rest in
    let ends : reading rest ≡ record { messages = []; end = fault kind } = last.1 ∙ ap (read_on last.0) faulty in
    begin_read messages bytes rest is ∙ rw (ends, append-nil messages) refl
