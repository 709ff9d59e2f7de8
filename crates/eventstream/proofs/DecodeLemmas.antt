-- One step of the reading, as a decoder makes it.
use Rattle.std.proofs.Common.{◌≡◌, ℕ, ◌+◌, ◌-◌, ◌<◌, ◌≤◌, nat_lt, true, false, List, ◌++◌, length, take, drop, Option, Some, None, Result, Ok, Err, inl, inr, ap, refl, sym, ◌∙◌, arith}
use Rattle.std.specs.Prelude.{◌≢◌, ◌⊎◌}
use Rattle.std.proofs.lemmas.Bool.{le-ltb, lt-ltb}
use Rattle.std.proofs.lemmas.List.{take_at, take-append-drop, length-append}
use Rattle.std.proofs.Math.Seq.{take-append-add, drop-append-add}
use Rattle.smithy_core.specs.Message.{Parts}
use Rattle.seg_buf.specs.Segments.{Segments}
use Rattle.eventstream.specs.declared.decode.DecodedFrame.{DecodedFrame}
use Rattle.eventstream.specs.declared.error.ErrorKind.{ErrorKind}
use Rattle.eventstream.specs.declared.error.ErrorKind.TheVariants.{NoMemory}
use Rattle.eventstream.specs.declared.read.lengths.Lengths.{Lengths}
use Rattle.eventstream.specs.declared.error.Error.{Error}
use Rattle.eventstream.specs.Error.{error_kind}
use Rattle.eventstream.specs.Read.{read, read_frame, read_prelude, Fails, GivesMessage}
use Rattle.eventstream.specs.Reading.{fault, begins, as_first, first_of}
use Rattle.eventstream.specs.Decode.{Finishes, KeepsBytes, IsUnfinished, LeavesFault, DecodesFrame, PeeksMessage, undecoded_bytes}
use Rattle.eventstream.proofs.FrontLemmas.{first_bad, first_whole, more_unfinished, prelude_told, read_joined}

-- ## The prelude stays

-- less than a prelude is there
pub keeps_short : (bytes : List ℕ) → length bytes < 12 → KeepsBytes bytes None bytes
keeps_short bytes short = let test : nat_lt (length bytes) 12 ≡ true = lt-ltb (length bytes) 12 short in (rw test refl, refl)

-- a prelude is taken from the bytes
pub keeps_taken : (bytes : List ℕ) → 12 ≤ length bytes → KeepsBytes bytes (Some (take 12 bytes)) (drop 12 bytes)
keeps_taken bytes long = let test : nat_lt (length bytes) 12 ≡ false = le-ltb (length bytes) 12 long in (rw test refl, take-append-drop 12 bytes)

-- a prelude is kept
pub keeps_kept : (prelude rest : List ℕ) → length prelude ≡ 12 → KeepsBytes (prelude ++ rest) (Some prelude) rest
keeps_kept prelude rest twelve =
    let test : nat_lt (length (prelude ++ rest)) 12 ≡ false = le-ltb (length (prelude ++ rest)) 12 (omega (arith, length-append prelude rest)) in
    (rw (test, take_at prelude rest 12 twelve) refl, refl)

-- ## A frame is there

-- what was read is the first of the bytes
pub reads_first : (bytes : List ℕ) (lengths : Lengths) (n : ℕ) (message : Parts) → read_prelude (take 12 bytes) ≡ Ok lengths → lengths.total ≤ length bytes
    → read (take lengths.total bytes) ≡ Ok (message, n) → first_of bytes ≡ begins message (drop lengths.total bytes)
reads_first bytes lengths n message told whole is = first_whole bytes lengths told whole ∙ ap (as_first lengths.total bytes) is

pub fails_first : (bytes : List ℕ) (lengths : Lengths) (kind : ErrorKind) → read_prelude (take 12 bytes) ≡ Ok lengths → lengths.total ≤ length bytes
    → read (take lengths.total bytes) ≡ Err kind → first_of bytes ≡ fault kind
fails_first bytes lengths kind told whole is = first_whole bytes lengths told whole ∙ ap (as_first lengths.total bytes) is

-- a frame at the front is read, and stays
pub peeks_fault : (bytes : List ℕ) (lengths : Lengths) (e : Error) → read_prelude (take 12 bytes) ≡ Ok lengths → lengths.total ≤ length bytes
    → GivesMessage (read (take lengths.total bytes)) lengths.total (Err e) → PeeksMessage bytes (Err e)
peeks_fault bytes lengths e told whole (inl fails) = inl (fails_first bytes lengths (error_kind e) told whole fails)
peeks_fault bytes lengths e told whole (inr full) = inr full

-- the frame is taken, as one step of the reading says
steps_frame : (kept : Option (List ℕ)) (old : Segments) (prelude : Option (List ℕ)) (new : Segments) (len : ℕ) (lengths : Lengths)
    (answer : Result Parts Error) (result : Result DecodedFrame Error)
    → read_prelude (take 12 (undecoded_bytes kept old.bytes)) ≡ Ok lengths → lengths.total ≤ length (undecoded_bytes kept old.bytes)
    → drop len old.bytes ≡ drop lengths.total (undecoded_bytes kept old.bytes)
    → GivesMessage (read (take lengths.total (undecoded_bytes kept old.bytes))) lengths.total answer
    → Finishes len answer kept old prelude new result → DecodesFrame kept old prelude new result
steps_frame kept old prelude new len lengths (Ok message) result told whole left is done =
    rw done.0 (rw (done.2, left) (reads_first (undecoded_bytes kept old.bytes) lengths lengths.total message told whole is), done.1)
steps_frame kept old prelude new len lengths (Err e) result told whole left is done = rw done.0 (by_end is done.1)
  where
    by_end : Fails (read (take lengths.total (undecoded_bytes kept old.bytes))) e
        → ((e.kind ≡ NoMemory) × (prelude ≡ kept) × (new ≡ old)) ⊎ ((e.kind ≢ NoMemory) × (prelude ≡ None) × (new.bytes ≡ drop len old.bytes))
        → DecodesFrame kept old prelude new (Err e)
    by_end is (inl full) = inr full
    by_end (inl is) (inr gone) = inl (fails_first (undecoded_bytes kept old.bytes) lengths e.kind told whole is, rw told (gone.1, gone.2 ∙ left))
    by_end (inr full) (inr gone) = absurd (gone.0 full)

-- a whole frame is decoded, where no prelude was kept
pub steps_whole : (kept : Option (List ℕ)) (old : Segments) (prelude : Option (List ℕ)) (new : Segments) (lengths : Lengths)
    (answer : Result Parts Error) (result : Result DecodedFrame Error)
    → kept ≡ None → read_prelude (take 12 old.bytes) ≡ Ok lengths → lengths.total ≤ length old.bytes
    → GivesMessage (read (take lengths.total old.bytes)) lengths.total answer
    → Finishes lengths.total answer kept old prelude new result → DecodesFrame kept old prelude new result
steps_whole kept old prelude new lengths answer result none told whole reads done =
    rw none (steps_frame None old prelude new lengths.total lengths answer result told whole refl reads (rw (← none) done))

-- ## A prelude is kept

-- it comes first
pub kept_first : (prelude rest : List ℕ) → length prelude ≡ 12 → take 12 (prelude ++ rest) ≡ prelude
kept_first prelude rest twelve = take_at prelude rest 12 twelve

-- a kept prelude with a fault
pub kept_bad : (prelude rest : List ℕ) (kind : ErrorKind) → length prelude ≡ 12 → read_prelude prelude ≡ Err kind
    → (first_of (prelude ++ rest) ≡ fault kind) × LeavesFault (prelude ++ rest) (Some prelude) rest
kept_bad prelude rest kind twelve bad =
    let told : read_prelude (take 12 (prelude ++ rest)) ≡ Err kind = rw (kept_first prelude rest twelve) bad in
    (first_bad (prelude ++ rest) kind (omega (arith, length-append prelude rest)) told, rw told (keeps_kept prelude rest twelve))

-- a kept prelude whose frame isn't there whole
pub kept_unfinished : (prelude rest : List ℕ) (lengths : Lengths) → length prelude ≡ 12 → read_prelude prelude ≡ Ok lengths → length rest < lengths.total - 12
    → IsUnfinished (first_of (prelude ++ rest)) × KeepsBytes (prelude ++ rest) (Some prelude) rest
kept_unfinished prelude rest lengths twelve told more =
    let still : read_prelude (take 12 (prelude ++ rest)) ≡ Ok lengths = rw (kept_first prelude rest twelve) told in
    (more_unfinished (prelude ++ rest) lengths (omega (arith, length-append prelude rest)) still (omega (arith, length-append prelude rest)), keeps_kept prelude rest twelve)

-- the rest of a frame is decoded, where its prelude was kept
pub steps_rest : (kept : Option (List ℕ)) (taken : List ℕ) (old : Segments) (prelude : Option (List ℕ)) (new : Segments) (lengths : Lengths) (len : ℕ) (rest : List ℕ)
    (answer : Result Parts Error) (result : Result DecodedFrame Error)
    → kept ≡ Some taken → length taken ≡ 12 → read_prelude taken ≡ Ok lengths → len ≡ lengths.total - 12 → len ≤ length old.bytes
    → rest ≡ take len old.bytes → GivesMessage (read_frame lengths taken rest) lengths.total answer
    → Finishes len answer kept old prelude new result → DecodesFrame kept old prelude new result
steps_rest kept taken old prelude new lengths len rest answer result some twelve told short within front reads done =
    let still : read_prelude (take 12 (taken ++ old.bytes)) ≡ Ok lengths = rw (kept_first taken old.bytes twelve) told in
    let total : lengths.total ≡ length taken + len = omega (arith, twelve, (prelude_told taken lengths told).fit.least) in
    let frame : take lengths.total (taken ++ old.bytes) ≡ taken ++ take len old.bytes = rw total (take-append-add taken old.bytes len) in
    let left : drop len old.bytes ≡ drop lengths.total (taken ++ old.bytes) = rw total (sym (drop-append-add taken old.bytes len)) in
    let whole : read (take lengths.total (taken ++ old.bytes)) ≡ read_frame lengths taken rest =
    ap read frame ∙ read_joined taken (take len old.bytes) lengths twelve told ∙ ap (read_frame lengths taken) (sym front) in
    rw some (steps_frame (Some taken) old prelude new len lengths answer result still (omega (arith, length-append taken old.bytes, total)) left (rw whole reads) (rw (← some) done))
