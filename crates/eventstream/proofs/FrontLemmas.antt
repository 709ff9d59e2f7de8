-- The front of a stream of bytes.
use Rattle.std.proofs.Common.{◌≡◌, ℕ, ◌-◌, ◌<◌, ◌≤◌, nat_lt, ◌==◌, Bool, true, false, if◌then◌else◌, List, [], ◌∷◌, ◌++◌, length, take, drop, Ok, Err, ap, refl, ◌∙◌, arith}
use Rattle.std.specs.Int.{w32}
use Rattle.std.proofs.lemmas.Bool.{eqb-true, le-ltb, lt-ltb, ltb-false, ne_eqb}
use Rattle.std.proofs.lemmas.List.{take_at, drop_at, length-append, length-take-le, take-take}
use Rattle.mac_core.specs.Crc.{remainder}
use Rattle.eventstream.specs.declared.error.ErrorKind.{ErrorKind}
use Rattle.eventstream.specs.declared.error.ErrorKind.TheVariants.{InvalidHeadersLength, InvalidMessageLength, PreludeChecksumMismatch}
use Rattle.eventstream.specs.declared.read.lengths.Lengths.{Lengths}
use Rattle.eventstream.specs.Read.{AreFit, big_endian, read, read_after, read_frame, read_prelude, announced, u32_at}
use Rattle.eventstream.specs.Reading.{nothing, leftover, fault, as_first, first_behind, first_of}
use Rattle.eventstream.specs.Decode.{IsUnfinished}
use Rattle.eventstream.proofs.TestLemmas.{admitted, ok_same, refused_or}

-- ## The prelude

first_four : (bytes : List ℕ) → take 4 (take 12 bytes) ≡ take 4 bytes
first_four [] = refl
first_four (a ∷ []) = refl
first_four (a ∷ b ∷ []) = refl
first_four (a ∷ b ∷ c ∷ []) = refl
first_four (a ∷ b ∷ c ∷ d ∷ bytes) = refl

-- the prelude announces the length of the frame
pub announced_prelude : (bytes : List ℕ) → announced (take 12 bytes) ≡ announced bytes
announced_prelude bytes = ap (big_endian w32) (first_four bytes)

-- a prelude that tells these lengths
pub record IsPrelude (prelude : List ℕ) (lengths : Lengths) : Type 0 where
  pub total : lengths.total ≡ u32_at 0 prelude
  pub headers : lengths.headers ≡ u32_at 4 prelude
  pub sum : remainder (take 8 prelude) ≡ u32_at 8 prelude
  pub fit : AreFit lengths

pub prelude_told : (prelude : List ℕ) (lengths : Lengths) → read_prelude prelude ≡ Ok lengths → IsPrelude prelude lengths
unfolding read_prelude
prelude_told prelude lengths is =
    let total = u32_at 0 prelude in
    let headers = u32_at 4 prelude in
    let computed = remainder (take 8 prelude) in
    let carried = u32_at 8 prelude in
    let least = refused_or (nat_lt total 16) InvalidMessageLength _ lengths is in
    let most = refused_or (nat_lt 16777216 total) InvalidMessageLength _ lengths least.1 in
    let one = refused_or (headers == 1) InvalidHeadersLength _ lengths most.1 in
    let block = refused_or (nat_lt 131072 headers) InvalidHeadersLength _ lengths one.1 in
    let room = refused_or (nat_lt (total - 16) headers) InvalidHeadersLength _ lengths block.1 in
    let sum = admitted (computed == carried) (PreludeChecksumMismatch computed carried) (Ok (record { total = total; headers = headers })) lengths room.1 in
    let enough : 16 ≤ total = ltb-false _ _ least.0 in
    rw (← ok_same _ _ sum.1)
    (record {
      total = refl;
      headers = refl;
      sum = eqb-true _ _ sum.0;
      fit = record { least = enough; most = ltb-false _ _ most.0; block = ltb-false _ _ block.0; room = omega (arith, enough, ltb-false _ _ room.0) };
    })

-- ## Frames

-- a prelude and the bytes after it are read as one
pub read_joined : (prelude rest : List ℕ) (lengths : Lengths) → length prelude ≡ 12 → read_prelude prelude ≡ Ok lengths → read (prelude ++ rest) ≡ read_frame lengths prelude rest
unfolding read read_after
read_joined prelude rest lengths twelve told =
    let long : nat_lt (length (prelude ++ rest)) 12 ≡ false = le-ltb (length (prelude ++ rest)) 12 (omega (arith, length-append prelude rest)) in
    rw (long, take_at prelude rest 12 twelve, drop_at prelude rest 12 twelve, told) refl

-- the frame at the front is read as its prelude tells
pub read_front : (bytes : List ℕ) (lengths : Lengths) → read_prelude (take 12 bytes) ≡ Ok lengths → lengths.total ≤ length bytes
    → read (take lengths.total bytes) ≡ read_frame lengths (take 12 bytes) (drop 12 (take lengths.total bytes))
unfolding read read_after
read_front bytes lengths told there =
    let enough = (prelude_told (take 12 bytes) lengths told).fit.least in
    let long : nat_lt (length (take lengths.total bytes)) 12 ≡ false = le-ltb _ _ (omega (arith, length-take-le lengths.total bytes there, enough)) in
    rw (long, take-take 12 lengths.total bytes (omega (arith, enough)), told) refl

-- ## What a stream begins with

-- fewer bytes than a prelude tell nothing
pub short_is : (bytes : List ℕ) → length bytes < 12 → first_of bytes ≡ (if length bytes == 0 then nothing else leftover bytes)
unfolding first_of
short_is bytes short = let test : nat_lt (length bytes) 12 ≡ true = lt-ltb _ _ short in rw test refl

-- there is less than a frame
pub first_short : (bytes : List ℕ) → length bytes < 12 → IsUnfinished (first_of bytes)
first_short bytes short = rw (short_is bytes short) (by_none (length bytes == 0))
  where
    by_none : (none : Bool) → IsUnfinished (if none then nothing else leftover bytes)
    by_none true = tt
    by_none false = tt

-- once the prelude is there, it tells
pub behind_is : (bytes : List ℕ) → 12 ≤ length bytes → first_of bytes ≡ first_behind bytes (read_prelude (take 12 bytes))
unfolding first_of
behind_is bytes long =
    let some : (length bytes == 0) ≡ false = ne_eqb _ _ (λ none. absurd (omega arith)) in
    let enough : nat_lt (length bytes) 12 ≡ false = le-ltb _ _ long in
    rw (some, enough) refl

-- its fault
pub first_bad : (bytes : List ℕ) (kind : ErrorKind) → 12 ≤ length bytes → read_prelude (take 12 bytes) ≡ Err kind → first_of bytes ≡ fault kind
first_bad bytes kind long bad = behind_is bytes long ∙ ap (first_behind bytes) bad

-- that the frame isn't there whole
pub first_more : (bytes : List ℕ) (lengths : Lengths) → 12 ≤ length bytes → read_prelude (take 12 bytes) ≡ Ok lengths → length bytes < lengths.total → first_of bytes ≡ leftover bytes
first_more bytes lengths long told partial =
    let less : nat_lt (length bytes) lengths.total ≡ true = lt-ltb _ _ partial in behind_is bytes long ∙ ap (first_behind bytes) told ∙ rw less refl

-- or that it is there
pub first_whole : (bytes : List ℕ) (lengths : Lengths) → read_prelude (take 12 bytes) ≡ Ok lengths → lengths.total ≤ length bytes
    → first_of bytes ≡ as_first lengths.total bytes (read (take lengths.total bytes))
first_whole bytes lengths told whole =
    let fit = (prelude_told (take 12 bytes) lengths told).fit in
    let there : nat_lt (length bytes) lengths.total ≡ false = le-ltb _ _ whole in
    behind_is bytes (omega (arith, fit.least, whole)) ∙ ap (first_behind bytes) told ∙ rw there refl

-- a frame that isn't there whole
pub more_unfinished : (bytes : List ℕ) (lengths : Lengths) → 12 ≤ length bytes → read_prelude (take 12 bytes) ≡ Ok lengths → length bytes < lengths.total → IsUnfinished (first_of bytes)
more_unfinished bytes lengths long told more = rw (first_more bytes lengths long told more) tt
