-- A frame is as long as its first number says, and is read back, whatever follows it.
use Rattle.std.proofs.Common.{◌≡◌, ℕ, ◌+◌, ◌-◌, ◌<◌, ◌≤◌, ◌^◌, List, [], ◌∷◌, ◌++◌, length, take, map, true, false, nat_lt, ◌==◌, None, Ok, refl, sym, ap, ◌∙◌, append_assoc, append-nil, arith, length-append}
use Rattle.std.specs.List.{AllByRecursion}
use Rattle.std.specs.Int.{w32}
use Rattle.std.specs.Option.{option_or}
use Rattle.std.proofs.lemmas.Bool.{eq-eqb, le-ltb, ne_eqb}
use Rattle.std.proofs.lemmas.Bool.Decides.{nat_tests}
use Rattle.std.proofs.lemmas.List.Elements.{recursion_from_All}
use Rattle.std.proofs.lemmas.List.{take_at, drop_at, nil_from_length}
use Rattle.mac_core.specs.Crc.{remainder}
use Rattle.mac_core.proofs.CrcLemmas.{remainder-below}
use Rattle.smithy_core.specs.Message.{Parts}
use Rattle.smithy_core.specs.Header.{Header}
use Rattle.smithy_core.specs.declared.header.HeaderValue.{HeaderValue}
use Rattle.smithy_core.specs.declared.header.HeaderValue.TheVariants.{Bool as Truth, Byte, Int16, Int32, Int64, ByteArray, String as Text, Timestamp, Uuid}
use Rattle.eventstream.specs.declared.error.ErrorKind.{ErrorKind}
use Rattle.eventstream.specs.declared.error.ErrorKind.TheVariants.{HeadersTooLong, MessageTooLong, PayloadTooLong}
use Rattle.eventstream.specs.Frame.{be32, block, first_unspelled, frame, frame_len, over, frame_lengths, spelling, summed, unfit_lengths, unframed, value_spelling}
use Rattle.eventstream.specs.Laws.{IsProper, IsProperHeader, floored_header, floored_message}
use Rattle.eventstream.specs.Read.{big_endian, checked_message, read, read_after, read_frame, read_prelude, u32_at}
use Rattle.eventstream.specs.declared.read.lengths.Lengths.{Lengths}
use Rattle.eventstream.proofs.RoundLemmas.{both_none, headers_again, wide32}

-- ## Lengths

pub length-be32 : (n : ℕ) → length (be32 n) ≡ 4
unfolding be32
length-be32 n = refl

-- a frame is as long as its first number says
pub length-frame : (m : Parts) → length (frame m) ≡ frame_len m
unfolding frame
length-frame m = simp (length-append, length-be32) (omega arith)

-- a message that has a frame
pub record IsFramed (m : Parts) : Type 0 where
  pub spelled : first_unspelled m.headers ≡ None
  pub block_short : length (block m.headers) ≤ 131072
  pub short : frame_len m ≤ 16777216

not_over : (most n : ℕ) (fault : ErrorKind) → over most n fault ≡ None → n ≤ most
not_over most n fault none = grind (arith, nat_tests)

pub framed : (m : Parts) → unframed m ≡ None → IsFramed m
unfolding unframed
framed m none =
    let headers = length (block m.headers) in
    let payload = length m.payload in
    let total = over 16777216 (16 + headers + payload) MessageTooLong in
    let parts = both_none (first_unspelled m.headers) (unfit_lengths headers payload) none in
    let fit = both_none (over 131072 headers HeadersTooLong) (option_or (over 16777200 payload PayloadTooLong) total) parts.1 in
    let whole = both_none (over 16777200 payload PayloadTooLong) total fit.1 in
    record { spelled = parts.0; block_short = not_over 131072 headers HeadersTooLong fit.0; short = not_over 16777216 (16 + headers + payload) MessageTooLong whole.1 }

-- ## Numbers

big_endian-be32 : (n : ℕ) → n < 2 ^ 32 → big_endian w32 (be32 n) ≡ n
unfolding be32
big_endian-be32 n fits = wide32.again n fits

-- four bytes behind others are their number
u32_behind : (front rest : List ℕ) (place n : ℕ) → length front ≡ place → n < 2 ^ 32 → u32_at place (front ++ (be32 n ++ rest)) ≡ n
u32_behind front rest place n len fits =
    rw (drop_at front (be32 n ++ rest) place len, take_at (be32 n) rest 4 (length-be32 n)) (big_endian-be32 n fits)

-- ## The prelude

spelled_long : (value : HeaderValue) → 1 ≤ length (value_spelling value)
unfolding value_spelling
spelled_long (Truth true) = omega arith
spelled_long (Truth false) = omega arith
spelled_long (Byte n) = omega arith
spelled_long (Int16 n) = omega arith
spelled_long (Int32 n) = omega arith
spelled_long (Int64 n) = omega arith
spelled_long (ByteArray bytes) = omega arith
spelled_long (Text text) = omega arith
spelled_long (Timestamp t) = omega arith
spelled_long (Uuid n) = omega arith

-- no header block has one byte
block_long : (headers : List Header) → length (block headers) ≡ 1 → ⊥
block_long [] one = absurd (omega arith)
block_long (h ∷ hs) one =
    absurd (omega (arith, length-append (spelling h) (block hs), length-append h.name (value_spelling h.value), spelled_long h.value))

-- the lengths of a frame are told again by its prelude
prelude_again : (total headers : ℕ) → 16 + headers ≤ total → total ≤ 16777216 → headers ≤ 131072 → (headers ≡ 1 → ⊥)
    → read_prelude (summed (frame_lengths total headers)) ≡ Ok (record { total = total; headers = headers })
unfolding read_prelude
prelude_again total headers room short block_short more =
    let two = frame_lengths total headers in
    let sum = be32 (remainder two) in
    let split = append_assoc (be32 total) (be32 headers) sum in
    let first : u32_at 0 (summed two) ≡ total = ap (u32_at 0) split ∙ u32_behind [] (be32 headers ++ sum) 0 total refl (omega (arith, short)) in
    let second : u32_at 4 (summed two) ≡ headers = ap (u32_at 4) split ∙ u32_behind (be32 total) sum 4 headers (length-be32 total) (omega (arith, block_short)) in
    let eight : length two ≡ 8 = omega (arith, length-append (be32 total) (be32 headers), length-be32 total, length-be32 headers) in
    let third : u32_at 8 (summed two) ≡ remainder two =
    ap (λ (end : List ℕ). u32_at 8 (two ++ end)) (sym (append-nil sum)) ∙ u32_behind two [] 8 (remainder two) eight (remainder-below two) in
    let least : nat_lt total 16 ≡ false = le-ltb _ _ (omega (arith, room)) in
    let most : nat_lt 16777216 total ≡ false = le-ltb _ _ short in
    let not_one : (headers == 1) ≡ false = ne_eqb _ _ more in
    let small : nat_lt 131072 headers ≡ false = le-ltb _ _ block_short in
    let fit : nat_lt (total - 16) headers ≡ false = le-ltb _ _ (omega (arith, room)) in
    let same : (remainder two == remainder two) ≡ true = eq-eqb _ _ refl in
    rw (first, second, third, take_at two sum 8 eight, least, most, not_one, small, fit, same) refl

-- ## Whole frames

-- the prelude of a message, what its frame has behind that, and the checksum of both
abbrev prelude : Parts → List ℕ
prelude m = summed (frame_lengths (frame_len m) (length (block m.headers)))

abbrev body : Parts → List ℕ
body m = block m.headers ++ m.payload

abbrev closing : Parts → List ℕ
closing m = be32 (remainder (prelude m ++ body m))

length-prelude : (m : Parts) → length (prelude m) ≡ 12
length-prelude m = simp (length-append, length-be32) (omega arith)

frame_parts : (m : Parts) → frame m ≡ prelude m ++ (body m ++ closing m)
unfolding frame
frame_parts m = ap summed (append_assoc (prelude m) (block m.headers) m.payload) ∙ append_assoc (prelude m) (body m) (closing m)

-- what follows the prelude, part by part
frame_rest : (m : Parts) (more : List ℕ) → frame m ++ more ≡ prelude m ++ (block m.headers ++ (m.payload ++ (closing m ++ more)))
frame_rest m more =
    ap (λ (bytes : List ℕ). bytes ++ more) (frame_parts m) ∙ append_assoc (prelude m) (body m ++ closing m) more
    ∙ ap (λ (rest : List ℕ). prelude m ++ rest)
    (append_assoc (body m) (closing m) more ∙ append_assoc (block m.headers) m.payload (closing m ++ more))

message_again : (m : Parts) (more : List ℕ) (headers : List Header) →
    checked_message (record { total = frame_len m; headers = length (block m.headers) }) (prelude m)
    (block m.headers ++ (m.payload ++ (closing m ++ more))) headers ≡ Ok (record { headers = headers; payload = m.payload })
unfolding checked_message
message_again m more headers =
    let within : frame_len m - 16 ≡ length (body m) = omega (arith, length-append (block m.headers) m.payload) in
    let last : frame_len m - 16 - length (block m.headers) ≡ length m.payload = omega arith in
    let split : block m.headers ++ (m.payload ++ (closing m ++ more)) ≡ body m ++ (closing m ++ more) =
    sym (append_assoc (block m.headers) m.payload (closing m ++ more)) in
    let sum = remainder (prelude m ++ body m) in
    let carried : u32_at (frame_len m - 16) (block m.headers ++ (m.payload ++ (closing m ++ more))) ≡ sum =
    ap (u32_at (frame_len m - 16)) split ∙ u32_behind (body m) more (frame_len m - 16) sum (sym within) (remainder-below (prelude m ++ body m)) in
    let summed_bytes : take (frame_len m - 16) (block m.headers ++ (m.payload ++ (closing m ++ more))) ≡ body m =
    ap (take (frame_len m - 16)) split ∙ take_at (body m) (closing m ++ more) (frame_len m - 16) (sym within) in
    let same : (sum == sum) ≡ true = eq-eqb _ _ refl in
    rw (
      carried,
      summed_bytes,
      same,
      last,
      drop_at (block m.headers) (m.payload ++ (closing m ++ more)) (length (block m.headers)) refl,
      take_at m.payload (closing m ++ more) (length m.payload) refl,
    ) refl

-- the lengths of a message's frame
abbrev lengths_in : Parts → Lengths
lengths_in m = record { total = frame_len m; headers = length (block m.headers) }

prelude_in : (m : Parts) → IsFramed m → read_prelude (prelude m) ≡ Ok (lengths_in m)
prelude_in m is = prelude_again (frame_len m) (length (block m.headers)) (omega arith) is.short is.block_short (block_long m.headers)

after_again : (m : Parts) (more : List ℕ) → AllByRecursion IsProperHeader m.headers → IsFramed m
    → read_after (prelude m) (block m.headers ++ (m.payload ++ (closing m ++ more))) ≡ Ok (floored_message m, frame_len m)
unfolding read_after read_frame
after_again m more proper is =
    let headers = length (block m.headers) in
    let tail = m.payload ++ (closing m ++ more) in
    let long : nat_lt (12 + length (block m.headers ++ tail)) (frame_len m) ≡ false =
    le-ltb _ _ (omega (arith, length-append (block m.headers) tail, length-append m.payload (closing m ++ more), length-append (closing m) more, length-be32 (remainder (prelude m ++ body m)))) in
    let more_than : 1 ≤ length tail =
    omega (arith, length-append m.payload (closing m ++ more), length-append (closing m) more, length-be32 (remainder (prelude m ++ body m))) in
    let read_headers = headers_again headers m.headers tail proper is.spelled more_than (omega arith) in
    rw (prelude_in m is, long, read_headers, message_again m more (map floored_header m.headers)) refl

-- a frame begins with a prelude that tells its lengths, whatever follows it
pub frame_prelude : (m : Parts) (more : List ℕ) → unframed m ≡ None → read_prelude (take 12 (frame m ++ more)) ≡ Ok (lengths_in m)
frame_prelude m more none =
    let rest = block m.headers ++ (m.payload ++ (closing m ++ more)) in
    ap (λ (bytes : List ℕ). read_prelude (take 12 bytes)) (frame_rest m more) ∙ ap read_prelude (take_at (prelude m) rest 12 (length-prelude m)) ∙ prelude_in m (framed m none)

-- a frame is read back, whatever follows it
pub frame_again : (m : Parts) (more : List ℕ) → IsProper m → unframed m ≡ None
    → read (frame m ++ more) ≡ Ok (floored_message m, length (frame m))
unfolding read
frame_again m more proper none =
    let rest = block m.headers ++ (m.payload ++ (closing m ++ more)) in
    let long : nat_lt (length (prelude m ++ rest)) 12 ≡ false = le-ltb _ _ (omega (arith, length-append (prelude m) rest, length-prelude m)) in
    ap read (frame_rest m more)
    ∙ rw (long, take_at (prelude m) rest 12 (length-prelude m), drop_at (prelude m) rest 12 (length-prelude m), length-frame m)
    (after_again m more (recursion_from_All IsProperHeader m.headers proper.headers) (framed m none))

-- ## No frame begins another

-- the first number of a frame is its length
pub u32-frame : (m : Parts) (more : List ℕ) → unframed m ≡ None → u32_at 0 (frame m ++ more) ≡ length (frame m)
u32-frame m more none =
    let short = (framed m none).short in
    let headers = length (block m.headers) in
    let sum = be32 (remainder (frame_lengths (frame_len m) headers)) in
    let rest = block m.headers ++ (m.payload ++ (closing m ++ more)) in
    ap (u32_at 0) (frame_rest m more ∙ append_assoc (frame_lengths (frame_len m) headers) sum rest ∙ append_assoc (be32 (frame_len m)) (be32 headers) (sum ++ rest))
    ∙ u32_behind [] (be32 headers ++ (sum ++ rest)) 0 (frame_len m) refl (omega (arith, short)) ∙ sym (length-frame m)

-- a frame that begins another is the other
pub frame_alone : (a b : Parts) (more : List ℕ) → unframed a ≡ None → unframed b ≡ None → frame a ++ more ≡ frame b → more ≡ []
frame_alone a b more first second begins =
    let other : u32_at 0 (frame b) ≡ length (frame b) = ap (u32_at 0) (sym (append-nil (frame b))) ∙ u32-frame b [] second in
    let same : length (frame a) ≡ length (frame b) = sym (u32-frame a more first) ∙ ap (u32_at 0) begins ∙ other in
    nil_from_length more (omega (arith, length-append (frame a) more, ap length begins, same))
