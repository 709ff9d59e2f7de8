-- Bytes that are read as a message are the frame of that message.
use Rattle.std.proofs.Common.{◌≡◌, ℕ, zero, suc, ◌+◌, ◌-◌, ◌<◌, ◌≤◌, ℤ, Bool, true, false, nat_lt, nat_le, List, [], ◌∷◌, ◌++◌, length, take, drop, map, All, Result, Ok, Err, refl, sym, ap, ◌∙◌, append_assoc, arith, length-append, length-drop, slice_index, take-add}
use Rattle.std.specs.Prelude.{◌==◌, if◌then◌else◌}
use Rattle.std.specs.Int.{Width, w8, w16, w32, w64, w128, byte_len, cast_signed, cast_unsigned, to_be_bytes}
use Rattle.std.specs.Str.{is_utf8}
use Rattle.std.proofs.lemmas.Bool.{eqb-true, ltb-false}
use Rattle.std.proofs.lemmas.Bool.Decides.{nat_tests}
use Rattle.std.proofs.lemmas.Int.{of_z-to_z}
use Rattle.std.proofs.lemmas.List.{drop_at, length-take-le, take-append-drop, take-take, take_all, take_at}
use Rattle.std.proofs.lemmas.List.Elements.{All-drop, All-tail, All-take}
use Rattle.mac_core.specs.Crc.{remainder}
use Rattle.smithy_core.specs.Header.{Header}
use Rattle.smithy_core.specs.Message.{Parts}
use Rattle.smithy_core.specs.Moment.{at_ms, floored}
use Rattle.smithy_core.specs.declared.header.HeaderValue.{HeaderValue}
use Rattle.smithy_core.specs.declared.header.HeaderValue.TheVariants.{Bool as Truth, Byte, Int16, Int32, Int64, ByteArray, String as Text, Timestamp, Uuid}
use Rattle.eventstream.specs.Bind.{◌>>=◌}
use Rattle.eventstream.specs.Frame.{be32, block, frame, frame_len, frame_lengths, spelling, summed, value_spelling}
use Rattle.eventstream.specs.Kind.{byte_array_kind, byte_kind, false_kind, int16_kind, int32_kind, int64_kind, string_kind, timestamp_kind, true_kind, uuid_kind}
use Rattle.eventstream.specs.Laws.{floored_header, floored_message, floored_value}
use Rattle.eventstream.specs.Read.{AreFit, announced, array_of, big_endian, checked_message, counted_of, front_of, header_name_of, header_of, header_within, headers_within, number_of, read, read_after, read_frame, read_prelude, text_value_of, u32_at, value_of}
use Rattle.eventstream.specs.Reading.{begins, first_of}
use Rattle.eventstream.specs.declared.error.ErrorKind.{ErrorKind}
use Rattle.eventstream.specs.declared.error.ErrorKind.TheVariants.{InvalidHeaderNameLength, InvalidHeaderValue, InvalidHeadersLength, InvalidMessageLength, InvalidUtf8String}
use Rattle.eventstream.specs.declared.read.lengths.Lengths.{Lengths}
use Rattle.eventstream.proofs.FrontLemmas.{IsPrelude, announced_prelude, prelude_told}
use Rattle.eventstream.proofs.ReadingLemmas.{begins_whole}
use Rattle.eventstream.proofs.TestLemmas.{admitted, bound, ok_same, refused_or}
use Rattle.chain_watch.specs.Chain.{IsByte}
use Rattle.chain_watch.proofs.NumberLemmas.{bytes_spelled, ms_again, number_fits}

-- ## Parts of bytes

front_small : (front back all : List ℕ) → all ≡ front ++ back → All IsByte all → All IsByte front
front_small front back all is small = rw (sym (take_at front back (length front) refl) ∙ ap (take (length front)) (sym is)) (All-take IsByte (length front) all small)

back_small : (front back all : List ℕ) → all ≡ front ++ back → All IsByte all → All IsByte back
back_small front back all is small = rw (sym (drop_at front back (length front) refl) ∙ ap (drop (length front)) (sym is)) (All-drop IsByte (length front) all small)

-- ## Values

front_split : (n : ℕ) (bytes : List ℕ) (found : List ℕ × List ℕ) → front_of n bytes ≡ Ok found → (bytes ≡ found.0 ++ found.1) × (length found.0 ≡ n)
unfolding front_of
front_split n bytes found is =
    let parts = refused_or (nat_lt (length bytes) n) InvalidHeaderValue (Ok (take n bytes, drop n bytes)) found is in
    rw (← ok_same _ _ parts.1) (sym (take-append-drop n bytes), length-take-le n bytes (ltb-false _ _ parts.0))

-- bytes that are read as a value, and the bytes after it: they are the spelling of the value, in whole milliseconds
record IsValue (kind : ℕ) (bytes : List ℕ) (found : HeaderValue × List ℕ) : Type 0 where
  spelled : kind ∷ bytes ≡ value_spelling found.0 ++ found.1
  whole : floored_value found.0 ≡ found.0

-- a value that is a number
number_value : (w : Width) (kind : ℕ) (value : ℕ → HeaderValue) (bytes : List ℕ) (found : HeaderValue × List ℕ) → number_of w value bytes ≡ Ok found → All IsByte bytes
    → ((n : ℕ) → floored_value (value n) ≡ value n)
    → ((number : List ℕ) → length number ≡ byte_len w → All IsByte number → value_spelling (value (big_endian w number)) ≡ kind ∷ number)
    → IsValue kind bytes found
unfolding number_of
number_value w kind value bytes found is small whole spelled =
    let parts = bound (front_of (byte_len w) bytes) (λ number. Ok (value (big_endian w number.0), number.1)) found is in
    let split = front_split (byte_len w) bytes parts.0 parts.1 in
    let spells = spelled parts.0.0 split.1 (front_small parts.0.0 parts.0.1 bytes split.0 small) in
    rw (← ok_same _ _ parts.2)
    (record {
      spelled = ap (λ (rest : List ℕ). kind ∷ rest) split.0 ∙ ap (λ (front : List ℕ). front ++ parts.0.1) (sym spells);
      whole = whole (big_endian w parts.0.0);
    })

signed_again : (w : Width) (number : List ℕ) → length number ≡ byte_len w → All IsByte number → to_be_bytes w (cast_unsigned w (cast_signed w (big_endian w number))) ≡ number
signed_again w number len small =
    ap (to_be_bytes w) (of_z-to_z w (big_endian w number) (number_fits w number len small)) ∙ bytes_spelled w number len small

counted_split : (bytes : List ℕ) (found : List ℕ × List ℕ) → counted_of bytes ≡ Ok found → All IsByte bytes → bytes ≡ to_be_bytes w16 (length found.0) ++ found.0 ++ found.1
unfolding counted_of
counted_split bytes found is small =
    let parts = refused_or (nat_lt (length bytes) 3) InvalidHeaderValue (front_of (big_endian w16 (take 2 bytes)) (drop 2 bytes)) found is in
    let long : 3 ≤ length bytes = ltb-false _ _ parts.0 in
    let split = front_split (big_endian w16 (take 2 bytes)) (drop 2 bytes) found parts.1 in
    let counted : to_be_bytes w16 (length found.0) ≡ take 2 bytes =
    ap (to_be_bytes w16) split.1 ∙ bytes_spelled w16 (take 2 bytes) (length-take-le 2 bytes (omega arith)) (All-take IsByte 2 bytes small) in
    sym (take-append-drop 2 bytes) ∙ ap (λ (rest : List ℕ). take 2 bytes ++ rest) split.0 ∙ sym (append_assoc (take 2 bytes) found.0 found.1)
    ∙ ap (λ (count : List ℕ). count ++ found.0 ++ found.1) (sym counted)

array_split : (bytes : List ℕ) (found : HeaderValue × List ℕ) → array_of bytes ≡ Ok found → All IsByte bytes → IsValue byte_array_kind bytes found
unfolding array_of value_spelling
array_split bytes found is small =
    let parts = bound (counted_of bytes) (λ array. Ok (ByteArray array.0, array.1)) found is in
    rw (← ok_same _ _ parts.2)
    (record { spelled = ap (λ (rest : List ℕ). byte_array_kind ∷ rest) (counted_split bytes parts.0 parts.1 small); whole = refl })

text_split : (bytes : List ℕ) (found : HeaderValue × List ℕ) → text_value_of bytes ≡ Ok found → All IsByte bytes → IsValue string_kind bytes found
unfolding text_value_of value_spelling
text_split bytes found is small =
    let parts = bound (counted_of bytes) (λ text. if is_utf8 text.0 then Ok (Text text.0, text.1) else Err InvalidUtf8String) found is in
    let utf8 = admitted (is_utf8 parts.0.0) InvalidUtf8String (Ok (Text parts.0.0, parts.0.1)) found parts.2 in
    rw (← ok_same _ _ utf8.1)
    (record { spelled = ap (λ (rest : List ℕ). string_kind ∷ rest) (counted_split bytes parts.0 parts.1 small); whole = refl })

ms_floored : (ms : ℤ) → floored (at_ms ms) ≡ at_ms ms
ms_floored ms = ap (λ (n : ℕ). record { secs = (at_ms ms).secs; nanos = n }) (omega arith)

module _ (bytes : List ℕ) (found : HeaderValue × List ℕ) (small : All IsByte bytes) where
  -- of the answers by the kind of a value one counts
  by_kind : (k kind : ℕ) (answer others : Result (HeaderValue × List ℕ) ErrorKind) → (answer ≡ Ok found → IsValue k bytes found)
      → (others ≡ Ok found → IsValue kind bytes found) → (if kind == k then answer else others) ≡ Ok found → IsValue kind bytes found
  by_kind k kind answer others here there = by_test (kind == k) refl
    where
      by_test : (test : Bool) → (kind == k) ≡ test → (if test then answer else others) ≡ Ok found → IsValue kind bytes found
      by_test true same is = rw (eqb-true kind k same) (here is)
      by_test false other is = there is

  -- a value that is a signed number
  signed_value : (w : Width) (kind : ℕ) (value : ℤ → HeaderValue) → ((z : ℤ) → floored_value (value z) ≡ value z)
      → ((z : ℤ) → value_spelling (value z) ≡ kind ∷ to_be_bytes w (cast_unsigned w z))
      → number_of w (λ n. value (cast_signed w n)) bytes ≡ Ok found → IsValue kind bytes found
  signed_value w kind value whole spelled is =
      number_value w kind (λ n. value (cast_signed w n)) bytes found is small (λ n. whole (cast_signed w n))
      (λ number len some. spelled (cast_signed w (big_endian w number)) ∙ ap (λ (rest : List ℕ). kind ∷ rest) (signed_again w number len some))

  -- a value that was read
  value_split : (kind : ℕ) → value_of kind bytes ≡ Ok found → IsValue kind bytes found
  unfolding value_of value_spelling
  value_split kind =
      by_kind true_kind kind _ _ (λ is. rw (← ok_same (Truth true, bytes) found is) (record { spelled = refl; whole = refl }))
      (by_kind false_kind kind _ _ (λ is. rw (← ok_same (Truth false, bytes) found is) (record { spelled = refl; whole = refl }))
      (by_kind byte_kind kind _ _ (signed_value w8 byte_kind Byte (λ z. refl) (λ z. refl))
      (by_kind int16_kind kind _ _ (signed_value w16 int16_kind Int16 (λ z. refl) (λ z. refl))
      (by_kind int32_kind kind _ _ (signed_value w32 int32_kind Int32 (λ z. refl) (λ z. refl))
      (by_kind int64_kind kind _ _ (signed_value w64 int64_kind Int64 (λ z. refl) (λ z. refl))
      (by_kind byte_array_kind kind _ _ (λ is. array_split bytes found is small)
      (by_kind string_kind kind _ _ (λ is. text_split bytes found is small)
      (by_kind timestamp_kind kind _ _
      (signed_value w64 timestamp_kind (λ ms. Timestamp (at_ms ms)) (λ ms. ap Timestamp (ms_floored ms))
      (λ ms. ap (λ (z : ℤ). timestamp_kind ∷ to_be_bytes w64 (cast_unsigned w64 z)) (ms_again ms)))
      (by_kind uuid_kind kind _ _
      (λ is. number_value w128 uuid_kind Uuid bytes found is small (λ n. refl)
      (λ number len some. ap (λ (rest : List ℕ). uuid_kind ∷ rest) (bytes_spelled w128 number len some)))
      (λ is. cc))))))))))

-- ## Headers

-- bytes that are read as a header's name, and the bytes after it
record IsName (bytes : List ℕ) (found : List ℕ × List ℕ) : Type 0 where
  spelled : bytes ≡ length found.0 ∷ found.0 ++ found.1
  more : 1 ≤ length found.1

name_below : (len n : ℕ) → nat_le (suc len - 1) n ≡ false → n < len
name_below len n test = grind (arith, nat_tests)

name_split : (bytes : List ℕ) (found : List ℕ × List ℕ) → header_name_of bytes ≡ Ok found → IsName bytes found
unfolding header_name_of
name_split [] found is = cc
name_split (n ∷ bytes) found is =
    let text = take n bytes in
    let named : Result (List ℕ × List ℕ) ErrorKind = if is_utf8 text then Ok (text, drop n bytes) else Err InvalidUtf8String in
    let some = refused_or (nat_lt (length (n ∷ bytes)) 2) InvalidHeadersLength (if nat_le (length (n ∷ bytes) - 1) n then Err InvalidHeaderNameLength else named) found is in
    let room = refused_or (nat_le (length (n ∷ bytes) - 1) n) InvalidHeaderNameLength named found some.1 in
    let utf8 = admitted (is_utf8 text) InvalidUtf8String (Ok (text, drop n bytes)) found room.1 in
    let below : n < length bytes = name_below (length bytes) n room.0 in
    let whole : length text ≡ n = length-take-le n bytes (omega arith) in
    rw (← ok_same _ _ utf8.1)
    (record {
      spelled = ap (λ (rest : List ℕ). n ∷ rest) (sym (take-append-drop n bytes)) ∙ ap (λ (len : ℕ). len ∷ text ++ drop n bytes) (sym whole);
      more = omega (arith, length-drop n bytes);
    })

-- bytes that are read as a header, and the bytes after it: they are the spelling of the header, in whole milliseconds
record IsHeader (bytes : List ℕ) (found : Header × List ℕ) : Type 0 where
  spelled : bytes ≡ spelling found.0 ++ found.1
  whole : floored_header found.0 ≡ found.0

with_value : (bytes name rest : List ℕ) (value : HeaderValue × List ℕ) → IsName bytes (name, rest) → value_of (slice_index rest 0) (drop 1 rest) ≡ Ok value → All IsByte bytes
    → IsHeader bytes (record { name = name; value = value.0 }, value.1)
with_value bytes name [] value named is small = absurd (omega (arith, named.more))
with_value bytes name (kind ∷ rest) value named is small =
    let behind : All IsByte (kind ∷ rest) = back_small (length name ∷ name) (kind ∷ rest) bytes named.spelled small in
    let valued = value_split rest value (All-tail IsByte kind rest behind) kind is in
    record {
      spelled =
          named.spelled ∙ ap (λ (more : List ℕ). length name ∷ name ++ more) valued.spelled
          ∙ ap (λ (more : List ℕ). length name ∷ more) (sym (append_assoc name (value_spelling value.0) value.1));
      whole = ap (λ (v : HeaderValue). record { name = name; value = v }) valued.whole;
    }

header_split : (bytes : List ℕ) (found : Header × List ℕ) → header_of bytes ≡ Ok found → All IsByte bytes → IsHeader bytes found
unfolding header_of
header_split bytes found is small =
    let named = bound (header_name_of bytes) (λ name. value_of (slice_index name.1 0) (drop 1 name.1) >>= λ value. Ok (record { name = name.0; value = value.0 }, value.1)) found is in
    let valued = bound (value_of (slice_index named.0.1 0) (drop 1 named.0.1)) (λ value. Ok (record { name = named.0.0; value = value.0 }, value.1)) found named.2 in
    rw (← ok_same _ _ valued.2) (with_value bytes named.0.0 named.0.1 valued.0 (name_split bytes named.0 named.1) valued.1 small)

-- ## Header blocks

-- bytes that are read as the headers of a block of so many bytes: the block is that of the headers, in whole milliseconds
record IsBlock (left : ℕ) (bytes : List ℕ) (headers : List Header) : Type 0 where
  rest : List ℕ
  spelled : bytes ≡ block headers ++ rest
  long : length (block headers) ≡ left
  whole : map floored_header headers ≡ headers

-- a header takes some bytes
spelling_some : (h : Header) → 1 ≤ length (spelling h)
spelling_some h = omega arith

shorter_left : (front back all : List ℕ) (left most : ℕ) → all ≡ front ++ back → 1 ≤ length front → suc left ≤ suc most → suc left - (length all - length back) ≤ most
shorter_left front back all left most is some few = omega (arith, ap length is, length-append front back)

-- a header that was read within a block of so many bytes
within_split : (left : ℕ) (bytes : List ℕ) (header : Header × List ℕ) → header_within left bytes ≡ Ok header → All IsByte bytes
    → IsHeader bytes header × (length (spelling header.0) ≤ left)
unfolding header_within
within_split left bytes header is small =
    let parts = bound (header_of bytes) (λ one. if nat_lt left (length bytes - length one.1) then Err InvalidHeaderValue else Ok one) header is in
    let fits = refused_or (nat_lt left (length bytes - length parts.0.1)) InvalidHeaderValue (Ok parts.0) header parts.2 in
    let read_header = header_split bytes parts.0 parts.1 small in
    let room : length (spelling parts.0.0) ≤ left =
    omega (arith, ap length read_header.spelled, length-append (spelling parts.0.0) parts.0.1, ltb-false _ _ fits.0) in
    rw (← ok_same _ _ fits.1) (read_header, room)

block_cons : (left : ℕ) (bytes : List ℕ) (header : Header × List ℕ) (others : List Header) → IsHeader bytes header → length (spelling header.0) ≤ left
    → IsBlock (left - (length bytes - length header.1)) header.1 others → IsBlock left bytes (header.0 ∷ others)
block_cons left bytes header others is within others_are =
    let whole = length-append (spelling header.0) header.1 in
    record {
      rest = others_are.rest;
      spelled =
          is.spelled ∙ ap (λ (more : List ℕ). spelling header.0 ++ more) others_are.spelled
          ∙ sym (append_assoc (spelling header.0) (block others) others_are.rest);
      long = omega (arith, length-append (spelling header.0) (block others), others_are.long, within, ap length is.spelled, whole);
      whole = rw (is.whole, others_are.whole) refl;
    }

headers_split : (most left : ℕ) (bytes : List ℕ) (headers : List Header) → headers_within most left bytes ≡ Ok headers → left ≤ most → All IsByte bytes
    → IsBlock left bytes headers
unfolding headers_within
headers_split zero zero bytes headers is few small = rw (← ok_same _ _ is) (record { rest = bytes; spelled = refl; long = refl; whole = refl })
headers_split (suc most) zero bytes headers is few small = rw (← ok_same _ _ is) (record { rest = bytes; spelled = refl; long = refl; whole = refl })
headers_split zero (suc left) bytes headers is few small = absurd (omega arith)
headers_split (suc most) (suc left) bytes headers is few small =
    let one = bound (header_within (suc left) bytes) (λ header. headers_within most (suc left - (length bytes - length header.1)) header.1 >>= λ others. Ok (header.0 ∷ others)) headers is in
    let header = within_split (suc left) bytes one.0 one.1 small in
    let rest = bound (headers_within most (suc left - (length bytes - length one.0.1)) one.0.1) (λ others. Ok (one.0.0 ∷ others)) headers one.2 in
    let less : suc left - (length bytes - length one.0.1) ≤ most = shorter_left (spelling one.0.0) one.0.1 bytes left most header.0.spelled (spelling_some one.0.0) few in
    let others = headers_split most (suc left - (length bytes - length one.0.1)) one.0.1 rest.0 rest.1 less (back_small (spelling one.0.0) one.0.1 bytes header.0.spelled small) in
    rw (← ok_same _ _ rest.2) (block_cons (suc left) bytes one.0 rest.0 header.0 header.1 others)

-- ## Preludes

-- four bytes are written again from their number
u32_spelled : (place : ℕ) (bytes : List ℕ) → place + 4 ≤ length bytes → All IsByte bytes → be32 (u32_at place bytes) ≡ take 4 (drop place bytes)
unfolding be32
u32_spelled place bytes long small =
    bytes_spelled w32 (take 4 (drop place bytes)) (length-take-le 4 (drop place bytes) (omega (arith, length-drop place bytes)))
    (All-take IsByte 4 (drop place bytes) (All-drop IsByte place bytes small))

-- a prelude is spelled of the lengths that it tells
prelude_spelled : (prelude : List ℕ) (lengths : Lengths) → IsPrelude prelude lengths → length prelude ≡ 12 → All IsByte prelude → prelude ≡ summed (frame_lengths lengths.total lengths.headers)
prelude_spelled prelude lengths is twelve small =
    let eight : take 8 prelude ≡ frame_lengths lengths.total lengths.headers =
    take-add 4 4 prelude ∙ rw (is.total, is.headers, u32_spelled 0 prelude (omega arith) small, u32_spelled 4 prelude (omega arith) small) refl in
    let last : drop 8 prelude ≡ be32 (remainder (take 8 prelude)) =
    sym (take_all 4 (drop 8 prelude) (omega (arith, length-drop 8 prelude))) ∙ sym (u32_spelled 8 prelude (omega arith) small) ∙ ap be32 (sym is.sum) in
    sym (take-append-drop 8 prelude) ∙ ap (λ (sum : List ℕ). take 8 prelude ++ sum) last ∙ ap summed eight

-- ## Frames

-- the bytes of a frame
record IsSummed (total : ℕ) (bytes : List ℕ) (m : Parts) : Type 0 where
  spelled : take total bytes ≡ frame m
  long : frame_len m ≡ total
  whole : floored_message m ≡ m
  payload : All IsByte m.payload

take_behind : (front rest : List ℕ) (n k : ℕ) → length front ≡ n → take (n + k) (front ++ rest) ≡ front ++ take k rest
take_behind front rest n k len = take-add n k (front ++ rest) ∙ rw (take_at front rest n len, drop_at front rest n len) refl

message_split : (lengths : Lengths) (prelude rest : List ℕ) (headers : List Header) (m : Parts) → checked_message lengths prelude rest headers ≡ Ok m
    → length prelude ≡ 12 → All IsByte rest → AreFit lengths → prelude ≡ summed (frame_lengths lengths.total lengths.headers) → lengths.total ≤ 12 + length rest
    → IsBlock lengths.headers rest headers → IsSummed lengths.total (prelude ++ rest) m
unfolding checked_message frame
message_split lengths prelude rest headers m is twelve small fit spelled enough block_is =
    let n = lengths.total - 16 in
    let h = lengths.headers in
    let payload = take (n - h) (drop h rest) in
    let test = admitted (remainder (prelude ++ take n rest) == u32_at n rest) _ (Ok (record { headers = headers; payload = payload })) m is in
    let there : n + 4 ≤ length rest = omega (arith, enough, fit.least) in
    let front : take h rest ≡ block headers = ap (take h) block_is.spelled ∙ take_at (block headers) block_is.rest h block_is.long in
    let body : take n rest ≡ block headers ++ payload =
    ap (λ (k : ℕ). take k rest) (omega (arith, fit.room)) ∙ take-add h (n - h) rest ∙ ap (λ (bytes : List ℕ). bytes ++ payload) front in
    let len : length payload ≡ n - h = length-take-le (n - h) (drop h rest) (omega (arith, length-drop h rest, fit.room, there)) in
    let total : 16 + length (block headers) + length payload ≡ lengths.total = omega (arith, block_is.long, len, fit.room, fit.least) in
    let sum : be32 (remainder (prelude ++ take n rest)) ≡ take 4 (drop n rest) = ap be32 (eqb-true _ _ test.0) ∙ u32_spelled n rest there small in
    let start : summed (frame_lengths (16 + length (block headers) + length payload) (length (block headers))) ≡ prelude =
    rw (total, block_is.long) (sym spelled) in
    let inside : summed (frame_lengths (16 + length (block headers) + length payload) (length (block headers))) ++ block headers ++ payload ≡ prelude ++ take n rest =
    rw start (append_assoc prelude (block headers) payload ∙ ap (λ (bytes : List ℕ). prelude ++ bytes) (sym body)) in
    let all : take lengths.total (prelude ++ rest) ≡ (prelude ++ take n rest) ++ take 4 (drop n rest) =
    ap (λ (k : ℕ). take k (prelude ++ rest)) (omega (arith, fit.least)) ∙ take_behind prelude rest 12 (n + 4) twelve
    ∙ ap (λ (bytes : List ℕ). prelude ++ bytes) (take-add n 4 rest) ∙ sym (append_assoc prelude (take n rest) (take 4 (drop n rest))) in
    rw (← ok_same _ _ test.1)
    (record {
      spelled = all ∙ ap (λ (bytes : List ℕ). (prelude ++ take n rest) ++ bytes) (sym sum) ∙ ap summed (sym inside);
      long = total;
      whole = ap (λ (found : List Header). record { headers = found; payload = payload }) block_is.whole;
      payload = All-take IsByte (n - h) (drop h rest) (All-drop IsByte h rest small);
    })

-- bytes that are read as a message begin with its frame, and its moments are whole milliseconds
pub record IsFramed (bytes : List ℕ) (m : Parts) : Type 0 where
  pub spelled : take (announced bytes) bytes ≡ frame m
  pub there : announced bytes ≤ length bytes
  pub short : frame_len m ≤ 16777216
  pub whole : floored_message m ≡ m
  pub payload : All IsByte m.payload

framed_whole : (total : ℕ) (bytes : List ℕ) (m : Parts) → IsSummed total (take 12 bytes ++ drop 12 bytes) m → total ≡ announced bytes
    → total ≤ 12 + length (drop 12 bytes) → total ≤ 16777216 → 12 ≤ length bytes → IsFramed bytes m
framed_whole total bytes m is all enough short long = record {
  spelled = ap (λ (n : ℕ). take n bytes) (sym all) ∙ ap (take total) (sym (take-append-drop 12 bytes)) ∙ is.spelled;
  there = omega (arith, all, enough, length-drop 12 bytes, long);
  short = omega (arith, is.long, short);
  whole = is.whole;
  payload = is.payload;
}

pub read_split : (bytes : List ℕ) (found : Parts × ℕ) → read bytes ≡ Ok found → All IsByte bytes → IsFramed bytes found.0
unfolding read read_after read_frame
read_split bytes found is small =
    let prelude = take 12 bytes in
    let rest = drop 12 bytes in
    let some = refused_or (nat_lt (length bytes) 12) InvalidMessageLength (read_after prelude rest) found is in
    let twelve : length prelude ≡ 12 = length-take-le 12 bytes (ltb-false _ _ some.0) in
    let told = bound (read_prelude prelude) (λ lengths. read_frame lengths prelude rest) found some.1 in
    let whole = refused_or (nat_lt (12 + length rest) told.0.total) InvalidMessageLength _ found told.2 in
    let headed = bound (headers_within told.0.headers told.0.headers rest) (λ headers. checked_message told.0 prelude rest headers >>= λ message. Ok (message, told.0.total)) found whole.1 in
    let checked = bound (checked_message told.0 prelude rest headed.0) (λ message. Ok (message, told.0.total)) found headed.2 in
    let lengths = prelude_told prelude told.0 told.1 in
    let enough : told.0.total ≤ 12 + length rest = ltb-false _ _ whole.0 in
    let spelled = prelude_spelled prelude told.0 lengths twelve (All-take IsByte 12 bytes small) in
    let headers = headers_split told.0.headers told.0.headers rest headed.0 headed.1 (omega arith) (All-drop IsByte 12 bytes small) in
    let message = message_split told.0 prelude rest headed.0 checked.0 checked.1 twelve (All-drop IsByte 12 bytes small) lengths.fit spelled enough headers in
    rw (← ok_same (checked.0, told.0.total) found checked.2)
    (framed_whole told.0.total bytes checked.0 message (lengths.total ∙ announced_prelude bytes) enough lengths.fit.most (ltb-false (length bytes) 12 some.0))

-- bytes that begin with a message: they are its frame and what follows
pub record IsFirst (bytes : List ℕ) (m : Parts) (rest : List ℕ) : Type 0 where
  pub spelled : bytes ≡ frame m ++ rest
  pub short : frame_len m ≤ 16777216
  pub payload : All IsByte m.payload
  pub behind : All IsByte rest

pub first_split : (bytes : List ℕ) (m : Parts) (rest : List ℕ) → first_of bytes ≡ begins m rest → All IsByte bytes → IsFirst bytes m rest
first_split bytes m rest first small =
    let is = begins_whole bytes m rest first in
    let n = is.lengths.total in
    let told = prelude_told (take 12 bytes) is.lengths is.told in
    let framed = read_split (take n bytes) (m, is.frame_length) is.message_read (All-take IsByte n bytes small) in
    let same : announced (take n bytes) ≡ n = ap (big_endian w32) (take-take 4 n bytes (omega (arith, told.fit.least))) ∙ sym (announced_prelude bytes) ∙ sym told.total in
    let front : take n bytes ≡ frame m = sym (take-take n n bytes (omega arith)) ∙ ap (λ (k : ℕ). take k (take n bytes)) (sym same) ∙ framed.spelled in
    rw (← is.left)
    (record {
      spelled = sym (take-append-drop n bytes) ∙ ap (λ (start : List ℕ). start ++ drop n bytes) front;
      short = framed.short;
      payload = framed.payload;
      behind = All-drop IsByte n bytes small;
    })
