-- How long a frame is, and where its parts stand.
use Rattle.std.proofs.Common.{◌≡◌, ◌⊎◌, ℕ, ◌+◌, ◌-◌, ◌≤◌, nat_lt, true, false, List, [], ◌∷◌, ◌++◌, length, take, drop, All, Option, Some, None, Result, Ok, Err, inl, inr, refl, subst, sym, ap, ◌∙◌, append_assoc, arith}
use Rattle.std.specs.Int.{w16, w128, to_be_bytes}
use Rattle.std.proofs.lemmas.Bool.{lt-ltb}
use Rattle.std.proofs.lemmas.List.{drop_at, length-append, length-take-le, take-append-drop, take_all, take_at}
use Rattle.mac_core.specs.Crc.{remainder}
use Rattle.smithy_core.specs.Header.{Header}
use Rattle.smithy_core.specs.Message.{Parts}
use Rattle.smithy_core.specs.declared.header.HeaderValue.{HeaderValue}
use Rattle.smithy_core.specs.declared.header.HeaderValue.TheVariants.{Bool as Truth, Byte, Int16, Int32, Int64, ByteArray, String as Text, Timestamp, Uuid}
use Rattle.eventstream.specs.Decode.{PeeksMessage}
use Rattle.eventstream.specs.Frame.{be32, block, frame, frame_len, frame_lengths, spelling, summed, value_spelling}
use Rattle.eventstream.specs.Kind.{byte_array_kind, string_kind, uuid_kind}
use Rattle.eventstream.specs.Read.{announced, read, read_prelude}
use Rattle.eventstream.specs.Reading.{fault, first_behind, first_of}
use Rattle.eventstream.specs.declared.error.ErrorKind.{ErrorKind}
use Rattle.eventstream.specs.declared.error.ErrorKind.TheVariants.{NoMemory}
use Rattle.eventstream.specs.declared.read.lengths.Lengths.{Lengths}
use Rattle.eventstream.proofs.FrameLemmas.{length-be32, length-frame}
use Rattle.eventstream.proofs.FrontLemmas.{behind_is, prelude_told}
use Rattle.chain_watch.specs.Chain.{IsByte}
use Rattle.chain_watch.proofs.SpelledLemmas.{read_split}
use Rattle.firuvaik_c.specs.Faults.{frame_fault, no_memory}
use Rattle.firuvaik_c.specs.Frames.{DescribeHeaders, DescribesMessage, DescribesValue, all_places, piece_at, header_place, prelude_length, value_shape}
use Rattle.firuvaik_c.specs.declared.frames.HeaderPlace.{HeaderPlace}

-- ## The length

-- what a prelude alone begins with is what it spells
prelude_first : (prelude : List ℕ) → length prelude ≡ 12 → first_of prelude ≡ first_behind prelude (read_prelude prelude)
prelude_first prelude twelve =
    let whole : take 12 prelude ≡ prelude = take_all 12 prelude (omega (arith, twelve)) in
    behind_is prelude (omega (arith, twelve)) ∙ ap (λ (front : List ℕ). first_behind prelude (read_prelude front)) whole

-- the frame of a prelude isn't there with the prelude alone
more_than_prelude : (prelude : List ℕ) (lengths : Lengths) (kind : ErrorKind) → length prelude ≡ 12 → read_prelude prelude ≡ Ok lengths
    → first_behind prelude (Ok lengths) ≡ fault kind → ⊥
more_than_prelude prelude lengths kind twelve known is =
    let least = (prelude_told prelude lengths known).fit.least in
    let short : nat_lt (length prelude) lengths.total ≡ true = lt-ltb _ _ (omega (arith, twelve, least)) in
    let left = rw short at is in
    cc

-- why a prelude is none
pub prelude_fails : (prelude : List ℕ) (kind : ErrorKind) → length prelude ≡ 12 → (first_of prelude ≡ fault kind) ⊎ (kind ≡ NoMemory)
    → (prelude_length (read_prelude prelude) ≡ Err (frame_fault kind)) ⊎ (frame_fault kind ≡ no_memory)
prelude_fails prelude kind twelve (inr memory) = inr (ap frame_fault memory)
prelude_fails prelude kind twelve (inl is) = inl (by_read (read_prelude prelude) refl)
  where
    by_read : (read : Result Lengths ErrorKind) → read_prelude prelude ≡ read → prelude_length read ≡ Err (frame_fault kind)
    by_read (Ok lengths) known = absurd (more_than_prelude prelude lengths kind twelve known (ap (first_behind prelude) (sym known) ∙ sym (prelude_first prelude twelve) ∙ is))
    by_read (Err other) known =
        let same : fault other ≡ fault kind = ap (first_behind prelude) (sym known) ∙ sym (prelude_first prelude twelve) ∙ is in
        let kinds : other ≡ kind = cc in
        ap (λ (k : ErrorKind). Err (frame_fault k)) kinds

-- the length that a prelude announces
pub prelude_passes : (prelude bytes : List ℕ) (found : Option (Parts × ℕ)) (n : ℕ) → length prelude ≡ 12 → n ≡ announced prelude → bytes ≡ prelude
    → PeeksMessage bytes (Ok found) → prelude_length (read_prelude prelude) ≡ Ok n
prelude_passes prelude bytes found n twelve is same peeked =
    let peeks = subst (λ (text : List ℕ). PeeksMessage text (Ok found)) same peeked in by_read peeks (read_prelude prelude) refl
  where
    refuted : (found : Option (Parts × ℕ)) (kind : ErrorKind) → first_of prelude ≡ fault kind → PeeksMessage prelude (Ok found) → ⊥
    refuted None kind first peeked = rw first at peeked
    refuted (Some message) kind first peeked = let other = sym first ∙ peeked.1 in cc

    by_read : PeeksMessage prelude (Ok found) → (read : Result Lengths ErrorKind) → read_prelude prelude ≡ read → prelude_length read ≡ Ok n
    by_read peeks (Ok lengths) known = ap (λ (k : ℕ). Ok k) ((prelude_told prelude lengths known).total ∙ sym is)
    by_read peeks (Err kind) known = absurd (refuted found kind (prelude_first prelude twelve ∙ ap (first_behind prelude) known) peeks)

-- ## Where headers stand

-- the bytes of a value: its kind, the count and the bytes that are counted
pub value_length : (value : HeaderValue) → length (value_spelling value) ≡ 1 + (value_shape value).count + (value_shape value).length
unfolding value_spelling
value_length (Truth true) = refl
value_length (Truth false) = refl
value_length (Byte n) = refl
value_length (Int16 n) = refl
value_length (Int32 n) = refl
value_length (Int64 n) = refl
value_length (ByteArray array) = omega arith
value_length (Text text) = omega arith
value_length (Timestamp t) = refl
value_length (Uuid n) = refl

-- the bytes of a header: the length of its name, the name and those of its value
pub spelling_length : (header : Header) → length (spelling header) ≡ 2 + length header.name + (value_shape header.value).count + (value_shape header.value).length
spelling_length header = omega (arith, length-append header.name (value_spelling header.value), value_length header.value)

piece_in : (front piece back : List ℕ) (at len : ℕ) → length front ≡ at → length piece ≡ len → piece_at at len (front ++ (piece ++ back)) ≡ piece
piece_in front piece back at len here long =
    ap (take len) (drop_at front (piece ++ back) at here) ∙ take_at piece back len long

-- the bytes of a value behind its kind and its count
value_bytes : (header : Header) (front count array back bytes : List ℕ) (at kind : ℕ) → value_spelling header.value ≡ kind ∷ count ++ array
    → bytes ≡ front ++ (spelling header ++ back) → length front ≡ at
    → piece_at (at + 2 + length header.name + length count) (length array) bytes ≡ array
value_bytes header front count array back bytes at kind spelled is here =
    let name = header.name in
    let head : List ℕ = length name ∷ name ++ kind ∷ count in
    let whole : spelling header ≡ head ++ array =
    ap (λ (value : List ℕ). length name ∷ name ++ value) spelled ∙ ap (λ (rest : List ℕ). length name ∷ rest) (sym (append_assoc name (kind ∷ count) array)) in
    let all : bytes ≡ (front ++ head) ++ (array ++ back) =
    is ∙ ap (λ (text : List ℕ). front ++ (text ++ back)) whole ∙ ap (λ (rest : List ℕ). front ++ rest) (append_assoc head array back) ∙ sym (append_assoc front head (array ++ back)) in
    let place : length (front ++ head) ≡ at + 2 + length name + length count = omega (arith, here, length-append front head, length-append name (kind ∷ count)) in
    ap (λ (text : List ℕ). piece_at (at + 2 + length name + length count) (length array) text) all
    ∙ piece_in (front ++ head) array back (at + 2 + length name + length count) (length array) place refl

-- a name behind its length
name_bytes : (header : Header) (front back bytes : List ℕ) (at : ℕ) → bytes ≡ front ++ (spelling header ++ back) → length front ≡ at
    → piece_at (at + 1) (length header.name) bytes ≡ header.name
name_bytes header front back bytes at is here =
    let name = header.name in
    let value = value_spelling header.value in
    let one : List ℕ = length name ∷ [] in
    let all : bytes ≡ (front ++ one) ++ (name ++ (value ++ back)) =
    is ∙ ap (λ (rest : List ℕ). front ++ (length name ∷ rest)) (append_assoc name value back) ∙ sym (append_assoc front one (name ++ (value ++ back))) in
    ap (λ (text : List ℕ). piece_at (at + 1) (length name) text) all
    ∙ piece_in (front ++ one) name (value ++ back) (at + 1) (length name) (omega (arith, here, length-append front one)) refl

-- the value of a header that begins at a place
value_described : (header : Header) (front back bytes : List ℕ) (at : ℕ) (value : HeaderValue) → header.value ≡ value → bytes ≡ front ++ (spelling header ++ back) → length front ≡ at
    → DescribesValue bytes (header_place at header) value
unfolding value_spelling
value_described header front back bytes at (Truth true) same is here = ap (λ (v : HeaderValue). (value_shape v).kind) same
value_described header front back bytes at (Truth false) same is here = ap (λ (v : HeaderValue). (value_shape v).kind) same
value_described header front back bytes at (Byte n) same is here = (ap (λ (v : HeaderValue). (value_shape v).kind) same, ap (λ (v : HeaderValue). (value_shape v).number) same)
value_described header front back bytes at (Int16 n) same is here = (ap (λ (v : HeaderValue). (value_shape v).kind) same, ap (λ (v : HeaderValue). (value_shape v).number) same)
value_described header front back bytes at (Int32 n) same is here = (ap (λ (v : HeaderValue). (value_shape v).kind) same, ap (λ (v : HeaderValue). (value_shape v).number) same)
value_described header front back bytes at (Int64 n) same is here = (ap (λ (v : HeaderValue). (value_shape v).kind) same, ap (λ (v : HeaderValue). (value_shape v).number) same)
value_described header front back bytes at (ByteArray array) same is here = (
  ap (λ (v : HeaderValue). (value_shape v).kind) same,
  ap (λ (v : HeaderValue). piece_at (at + 2 + length header.name + (value_shape v).count) (value_shape v).length bytes) same
      ∙ value_bytes header front (to_be_bytes w16 (length array)) array back bytes at byte_array_kind (ap value_spelling same) is here,
)
value_described header front back bytes at (Text text) same is here = (
  ap (λ (v : HeaderValue). (value_shape v).kind) same,
  ap (λ (v : HeaderValue). piece_at (at + 2 + length header.name + (value_shape v).count) (value_shape v).length bytes) same
      ∙ value_bytes header front (to_be_bytes w16 (length text)) text back bytes at string_kind (ap value_spelling same) is here,
)
value_described header front back bytes at (Timestamp t) same is here = (ap (λ (v : HeaderValue). (value_shape v).kind) same, ap (λ (v : HeaderValue). (value_shape v).number) same)
value_described header front back bytes at (Uuid n) same is here = (
  ap (λ (v : HeaderValue). (value_shape v).kind) same,
  ap (λ (v : HeaderValue). piece_at (at + 2 + length header.name + (value_shape v).count) (value_shape v).length bytes) same
      ∙ value_bytes header front [] (to_be_bytes w128 n) back bytes at uuid_kind (ap value_spelling same) is here,
)

-- headers one after another from a place on
pub headers_described : (headers : List Header) (front back bytes : List ℕ) (at : ℕ) → bytes ≡ front ++ (block headers ++ back) → length front ≡ at
    → DescribeHeaders bytes (all_places at headers) headers
headers_described [] front back bytes at is here = tt
headers_described (header ∷ headers) front back bytes at is here =
    let next = (header_place at header).value + (header_place at header).value_length in
    let first : bytes ≡ front ++ (spelling header ++ (block headers ++ back)) = is ∙ ap (λ (rest : List ℕ). front ++ rest) (append_assoc (spelling header) (block headers) back) in
    let others : bytes ≡ (front ++ spelling header) ++ (block headers ++ back) = first ∙ sym (append_assoc front (spelling header) (block headers ++ back)) in
    let there : length (front ++ spelling header) ≡ next = omega (arith, here, length-append front (spelling header), spelling_length header) in (
      record { name = name_bytes header front (block headers ++ back) bytes at first here; value = value_described header front (block headers ++ back) bytes at header.value refl first here },
      headers_described headers (front ++ spelling header) back bytes next others there,
    )

-- ## A frame that was read

-- where the parts of a message stand in bytes that begin with its frame
pub record IsFound (bytes : List ℕ) (message : Parts) : Type 0 where
  pub headers : DescribeHeaders bytes (all_places 12 message.headers) message.headers
  pub payload : piece_at (12 + length (block message.headers)) (length message.payload) bytes ≡ message.payload
  pub long : announced bytes ≡ 16 + length (block message.headers) + length message.payload
  pub there : announced bytes ≤ length bytes
  pub short : announced bytes ≤ 16777216

length-summed_lengths : (total headers : ℕ) → length (summed (frame_lengths total headers)) ≡ 12
length-summed_lengths total headers = omega (
  arith,
  length-append (be32 total ++ be32 headers) (be32 (remainder (be32 total ++ be32 headers))),
  length-append (be32 total) (be32 headers),
  length-be32 total,
  length-be32 headers,
  length-be32 (remainder (be32 total ++ be32 headers)),
)

pub frame_found : (bytes more : List ℕ) (message : Parts) → bytes ≡ frame message ++ more → announced bytes ≡ frame_len message → announced bytes ≤ length bytes → frame_len message ≤ 16777216
    → IsFound bytes message
unfolding frame
frame_found bytes more message is long there short =
    let headers = block message.headers in
    let payload = message.payload in
    let front = summed (frame_lengths (frame_len message) (length headers)) in
    let sum = be32 (remainder (front ++ headers ++ payload)) in
    let twelve : length front ≡ 12 = length-summed_lengths (frame_len message) (length headers) in
    let behind : bytes ≡ (front ++ headers) ++ (payload ++ (sum ++ more)) =
    is ∙ append_assoc (front ++ headers ++ payload) sum more ∙ append_assoc (front ++ headers) payload (sum ++ more) in
    let all : bytes ≡ front ++ (headers ++ (payload ++ (sum ++ more))) = behind ∙ append_assoc front headers (payload ++ (sum ++ more)) in
    record {
      headers = headers_described message.headers front (payload ++ (sum ++ more)) bytes 12 all twelve;
      payload =
          ap (λ (text : List ℕ). piece_at (12 + length headers) (length payload) text) behind
          ∙ piece_in (front ++ headers) payload (sum ++ more) (12 + length headers) (length payload) (omega (arith, twelve, length-append front headers)) refl;
      long = long;
      there = there;
      short = omega (arith, long, short);
    }

-- the parts of a message that was read
pub message_found : (bytes : List ℕ) (message : Parts) (n : ℕ) → read bytes ≡ Ok (message, n) → All IsByte bytes → IsFound bytes message
message_found bytes message n is small =
    let framed = read_split bytes (message, n) is small in
    let long : announced bytes ≡ frame_len message = sym (length-take-le (announced bytes) bytes framed.there) ∙ ap (λ (text : List ℕ). length text) framed.spelled ∙ length-frame message in
    frame_found bytes (drop (announced bytes) bytes) message (sym (take-append-drop (announced bytes) bytes) ∙ ap (λ (text : List ℕ). text ++ drop (announced bytes) bytes) framed.spelled)
    long framed.there framed.short

-- what describes a message that was found, where so many bytes are left behind its frame
pub found_described : (bytes : List ℕ) (message : Parts) (left paid : ℕ) (places : List HeaderPlace) → IsFound bytes message → left ≡ length bytes - announced bytes
    → paid ≡ length message.payload → places ≡ all_places 12 message.headers
    → DescribesMessage bytes message (announced bytes) (record { length = length bytes - left; payload = length bytes - left - 4 - paid; payload_length = paid }) places
found_described bytes message left paid places found behind pays are =
    let start : length bytes - left - 4 - paid ≡ 12 + length (block message.headers) = omega (arith, behind, pays, found.long, found.there) in
    record {
      headers = rw are found.headers;
      payload =
          ap (λ (place : ℕ). piece_at place paid bytes) start ∙ ap (λ (len : ℕ). piece_at (12 + length (block message.headers)) len bytes) pays
          ∙ found.payload;
      frame = omega (arith, behind, found.there);
    }
