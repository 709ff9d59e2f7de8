-- A signed message has a frame.
use Rattle.std.proofs.Common.{◌≡◌, ℕ, ◌+◌, ◌≤◌, List, [], ◌∷◌, ◌++◌, length, None, Option, nat_lt, false, refl, ap, ◌∙◌, arith, pos, negsuc, ℤ, ◌*ℤ◌, ◌+ℤ◌, ◌≤ℤ◌, length-append, append-nil, codes, Bool, true, ◌&&◌}
use Rattle.std.specs.Option.{option_or}
use Rattle.std.specs.Int.{w64, saturate_signed}
use Rattle.std.proofs.lemmas.Bool.Decides.{nat_tests}
use Rattle.std.specs.List.{AllByRecursion}
use Rattle.std.specs.Str.{IsAscii, IsUtf8}
use Rattle.std.proofs.lemmas.Bool.{and_parts, ltb-true}
use Rattle.std.proofs.lemmas.Str.{IsUtf8-from_ascii}
use Rattle.std.proofs.lemmas.Str.Ascii.{IsAscii-cons, IsAscii-nil}
use Rattle.std.proofs.lemmas.List.Elements.{All-from_recursion}
use Rattle.sha2.proofs.Facts256.{length-sha256}
use Rattle.mac_core.specs.Mac.{mac, mac_of_block}
use Rattle.smithy_core.specs.Civil.{IsInYears}
use Rattle.smithy_core.specs.Moment.{Instant, floor_secs}
use Rattle.smithy_core.specs.Header.{Header}
use Rattle.smithy_core.specs.declared.header.HeaderValue.TheVariants.{ByteArray}
use Rattle.eventstream.specs.declared.error.ErrorKind.{ErrorKind}
use Rattle.eventstream.specs.Frame.{block, frame_len, spelling, unfit_lengths, unframed, unspelled, unspelled_value, value_spelling}
use Rattle.eventstream.specs.Key.{Signer}
use Rattle.eventstream.specs.Link.{date_header, link_code, link_message}
use Rattle.eventstream.specs.Laws.{IsProper, IsProperHeader, floored_message}

-- a code has 32 bytes
pub length-mac : (key text : List ℕ) → length (mac key text) ≡ 32
unfolding mac mac_of_block
length-mac key text = length-sha256 _

pub length-link_code : (signer : Signer) (signature bytes : List ℕ) (t : Instant) → length (link_code signer signature bytes t) ≡ 32
unfolding link_code
length-link_code signer signature bytes t = length-mac _ _

fits : (z : ℤ) → negsuc 62167219199 ≤ℤ z → z ≤ℤ pos 253402300799 → saturate_signed w64 (z *ℤ pos 1000 +ℤ pos 0) ≡ z *ℤ pos 1000 +ℤ pos 0
fits z low high = grind arith

-- the header `:date` with a moment in the years has a spelling
pub date_spelled : (t : Instant) → IsInYears t → unspelled (date_header (floor_secs t)) ≡ None
unfolding unspelled_value
date_spelled t within = rw (fits t.secs within.0 within.1) (grind arith)

-- the header with a code
abbrev pub code_header : List ℕ → Header
code_header code = record { name = codes ":chunk-signature"; value = ByteArray code }

code_spelled : (code : List ℕ) → length code ≡ 32 → unspelled (code_header code) ≡ None
unfolding unspelled_value
code_spelled code long = let test : nat_lt 32767 (length code) ≡ false = grind (arith, nat_tests) in rw test refl

length-code_header : (code : List ℕ) → length code ≡ 32 → length (spelling (code_header code)) ≡ 52
unfolding value_spelling
length-code_header code long = omega (arith, long)

length-date_header : (t : Instant) → length (spelling (date_header t)) ≡ 15
unfolding value_spelling
length-date_header t = refl

-- a block and a payload that aren't too long fit a frame
pub unfit-none : (headers payload : ℕ) → headers ≤ 131072 → 16 + headers + payload ≤ 16777216 → unfit_lengths headers payload ≡ None
unfit-none headers payload small short =
    let h : nat_lt 131072 headers ≡ false = grind (arith, nat_tests) in
    let p : nat_lt 16777200 payload ≡ false = grind (arith, nat_tests) in
    let all : nat_lt 16777216 (16 + headers + payload) ≡ false = grind (arith, nat_tests) in
    rw (h, p, all) refl

-- two headers with spellings and a payload have a frame, where they aren't too long
two_framed : (first second : Header) (payload : List ℕ) → unspelled first ≡ None → unspelled second ≡ None
    → length (spelling first) + length (spelling second) ≤ 131072 → 16 + (length (spelling first) + length (spelling second)) + length payload ≤ 16777216
    → unframed (record { headers = first ∷ second ∷ []; payload = payload }) ≡ None
unfolding unframed
two_framed first second payload one two small short =
    let whole : length (block (first ∷ second ∷ [])) ≡ length (spelling first) + length (spelling second) =
    length-append (spelling first) (spelling second ++ []) ∙ ap (λ (bytes : List ℕ). length (spelling first) + length bytes) (append-nil (spelling second)) in
    let fit : unfit_lengths (length (block (first ∷ second ∷ []))) (length payload) ≡ None =
    unfit-none (length (block (first ∷ second ∷ []))) (length payload) (omega arith) (omega arith) in
    ap (λ (o : Option ErrorKind). option_or (option_or o (option_or (unspelled second) None)) (unfit_lengths (length (block (first ∷ second ∷ []))) (length payload))) one
    ∙ ap (λ (o : Option ErrorKind). option_or (option_or o None) (unfit_lengths (length (block (first ∷ second ∷ []))) (length payload))) two ∙ fit

-- a signed message of bytes that aren't too long has a frame
pub link_framed : (signer : Signer) (signature bytes : List ℕ) (t : Instant) → IsInYears t → length bytes ≤ 16777133 → unframed (link_message signer signature bytes t) ≡ None
unfolding link_message
link_framed signer signature bytes t within short =
    let code = length-link_code signer signature bytes t in
    two_framed (code_header (link_code signer signature bytes t)) (date_header (floor_secs t)) bytes (code_spelled _ code) (date_spelled t within)
    (omega (arith, length-code_header _ code, length-date_header (floor_secs t))) (omega (arith, short, length-code_header _ code, length-date_header (floor_secs t)))

-- the frame of a signed message has 83 bytes beside the bytes that are signed
pub length-link : (signer : Signer) (signature bytes : List ℕ) (t : Instant) → frame_len (link_message signer signature bytes t) ≡ 83 + length bytes
unfolding link_message
length-link signer signature bytes t =
    let code = length-link_code signer signature bytes t in
    omega (
      arith,
      length-append (spelling (code_header (link_code signer signature bytes t))) (spelling (date_header (floor_secs t)) ++ []),
      length-append (spelling (date_header (floor_secs t))) [],
      length-code_header _ code,
      length-date_header (floor_secs t),
    )

-- ## The message of a link

pub link_payload : (signer : Signer) (signature bytes : List ℕ) (t : Instant) → (link_message signer signature bytes t).payload ≡ bytes
unfolding link_message
link_payload signer signature bytes t = refl

-- its moment is in whole seconds
pub link_floored : (signer : Signer) (signature bytes : List ℕ) (t : Instant) → floored_message (link_message signer signature bytes t) ≡ link_message signer signature bytes t
unfolding link_message
link_floored signer signature bytes t = refl

abbrev all_ascii : List ℕ → Bool
all_ascii [] = true
all_ascii (byte ∷ bytes) = nat_lt byte 128 && all_ascii bytes

is_name : (bytes : List ℕ) → all_ascii bytes ≡ true → IsUtf8 bytes
is_name bytes all = IsUtf8-from_ascii bytes (by bytes all)
  where
    by : (bytes : List ℕ) → all_ascii bytes ≡ true → IsAscii bytes
    by [] all = IsAscii-nil
    by (byte ∷ bytes) all = let parts = and_parts (nat_lt byte 128) (all_ascii bytes) all in IsAscii-cons byte bytes (ltb-true _ _ parts.0) (by bytes parts.1)

pub link_proper : (signer : Signer) (signature bytes : List ℕ) (t : Instant) → IsProper (link_message signer signature bytes t)
unfolding link_message
link_proper signer signature bytes t =
    let both : AllByRecursion IsProperHeader (link_message signer signature bytes t).headers =
    (record { name = is_name _ refl; value = tt }, (record { name = is_name _ refl; value = omega arith }, tt)) in
    record { headers = All-from_recursion IsProperHeader (link_message signer signature bytes t).headers both }
