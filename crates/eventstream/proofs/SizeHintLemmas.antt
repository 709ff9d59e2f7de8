-- The size hint of a message that has a frame is the length of the frame.
use Rattle.std.proofs.Common.{◌≡◌, ℕ, ◌+◌, ◌≤◌, List, [], ◌∷◌, length, None, Some, Bool, true, false, cond, nat_lt, refl, arith, length-append}
use Rattle.std.specs.Prelude.{sum_by}
use Rattle.std.proofs.lemmas.Bool.Decides.{nat_tests}
use Rattle.std.proofs.lemmas.List.Sums.{sum_by-cons}
use Rattle.smithy_core.specs.Message.{Parts}
use Rattle.smithy_core.specs.Header.{Header}
use Rattle.smithy_core.specs.declared.header.HeaderValue.{HeaderValue}
use Rattle.smithy_core.specs.declared.header.HeaderValue.TheVariants.{Bool as Truth, Byte, Int16, Int32, Int64, ByteArray, String as Text, Timestamp, Uuid}
use Rattle.eventstream.specs.declared.error.ErrorKind.TheVariants.{InvalidHeaderNameLength}
use Rattle.eventstream.specs.Frame.{block, first_unspelled, frame, spelling, unframed, unspelled, unspelled_value, value_spelling}
use Rattle.eventstream.specs.SizeHint.{header_width, size_hint, value_width}
use Rattle.eventstream.proofs.FrameLemmas.{framed, length-frame}
use Rattle.eventstream.proofs.RoundLemmas.{both_none}

-- a value is spelled behind its kind
length-value_spelling : (v : HeaderValue) → length (value_spelling v) ≡ 1 + value_width v
unfolding value_spelling
length-value_spelling (Truth true) = refl
length-value_spelling (Truth false) = refl
length-value_spelling (Byte n) = refl
length-value_spelling (Int16 n) = refl
length-value_spelling (Int32 n) = refl
length-value_spelling (Int64 n) = refl
length-value_spelling (ByteArray bytes) = omega arith
length-value_spelling (Text text) = omega arith
length-value_spelling (Timestamp t) = refl
length-value_spelling (Uuid n) = refl

-- a name that isn't refused has at most 255 bytes
short_name : (n : ℕ) (test : Bool) → nat_lt 255 n ≡ test → cond test (Some InvalidHeaderNameLength) None ≡ None → n ≤ 255
short_name n true is none = absurd cc
short_name n false is none = grind (arith, nat_tests)

length-spelling : (h : Header) → unspelled h ≡ None → length (spelling h) ≡ header_width h
length-spelling h spelled =
    let parts = both_none _ (unspelled_value h.value) spelled in
    let short = short_name (length h.name) (nat_lt 255 (length h.name)) refl parts.0 in
    omega (arith, length-append h.name (value_spelling h.value), length-value_spelling h.value)

-- headers that have spellings
pub length_block : (headers : List Header) → first_unspelled headers ≡ None → length (block headers) ≡ sum_by header_width headers
length_block [] spelled = refl
length_block (h ∷ headers) spelled =
    let parts = both_none (unspelled h) (first_unspelled headers) spelled in
    rw sum_by-cons (omega (arith, length-append (spelling h) (block headers), length-spelling h parts.0, length_block headers parts.1))

-- a message that has a frame is hinted to be as long
pub length_framed : (m : Parts) → unframed m ≡ None → length (frame m) ≡ size_hint m
unfolding size_hint
length_framed m has = let is = framed m has in omega (arith, length-frame m, length_block m.headers is.spelled, is.short)
