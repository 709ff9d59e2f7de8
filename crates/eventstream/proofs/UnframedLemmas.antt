-- The reasons why a message has no frame.
use Rattle.std.proofs.Common.{◌≡◌, ℕ, Bool, true, false, List, [], ◌∷◌, Option, Some, None, length, nat_lt}
use Rattle.std.specs.Prelude.{if◌then◌else◌, IfSome}
use Rattle.std.specs.Int.{w64, saturate_signed}
use Rattle.std.specs.Option.{option_or}
use Rattle.std.specs.Ordering.{int_eq}
use Rattle.smithy_core.specs.Moment.{floor_ms}
use Rattle.smithy_core.specs.Message.{Parts}
use Rattle.smithy_core.specs.Header.{Header}
use Rattle.smithy_core.specs.declared.header.HeaderValue.{HeaderValue}
use Rattle.smithy_core.specs.declared.header.HeaderValue.TheVariants.{ByteArray, String as Text, Timestamp}
use Rattle.eventstream.specs.declared.error.ErrorKind.{ErrorKind}
use Rattle.eventstream.specs.declared.error.ErrorKind.TheVariants.{InvalidHeaderNameLength, HeaderValueTooLong, TimestampValueTooLarge, HeadersTooLong, PayloadTooLong, MessageTooLong}
use Rattle.eventstream.specs.Frame.{block, first_unspelled, over, unfit_lengths, unframed, unspelled, unspelled_value}
use Rattle.eventstream.specs.Write.{IsFrameFault}

-- of two reasons the first counts
first_counts : (a b : Option ErrorKind) → IfSome a IsFrameFault → IfSome b IsFrameFault → IfSome (option_or a b) IsFrameFault
first_counts None b first second = second
first_counts (Some kind) b first second = first

where_true : (b : Bool) (kind : ErrorKind) → IsFrameFault kind → IfSome (if b then Some kind else None) IsFrameFault
where_true true kind is = is
where_true false kind is = tt

where_false : (b : Bool) (kind : ErrorKind) → IsFrameFault kind → IfSome (if b then None else Some kind) IsFrameFault
where_false true kind is = tt
where_false false kind is = is

of_value : (value : HeaderValue) → IfSome (unspelled_value value) IsFrameFault
unfolding unspelled_value
of_value (ByteArray bytes) = where_true (nat_lt 32767 (length bytes)) HeaderValueTooLong tt
of_value (Text text) = where_true (nat_lt 32767 (length text)) HeaderValueTooLong tt
of_value (Timestamp t) = where_false (int_eq (saturate_signed w64 (floor_ms t)) (floor_ms t)) (TimestampValueTooLarge t) tt
of_value value = tt

of_headers : (headers : List Header) → IfSome (first_unspelled headers) IsFrameFault
of_headers [] = tt
of_headers (h ∷ headers) =
    let name = where_true (nat_lt 255 (length h.name)) InvalidHeaderNameLength tt in
    let header = first_counts _ (unspelled_value h.value) name (of_value h.value) in
    first_counts (unspelled h) (first_unspelled headers) header (of_headers headers)

of_length : (most n : ℕ) (kind : ErrorKind) → IsFrameFault kind → IfSome (over most n kind) IsFrameFault
of_length most n kind is = where_true (nat_lt most n) kind is

of_lengths : (headers payload : ℕ) → IfSome (unfit_lengths headers payload) IsFrameFault
of_lengths headers payload =
    first_counts (over 131072 headers HeadersTooLong) _ (of_length 131072 headers HeadersTooLong tt)
    (first_counts (over 16777200 payload PayloadTooLong) _ (of_length 16777200 payload PayloadTooLong tt) (of_length 16777216 _ MessageTooLong tt))

of_message : (m : Parts) → IfSome (unframed m) IsFrameFault
unfolding unframed
of_message m = first_counts (first_unspelled m.headers) (unfit_lengths (length (block m.headers)) (length m.payload)) (of_headers m.headers) (of_lengths (length (block m.headers)) (length m.payload))

-- a message has no frame for these reasons alone
pub unframed_fault : (m : Parts) (kind : ErrorKind) → unframed m ≡ Some kind → IsFrameFault kind
unframed_fault m kind is = let told = rw is at (of_message m) in told
