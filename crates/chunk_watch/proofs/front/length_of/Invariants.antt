use Rattle.std.proofs.Common.{◌≡◌, ◌^◌, ◌<◌, drop}
use Rattle.std.specs.Str.Parse.{AllDigits, digits_value, digits_value_after}
use Rattle.chunk_watch.proofs.front.length_of.Given as goal

abbrev pub invariant-loop-byte : goal.invariant-loop-byte
invariant-loop-byte l =
    (l.number < 16 ^ l.byte-index) × (digits_value_after 16 l.number (drop l.byte-index l.digits) ≡ digits_value 16 l.digits)
    × AllDigits 16 (drop l.byte-index l.digits)
