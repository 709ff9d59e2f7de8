-- How a stream ends whose prelude is there.
use Rattle.std.proofs.Common.{◌≡◌, ℕ, ◌<◌, ◌≤◌, List, length, take, Result, Ok, Err, ap, sym, ◌∙◌, refl}
use Rattle.smithy_core.specs.Message.{Parts}
use Rattle.eventstream.specs.declared.decode.StreamEnd.TheVariants.{Leftover, Undecoded}
use Rattle.eventstream.specs.declared.error.ErrorKind.{ErrorKind}
use Rattle.eventstream.specs.declared.read.lengths.Lengths.{Lengths}
use Rattle.eventstream.specs.Read.{read, read_prelude}
use Rattle.eventstream.specs.Reading.{as_first, first_of}
use Rattle.eventstream.specs.Decode.{end_of}
use Rattle.eventstream.proofs.FrontLemmas.{first_bad, first_more, first_whole}

-- with a fault of the prelude
pub end_bad : (bytes : List ℕ) (kind : ErrorKind) → 12 ≤ length bytes → read_prelude (take 12 bytes) ≡ Err kind → Undecoded ≡ end_of (first_of bytes)
end_bad bytes kind long bad = sym (ap end_of (first_bad bytes kind long bad))

-- with a frame
pub end_whole : (bytes : List ℕ) (lengths : Lengths) → read_prelude (take 12 bytes) ≡ Ok lengths → lengths.total ≤ length bytes → Undecoded ≡ end_of (first_of bytes)
end_whole bytes lengths told there = sym (ap end_of (first_whole bytes lengths told there) ∙ by_read (read (take lengths.total bytes)))
  where
    by_read : (r : Result (Parts × ℕ) ErrorKind) → end_of (as_first lengths.total bytes r) ≡ Undecoded
    by_read (Ok message) = refl
    by_read (Err kind) = refl

-- with less than a frame
pub end_leftover : (bytes : List ℕ) (lengths : Lengths) → 12 ≤ length bytes → read_prelude (take 12 bytes) ≡ Ok lengths → length bytes < lengths.total
    → Leftover (length bytes) ≡ end_of (first_of bytes)
end_leftover bytes lengths long told less = sym (ap end_of (first_more bytes lengths long told less))
