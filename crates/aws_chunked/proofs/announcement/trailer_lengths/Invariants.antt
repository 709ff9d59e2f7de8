use Rattle.std.proofs.Common.{◌≡◌, ◌++◌, map}
use Rattle.aws_chunked.specs.Announcement.{trailer_length}
use Rattle.aws_chunked.proofs.announcement.trailer_lengths.Given as goal

-- the lengths so far, and those to come, are all
abbrev pub invariant-loop-name : goal.invariant-loop-name
invariant-loop-name l = l.lengths.items ++ map trailer_length l.name-iterator ≡ map trailer_length l.trailers
