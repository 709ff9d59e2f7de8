use Rattle.std.proofs.Common.{◌≡◌, ◌+◌}
use Rattle.aws_chunked.specs.Body.{lines_length}
use Rattle.aws_chunked.specs.Options.{declared_length}
use Rattle.signed_stream.proofs.show_chunked.lengths_of.Given as goal

-- what was declared and the lines to come are all of them
abbrev pub invariant-loop-name : goal.invariant-loop-name
invariant-loop-name l = declared_length l.lengths.items + lines_length l.name-iterator ≡ lines_length l.trailers
