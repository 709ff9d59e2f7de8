use Rattle.std.proofs.Common.{◌≡◌, ◌-◌, ◌^◌, min, take}
use Rattle.aws_chunked.specs.Options.{declared_length}
use Rattle.aws_chunked.proofs.options.AwsChunkedBodyOptions.declared_length.Given as goal

abbrev pub invariant-loop-length : goal.invariant-loop-length
invariant-loop-length l = l.sum ≡ min (declared_length (take l.length-index l.length-items)) (2 ^ 128 - 1)
