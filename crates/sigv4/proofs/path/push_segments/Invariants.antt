use Rattle.std.proofs.Common.{◌≡◌, ◌++◌, take}
use Rattle.std.specs.List.{flat_map}
use Rattle.std.specs.String.{string_bytes}
use Rattle.sigv4.specs.Path.{after_slash, segment_texts}
use Rattle.sigv4.proofs.path.push_segments.Given as goal

abbrev pub invariant-loop-segment : goal.invariant-loop-segment
invariant-loop-segment l = string_bytes l.text ≡ string_bytes l.fn.text ++ flat_map after_slash (segment_texts (take l.segment-index l.segments))
