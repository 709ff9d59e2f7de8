use Rattle.std.proofs.Common.{◌≡◌}
use Rattle.sigv4.specs.Path.{ends_open, kept, segment_texts}
use Rattle.sigv4.proofs.path.normalize_uri_path.Given as goal

abbrev pub invariant-loop-segment : goal.invariant-loop-segment
invariant-loop-segment l =
    (goal.iterator-loop-segment).can_next l.segment-iterator × (goal.iterator-loop-segment).is_finite l.segment-iterator
    × (segment_texts l.kept.items ≡ kept (segment_texts l.yielded)) × (l.ends_open ≡ ends_open (segment_texts l.yielded))
