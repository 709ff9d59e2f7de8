use Rattle.std.specs.Str.Iter.{char_indices_offset, char_indices_rest}
use Rattle.env_config.proofs.CommentLemmas.{Walks}
use Rattle.env_config.proofs.line.before_comment.Given as goal

abbrev pub invariant-loop-place : goal.invariant-loop-place
invariant-loop-place l =
    let iterator = goal.iterator-loop-place in
    record {
      can_next : iterator.can_next l.place-iterator;
      finite : iterator.is_finite l.place-iterator;
      walks : Walks l.text (char_indices_offset l.place-iterator) (char_indices_rest l.place-iterator) l.follows_space;
    }
