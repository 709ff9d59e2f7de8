use Rattle.std.proofs.Common.{◌≡◌, ◌++◌, filter, map}
use Rattle.std.specs.List.{join_with_byte}
use Rattle.std.specs.String.{string_bytes}
use Rattle.smithy_core.specs.Text.{space}
use Rattle.sigv4.specs.Trim.{is_word}
use Rattle.sigv4.proofs.JoinLemmas.{is_none}
use Rattle.sigv4.proofs.trim.push_trimmed.Given as goal

-- the words so far are appended
abbrev pub invariant-loop-word : goal.invariant-loop-word
invariant-loop-word l =
    (goal.iterator-loop-word).can_next l.word-iterator × (goal.iterator-loop-word).is_finite l.word-iterator
    × (string_bytes l.out ≡ string_bytes l.fn.out ++ join_with_byte space (filter is_word (map (λ w. w.now) l.yielded)))
    × (l.is_first ≡ is_none (filter is_word (map (λ w. w.now) l.yielded)))
