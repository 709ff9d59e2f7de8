use Rattle.std.proofs.Common.{◌≡◌, map}
use Rattle.std.specs.String.{string_bytes}
use Rattle.tool_case_lines.specs.Line.{read_word}
use Rattle.tool_case_lines.proofs.words.words_of.Given as goal

-- the words so far are read
abbrev pub invariant-loop-word : goal.invariant-loop-word
invariant-loop-word l =
    (goal.iterator-loop-word).can_next l.word-iterator × (goal.iterator-loop-word).is_finite l.word-iterator
    × (map string_bytes l.words.items ≡ map read_word (map (λ w. w.now) l.yielded))
