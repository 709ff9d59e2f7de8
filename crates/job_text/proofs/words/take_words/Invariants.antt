use Rattle.std.proofs.Common.{◌≡◌, ◌+◌, map, drop}
use Rattle.std.specs.String.{string_bytes}
use Rattle.job_text.specs.Pieces.{taken_from}
use Rattle.job_text.proofs.words.take_words.Given as goal

-- the words to come, after what those so far gave, are taken as all the words
abbrev pub invariant-loop-word : goal.invariant-loop-word
invariant-loop-word g l =
    let word = g.W.TakeWord in
    record {
      place : l.place ≡ l.word-index + l.first;
      same : taken_from word.step l.place (word.given l.given) (map string_bytes (drop l.word-index l.words)) ≡ taken_from word.step l.first (word.given l.fn.given) (map string_bytes l.words);
    }
