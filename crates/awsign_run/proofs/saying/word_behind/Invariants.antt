use Rattle.std.proofs.Common.{◌≡◌, false, map, drop}
use Rattle.std.specs.String.{string_bytes}
use Rattle.awsign_run.specs.Saying.{behind_word}
use Rattle.awsign_run.proofs.saying.word_behind.Given as goal

-- the words to come, behind those so far, have the word that all have
abbrev pub invariant-loop-word : goal.invariant-loop-word
invariant-loop-word l =
    behind_word l.name l.stood (map string_bytes (drop l.word-index l.words)) ≡ behind_word l.name false (map string_bytes l.words)
