use denote.Shadow.{shadow}
use denote.Text.{Utf8}
use Rattle.std.proofs.Common.{◌+◌, ◌≤◌, ℕ, List, length}
use Rattle.std.specs.Prelude.{None}
use Rattle.env_config.specs.Kept.{keeps_of}
use Rattle.env_config.specs.Line.{profile_lines}
use Rattle.env_config.specs.Raw.{raw}
use Rattle.env_config.specs.Texts.{nothing_named}
use Rattle.env_config.proofs.ReaderLemmas.{TextReads}
use Rattle.env_config.proofs.reader.read.Given as goal

-- the lines to come, after the reader, give what all lines give
abbrev pub invariant-loop-rest : goal.invariant-loop-rest
invariant-loop-rest g l = let stands = g.S.Sink.stands in record {
  reads : (profile : List ℕ) → stands l.fn.sink profile None nothing_named → TextReads (λ s. stands s profile) (keeps_of l.kept) l.number l.reader (profile_lines l.rest) (raw (keeps_of l.kept) l.text);
  counted : l.number + length l.rest ≤ 1 + length l.text;
  text : shadow (Utf8 l.rest);
}

abbrev pub decreases-loop-rest : goal.decreases-loop-rest
decreases-loop-rest g l = length l.rest
