use denote.Shadow.{shadow}
use denote.Text.{Utf8}
use Rattle.std.proofs.Common.{◌≡◌, ◌++◌, length}
use Rattle.std.specs.String.{string_bytes}
use Rattle.env_config.specs.Value.{with_spaces_as}
use Rattle.env_config.proofs.service_id.with_spaces_as.Given as goal

-- what is done and what the rest gives are what all gives
abbrev pub invariant-loop-word : goal.invariant-loop-word
invariant-loop-word l = record {
  to_come : string_bytes l.name ++ with_spaces_as l.sign l.rest ≡ with_spaces_as l.sign l.id;
  text : shadow (Utf8 l.rest);
}

abbrev pub decreases-loop-word : goal.decreases-loop-word
decreases-loop-word l = length l.rest
