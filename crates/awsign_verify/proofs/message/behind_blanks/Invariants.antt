use Rattle.std.proofs.Common.{◌≡◌, length}
use denote.Shadow.{shadow}
use denote.Text.{Utf8}
use Rattle.awsign_verify.specs.Message.{skip_blanks}
use Rattle.awsign_verify.proofs.message.behind_blanks.Given as goal

-- the rest is a text, and has the same text behind its blanks
abbrev pub invariant-loop-others : goal.invariant-loop-others
invariant-loop-others l = shadow (Utf8 l.rest) × (skip_blanks l.rest ≡ skip_blanks l.text)

abbrev pub decreases-loop-others : goal.decreases-loop-others
decreases-loop-others l = length l.rest
