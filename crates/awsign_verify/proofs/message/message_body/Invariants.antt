use Rattle.std.proofs.Common.{◌≡◌, ◌≤◌, length, true}
use Rattle.awsign_verify.specs.Message.{behind_blank}
use Rattle.awsign_verify.proofs.message.message_body.Given as goal

-- the rest has the same body, and isn't longer than all
abbrev pub invariant-loop-rest : goal.invariant-loop-rest
invariant-loop-rest l = (behind_blank l.blank l.rest ≡ behind_blank true l.bytes) × (length l.rest ≤ length l.bytes)

abbrev pub decreases-loop-rest : goal.decreases-loop-rest
decreases-loop-rest l = length l.rest
