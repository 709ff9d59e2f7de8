use Rattle.std.proofs.Common.{◌≡◌, drop}
use Rattle.std.specs.Prelude.{option_map}
use Rattle.std.specs.Option.{option_or}
use Rattle.smithy_core.specs.Document.{data_of, last_member, members_data}
use Rattle.smithy_core.proofs.document.last_member.Given as goal

-- what the members to come have, or else what was found
abbrev pub invariant-loop-member : goal.invariant-loop-member
invariant-loop-member l =
    last_member (members_data l.member-items) l.key ≡ option_or (last_member (members_data (drop l.member-index l.member-items)) l.key) (option_map (λ value. data_of value.now) l.found)
