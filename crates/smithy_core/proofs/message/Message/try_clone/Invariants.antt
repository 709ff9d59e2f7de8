use Rattle.std.proofs.Common.{◌≡◌, take}
use Rattle.smithy_core.proofs.message.Message.try_clone.Given as goal

-- the headers that passed are copied
abbrev pub invariant-loop-header : goal.invariant-loop-header
invariant-loop-header l = l.headers.items ≡ take l.header-index l.self.headers
