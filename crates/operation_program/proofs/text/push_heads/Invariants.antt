use Rattle.std.proofs.Common.{◌≡◌, ◌++◌, flat_map, map, take}
use Rattle.operation_run.specs.Reply.{request_texts}
use Rattle.operation_program.specs.Attempting.{request_head}
use Rattle.operation_program.proofs.text.push_heads.Given as goal

abbrev pub invariant-loop-request : goal.invariant-loop-request
invariant-loop-request l = l.text.items ≡ l.fn.text.items ++ flat_map request_head (map request_texts (take l.request-index l.requests))
