use Rattle.std.proofs.Common.{◌≡◌, map, take}
use Rattle.operation_run.specs.Reply.{request_texts}
use Rattle.operation_run.proofs.script.copied_requests.Given as goal

abbrev pub invariant-loop-request : goal.invariant-loop-request
invariant-loop-request l = map request_texts l.copies.items ≡ map request_texts (take l.request-index l.requests)
