use Rattle.std.proofs.Common.{sym, ◌∙◌}
use Rattle.smithy_core.specs.TextPairs.{lower}
use Rattle.aws_chunked.proofs.TrailerLemmas.{found_named, put_behind, put_over}
use Rattle.aws_chunked.proofs.trailers.put.Goals as goal

pub returns-then-contains_key : goal.returns-then-contains_key
returns-then-contains_key c =
    let name = lower c.args.name.now in
    put_behind c.append.result c.args.before.now c.args.kept.now c.append.new.self name c.args.value.now
    (sym (found_named name c.args.before.now _ c.contains_key.ensures.found) ∙ c.if-contains_key.true) c.append.ensures.ok

pub returns-else-contains_key : goal.returns-else-contains_key
returns-else-contains_key c =
    let name = lower c.args.name.now in
    put_over c.insert.result c.args.before.now c.args.kept.now c.insert.new.self name c.args.value.now
    (sym (found_named name c.args.before.now _ c.contains_key.ensures.found) ∙ c.if-contains_key.false) c.insert.ensures.ok
