use Rattle.std.proofs.Common.{refl}
use Rattle.aws_chunked.specs.Rests.{ReadsHeadEnd}
use Rattle.aws_chunked.proofs.ReadLemmas.{err_exit, mark_stops, plain_head, signature_stops, signed_head}
use Rattle.aws_chunked.proofs.decode.chunks.read_head_end.Goals as goal

pub returns-then-not-chunks : goal.returns-then-not-chunks
returns-then-not-chunks c = plain_head _ c.args.chunks.now _ c.if-not-chunks.true c.expect.ensures

pub returns-in_err-rest : goal.returns-in_err-rest
returns-in_err-rest c =
    err_exit (ReadsHeadEnd c.args.bytes.now c.args.chunks.now c.args.chunks.now) _ _ c.from_residual.ensures.1
    (mark_stops _ c.args.chunks.now _ c.if-not-chunks.false c.in_err-rest.ensures)

pub returns-in_err-signature : goal.returns-in_err-signature
returns-in_err-signature c =
    err_exit (ReadsHeadEnd c.args.bytes.now c.args.chunks.now c.args.chunks.now) _ _ c.from_residual-in_err-signature.ensures.1
    (signature_stops _ _ c.args.chunks.now _ c.if-not-chunks.false c.in_ok-rest.ensures c.in_err-signature.ensures)

pub returns : goal.returns
returns c =
    let s = c.in_ok-signature.ensures in
    signed_head _ _ _ _ c.args.chunks.now (record c.args.chunks.now { signatures = c.push.new.self }) _ _ c.if-not-chunks.false c.in_ok-rest.ensures refl s.0 s.1
    c.expect-3.ensures c.in_ok-push.ensures.items refl refl
