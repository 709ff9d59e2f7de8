use Rattle.std.proofs.lemmas.Result.{err_from_is_err_and}
use Rattle.eventstream.specs.Read.{headers_of}
use Rattle.eventstream.proofs.HeadersLemmas.{ends}
use Rattle.eventstream.proofs.read.headers.read_headers.Goals as goal

pub returns-in_err-take_header_within : goal.returns-in_err-take_header_within
returns-in_err-take_header_within c =
    let p = err_from_is_err_and c.from_residual.result c.from_residual.ensures.1 in
    rw (p.1, p.2) (ends c.in_err-take_header_within.field-0.0 c.loop-left.headers.items c.args.len c.loop-left.left c.loop-left.rest
    (headers_of c.args.len c.args.rest) c.loop-left-test.true c.loop-left.invariant.few c.in_err-take_header_within.ensures.header c.loop-left.invariant.told)
