use Rattle.std.proofs.Common.{sym}
use Rattle.aws_chunked.specs.TailRests.{ReadsLines}
use Rattle.aws_chunked.proofs.ReadLemmas.{err_exit}
use Rattle.aws_chunked.proofs.TailLemmas.{line_stops, lines_stop}
use Rattle.aws_chunked.proofs.decode.trailer_lines.read_lines.Goals as goal

pub returns-in_err-line : goal.returns-in_err-line
returns-in_err-line c =
    let l = c.loop-rest.invariant in
    err_exit (ReadsLines c.args.bytes.now) _ _ c.from_residual.ensures.1
    (λ is_signed. lines_stop is_signed _ _ _ _ l.are l.read (line_stops is_signed _ _ _ (sym c.loop-rest-test.ensures) c.in_err-line.ensures))
