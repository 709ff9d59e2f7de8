use Rattle.aws_chunked.specs.TailRests.{ReadsLine}
use Rattle.aws_chunked.proofs.LineLemmas.{crlf_stops_line, line_whole, name_stops_line, value_stops_line}
use Rattle.aws_chunked.proofs.ReadLemmas.{err_exit}
use Rattle.aws_chunked.proofs.decode.trailer_lines.read_line.Goals as goal

pub returns-in_err-name : goal.returns-in_err-name
returns-in_err-name c = err_exit (ReadsLine c.args.bytes.now) _ _ c.from_residual.ensures.1 (name_stops_line _ _ c.in_err-name.ensures)

pub returns-in_err-value : goal.returns-in_err-value
returns-in_err-value c =
    let n = c.in_ok-name.ensures in
    err_exit (ReadsLine c.args.bytes.now) _ _ c.from_residual-in_err-value.ensures.1 (value_stops_line _ _ _ _ n.0 n.1 n.2 c.in_err-value.ensures)

pub returns-in_err-rest : goal.returns-in_err-rest
returns-in_err-rest c =
    let n = c.in_ok-name.ensures in
    let v = c.in_ok-value.ensures in
    err_exit (ReadsLine c.args.bytes.now) _ _ c.from_residual-in_err-rest.ensures.1
    (crlf_stops_line _ _ _ _ _ n.0 n.1 n.2 v.0 v.1 v.2 v.3 _ c.in_err-rest.ensures)

pub returns : goal.returns
returns c =
    let n = c.in_ok-name.ensures in
    let v = c.in_ok-value.ensures in
    ((n.0, n.1, v.0, v.1), line_whole _ _ _ _ _ _ n.2 v.2 c.in_ok-rest.ensures)
