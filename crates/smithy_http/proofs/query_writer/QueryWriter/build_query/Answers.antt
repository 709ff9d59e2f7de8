use Rattle.smithy_http.proofs.query_writer.QueryWriter.build_query.Goals as goal

pub returns : goal.returns
returns c = (c.in_ok-uri.uri, c.in_ok-uri.ensures, c.in_ok-copied_query.ensures)
