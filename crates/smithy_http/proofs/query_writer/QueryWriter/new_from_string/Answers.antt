use Rattle.smithy_http.proofs.query_writer.QueryWriter.new_from_string.Goals as goal

pub returns : goal.returns
returns c = (c.in_ok-uri.uri, c.in_ok-uri.ensures, c.in_ok-new.ensures)
