use Rattle.std.proofs.Common.{rules}
use Rattle.aws_chunked.proofs.DueLemmas.{new_due}
use Rattle.aws_chunked.proofs.NewLemmas.{new_body, new_parts, new_pieces, new_total, new_trailers}
use Rattle.aws_chunked.proofs.body.AwsChunkedBody.new.Goals as goal

pub returns-clause-due : goal.returns-clause-due
returns-clause-due g c = λ unsigned. new_due g.F.FrameSource g.G.SignChunk _ c.args.body c.args.options (search rules) unsigned

pub returns-clause-parts : goal.returns-clause-parts
returns-clause-parts g c =
    new_parts {G = g.row.G.Denot} g.F.FrameSource
    (new_body c.args.alloc c.args.body c.args.options c.new.result c.new-2.result) c.args.body c.args.options (search rules)

pub returns-clause-total : goal.returns-clause-total
returns-clause-total g c =
    new_total {G = g.row.G.Denot} g.F.FrameSource
    (new_body c.args.alloc c.args.body c.args.options c.new.result c.new-2.result) c.args.body c.args.options (search rules)

pub returns-clause-trailers : goal.returns-clause-trailers
returns-clause-trailers g c =
    new_trailers {G = g.row.G.Denot} g.F.FrameSource
    (new_body c.args.alloc c.args.body c.args.options c.new.result c.new-2.result) c.args.body c.args.options (search rules)

pub returns-clause-pieces : goal.returns-clause-pieces
returns-clause-pieces g c =
    new_pieces {G = g.row.G.Denot} g.F.FrameSource
    (new_body c.args.alloc c.args.body c.args.options c.new.result c.new-2.result) c.args.body c.args.options (search rules)
