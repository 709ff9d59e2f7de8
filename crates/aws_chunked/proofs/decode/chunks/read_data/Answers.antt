use Rattle.aws_chunked.proofs.ReadLemmas.{data_read, data_short}
use Rattle.aws_chunked.proofs.decode.chunks.read_data.Goals as goal

pub returns-then-bytes-length : goal.returns-then-bytes-length
returns-then-bytes-length c = data_short _ _ c.if-bytes-length.true

pub returns : goal.returns
returns c =
    let s = c.split_at.ensures in
    data_read _ _ _ _ _ _ _ s.by_index.0 s.front_len c.in_ok-extend_from_slice.ensures.items c.expect.ensures
