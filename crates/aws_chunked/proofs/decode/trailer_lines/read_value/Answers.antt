use Rattle.aws_chunked.proofs.LineLemmas.{value_bad}
use Rattle.aws_chunked.proofs.decode.trailer_lines.read_value.Goals as goal

pub returns-in-Err : goal.returns-in-Err
returns-in-Err c =
    let v = c.value_length.ensures in
    let s = c.split_at.ensures in
    value_bad _ _ _ _ _ _ v.there v.all v.ends s.front s.back c.in-Err.ensures.cases.0 c.sound_length.ensures c.bad_at.ensures
