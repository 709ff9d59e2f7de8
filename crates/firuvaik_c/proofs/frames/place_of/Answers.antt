use Rattle.std.proofs.Common.{arith}
use Rattle.firuvaik_c.proofs.FrameLemmas.{spelling_length}
use Rattle.firuvaik_c.proofs.frames.place_of.Goals as goal

pub overflow_add-result-2 : goal.overflow_add-result-2
overflow_add-result-2 c = omega (arith, c.requires, spelling_length c.args.header.now)

pub overflow_add-result-3 : goal.overflow_add-result-3
overflow_add-result-3 c = rw (c.len-name_length.ensures.value, c.as_bytes.ensures.value, c.name.ensures) (omega (arith, c.requires, spelling_length c.args.header.now))

pub overflow_add-result-4 : goal.overflow_add-result-4
overflow_add-result-4 c =
    rw (c.len-name_length.ensures.value, c.as_bytes.ensures.value, c.name.ensures, c.value_shape-shape.ensures, c.value.ensures)
    (omega (arith, c.requires, spelling_length c.args.header.now))

pub returns-clause-end : goal.returns-clause-end
returns-clause-end c =
    rw (c.len-name_length.ensures.value, c.as_bytes.ensures.value, c.name.ensures, c.value_shape-shape.ensures, c.value.ensures)
    (omega (arith, spelling_length c.args.header.now))
