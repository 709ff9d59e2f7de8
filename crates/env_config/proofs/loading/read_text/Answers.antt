use Rattle.env_config.proofs.loading.read_text.Goals as goal

pub returns-in-Ok-clause-reads : goal.returns-in-Ok-clause-reads
returns-in-Ok-clause-reads g c =
    (c.in-Ok.bytes, c.in-Ok.ensures.answers, c.in-Ok.ensures.bytes, c.in-Ok.ensures.steady (λ failed. cc), c.utf8_or_empty.ensures)
