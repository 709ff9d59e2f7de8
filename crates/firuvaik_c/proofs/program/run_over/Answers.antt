use Rattle.signed_stream.specs.Status.{ending_of}
use Rattle.firuvaik_c.proofs.ProgramLemmas.{all_run}
use Rattle.firuvaik_c.proofs.program.run_over.Goals as goal

pub returns : goal.returns
returns c =
    let run = c.run-status in
    all_run _ c.new-disk.result run.new.disk c.new-clock.result run.new.clock c.new-input.result run.new.input c.new-out.result run.new.out c.new-err.result run.new.err
    c.held.result.now c.held-2.result.now (ending_of run.result) c.program_text.result c.new-disk.ensures.files run.ensures.disk.1 c.new-clock.ensures.at
    c.new-input.ensures.left c.new-out.ensures.held c.new-err.ensures.held c.held.ensures c.held-2.ensures run.ensures.headline c.program_text.ensures.text
    c.program_text.ensures.outcome
