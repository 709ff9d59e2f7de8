use Rattle.std.proofs.Common.{◌≤◌, length, arith}
use Rattle.smithy_core.specs.Given.{Gives}
use Rattle.smithy_core.proofs.GivenLemmas.{given_none}
use Rattle.signed_stream.specs.Options.{input_commanded}
use Rattle.signed_stream.specs.Plan.{most_input}
use Rattle.signed_stream.specs.Sources.{DiskGives}
use Rattle.signed_stream.specs.Status.{ending_of}
use Rattle.signed_stream.proofs.CommandLemmas.{reads}
use Rattle.signed_stream.proofs.RunLemmas.{keeps_bytes, no_memory_runs, read_fault_runs, read_runs, too_large_runs}
use Rattle.signed_stream.proofs.running.answer_command.Goals as goal

pub returns-in-Ok-clause-planned : goal.returns-in-Ok-clause-planned
returns-in-Ok-clause-planned g c =
    let short : length c.in-Ok.bytes.items ≤ most_input = omega (arith, c.in-Ok.bytes.ok.0, c.in-Ok.ensures.short) in
    read_runs (DiskGives g.D.Disk.answers g.D.Disk.faults (g.D.Disk.files c.args.disk.now) c.args.env.now c.args.disk.now c.answer_bytes.new.disk)
    (λ taken. Gives g.C.Clock c.args.clock.now taken c.answer_bytes.new.clock) c.args.env.now (input_commanded c.args.command) (g.S.ByteSource.left c.args.input.now) c.in-Ok.bytes.items (ending_of c.answer_bytes.result)
    (g.K.ByteSink.held c.args.out.now) (g.K.ByteSink.held c.answer_bytes.new.out) (reads c.args.command) c.in-Ok.ensures.bytes short c.answer_bytes.ensures.planned

pub returns-in-Ok-clause-kept : goal.returns-in-Ok-clause-kept
returns-in-Ok-clause-kept g c =
    keeps_bytes (DiskGives g.D.Disk.answers g.D.Disk.faults (g.D.Disk.files c.args.disk.now) c.args.env.now c.args.disk.now c.answer_bytes.new.disk)
    (λ taken. Gives g.C.Clock c.args.clock.now taken c.answer_bytes.new.clock) c.args.env.now (input_commanded c.args.command) c.in-Ok.bytes.items (ending_of c.answer_bytes.result)
    (g.K.ByteSink.held c.args.out.now) (g.K.ByteSink.held c.answer_bytes.new.out) c.answer_bytes.ensures.planned

pub returns-in-Err-TooLarge-clause-planned : goal.returns-in-Err-TooLarge-clause-planned
returns-in-Err-TooLarge-clause-planned g c =
    too_large_runs (DiskGives g.D.Disk.answers g.D.Disk.faults (g.D.Disk.files c.args.disk.now) c.args.env.now c.args.disk.now c.args.disk.now) (λ places. tt)
    (λ taken. Gives g.C.Clock c.args.clock.now taken c.args.clock.now) (given_none g.C.Clock c.args.clock.now) c.args.env.now (input_commanded c.args.command) (g.S.ByteSource.left c.args.input.now)
    (g.K.ByteSink.held c.args.out.now) (reads c.args.command) (c.in-Err-TooLarge.ensures.too_large (cc))

pub returns-in-Err-Failed-clause-planned : goal.returns-in-Err-Failed-clause-planned
returns-in-Err-Failed-clause-planned g c =
    read_fault_runs (DiskGives g.D.Disk.answers g.D.Disk.faults (g.D.Disk.files c.args.disk.now) c.args.env.now c.args.disk.now c.args.disk.now) (λ places. tt)
    (λ taken. Gives g.C.Clock c.args.clock.now taken c.args.clock.now) (given_none g.C.Clock c.args.clock.now) c.args.env.now (input_commanded c.args.command) (g.S.ByteSource.left c.args.input.now) (g.K.ByteSink.held c.args.out.now)

pub returns-clause-planned : goal.returns-clause-planned
returns-clause-planned g c =
    no_memory_runs (DiskGives g.D.Disk.answers g.D.Disk.faults (g.D.Disk.files c.args.disk.now) c.args.env.now c.args.disk.now c.args.disk.now) (λ places. tt)
    (λ taken. Gives g.C.Clock c.args.clock.now taken c.args.clock.now) (given_none g.C.Clock c.args.clock.now) c.args.env.now (input_commanded c.args.command) (g.S.ByteSource.left c.args.input.now) (g.K.ByteSink.held c.args.out.now)
