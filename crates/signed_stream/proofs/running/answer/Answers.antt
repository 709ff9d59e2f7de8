use Rattle.std.proofs.Common.{map}
use Rattle.std.specs.Prelude.{string_bytes}
use Rattle.smithy_core.specs.Given.{Gives}
use Rattle.smithy_core.proofs.GivenLemmas.{given_none}
use Rattle.signed_stream.specs.Command.{command}
use Rattle.signed_stream.specs.Sources.{DiskGives}
use Rattle.signed_stream.proofs.RunLemmas.{bad_word_runs, generated_runs, keeps_generated, no_memory_runs}
use Rattle.signed_stream.proofs.running.answer.Goals as goal

pub returns-in-Err-BadWord-clause-planned : goal.returns-in-Err-BadWord-clause-planned
returns-in-Err-BadWord-clause-planned g c =
    let is = rw c.in-Err-BadWord.field-0-is at c.in-Err-BadWord.ensures in
    rw c.in-Err-BadWord.field-0-is
    (bad_word_runs (DiskGives g.D.Disk.answers g.D.Disk.faults (g.D.Disk.files c.args.disk.now) c.args.env.now c.args.disk.now c.args.disk.now) (λ places. tt)
    (λ taken. Gives g.C.Clock c.args.clock.now taken c.args.clock.now) (given_none g.C.Clock c.args.clock.now) c.args.env.now (command (map string_bytes c.args.words.now)) _ (g.S.ByteSource.left c.args.input.now) (g.K.ByteSink.held c.args.out.now) is)

pub returns-in-Err-NoMemory-clause-planned : goal.returns-in-Err-NoMemory-clause-planned
returns-in-Err-NoMemory-clause-planned g c =
    no_memory_runs (DiskGives g.D.Disk.answers g.D.Disk.faults (g.D.Disk.files c.args.disk.now) c.args.env.now c.args.disk.now c.args.disk.now) (λ places. tt)
    (λ taken. Gives g.C.Clock c.args.clock.now taken c.args.clock.now) (given_none g.C.Clock c.args.clock.now) c.args.env.now (command (map string_bytes c.args.words.now)) (g.S.ByteSource.left c.args.input.now) (g.K.ByteSink.held c.args.out.now)

pub returns-in-Ok-OfInput-clause-planned : goal.returns-in-Ok-OfInput-clause-planned
returns-in-Ok-OfInput-clause-planned g c =
    let is = rw c.in-Ok-OfInput.field-0-is at c.in-Ok-OfInput.ensures in
    rw is c.answer_command.ensures.planned

pub returns-in-Ok-Generate-clause-asked : goal.returns-in-Ok-Generate-clause-asked
returns-in-Ok-Generate-clause-asked g c =
    let is = rw c.in-Ok-Generate.field-0-is at c.in-Ok-Generate.ensures in
    rw is c.show_generated.ensures.end

pub returns-in-Ok-Generate-clause-planned : goal.returns-in-Ok-Generate-clause-planned
returns-in-Ok-Generate-clause-planned g c =
    let is = rw c.in-Ok-Generate.field-0-is at c.in-Ok-Generate.ensures in
    rw is
    (generated_runs (DiskGives g.D.Disk.answers g.D.Disk.faults (g.D.Disk.files c.args.disk.now) c.args.env.now c.args.disk.now c.args.disk.now) (λ places. tt)
    (λ taken. Gives g.C.Clock c.args.clock.now taken c.args.clock.now) (given_none g.C.Clock c.args.clock.now) c.args.env.now _ _ (g.S.ByteSource.left c.args.input.now) _ _ _ c.show_generated.ensures.planned)

pub returns-in-Ok-Generate-clause-kept : goal.returns-in-Ok-Generate-clause-kept
returns-in-Ok-Generate-clause-kept g c =
    let is = rw c.in-Ok-Generate.field-0-is at c.in-Ok-Generate.ensures in
    rw is (keeps_generated _ _ _ _ _ c.show_generated.ensures.planned)
