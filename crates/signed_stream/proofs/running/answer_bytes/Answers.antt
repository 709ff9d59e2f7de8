use Rattle.std.proofs.Common.{refl}
use Rattle.smithy_core.specs.Given.{Gives}
use Rattle.smithy_core.proofs.GivenLemmas.{given_none}
use Rattle.signed_stream.specs.ChunkWords.{chunk_wanted}
use Rattle.signed_stream.specs.Command.{check_record, show_settings, stream, write_chunks}
use Rattle.signed_stream.specs.Options.{check_wanted, input_commanded, wanted_of}
use Rattle.signed_stream.specs.ProfileOptions.{profile_wanted}
use Rattle.signed_stream.specs.Sources.{DiskGives}
use Rattle.signed_stream.proofs.RunLemmas.{bytes_are_bad, bytes_go, bytes_no_memory, job_was_read, nothing_given}
use Rattle.signed_stream.proofs.running.answer_bytes.Goals as goal

pub returns-in-Ok-clause-planned : goal.returns-in-Ok-clause-planned
returns-in-Ok-clause-planned g c =
    rw c.in-Stream.is
    (job_was_read (DiskGives g.D.Disk.answers g.D.Disk.faults (g.D.Disk.files c.args.disk.now) c.args.env.now c.args.disk.now c.stream_job.new.disk)
    (λ taken. Gives g.C.Clock c.args.clock.now taken c.stream_job.new.clock) c.args.env.now (wanted_of c.in-Stream.words) c.args.bytes.items _ _ _ _ c.in-Ok.ensures c.stream_job.ensures.planned)

pub returns-in-Stream-clause-planned : goal.returns-in-Stream-clause-planned
returns-in-Stream-clause-planned g c =
    bytes_no_memory (DiskGives g.D.Disk.answers g.D.Disk.faults (g.D.Disk.files c.args.disk.now) c.args.env.now c.args.disk.now c.args.disk.now) (λ places. tt)
    (λ taken. Gives g.C.Clock c.args.clock.now taken c.args.clock.now) (given_none g.C.Clock c.args.clock.now) c.args.env.now (input_commanded c.args.command) c.args.bytes.items (g.K.ByteSink.held c.args.out.now)

pub returns-in-Err-BadLine-clause-planned : goal.returns-in-Err-BadLine-clause-planned
returns-in-Err-BadLine-clause-planned g c =
    let read = rw c.in-Err-BadLine.field-0-is at c.in-Err-BadLine.ensures in
    rw (c.in-Stream.is, c.in-Err-BadLine.field-0-is)
    (bytes_are_bad (DiskGives g.D.Disk.answers g.D.Disk.faults (g.D.Disk.files c.args.disk.now) c.args.env.now c.args.disk.now c.args.disk.now) (λ places. tt)
    (λ taken. Gives g.C.Clock c.args.clock.now taken c.args.clock.now) (given_none g.C.Clock c.args.clock.now) c.args.env.now (stream (wanted_of c.in-Stream.words)) c.args.bytes.items _ (g.K.ByteSink.held c.args.out.now) (rw read refl))

pub returns-in-Ok-take_record-clause-planned : goal.returns-in-Ok-take_record-clause-planned
returns-in-Ok-take_record-clause-planned g c =
    let goes = c.check_record.ensures.planned in
    rw c.in-Check.is
    (bytes_go (DiskGives g.D.Disk.answers g.D.Disk.faults (g.D.Disk.files c.args.disk.now) c.args.env.now c.args.disk.now c.check_record.new.disk) (λ places. tt)
    (λ taken. Gives g.C.Clock c.args.clock.now taken c.args.clock.now) (given_none g.C.Clock c.args.clock.now) c.args.env.now (check_record (check_wanted c.in-Check.words)) c.args.bytes.items
    goes.0 _ _ _ (rw c.in-Ok-take_record.ensures (record { files = goes.1.files; seal = goes.1.seal })) (rw c.in-Ok-take_record.ensures goes.2))

pub returns-in-Err-BadLine-take_record-clause-planned : goal.returns-in-Err-BadLine-take_record-clause-planned
returns-in-Err-BadLine-take_record-clause-planned g c =
    let read = rw c.in-Err-BadLine-take_record.field-0-is at c.in-Err-BadLine-take_record.ensures in
    rw (c.in-Check.is, c.in-Err-BadLine-take_record.field-0-is)
    (bytes_are_bad (DiskGives g.D.Disk.answers g.D.Disk.faults (g.D.Disk.files c.args.disk.now) c.args.env.now c.args.disk.now c.args.disk.now) (λ places. tt)
    (λ taken. Gives g.C.Clock c.args.clock.now taken c.args.clock.now) (given_none g.C.Clock c.args.clock.now) c.args.env.now (check_record (check_wanted c.in-Check.words)) c.args.bytes.items _ (g.K.ByteSink.held c.args.out.now) (rw read refl))

pub returns-in-Check-clause-planned : goal.returns-in-Check-clause-planned
returns-in-Check-clause-planned g c =
    bytes_no_memory (DiskGives g.D.Disk.answers g.D.Disk.faults (g.D.Disk.files c.args.disk.now) c.args.env.now c.args.disk.now c.args.disk.now) (λ places. tt)
    (λ taken. Gives g.C.Clock c.args.clock.now taken c.args.clock.now) (given_none g.C.Clock c.args.clock.now) c.args.env.now (input_commanded c.args.command) c.args.bytes.items (g.K.ByteSink.held c.args.out.now)

pub returns-in-Ok-take_profile_texts-clause-planned : goal.returns-in-Ok-take_profile_texts-clause-planned
returns-in-Ok-take_profile_texts-clause-planned g c =
    let goes = c.show_settings.ensures.planned in
    rw c.in-Settings.is
    (bytes_go (DiskGives g.D.Disk.answers g.D.Disk.faults (g.D.Disk.files c.args.disk.now) c.args.env.now c.args.disk.now c.show_settings.new.disk) (λ places. tt)
    (λ taken. Gives g.C.Clock c.args.clock.now taken c.args.clock.now) (given_none g.C.Clock c.args.clock.now) c.args.env.now (show_settings (profile_wanted c.in-Settings.options)) c.args.bytes.items
    goes.0 _ _ _ (rw c.in-Ok-take_profile_texts.ensures goes.1) (rw c.in-Ok-take_profile_texts.ensures goes.2))

pub returns-in-Err-BadLine-take_profile_texts-clause-planned : goal.returns-in-Err-BadLine-take_profile_texts-clause-planned
returns-in-Err-BadLine-take_profile_texts-clause-planned g c =
    let read = rw c.in-Err-BadLine-take_profile_texts.field-0-is at c.in-Err-BadLine-take_profile_texts.ensures in
    rw (c.in-Settings.is, c.in-Err-BadLine-take_profile_texts.field-0-is)
    (bytes_are_bad (DiskGives g.D.Disk.answers g.D.Disk.faults (g.D.Disk.files c.args.disk.now) c.args.env.now c.args.disk.now c.args.disk.now) (λ places. tt)
    (λ taken. Gives g.C.Clock c.args.clock.now taken c.args.clock.now) (given_none g.C.Clock c.args.clock.now) c.args.env.now (show_settings (profile_wanted c.in-Settings.options)) c.args.bytes.items _ (g.K.ByteSink.held c.args.out.now) (rw read refl))

pub returns-in-Settings-clause-planned : goal.returns-in-Settings-clause-planned
returns-in-Settings-clause-planned g c =
    bytes_no_memory (DiskGives g.D.Disk.answers g.D.Disk.faults (g.D.Disk.files c.args.disk.now) c.args.env.now c.args.disk.now c.args.disk.now) (λ places. tt)
    (λ taken. Gives g.C.Clock c.args.clock.now taken c.args.clock.now) (given_none g.C.Clock c.args.clock.now) c.args.env.now (input_commanded c.args.command) c.args.bytes.items (g.K.ByteSink.held c.args.out.now)

pub returns-clause-planned : goal.returns-clause-planned
returns-clause-planned g c =
    rw c.in-Chunk.is
    (bytes_go (DiskGives g.D.Disk.answers g.D.Disk.faults (g.D.Disk.files c.args.disk.now) c.args.env.now c.args.disk.now c.args.disk.now) (λ places. tt)
    (λ taken. Gives g.C.Clock c.args.clock.now taken c.args.clock.now) (given_none g.C.Clock c.args.clock.now) c.args.env.now (write_chunks (chunk_wanted c.in-Chunk.words)) c.args.bytes.items
    nothing_given _ _ _ tt c.show_chunked.ensures.planned)
