use Rattle.std.proofs.Common.{List, ℕ, map}
use Rattle.std.specs.Prelude.{string_bytes}
use Rattle.smithy_core.proofs.GivenLemmas.{given_none}
use Rattle.signed_stream.specs.Command.{command}
use Rattle.signed_stream.specs.Running.{RunsAsPlanned, ShowsInput}
use Rattle.signed_stream.specs.Sources.{DiskGives}
use Rattle.signed_stream.specs.Status.{ending_of}
use Rattle.signed_stream.specs.WatchWords.{read_after_watch}
use Rattle.signed_stream.proofs.HeadlineLemmas.{completes, has_done_where}
use Rattle.signed_stream.proofs.SaidLemmas.{said_asked, said_disk, said_is, said_keeps, said_reads, said_runs, said_when, said_writes}
use Rattle.signed_stream.proofs.WatchedLemmas.{rest_watched, unasked_watched, unread_watched, unwritten_watched, watched_to_end, went_watching, when_watched}
use Rattle.signed_stream.proofs.running.run.Goals as goal

pub returns-in-Some-clause-headline : goal.returns-in-Some-clause-headline
returns-in-Some-clause-headline g c =
    let asked = c.in-Some.ensures in
    let watch = c.watch-status.ensures in
    let said = c.say.ensures.answer in
    let gave = DiskGives g.D.Disk.answers g.D.Disk.faults (g.D.Disk.files c.args.disk.now) c.args.env.now c.args.disk.now c.watch-status.new.disk in
    rw asked (record {
      went = went_watching gave c.args.env.now (read_after_watch (map string_bytes c.in-Some.rest.now)) (g.S.ByteSource.left c.args.input.now) (g.S.ByteSource.left c.watch-status.new.input)
          (ending_of c.watch-status.result) (ending_of c.say.result) (g.K.ByteSink.held c.args.out.now) (g.K.ByteSink.held c.watch-status.new.out) watch.watches said;
      moments = given_none g.C.Clock c.args.clock.now;
      named = λ path is. watch.effects.named path (said_is _ _ _ said is (λ e. cc));
      said = c.say.ensures.said;
      reads = said_reads _ _ _ _ said watch.reads;
      writes = said_writes _ _ _ _ said watch.effects.writes;
    })

pub returns-in-None-clause-headline : goal.returns-in-None-clause-headline
returns-in-None-clause-headline g c =
    let asked = c.in-None.ensures in
    let answer = c.answer-status.ensures in
    let said = c.say-in-None.ensures.answer in
    let gave = DiskGives g.D.Disk.answers g.D.Disk.faults (g.D.Disk.files c.args.disk.now) c.args.env.now c.args.disk.now c.answer-status.new.disk in
    let given = answer.planned.0 in
    let runs : (bytes : List ℕ) → ShowsInput (command (map string_bytes c.args.words.now)) (g.S.ByteSource.left c.args.input.now) bytes
    → RunsAsPlanned gave c.args.env.now (command (map string_bytes c.args.words.now)) bytes given (ending_of c.say-in-None.result) (g.K.ByteSink.held c.args.out.now) (g.K.ByteSink.held c.answer-status.new.out) =
    λ bytes shown. said_runs gave _ _ _ _ _ _ _ _ (answer.planned.2 bytes shown) said in
    rw asked (
      given,
      record {
        headline = λ bytes shown is. has_done_where gave _ _ bytes given _ _ _ is (runs bytes shown);
        complete = λ bytes shown other files later moments can. completes gave _ _ bytes given other later _ _ _ (runs bytes shown) files moments can;
        ended = said_asked _ _ _ answer.asked said;
        moments = answer.planned.1;
        planned = runs;
        kept = said_keeps _ _ _ _ _ answer.kept said;
        named = λ path is. answer.effects.named path (said_is _ _ _ said is (λ e. cc));
        said = c.say-in-None.ensures.said;
        reads = said_reads _ _ _ _ said answer.reads;
        writes = said_writes _ _ _ _ said answer.effects.writes;
      },
    )

pub returns-in-Some-clause-outside : goal.returns-in-Some-clause-outside
returns-in-Some-clause-outside g c =
    let asked = c.in-Some.ensures in
    let watch = c.watch-status.ensures in
    let gave = DiskGives g.D.Disk.answers g.D.Disk.faults (g.D.Disk.files c.args.disk.now) c.args.env.now c.args.disk.now c.watch-status.new.disk in
    let read = read_after_watch (map string_bytes c.in-Some.rest.now) in
    let went = went_watching gave c.args.env.now read (g.S.ByteSource.left c.args.input.now) (g.S.ByteSource.left c.watch-status.new.input) (ending_of c.watch-status.result) (ending_of c.say.result)
    (g.K.ByteSink.held c.args.out.now) (g.K.ByteSink.held c.watch-status.new.out) watch.watches c.say.ensures.answer in
    rw asked (
      when_watched read _ (λ is. watched_to_end gave c.args.env.now read (g.S.ByteSource.left c.args.input.now) (g.S.ByteSource.left c.watch-status.new.input) (ending_of c.say.result)
          (g.K.ByteSink.held c.args.out.now) (g.K.ByteSink.held c.watch-status.new.out) went is),
      rest_watched gave c.args.env.now read (g.S.ByteSource.left c.args.input.now) (g.S.ByteSource.left c.watch-status.new.input) (ending_of c.watch-status.result)
          (g.K.ByteSink.held c.args.out.now) (g.K.ByteSink.held c.watch-status.new.out) watch.watches,
      watch.reads.grew,
      watch.effects.count,
      watch.effects.writes.grew,
      c.say.ensures.count,
    )

pub returns-in-None-clause-outside : goal.returns-in-None-clause-outside
returns-in-None-clause-outside g c =
    let asked = c.in-None.ensures in
    let answer = c.answer-status.ensures in
    rw asked (said_when _ _ _ _ answer.outside.0 c.say-in-None.ensures.answer, answer.outside.1, answer.reads.grew, answer.effects.count, answer.effects.writes.grew, c.say-in-None.ensures.count)

pub returns-in-Some-clause-untouched : goal.returns-in-Some-clause-untouched
returns-in-Some-clause-untouched g c =
    let asked = c.in-Some.ensures in
    let watch = c.watch-status.ensures in
    let gave = DiskGives g.D.Disk.answers g.D.Disk.faults (g.D.Disk.files c.args.disk.now) c.args.env.now c.args.disk.now c.watch-status.new.disk in
    rw asked
    (unwritten_watched gave c.args.env.now (read_after_watch (map string_bytes c.in-Some.rest.now)) (g.S.ByteSource.left c.args.input.now) (g.S.ByteSource.left c.watch-status.new.input) (ending_of c.watch-status.result)
    (g.K.ByteSink.held c.args.out.now) (g.K.ByteSink.held c.watch-status.new.out) _ _ watch.watches watch.effects.writes)

pub returns-in-Some-clause-unread : goal.returns-in-Some-clause-unread
returns-in-Some-clause-unread g c =
    let asked = c.in-Some.ensures in
    let watch = c.watch-status.ensures in
    let gave = DiskGives g.D.Disk.answers g.D.Disk.faults (g.D.Disk.files c.args.disk.now) c.args.env.now c.args.disk.now c.watch-status.new.disk in
    rw asked
    (unread_watched gave c.args.env.now (read_after_watch (map string_bytes c.in-Some.rest.now)) (g.S.ByteSource.left c.args.input.now) (g.S.ByteSource.left c.watch-status.new.input) (ending_of c.watch-status.result)
    (g.K.ByteSink.held c.args.out.now) (g.K.ByteSink.held c.watch-status.new.out) _ _ watch.watches watch.reads)

pub returns-in-Some-clause-disk : goal.returns-in-Some-clause-disk
returns-in-Some-clause-disk g c = let asked = c.in-Some.ensures in rw asked (tt, c.watch-status.ensures.effects.same)

pub returns-in-Some-clause-unasked : goal.returns-in-Some-clause-unasked
returns-in-Some-clause-unasked g c = let asked = c.in-Some.ensures in rw asked (unasked_watched (read_after_watch (map string_bytes c.in-Some.rest.now)) _ c.watch-status.ensures.unasked)

pub returns-in-None-clause-untouched : goal.returns-in-None-clause-untouched
returns-in-None-clause-untouched g c = let asked = c.in-None.ensures in rw asked c.answer-status.ensures.untouched

pub returns-in-None-clause-unread : goal.returns-in-None-clause-unread
returns-in-None-clause-unread g c = let asked = c.in-None.ensures in rw asked c.answer-status.ensures.unread

pub returns-in-None-clause-disk : goal.returns-in-None-clause-disk
returns-in-None-clause-disk g c =
    let asked = c.in-None.ensures in
    let answer = c.answer-status.ensures in
    rw asked (said_disk _ _ _ _ answer.disk c.say-in-None.ensures.answer, answer.effects.same)

pub returns-in-None-clause-unasked : goal.returns-in-None-clause-unasked
returns-in-None-clause-unasked g c = let asked = c.in-None.ensures in rw asked c.answer-status.ensures.unasked
