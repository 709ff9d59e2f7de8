use Rattle.std.proofs.Common.{◌≡◌, ◌≤◌, ◌<◌, length, take, Ok, Err, inl, sym, ap, ◌∙◌, arith}
use Rattle.eventstream.specs.Read.{read_prelude}
use Rattle.eventstream.proofs.FrontLemmas.{first_bad, first_short, more_unfinished}
use Rattle.eventstream.proofs.DecodeLemmas.{keeps_short, keeps_taken, steps_whole}
use Rattle.eventstream.proofs.decode.MessageFrameDecoder.decode_whole.Goals as goal

pub returns-then-there-lt-PRELUDE-clause-step :
    goal.returns-then-there-lt-PRELUDE-clause-step
returns-then-there-lt-PRELUDE-clause-step c =
    let bytes = c.args.buffer.now.bytes in
    let short : length bytes < 12 = omega (arith, c.remaining-there.ensures, c.if-there-lt-PRELUDE.true) in
    rw c.requires (first_short bytes short, keeps_short bytes short)

pub returns-in-Err-clause-step : goal.returns-in-Err-clause-step
returns-in-Err-clause-step c =
    let bytes = c.args.buffer.now.bytes in
    let told : read_prelude (take 12 bytes) ≡ Err c.in-Err.kind = ap read_prelude (sym c.peek_prelude-prelude.ensures) ∙ sym c.in-Err.ensures.lengths in
    let long : 12 ≤ length bytes = omega (arith, c.remaining-there.ensures, c.if-there-lt-PRELUDE.false) in
    rw (c.requires, c.from.ensures, c.take_prelude.ensures.prelude, c.peek_prelude-prelude.ensures, c.take_prelude.ensures.bytes)
    (inl (first_bad bytes c.in-Err.kind long told, rw told (keeps_taken bytes long)))

pub returns-then-there-lengths-clause-step : goal.returns-then-there-lengths-clause-step
returns-then-there-lengths-clause-step c =
    let bytes = c.args.buffer.now.bytes in
    let told : read_prelude (take 12 bytes) ≡ Ok c.in-Ok.lengths = ap read_prelude (sym c.peek_prelude-prelude.ensures) ∙ sym c.in-Ok.ensures.lengths in
    let long : 12 ≤ length bytes = omega (arith, c.remaining-there.ensures, c.if-there-lt-PRELUDE.false) in
    let more : length bytes < c.in-Ok.lengths.total = omega (arith, c.remaining-there.ensures, c.if-there-lengths.true) in
    rw (c.requires, c.take_prelude-then-there-lengths.ensures.prelude, c.peek_prelude-prelude.ensures, c.take_prelude-then-there-lengths.ensures.bytes)
    (more_unfinished bytes c.in-Ok.lengths long told more, keeps_taken bytes long)

pub returns-then-there-lengths-clause-short : goal.returns-then-there-lengths-clause-short
returns-then-there-lengths-clause-short c = λ incomplete.
    let bytes = c.args.buffer.now.bytes in
    let long : 12 ≤ length bytes = omega (arith, c.remaining-there.ensures, c.if-there-lt-PRELUDE.false) in
    rw (c.take_prelude-then-there-lengths.ensures.prelude, c.peek_prelude-prelude.ensures, c.take_prelude-then-there-lengths.ensures.bytes, (keeps_taken bytes long).1)
    (omega (arith, c.remaining-there.ensures, c.if-there-lengths.true, c.in-Ok.ensures.fit.most))

pub returns-clause-step : goal.returns-clause-step
returns-clause-step c =
    let bytes = c.args.buffer.now.bytes in
    let told : read_prelude (take 12 bytes) ≡ Ok c.in-Ok.lengths = ap read_prelude (sym c.peek_prelude-prelude.ensures) ∙ sym c.in-Ok.ensures.lengths in
    steps_whole c.args.self.now c.args.buffer.now c.finish.new.self c.finish.new.buffer c.in-Ok.lengths c.read_front-read.result c.finish.result c.requires told
    (omega (arith, c.remaining-there.ensures, c.if-there-lengths.false)) c.read_front-read.ensures c.finish.ensures.taken
