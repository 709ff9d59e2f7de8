use Rattle.std.proofs.Common.{◌-◌, inl, sym, refl, arith}
use Rattle.std.proofs.lemmas.Result.{err_from_is_err_and}
use Rattle.eventstream.proofs.DecodeLemmas.{kept_bad, kept_unfinished, steps_rest}
use Rattle.eventstream.proofs.decode.MessageFrameDecoder.decode_rest.Goals as goal

pub returns-in_err-lengths-clause-step : goal.returns-in_err-lengths-clause-step
returns-in_err-lengths-clause-step c =
    let exit = err_from_is_err_and c.from_residual.result c.from_residual.ensures.1 in
    rw (c.requires.kept, exit.1, exit.2)
    (inl (kept_bad c.args.kept.bytes c.args.buffer.now.bytes c.in_err-lengths.field-0.0 c.requires.read.bytes (sym c.in_err-lengths.ensures.lengths)))

pub returns-then-remaining-left-clause-step : goal.returns-then-remaining-left-clause-step
returns-then-remaining-left-clause-step c =
    rw c.requires.kept
    (kept_unfinished c.args.kept.bytes c.args.buffer.now.bytes c.in_ok-lengths.lengths c.requires.read.bytes (sym c.in_ok-lengths.ensures.lengths)
    (omega (arith, c.remaining.ensures, c.if-remaining-left.true)))

pub returns-clause-step : goal.returns-clause-step
returns-clause-step c =
    steps_rest c.args.self.now c.args.kept.bytes c.args.buffer.now c.finish.new.self c.finish.new.buffer c.in_ok-lengths.lengths (c.in_ok-lengths.lengths.total - 12) c.in_ok-rest.rest
    c.read_frame-read.result c.finish.result c.requires.kept c.requires.read.bytes (sym c.in_ok-lengths.ensures.lengths) refl
    (omega (arith, c.remaining.ensures, c.if-remaining-left.false)) c.in_ok-rest.ensures c.read_frame-read.ensures.read c.finish.ensures.taken
