use Rattle.std.proofs.Common.{refl, ap, ◌∙◌, arith}
use Rattle.std.proofs.lemmas.Result.{err_from_is_err_and}
use Rattle.aws_auth.specs.MessageSigner.{told_of}
use Rattle.signed_stream.specs.Status.{stream_ending}
use Rattle.signed_stream.proofs.SealLemmas.{begins_at, cut_at, goes_at, next_taken, seals_on, sent_all, unsealed_at, wants_at}
use Rattle.signed_stream.proofs.chain.stream_events.Goals as goal

pub frames-init : goal.frames-init
frames-init g c = record { count = refl; at = rw c.from-left.ensures.0 (begins_at _ _ _ _ _ _ _ _ _ c.requires) }

pub returns-in_err-at-clause-sends : goal.returns-in_err-at-clause-sends
returns-in_err-at-clause-sends g c =
    let exit = err_from_is_err_and c.from_residual.result c.from_residual.ensures.1 in
    rw exit.1
    (wants_at _ _ _ _ _ _ _ _ _ _ _ _ _ _ c.frames.invariant.at (omega (arith, c.frames-test.true, c.len-end.ensures, c.args.events.ok.0))
    _ c.take_moment.new.clock exit.0 (ap stream_ending exit.2) c.in_err-at.ensures.err)

pub seal-requires : goal.seal-requires
seal-requires g c = seals_on _ _ _ _ _ _ _ _ _ _ _ _ _ _ c.frames.invariant.at (omega (arith, c.frames-test.true, c.len-end.ensures, c.args.events.ok.0))

pub returns-in_err-seal-clause-sends : goal.returns-in_err-seal-clause-sends
returns-in_err-seal-clause-sends g c =
    let exit = err_from_is_err_and c.from_residual-in_err-seal.result c.from_residual-in_err-seal.ensures.1 in
    rw (exit.1, exit.2)
    (unsealed_at _ _ _ _ _ _ _ _ _ _ _ _ _ _ c.frames.invariant.at (omega (arith, c.frames-test.true, c.len-end.ensures, c.args.events.ok.0))
    c.in_ok-at.at _ c.take_moment.new.clock c.in_ok-at.ensures.ok c.pop_front.result c.pop_front.new.self.items (next_taken _ c.pop_front.result _ c.pop_front.ensures.items c.pop_front.ensures.rest)
    c.seal.new.frame.items (told_of c.seal.new.signer) c.in_err-seal.field-0.0 c.in_err-seal.ensures)

pub returns-in_err-write_frame-clause-sends : goal.returns-in_err-write_frame-clause-sends
returns-in_err-write_frame-clause-sends g c =
    let exit = err_from_is_err_and c.from_residual-in_err-write_frame.result c.from_residual-in_err-write_frame.ensures.1 in
    rw (exit.1, exit.2)
    (cut_at _ _ _ _ _ _ _ _ _ _ _ _ _ _ c.frames.invariant.at (omega (arith, c.frames-test.true, c.len-end.ensures, c.args.events.ok.0))
    c.in_ok-at.at _ c.take_moment.new.clock c.in_ok-at.ensures.ok c.pop_front.result c.pop_front.new.self.items (next_taken _ c.pop_front.result _ c.pop_front.ensures.items c.pop_front.ensures.rest)
    c.seal.new.frame.items _ c.in_ok-seal.field-0 c.in_ok-seal.ensures _ c.in_err-write_frame.field-0.0 (rw c.as_slice.ensures.value at c.in_err-write_frame.ensures.sends))

pub frames-preserved : goal.frames-preserved
frames-preserved g c =
    let sends = rw c.as_slice.ensures.value at c.in_ok-write_frame.ensures.sends in
    record {
      count = c.in_ok-write_frame.ensures.counts.stayed (λ failed. cc) ∙ c.frames.invariant.count;
      at =
          goes_at _ _ _ _ _ _ _ _ _ _ _ _ _ _ c.frames.invariant.at (omega (arith, c.frames-test.true, c.len-end.ensures, c.args.events.ok.0))
          c.in_ok-at.at _ c.take_moment.new.clock c.in_ok-at.ensures.ok c.pop_front.result c.pop_front.new.self.items (next_taken _ c.pop_front.result _ c.pop_front.ensures.items c.pop_front.ensures.rest)
          c.seal.new.frame.items _ c.in_ok-seal.field-0 c.in_ok-seal.ensures _ sends.1;
    }

pub returns-clause-sends : goal.returns-clause-sends
returns-clause-sends g c = sent_all _ _ _ _ _ _ _ _ _ _ _ _ _ _ c.frames.invariant.at (omega (arith, c.frames-test.false, c.len-end.ensures, c.args.events.ok.0))
