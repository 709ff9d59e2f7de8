use Rattle.std.proofs.Common.{◌≡◌, ℕ, ◌+◌, ◌-◌, take, drop, ap, refl, arith}
use Rattle.eventstream.proofs.SumLemmas.{known_behind}
use Rattle.eventstream.proofs.read.sum_around.Goals as goal

pub after_payload-after-requires-clause-known : goal.after_payload-after-requires-clause-known
after_payload-after-requires-clause-known c =
    let total = c.args.lengths.total in
    let four : total - 16 + 4 - (total - 16) ≡ 4 = omega arith in
    known_behind total c.args.lengths.headers c.args.prelude.now c.args.rest.now _ _ c.before_payload-before.result c.args.whole (omega arith)
    c.before_payload-before.ensures refl (ap (λ (n : ℕ). take n (drop (total - 16) c.args.rest.now)) four) c.requires.known
