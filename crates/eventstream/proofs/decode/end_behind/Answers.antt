use Rattle.std.proofs.Common.{◌≡◌, Ok, ap, sym, take, ◌∙◌, arith}
use Rattle.eventstream.specs.declared.decode.StreamEnd.TheVariants.{Leftover}
use Rattle.eventstream.specs.Read.{read_prelude}
use Rattle.eventstream.proofs.EndLemmas.{end_leftover, end_whole}
use Rattle.eventstream.proofs.FrontLemmas.{prelude_told}
use Rattle.eventstream.proofs.decode.end_behind.Goals as goal

pub returns-then-lengths-kept : goal.returns-then-lengths-kept
returns-then-lengths-kept c = λ bytes there long front.
    let told : read_prelude (take 12 bytes) ≡ Ok c.in-Ok.lengths = front ∙ c.in-Ok.is in
    end_whole bytes c.in-Ok.lengths told (omega (arith, there, c.requires.within, (prelude_told (take 12 bytes) c.in-Ok.lengths told).fit.least, c.if-lengths-kept.true))

pub returns : goal.returns
returns c = λ bytes there long front.
    let told : read_prelude (take 12 bytes) ≡ Ok c.in-Ok.lengths = front ∙ c.in-Ok.is in
    ap Leftover (sym there)
    ∙ end_leftover bytes c.in-Ok.lengths long told (omega (arith, there, c.requires.within, (prelude_told (take 12 bytes) c.in-Ok.lengths told).fit.least, c.if-lengths-kept.false))
