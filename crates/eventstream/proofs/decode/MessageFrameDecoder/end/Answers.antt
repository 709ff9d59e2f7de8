use Rattle.std.proofs.Common.{◌++◌, ap, sym, subst, ◌∙◌, arith, length-append, Option, IfSome}
use Rattle.eventstream.specs.Decode.{IsReadPrelude}
use Rattle.eventstream.specs.Read.{read_prelude}
use Rattle.eventstream.specs.declared.kept_prelude.KeptPrelude.{KeptPrelude}
use Rattle.eventstream.proofs.DecodeLemmas.{kept_first}
use Rattle.eventstream.proofs.decode.MessageFrameDecoder.end.Goals as goal

pub returns-in-Some : goal.returns-in-Some
returns-in-Some c =
    let bytes = c.args.buffer.now.bytes in
    let kept = c.in-Some.kept.bytes in
    let twelve = (subst (λ (prelude : Option KeptPrelude). IfSome prelude IsReadPrelude) c.in-Some.is c.self.invariant).bytes in
    rw (← c.self.view_is, c.in-Some.is)
    (c.end_behind.ensures (kept ++ bytes) (omega (arith, twelve, c.remaining-left.ensures, length-append kept bytes)) (omega (arith, twelve, length-append kept bytes))
    (ap read_prelude (kept_first kept bytes twelve) ∙ sym c.lengths.ensures.lengths))
