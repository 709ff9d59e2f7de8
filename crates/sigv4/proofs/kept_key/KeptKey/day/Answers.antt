use Rattle.std.proofs.Common.{◌≡◌, [], true, subst, sym}
use Rattle.mac_core.specs.Mac.{HoldsMac, key_block}
use Rattle.eventstream.specs.Key.{signing_key}
use Rattle.sigv4.specs.KeptKey.{Kept, is_kept}
use Rattle.sigv4.proofs.KeptKeyLemmas.{kept_day}
use Rattle.sigv4.proofs.kept_key.KeptKey.day.Goals as goal

pub returns-clause-key : goal.returns-clause-key
returns-clause-key c =
    let same = subst (λ (now : Kept). is_kept now.date c.args.at ≡ true) (sym c.self.view_is) c.requires in
    subst (λ (now : Kept). c.in-Some.day.key ≡ signing_key now.signer c.args.at) c.self.view_is
    (kept_day _ c.self.inside.kept c.in-Some.day c.args.at c.in-Some.is c.self.invariant.0 same).0

pub returns-clause-keyed : goal.returns-clause-keyed
returns-clause-keyed c =
    let same = subst (λ (now : Kept). is_kept now.date c.args.at ≡ true) (sym c.self.view_is) c.requires in
    subst (λ (now : Kept). HoldsMac c.in-Some.day.keyed (key_block (signing_key now.signer c.args.at)) []) c.self.view_is
    (kept_day _ c.self.inside.kept c.in-Some.day c.args.at c.in-Some.is c.self.invariant.0 same).1
