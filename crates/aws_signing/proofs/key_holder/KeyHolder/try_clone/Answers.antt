use Rattle.std.proofs.Common.{rules, ◌≡◌, string_bytes, arith}
use Rattle.aws_signing.proofs.SigningByLemmas.{same_holder}
use Rattle.aws_signing.proofs.key_holder.KeyHolder.try_clone.Goals as goal

pub invariant_of-result : goal.invariant_of-result
invariant_of-result c =
    let region : string_bytes c.in_ok-clone.field-0 ≡ string_bytes c.self.inside.region = first_of (search rules, grind arith) in
    let name : string_bytes c.in_ok-clone-2.field-0 ≡ string_bytes c.self.inside.name = first_of (search rules, grind arith) in
    same_holder c.self.inside.identity c.in_ok-try_clone.field-0 _ _ _ _ c.self.inside.kept c.in_ok-try_clone-2.field-0 c.self.invariant
    c.in_ok-try_clone.ensures region name c.in_ok-try_clone-2.ensures
