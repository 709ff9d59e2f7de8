use Rattle.std.proofs.Common.{◌≡◌, List, ℕ, ap, length, rules, sym, ◌∙◌}
use Rattle.firuvaik_c.proofs.LinkLemmas.{length-digits}
use Rattle.firuvaik_c.proofs.key.firuvaik_signature.Goals as goal

pub copy_from_slice-requires : goal.copy_from_slice-requires
copy_from_slice-requires c =
    let long : length c.args.signature.now ≡ 64 = search rules in
    long ∙ sym (ap (λ (text : List ℕ). length text) (c.as_bytes.ensures.value ∙ c.in-Ok.ensures) ∙ length-digits _ _)
