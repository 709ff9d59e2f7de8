use Rattle.std.proofs.Common.{◌*◌, List, ℕ, ap, length, sym, ◌∙◌}
use Rattle.hex.proofs.HexLemmas.{length-encode_with}
use Rattle.hex.specs.Hex.{lower_digits}
use Rattle.firuvaik_c.proofs.watch.digits_of.Goals as goal

pub copy_from_slice-requires : goal.copy_from_slice-requires
copy_from_slice-requires c =
    sym (ap (λ (text : List ℕ). length text) (c.as_bytes.ensures.value ∙ c.in_ok-text.ensures) ∙ length-encode_with lower_digits _ ∙ ap (λ (n : ℕ). 2 * n) c.requires)
