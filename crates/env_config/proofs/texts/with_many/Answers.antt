use Rattle.std.proofs.Common.{◌∙◌, ap, string_bytes, string_cmp, refl}
use Rattle.env_config.specs.Texts.{pairs_of, text_cmp}
use Rattle.env_config.proofs.TextsLemmas.{entries_put}
use Rattle.env_config.proofs.texts.with_many.Goals as goal

pub returns : goal.returns
returns c =
    ap pairs_of c.in_ok-insert.ensures.entries
    ∙ entries_put string_cmp text_cmp string_bytes string_bytes (λ _ _. refl) c.args.pairs.entries c.args.key c.args.value
