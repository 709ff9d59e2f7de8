use Rattle.std.proofs.Common.{◌≡◌, ◌∙◌, ap, subst, ℕ, Vec, Global, string_bytes}
use Rattle.std.specs.Prelude.{IsUtf8}
use Rattle.std.proofs.lemmas.Bool.{false≢true}
use Rattle.std.proofs.lemmas.Str.{IsUtf8-string_bytes}
use Rattle.env_config.proofs.LoadLemmas.{text_kept, text_dropped}
use Rattle.env_config.proofs.loading.utf8_or_empty.Goals as goal

pub returns-in-Ok : goal.returns-in-Ok
returns-in-Ok c =
    let same : string_bytes c.in-Ok.text ≡ c.args.bytes.items = ap (λ (v : Vec ℕ Global). v.items) c.in-Ok.ensures.ok in
    same ∙ text_kept c.args.bytes.items (subst IsUtf8 same (IsUtf8-string_bytes c.in-Ok.text))

pub returns : goal.returns
returns c = c.new.ensures.bytes ∙ text_dropped c.args.bytes.items (λ is. absurd (false≢true (c.in-Err.ensures.succeeds is)))
