use Rattle.std.proofs.Common.{◌≡◌, ◌∙◌, ap, map, string_bytes}
use Rattle.env_config.specs.SectionProperties.{own}
use Rattle.env_config.specs.Texts.{put}
use Rattle.env_config.proofs.GroupLemmas.{on_ok}
use Rattle.env_config.proofs.SectionLemmas.{own_put}
use Rattle.env_config.proofs.section_properties.put_own.Goals as goal

pub returns : goal.returns
returns c =
    let before = c.args.values.now in
    let now = c.put.new.self in
    let key = string_bytes c.args.key in
    let value = string_bytes c.args.value in
    on_ok (now ≡ put before key value) (map own now ≡ put (map own before) key (key, value)) c.put.result (λ is. ap (map own) is ∙ own_put before key value) c.put.ensures
