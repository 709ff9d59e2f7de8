use Rattle.std.proofs.Common.{◌∙◌, ap, sym, Bool, cond, List, ℕ, string_bytes}
use Rattle.env_config.specs.Latest.{is_beaten}
use Rattle.env_config.specs.LatestView.{placed_of}
use Rattle.env_config.specs.Texts.{put, value_under}
use Rattle.env_config.proofs.LatestViewLemmas.{placed_put}
use Rattle.env_config.proofs.latest.put_placed.Goals as goal

pub returns : goal.returns
returns c =
    let values = placed_of c.args.values.now.entries in
    let key = string_bytes c.args.key in
    placed_put c.args.values.now.entries c.insert.new.self.entries c.args.key c.args.value c.args.place c.in_ok-insert.ensures.entries
    ∙ sym (ap (λ (b : Bool). cond b values (put values key (c.args.place, string_bytes c.args.value)))
    (ap (λ (k : List ℕ). is_beaten (value_under values k) c.args.place) (sym c.as_str.ensures.value) ∙ sym c.is_beaten.ensures ∙ c.if-is_beaten.false))
