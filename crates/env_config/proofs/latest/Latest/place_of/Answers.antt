use Rattle.std.proofs.Common.{◌∙◌, ap, sym}
use Rattle.env_config.specs.Latest.{Latest}
use Rattle.env_config.specs.Texts.{value_under}
use Rattle.env_config.proofs.LatestViewLemmas.{new_place, place_known, place_value}
use Rattle.env_config.proofs.TextsLemmas.{word_found}
use Rattle.env_config.proofs.latest.Latest.place_of.Goals as goal

pub returns-in-Some-clause-now : goal.returns-in-Some-clause-now
returns-in-Some-clause-now c =
    place_known c.args.self.now c.args.name.now c.in-Some.place.now
    (sym (ap (λ (l : Latest). value_under l.places c.args.name.now) c.self.view_is) ∙ sym (c.in-Some.ensures.value ∙ word_found c.self.inside.places.entries c.args.name.now))

pub returns-in-Some-clause-place : goal.returns-in-Some-clause-place
returns-in-Some-clause-place c =
    sym (ap (λ (l : Latest). value_under l.places c.args.name.now) c.self.view_is) ∙ sym (c.in-Some.ensures.value ∙ word_found c.self.inside.places.entries c.args.name.now)

pub returns-clause-now : goal.returns-clause-now
returns-clause-now c =
    new_place c.self.inside.places.entries c.insert.new.self.entries c.args.name c.len-place.result c.args.self.now c.self.inside.bare.entries c.self.inside.prefixed.entries c.self.inside.overridden c.is_overridden-self-inside.result
    c.self.view_is (sym (word_found c.self.inside.places.entries c.args.name.now) ∙ sym c.in_default.ensures.value) c.in_ok-insert.ensures.entries c.len-place.ensures.len c.is_overridden-self-inside.ensures

pub returns-clause-place : goal.returns-clause-place
returns-clause-place c = place_value c.self.inside.places.entries c.insert.new.self.entries c.args.name c.len-place.result c.in_ok-insert.ensures.entries
