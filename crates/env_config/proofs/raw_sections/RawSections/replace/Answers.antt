use Rattle.std.proofs.Common.{◌∙◌, ap, refl, sym, List, ℕ, Bor}
use Rattle.env_config.specs.Texts.{Named, put_named, value_under}
use Rattle.env_config.proofs.TextsLemmas.{named_known, named_new, named_of, value_before, word_cmp, word_of}
use Rattle.env_config.proofs.raw_sections.RawSections.replace.Goals as goal

pub returns-then-is_some-clause-now : goal.returns-then-is_some-clause-now
returns-then-is_some-clause-now c =
    let name = c.args.name.now in
    named_known word_cmp word_of (λ _ _. refl) c.self.inside.names.items c.self.inside.properties.entries c.insert.new.self.entries c.args.name name c.args.properties c.in_ok-before.before
    refl c.in_ok-before.ensures.entries c.in_ok-before.ensures.old (sym c.is_some.ensures ∙ c.if-is_some.true)
    ∙ ap (λ (named : Named (List (List ℕ × List ℕ))). put_named named name c.args.properties) c.self.view_is

pub returns-then-is_some-clause-before : goal.returns-then-is_some-clause-before
returns-then-is_some-clause-before c =
    let name = c.args.name.now in
    value_before word_cmp word_of (λ _ _. refl) c.self.inside.names.items c.self.inside.properties.entries c.insert.new.self.entries c.args.name name c.args.properties c.in_ok-before.before
    refl c.in_ok-before.ensures.entries c.in_ok-before.ensures.old
    ∙ ap (λ (named : Named (List (List ℕ × List ℕ))). value_under named.values name) c.self.view_is

pub returns-clause-now : goal.returns-clause-now
returns-clause-now c =
    let name = c.args.name.now in
    ap (λ (names : List (Bor (List ℕ))). named_of word_of names c.insert.new.self.entries) c.in_ok-push.ensures.items
    ∙ named_new word_cmp word_of (λ _ _. refl) c.self.inside.names.items c.self.inside.properties.entries c.insert.new.self.entries c.args.name name c.args.properties c.in_ok-before.before
    refl c.in_ok-before.ensures.entries c.in_ok-before.ensures.old c.args.name refl (sym c.is_some.ensures ∙ c.if-is_some.false)
    ∙ ap (λ (named : Named (List (List ℕ × List ℕ))). put_named named name c.args.properties) c.self.view_is

pub returns-clause-before : goal.returns-clause-before
returns-clause-before c =
    let name = c.args.name.now in
    value_before word_cmp word_of (λ _ _. refl) c.self.inside.names.items c.self.inside.properties.entries c.insert.new.self.entries c.args.name name c.args.properties c.in_ok-before.before
    refl c.in_ok-before.ensures.entries c.in_ok-before.ensures.old
    ∙ ap (λ (named : Named (List (List ℕ × List ℕ))). value_under named.values name) c.self.view_is
