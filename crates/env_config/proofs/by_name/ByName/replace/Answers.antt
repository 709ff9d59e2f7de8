use Rattle.std.proofs.Common.{◌∙◌, ap, refl, sym, List, ℕ, String, Global, string_bytes, string_cmp}
use Rattle.env_config.specs.Texts.{Named, put_named, value_under}
use Rattle.env_config.proofs.TextsLemmas.{named_known, named_new, named_of, value_before}
use Rattle.env_config.proofs.by_name.ByName.replace.Goals as goal

abbrev bytes_of : String Global → List ℕ
bytes_of s = string_bytes s

pub returns-then-is_some-clause-now : goal.returns-then-is_some-clause-now
returns-then-is_some-clause-now g c =
    let name = c.args.name.now in
    named_known string_cmp bytes_of (λ _ _. refl) c.self.inside.names.items c.self.inside.values.entries c.insert.new.self.entries c.in_ok-from_str.field-0 name c.args.value c.in_ok-before.before
    c.in_ok-from_str.ensures.ok c.in_ok-before.ensures.entries c.in_ok-before.ensures.old (sym c.is_some.ensures ∙ c.if-is_some.true)
    ∙ ap (λ (named : Named g.row.V.Denot). put_named named name c.args.value) c.self.view_is

pub returns-then-is_some-clause-before : goal.returns-then-is_some-clause-before
returns-then-is_some-clause-before g c =
    let name = c.args.name.now in
    value_before string_cmp bytes_of (λ _ _. refl) c.self.inside.names.items c.self.inside.values.entries c.insert.new.self.entries c.in_ok-from_str.field-0 name c.args.value c.in_ok-before.before
    c.in_ok-from_str.ensures.ok c.in_ok-before.ensures.entries c.in_ok-before.ensures.old
    ∙ ap (λ (named : Named g.row.V.Denot). value_under named.values name) c.self.view_is

pub returns-clause-now : goal.returns-clause-now
returns-clause-now g c =
    let name = c.args.name.now in
    ap (λ (names : List (String Global)). named_of bytes_of names c.insert.new.self.entries) c.in_ok-push.ensures.items
    ∙ named_new string_cmp bytes_of (λ _ _. refl) c.self.inside.names.items c.self.inside.values.entries c.insert.new.self.entries c.in_ok-from_str.field-0 name c.args.value c.in_ok-before.before
    c.in_ok-from_str.ensures.ok c.in_ok-before.ensures.entries c.in_ok-before.ensures.old c.in_ok-from_str-2.field-0 c.in_ok-from_str-2.ensures.ok (sym c.is_some.ensures ∙ c.if-is_some.false)
    ∙ ap (λ (named : Named g.row.V.Denot). put_named named name c.args.value) c.self.view_is

pub returns-clause-before : goal.returns-clause-before
returns-clause-before g c =
    let name = c.args.name.now in
    value_before string_cmp bytes_of (λ _ _. refl) c.self.inside.names.items c.self.inside.values.entries c.insert.new.self.entries c.in_ok-from_str.field-0 name c.args.value c.in_ok-before.before
    c.in_ok-from_str.ensures.ok c.in_ok-before.ensures.entries c.in_ok-before.ensures.old
    ∙ ap (λ (named : Named g.row.V.Denot). value_under named.values name) c.self.view_is
