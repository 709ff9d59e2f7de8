use Rattle.std.proofs.Common.{◌≡◌, ◌∙◌, ap, sym, subst, List, [], ℕ}
use Rattle.std.specs.Prelude.{Some, None, OnOk, Option, option_map, string_bytes, unwrap_or}
use Rattle.env_config.specs.Properties.{Subs, properties_in, put_named_sub, put_sub_at, subs_in}
use Rattle.env_config.specs.Texts.{put, value_under}
use Rattle.env_config.proofs.GroupLemmas.{on_err, on_ok, property_found, property_put, property_same, property_sorted, property_through, subs_of}
use Rattle.env_config.proofs.properties.insert_property.Goals as goal

pub returns-in-Some-clause-ok : goal.returns-in-Some-clause-ok
returns-in-Some-clause-ok c =
    let es = c.args.properties.now.entries in
    let view = properties_in c.args.properties.now in
    let text = c.as_str.result.now in
    let sub = option_map string_bytes c.args.sub in
    let value = string_bytes c.args.value in
    let old = c.in-Some.subs.now in
    let w = c.insert_sub.new.subs in
    let now = c.get_mut.follows.lender w in
    let put_is = property_through es now.entries text old w (c.get_mut.follows.holds w).0 c.get_mut.ensures.ordered c.in-Some.ensures.value in
    let before = sym (ap (λ (o : Option Subs). unwrap_or o []) (property_found es text (Some old) c.in-Some.ensures.value)) in
    subst (λ (t : List ℕ). OnOk c.insert_sub.result (properties_in now ≡ put_sub_at view t sub value)) c.as_str.ensures.value
    (on_ok (subs_in w ≡ put_named_sub (subs_in old) sub value) (properties_in now ≡ put_sub_at view text sub value) c.insert_sub.result
    (λ is. put_is ∙ ap (λ (s : Subs). put view text s) (is ∙ ap (λ (s : Subs). put_named_sub s sub value) before)) c.insert_sub.ensures.ok)

pub returns-in-Some-clause-err : goal.returns-in-Some-clause-err
returns-in-Some-clause-err c =
    let es = c.args.properties.now.entries in
    let old = c.in-Some.subs.now in
    let w = c.insert_sub.new.subs in
    let now = c.get_mut.follows.lender w in
    on_err (subs_in w ≡ subs_in old) (properties_in now ≡ properties_in c.args.properties.now) c.insert_sub.result
    (λ is. property_same es now.entries c.as_str.result.now old w (c.get_mut.follows.holds w).0 c.in-Some.ensures.value is) c.insert_sub.ensures.err

pub returns-in-Some-clause-ordered : goal.returns-in-Some-clause-ordered
returns-in-Some-clause-ordered c = property_sorted c.args.properties.now.entries c.get_mut.ensures.ordered

pub returns-in_ok-insert-in-None-clause-ok : goal.returns-in_ok-insert-in-None-clause-ok
returns-in_ok-insert-in-None-clause-ok c =
    let es = c.args.properties.now.entries in
    let view = properties_in c.args.properties.now in
    let key = string_bytes c.args.property in
    let sub = option_map string_bytes c.args.sub in
    let value = string_bytes c.args.value in
    let w = c.insert_sub-in-None.new.subs in
    let none = subst (λ (t : List ℕ). value_under view t ≡ None) c.as_str.ensures.value (property_found es c.as_str.result.now None c.in-None.ensures.value) in
    let before = ap subs_of c.new-subs.ensures.empty ∙ sym (ap (λ (o : Option Subs). unwrap_or o []) none) in
    property_put c.get_mut.follows.lender-at-none.entries c.insert.new.self.entries c.args.property w c.in_ok-insert-in-None.ensures.entries
    ∙ ap (λ m. put (properties_in m) key (subs_in w)) c.get_mut.follows.holds-at-none
    ∙ ap (λ (s : Subs). put view key s) (c.in_ok-insert_sub-in-None.ensures.ok ∙ ap (λ (s : Subs). put_named_sub s sub value) before)

pub returns-in_ok-insert-in-None-clause-ordered : goal.returns-in_ok-insert-in-None-clause-ordered
returns-in_ok-insert-in-None-clause-ordered c = property_sorted c.args.properties.now.entries c.get_mut.ensures.ordered

pub returns-in_err-insert-in-None-clause-ordered : goal.returns-in_err-insert-in-None-clause-ordered
returns-in_err-insert-in-None-clause-ordered c = property_sorted c.args.properties.now.entries c.get_mut.ensures.ordered

pub returns-in_err-insert_sub-in-None-clause-ordered : goal.returns-in_err-insert_sub-in-None-clause-ordered
returns-in_err-insert_sub-in-None-clause-ordered c = property_sorted c.args.properties.now.entries c.get_mut.ensures.ordered
