use Rattle.std.proofs.Common.{◌≡◌, ◌∙◌, ap, sym, subst, List, [], ℕ}
use Rattle.std.specs.Prelude.{Some, None, OnOk, Option, string_bytes, unwrap_or}
use Rattle.std.proofs.lemmas.List.{nil_from_length}
use Rattle.env_config.specs.Kept.{keeps_of}
use Rattle.env_config.specs.Properties.{Subs, properties_in, subs_in}
use Rattle.env_config.specs.Sections.{put_subs, value_pieces}
use Rattle.env_config.specs.Texts.{put, value_under}
use Rattle.env_config.proofs.GroupLemmas.{filled, on_ok, property_found, property_put, property_sorted, property_through, subs_of, unfilled}
use Rattle.env_config.proofs.merge.put_property.Goals as goal

pub returns-in-Some : goal.returns-in-Some
returns-in-Some c whole prefix name holds =
    let es = c.args.properties.now.entries in
    let view = properties_in c.args.properties.now in
    let keeps = keeps_of c.args.kept.now in
    let pieces = value_pieces c.args.value.now in
    let text = c.as_str.result.now in
    let old = c.in-Some.subs.now in
    let w = c.put_pieces.new.subs in
    let now = c.get_mut.follows.lender w in
    let sorted = property_sorted es c.get_mut.ensures.ordered in
    let put_is = property_through es now.entries text old w (c.get_mut.follows.holds w).0 c.get_mut.ensures.ordered c.in-Some.ensures.value in
    let before = sym (ap (λ (o : Option Subs). unwrap_or o []) (property_found es text (Some old) c.in-Some.ensures.value)) in
    subst (λ (t : List ℕ). OnOk c.put_pieces.result (whole (properties_in now) ≡ put_subs keeps (whole view) prefix name t pieces)) c.as_str.ensures.value
    (on_ok (whole (put view text (subs_in w)) ≡ put_subs keeps (whole (put view text (subs_in old))) prefix name text pieces) (whole (properties_in now) ≡ put_subs keeps (whole view) prefix name text pieces) c.put_pieces.result
    (filled whole prefix name holds keeps view (properties_in now) text (subs_in old) (subs_in w) pieces sorted before put_is)
    (c.put_pieces.ensures (λ (subs : Subs). whole (put view text subs)) prefix name text (holds view text sorted).0))

pub returns-in_ok-insert-in-None : goal.returns-in_ok-insert-in-None
returns-in_ok-insert-in-None c whole prefix name holds =
    let es = c.args.properties.now.entries in
    let view = properties_in c.args.properties.now in
    let key = string_bytes c.args.key in
    let w = c.put_pieces-in-None.new.subs in
    let sorted = property_sorted es c.get_mut.ensures.ordered in
    let none = subst (λ (t : List ℕ). value_under view t ≡ None) c.as_str.ensures.value (property_found es c.as_str.result.now None c.in-None.ensures.value) in
    let before = ap subs_of c.new-subs.ensures.empty ∙ sym (ap (λ (o : Option Subs). unwrap_or o []) none) in
    let put_is =
    property_put c.get_mut.follows.lender-at-none.entries c.insert.new.self.entries c.args.key w c.in_ok-insert-in-None.ensures.entries
    ∙ ap (λ m. put (properties_in m) key (subs_in w)) c.get_mut.follows.holds-at-none in
    filled whole prefix name holds (keeps_of c.args.kept.now) view (properties_in c.insert.new.self) key (subs_in c.new-subs.result) (subs_in w) (value_pieces c.args.value.now) sorted before put_is
    (c.in_ok-put_pieces-in-None.ensures (λ (subs : Subs). whole (put view key subs)) prefix name key (holds view key sorted).0)

pub returns-then-is_empty : goal.returns-then-is_empty
returns-then-is_empty c whole prefix name holds =
    let es = c.args.properties.now.entries in
    let view = properties_in c.args.properties.now in
    let key = string_bytes c.args.key in
    let w = c.put_pieces-in-None.new.subs in
    let sorted = property_sorted es c.get_mut.ensures.ordered in
    let none = subst (λ (t : List ℕ). value_under view t ≡ None) c.as_str.ensures.value (property_found es c.as_str.result.now None c.in-None.ensures.value) in
    let empty = ap subs_of c.new-subs.ensures.empty in
    let before = empty ∙ sym (ap (λ (o : Option Subs). unwrap_or o []) none) in
    let after = ap subs_of (nil_from_length w.entries (c.is_empty.ensures.0 c.if-is_empty.true)) ∙ sym empty in
    ap (λ m. whole (properties_in m)) c.get_mut.follows.holds-at-none
    ∙ unfilled whole prefix name holds (keeps_of c.args.kept.now) view key (subs_in c.new-subs.result) (subs_in w) (value_pieces c.args.value.now) sorted before after
    (c.in_ok-put_pieces-in-None.ensures (λ (subs : Subs). whole (put view key subs)) prefix name key (holds view key sorted).0)
