use Rattle.std.proofs.Common.{◌∙◌, ◌++◌, ap, sym, subst, refl, List, ℕ, String, Global, string_bytes, string_cmp}
use Rattle.env_config.specs.Texts.{pairs_of, text_cmp}
use Rattle.env_config.proofs.FewLemmas.{AreInOrder, put_behind}
use Rattle.env_config.proofs.TextsLemmas.{entries_put}
use Rattle.env_config.proofs.few_pairs.FewPairs.into_map.Goals as goal

pub loop-key-preserved : goal.loop-key-preserved
loop-key-preserved c =
    let before = pairs_of c.loop-key.map.entries in
    let rest = pairs_of c.next.new.self.rest.items in
    let pair : List ℕ × List ℕ = (string_bytes c.in-Some.key, string_bytes c.in-Some.value) in
    ap (λ (pairs : List (List ℕ × List ℕ)). pairs ++ rest)
    (ap pairs_of c.in_ok-insert.ensures.entries ∙ entries_put string_cmp text_cmp string_bytes string_bytes (λ _ _. refl) c.loop-key.map.entries c.in-Some.key c.in-Some.value)
    ∙ put_behind before c.args.self rest pair (sym (ap (λ (items : List (String Global × String Global)). before ++ pairs_of items) c.in-Some.ensures.steps.0) ∙ c.loop-key.invariant) (subst AreInOrder c.self.view_is c.self.invariant)

pub loop-key-preserved-in_ok-insert : goal.loop-key-preserved-in_ok-insert
loop-key-preserved-in_ok-insert c =
    let before = pairs_of c.loop-key.map.entries in
    let rest = pairs_of c.next.new.self.rest.items in
    let pair : List ℕ × List ℕ = (string_bytes c.in-Some.key, string_bytes c.in-Some.value) in
    ap (λ (pairs : List (List ℕ × List ℕ)). pairs ++ rest)
    (ap pairs_of c.in_ok-insert.ensures.entries ∙ entries_put string_cmp text_cmp string_bytes string_bytes (λ _ _. refl) c.loop-key.map.entries c.in-Some.key c.in-Some.value)
    ∙ put_behind before c.args.self rest pair (sym (ap (λ (items : List (String Global × String Global)). before ++ pairs_of items) c.in-Some.ensures.steps.0) ∙ c.loop-key.invariant) (subst AreInOrder c.self.view_is c.self.invariant)
